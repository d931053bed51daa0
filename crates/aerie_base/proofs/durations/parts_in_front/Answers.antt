-- A part of the next unit, or none, leaves the parts so far as they are.
use Rattle.std.proofs.Common.{◌≡◌, ◌+◌, ◌-◌, ◌*◌, ◌≤◌, true, false, length, take, drop, get_or, ap, sym, subst, arith, ◌∙◌}
use Rattle.std.specs.Str.Parse.{digits_value}
use Rattle.std.proofs.lemmas.List.{length-drop}
use Rattle.aerie_base.specs.Ranges.{time_of}
use Rattle.aerie_base.specs.Durations.{begins_part, digit_count, unit_micros, unit_text}
use Rattle.aerie_base.specs.declared.durations.Unit.{Unit}
use Rattle.aerie_base.specs.declared.durations.Unit.TheVariants.{Day}
use Rattle.aerie_base.proofs.Digits.{digit_count_within}
use Rattle.aerie_base.proofs.Parts.{left, part_within, taken, all_behind, SoFar}
use Rattle.aerie_base.proofs.durations.parts_in_front.Goals as goal
use Rattle.aerie_base.proofs.durations.parts_in_front.Goals.{then-begins_part, else-begins_part}

pub loop-unit-preserved : goal.loop-unit-preserved
loop-unit-preserved c =
    let bytes = c.args.bytes.now in
    let unit : Unit = get_or c.args.units.now c.loop-unit.unit-index Day in
    let len = c.loop-unit.len in
    let so_far = c.loop-unit.invariant in
    let rest : take (length bytes - len) (drop len bytes) ≡ drop len bytes = all_behind bytes len in
    elim c.if-begins_part.branch [
      | then-begins_part w ↦
          let some : begins_part unit (drop len bytes) ≡ true = ap (begins_part unit) (sym rest) ∙ sym c.begins_part.ensures ∙ w.if-begins_part.true in
          let is : c.if-begins_part.len ≡ len + (c.loop-unit.count + length (unit_text unit)) =
          w.len-is ∙ ap (λ text. len + (c.loop-unit.count + length text)) w.unit_text.ensures in
          let part_fits = part_within unit (drop len bytes) (digit_count_within (drop len bytes)) some in
          let within : c.if-begins_part.len ≤ length bytes = omega (arith, is, part_fits, so_far.digits, so_far.inside, length-drop len bytes) in
          let part = w.part_micros.ensures ∙ ap (λ xs. time_of (digits_value 10 (take c.loop-unit.count xs) * unit_micros unit)) rest in
          let digits : c.if-begins_part.count ≡ digit_count (drop c.if-begins_part.len bytes) =
          w.count-is ∙ w.digit_count-count-then-begins_part.ensures.len
          ∙ ap digit_count (all_behind bytes (len + (c.loop-unit.count + length w.unit_text.result.now))) ∙ ap (λ n. digit_count (drop n bytes)) (sym w.len-is) in
          subst (λ n. SoFar c.args.units.now bytes (c.loop-unit.unit-index + 1) c.if-begins_part.len n c.if-begins_part.micros) (sym digits)
          (taken c.args.units.now bytes c.loop-unit.unit-index len c.loop-unit.count c.loop-unit.micros w.part_micros.result c.if-begins_part.micros Day c.if-begins_part.len
          c.loop-unit-test.true so_far some is within part (λ a b e1 e2. w.micros-is ∙ w.sum_within_range-micros.ensures a b e1 e2))
      | else-begins_part w ↦
          let none : begins_part unit (drop len bytes) ≡ false = ap (begins_part unit) (sym rest) ∙ sym c.begins_part.ensures ∙ w.if-begins_part.false in
          rw (w.len-is, w.count-is, w.micros-is)
          (left c.args.units.now bytes c.loop-unit.unit-index len c.loop-unit.count c.loop-unit.micros Day c.loop-unit-test.true so_far none)
    ]
