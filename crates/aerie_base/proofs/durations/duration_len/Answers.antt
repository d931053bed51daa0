-- Where no letter of a unit stands behind the digits no part of a duration stands in front.
use Rattle.std.proofs.Common.{◌≡◌, false, drop, ap, sym, ◌∙◌}
use Rattle.aerie_base.specs.Durations.{begins_unit, digit_count}
use Rattle.aerie_base.proofs.Digits.{no_parts}
use Rattle.aerie_base.proofs.Parts.{all_behind}
use Rattle.aerie_base.proofs.durations.duration_len.Goals as goal

pub returns-then-not-begins_unit-clause-len : goal.returns-then-not-begins_unit-clause-len
returns-then-not-begins_unit-clause-len c =
    let bytes = c.args.bytes.now in
    let none : begins_unit (drop (digit_count bytes) bytes) ≡ false =
    ap (λ n. begins_unit (drop n bytes)) (sym c.digit_count.ensures.len) ∙ ap begins_unit (sym (all_behind bytes c.digit_count.result)) ∙ sym c.begins_unit.ensures
    ∙ c.if-not-begins_unit.true in
    sym (no_parts bytes none)
