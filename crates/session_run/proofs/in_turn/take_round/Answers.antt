use Rattle.std.proofs.Common.{rules, ◌≡◌, sym, ap, subst, ◌∙◌, ℕ, ◌+◌, ◌<◌, get_or, List, Vec, String, Global, map, length, arith}
use Rattle.std.specs.String.{string_bytes}
use Rattle.commands.specs.declared.commands.Command.{Command}
use Rattle.hangar_lock.specs.Passes.{PassView}
use Rattle.session_reader.specs.declared.session.Client.{Client}
use Rattle.session_run.specs.Rounds.{stand_at}
use Rattle.session_run.proofs.ClientBenches.{bench_at, bench_set}
use Rattle.session_run.proofs.Rounds.{found_at, get_mapped, IsInRound, mapped_length, round_over, round_skipped, round_taken, same_some, text_set, with_item}
use Rattle.session_run.proofs.in_turn.take_round.Goals.{then-number-len+in_ok-take_command, else-number-len}
use Rattle.session_run.proofs.in_turn.take_round.Goals as goal

-- src/in_turn.rt:87:5
pub loop-which-preserved : goal.loop-which-preserved
loop-which-preserved g c = elim c.if-number-len.branch [
  | then-number-len+in_ok-take_command w ↦
      let workplace = found_at c.args.clients.now c.loop-which.which w.index-clients-which-then-number-len.result (search rules) w.index-clients-which-then-number-len.is in
      let other = found_at c.args.clients.now c.loop-which.which c.index-clients-which.result (search rules) c.index-clients-which.is in
      let same : c.index-clients-which.result ≡ w.index-clients-which-then-number-len.result = same_some c.index-clients-which.result w.index-clients-which-then-number-len.result (sym other ∙ workplace) in
      let fewer : c.args.number < length c.index-clients-which.result.commands = search rules in
      let within = subst (λ (x : Client). c.args.number < length x.commands) same fewer in
      let commands : w.as_slice.result.now ≡ w.index-clients-which-then-number-len.result.commands = w.as_slice.ensures in
      let command = subst (λ (xs : List Command). w.index-as_slice-number.result ≡ get_or xs c.args.number w.index-as_slice-number.result) commands w.index-as_slice-number.is in
      let text : c.loop-which.which < length c.loop-which.texts.items =
      (let many = sym (mapped_length string_bytes c.loop-which.texts.items) ∙ c.loop-which.invariant.0.many in subst (λ (n : ℕ). c.loop-which.which < n) (sym many) (search rules)) in
      let done = round_taken c.args.workplace.now.mission.now c.args.workplace.now.lock.now c.args.clients.now c.args.number c.loop-which.which (stand_at c.args.pass.now c.args.steps.now) (stand_at c.loop-which.pass c.loop-which.steps) (stand_at w.take_command.new.pass w.take_command.new.steps)
      (map string_bytes c.args.texts.now.items) (map string_bytes c.loop-which.texts.items) w.index-clients-which-then-number-len.result w.index-as_slice-number.result
      (string_bytes w.index_mut-text.result.now) (string_bytes w.take_command.new.text) workplace
      (found_at w.index-clients-which-then-number-len.result.commands c.args.number w.index-as_slice-number.result within command)
      (get_mapped string_bytes c.loop-which.texts.items c.loop-which.which w.index_mut-text.result.now
      (found_at c.loop-which.texts.items c.loop-which.which w.index_mut-text.result.now text w.index_mut-text.ensures.value))
      w.in_ok-take_command.ensures.taken c.loop-which.invariant.0 in
      let before = c.loop-which.invariant.1 in
      let rise = w.take_command.ensures.steps in
      let steps = w.steps-is in (
        subst (λ (texts : List (List ℕ)). IsInRound c.args.workplace.now.mission.now c.args.workplace.now.lock.now c.args.clients.now c.args.number (c.loop-which.which + 1) (stand_at c.args.pass.now c.args.steps.now)
            (stand_at c.if-number-len.pass c.if-number-len.steps) (map string_bytes c.args.texts.now.items) texts)
            (sym (ap (λ (texts : Vec (String Global) Global). map string_bytes texts.items) w.texts-is ∙ text_set c.loop-which.texts.items c.loop-which.which w.take_command.new.text))
            (subst (λ (count : ℕ). IsInRound c.args.workplace.now.mission.now c.args.workplace.now.lock.now c.args.clients.now c.args.number (c.loop-which.which + 1) (stand_at c.args.pass.now c.args.steps.now)
            (stand_at c.if-number-len.pass count) (map string_bytes c.args.texts.now.items) (with_item c.loop-which.which (string_bytes w.take_command.new.text) (map string_bytes c.loop-which.texts.items)))
            (sym w.steps-is)
            (subst (λ (pass : PassView). IsInRound c.args.workplace.now.mission.now c.args.workplace.now.lock.now c.args.clients.now c.args.number (c.loop-which.which + 1) (stand_at c.args.pass.now c.args.steps.now)
            (stand_at pass w.take_command.new.steps) (map string_bytes c.args.texts.now.items) (with_item c.loop-which.which (string_bytes w.take_command.new.text) (map string_bytes c.loop-which.texts.items)))
            (sym w.pass-is) done)),
        omega (arith, before, rise, steps),
        ap (λ (benches : Vec ℕ Global). benches.items) w.benches-is
            ∙ bench_set c.loop-which.benches.items (length c.args.clients.now) c.args.workplace.now.mission.now.bound c.loop-which.which w.take_command.new.benches c.loop-which.invariant.2
            (w.take_command.ensures.benches
            ∙ bench_at c.loop-which.benches.items (length c.args.clients.now) c.args.workplace.now.mission.now.bound c.loop-which.which w.index_mut-benches.result.now c.loop-which.invariant.2 (search rules)
            w.index_mut-benches.ensures.value),
      )
  | else-number-len w ↦
      let skipped = round_skipped c.args.workplace.now.mission.now c.args.workplace.now.lock.now c.args.clients.now c.args.number c.loop-which.which (stand_at c.args.pass.now c.args.steps.now) (stand_at c.loop-which.pass c.loop-which.steps)
      (map string_bytes c.args.texts.now.items) (map string_bytes c.loop-which.texts.items) c.index-clients-which.result
      (found_at c.args.clients.now c.loop-which.which c.index-clients-which.result (search rules) c.index-clients-which.is) (search rules) c.loop-which.invariant.0 in
      let before = c.loop-which.invariant.1 in
      let steps = w.steps-is in (
        subst (λ (texts : Vec (String Global) Global). IsInRound c.args.workplace.now.mission.now c.args.workplace.now.lock.now c.args.clients.now c.args.number (c.loop-which.which + 1) (stand_at c.args.pass.now c.args.steps.now)
            (stand_at c.if-number-len.pass c.if-number-len.steps) (map string_bytes c.args.texts.now.items) (map string_bytes texts.items)) (sym w.texts-is)
            (subst (λ (count : ℕ). IsInRound c.args.workplace.now.mission.now c.args.workplace.now.lock.now c.args.clients.now c.args.number (c.loop-which.which + 1) (stand_at c.args.pass.now c.args.steps.now)
            (stand_at c.if-number-len.pass count) (map string_bytes c.args.texts.now.items) (map string_bytes c.loop-which.texts.items)) (sym w.steps-is)
            (subst (λ (pass : PassView). IsInRound c.args.workplace.now.mission.now c.args.workplace.now.lock.now c.args.clients.now c.args.number (c.loop-which.which + 1) (stand_at c.args.pass.now c.args.steps.now)
            (stand_at pass c.loop-which.steps) (map string_bytes c.args.texts.now.items) (map string_bytes c.loop-which.texts.items)) (sym w.pass-is) skipped)),
        omega (arith, before, steps),
        ap (λ (benches : Vec ℕ Global). benches.items) w.benches-is ∙ c.loop-which.invariant.2,
      )
]

-- src/in_turn.rt:71:1
pub returns-clause-taken : goal.returns-clause-taken
returns-clause-taken g c =
    round_over c.args.workplace.now.mission.now c.args.workplace.now.lock.now c.args.clients.now c.args.number c.loop-which.which (stand_at c.args.pass.now c.args.steps.now) (stand_at c.loop-which.pass c.loop-which.steps)
    (map string_bytes c.args.texts.now.items) (map string_bytes c.loop-which.texts.items) (search rules) (mapped_length string_bytes c.args.texts.now.items ∙ c.requires.texts) c.loop-which.invariant.0
