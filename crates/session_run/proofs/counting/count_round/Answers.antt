use Rattle.std.proofs.Common.{rules, ◌≡◌, sym, ap, subst, ◌∙◌, ℕ, ◌+◌, ◌<◌, get_or, List, Vec, Global, length, arith}
use Rattle.commands.specs.declared.commands.Command.{Command}
use Rattle.hangar_lock.specs.Passes.{PassView}
use Rattle.session_reader.specs.declared.session.Client.{Client}
use Rattle.session_run.specs.declared.summary.Summary.{Summary}
use Rattle.session_run.proofs.Counted.{count_over, count_passed, command_counted, IsInCount}
use Rattle.session_run.proofs.ClientBenches.{bench_at, bench_set}
use Rattle.session_run.proofs.Rounds.{found_at, same_some}
use Rattle.session_run.proofs.counting.count_round.Goals.{then-number-len+in_ok-count_command, else-number-len}
use Rattle.session_run.proofs.counting.count_round.Goals as goal

pub loop-which-preserved : goal.loop-which-preserved
loop-which-preserved g c = elim c.if-number-len.branch [
  | then-number-len+in_ok-count_command w ↦
      let workplace = found_at c.args.clients.now c.loop-which.which w.index-clients-which-then-number-len.result (search rules) w.index-clients-which-then-number-len.is in
      let other = found_at c.args.clients.now c.loop-which.which c.index-clients-which.result (search rules) c.index-clients-which.is in
      let same : c.index-clients-which.result ≡ w.index-clients-which-then-number-len.result = same_some c.index-clients-which.result w.index-clients-which-then-number-len.result (sym other ∙ workplace) in
      let fewer : c.args.number < length c.index-clients-which.result.commands = search rules in
      let within = subst (λ (x : Client). c.args.number < length x.commands) same fewer in
      let commands : w.as_slice.result.now ≡ w.index-clients-which-then-number-len.result.commands = w.as_slice.ensures in
      let command = subst (λ (xs : List Command). w.index-as_slice-number.result ≡ get_or xs c.args.number w.index-as_slice-number.result) commands w.index-as_slice-number.is in
      let done = command_counted c.args.workplace.now.mission.now c.args.workplace.now.lock.now c.args.clients.now c.args.number c.loop-which.which c.args.pass.now c.loop-which.pass w.count_command.new.pass
      c.args.summary.now c.loop-which.summary w.count_command.new.summary w.index-clients-which-then-number-len.result w.index-as_slice-number.result workplace
      (found_at w.index-clients-which-then-number-len.result.commands c.args.number w.index-as_slice-number.result within command) w.in_ok-count_command.ensures.counted c.loop-which.invariant.0 in
      let before = c.loop-which.invariant.1 in
      let rise = w.count_command.ensures.steps in
      let steps = w.steps-is in (
        subst (λ (summary : Summary). IsInCount c.args.workplace.now.mission.now c.args.workplace.now.lock.now c.args.clients.now c.args.number (c.loop-which.which + 1) c.args.pass.now
            c.if-number-len.pass c.args.summary.now summary) (sym w.summary-is)
            (subst (λ (pass : PassView). IsInCount c.args.workplace.now.mission.now c.args.workplace.now.lock.now c.args.clients.now c.args.number (c.loop-which.which + 1) c.args.pass.now
            pass c.args.summary.now w.count_command.new.summary) (sym w.pass-is) done),
        omega (arith, before, rise, steps),
        ap (λ (benches : Vec ℕ Global). benches.items) w.benches-is
            ∙ bench_set c.loop-which.benches.items (length c.args.clients.now) c.args.workplace.now.mission.now.bound c.loop-which.which w.count_command.new.benches c.loop-which.invariant.2
            (w.count_command.ensures.benches
            ∙ bench_at c.loop-which.benches.items (length c.args.clients.now) c.args.workplace.now.mission.now.bound c.loop-which.which w.index_mut-benches.result.now c.loop-which.invariant.2 (search rules)
            w.index_mut-benches.ensures.value),
      )
  | else-number-len w ↦
      let skipped = count_passed c.args.workplace.now.mission.now c.args.workplace.now.lock.now c.args.clients.now c.args.number c.loop-which.which c.args.pass.now c.loop-which.pass
      c.args.summary.now c.loop-which.summary c.index-clients-which.result
      (found_at c.args.clients.now c.loop-which.which c.index-clients-which.result (search rules) c.index-clients-which.is) (search rules) c.loop-which.invariant.0 in
      let before = c.loop-which.invariant.1 in
      let steps = w.steps-is in (
        subst (λ (summary : Summary). IsInCount c.args.workplace.now.mission.now c.args.workplace.now.lock.now c.args.clients.now c.args.number (c.loop-which.which + 1) c.args.pass.now
            c.if-number-len.pass c.args.summary.now summary) (sym w.summary-is)
            (subst (λ (pass : PassView). IsInCount c.args.workplace.now.mission.now c.args.workplace.now.lock.now c.args.clients.now c.args.number (c.loop-which.which + 1) c.args.pass.now
            pass c.args.summary.now c.loop-which.summary) (sym w.pass-is) skipped),
        omega (arith, before, steps),
        ap (λ (benches : Vec ℕ Global). benches.items) w.benches-is ∙ c.loop-which.invariant.2,
      )
]

pub returns-clause-counted : goal.returns-clause-counted
returns-clause-counted g c =
    count_over c.args.workplace.now.mission.now c.args.workplace.now.lock.now c.args.clients.now c.args.number c.loop-which.which c.args.pass.now c.loop-which.pass
    c.args.summary.now c.loop-which.summary (search rules) c.loop-which.invariant.0
