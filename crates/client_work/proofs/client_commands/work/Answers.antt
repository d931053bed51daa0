use Rattle.std.proofs.Common.{◌∙◌, ℕ, List, ◌++◌, ap, arith}
use Rattle.std.specs.String.{string_bytes}
use Rattle.client_work.specs.Working.{client_of}
use Rattle.client_work.proofs.ModelPositions.{still_at}
use Rattle.client_work.proofs.Works.{later_on, next_done}
use Rattle.client_work.proofs.client_commands.work.Goals as goal

pub work_on-requires-clause-workplace : goal.work_on-requires-clause-workplace
work_on-requires-clause-workplace g c κs within =
    still_at c.args.workplace.now.mission.now c.args.workplace.now.lock.now c.args.worker.now.pass.now c.loop-number.worker.pass.now c.requires.workplace c.loop-number.invariant.done.gains.lock

pub work_on-requires-clause-benches : goal.work_on-requires-clause-benches
work_on-requires-clause-benches g c κs within = c.loop-number.invariant.later.bound ∙ c.requires.benches

pub loop-number-preserved : goal.loop-number-preserved
loop-number-preserved g c = record {
  done =
      next_done c.args.workplace.now.mission.now (client_of c.args.client) c.loop-number.number c.args.commands.now c.index-commands-number.result
      c.args.worker.now.pass.now c.loop-number.worker.pass.now c.work_on.new.worker.pass.now c.loop-number.worker.steps.now c.work_on.new.worker.steps.now (string_bytes c.loop-number.text) (string_bytes c.in_ok-line.line)
      (string_bytes c.push_str.new.self) c.loop-number-test.true c.index-commands-number.is
      (c.in_ok-push_str.ensures.bytes ∙ ap (λ (l : List ℕ). string_bytes c.loop-number.text ++ l) c.as_str.ensures.value) c.loop-number.invariant.done c.in_ok-line.ensures.done;
  later = later_on c.loop-number.invariant.later c.in_ok-line.ensures.later;
}
