use Rattle.std.proofs.Common.{sym, subst, ℕ, List, arith}
use Rattle.session_run.specs.Rounds.{HasDoneUntil, stand_at}
use Rattle.session_run.proofs.Rounds.{begun}
use Rattle.session_run.proofs.in_turn.take_rounds.Goals as goal

-- src/in_turn.rt:124:5
pub loop-number-init : goal.loop-number-init
loop-number-init g c = (
  subst (λ (l : List (List ℕ)). HasDoneUntil c.args.workplace.now.mission.now c.args.clients.now 0 0 (stand_at c.args.pass.now c.args.steps.now) (stand_at c.args.pass.now c.args.steps.now) l)
      (sym c.in_ok-texts.ensures) (begun c.args.workplace.now.mission.now c.args.clients.now (stand_at c.args.pass.now c.args.steps.now)),
  c.requires.workplace,
  omega arith,
  c.in_ok-benches.ensures,
)
