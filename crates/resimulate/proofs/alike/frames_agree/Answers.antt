use Rattle.std.proofs.Common.{ℕ, true, List, [], subst}
use Rattle.run_data.specs.laws.TracedTasks.{timed_instants}
use Rattle.resimulate.specs.Origins.{is_asked}
use Rattle.resimulate.specs.Traces.{TakesIn}
use Rattle.resimulate.proofs.Likenesses.{traces_tell}
use Rattle.resimulate.proofs.alike.frames_agree.Goals as goal

pub returns : goal.returns
returns c = λ yes.
    traces_tell c.args.plan.now c.args.old_plan.now c.args.first.now c.args.later.now c.args.old_later.now c.in_ok-traces.traces.entries c.in_ok-old_traces.old_traces.entries
    (subst (λ (keys : List ℕ). TakesIn (is_asked true keys) (timed_instants c.args.later.now) [] c.in_ok-traces.traces.entries) c.new-none.ensures.empty c.in_ok-traces.ensures)
    (subst (λ (keys : List ℕ). TakesIn (is_asked true keys) (timed_instants c.args.old_later.now) [] c.in_ok-old_traces.old_traces.entries) c.new-none.ensures.empty c.in_ok-old_traces.ensures)
    (c.in_ok-agree.ensures yes)
