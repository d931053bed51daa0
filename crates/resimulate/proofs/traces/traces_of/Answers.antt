use Rattle.std.proofs.Common.{◌≡◌, false, subst}
use Rattle.run_data.specs.laws.TracedTasks.{timed_instants}
use Rattle.resimulate.specs.Origins.{is_asked}
use Rattle.resimulate.specs.Traces.{TraceList, TakesIn}
use Rattle.resimulate.proofs.traces.traces_of.Goals as goal

pub returns-then-asks_for_none : goal.returns-then-asks_for_none
returns-then-asks_for_none c start tasks tells path asked =
    let none : is_asked c.args.all c.args.roots.now.keys path ≡ false = c.asks_for_none.ensures c.if-asks_for_none.true path in absurd (cc)

pub returns : goal.returns
returns c =
    subst (λ (traces : TraceList). TakesIn (is_asked c.args.all c.args.roots.now.keys) (timed_instants c.args.instants.now) traces c.note_instants.new.traces.entries) c.new-traces.ensures.empty
    c.in_ok-note_instants.ensures
