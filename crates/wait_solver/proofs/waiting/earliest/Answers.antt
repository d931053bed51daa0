-- Where the condition does not hold, it does not hold before the end of its outlook either.
use Rattle.std.proofs.Common.{◌∙◌, sym, arith}
use Rattle.wait_solver.proofs.WakeLaws.{found, past_the_limit, none_before_the_change, none_ever}
use Rattle.wait_solver.proofs.waiting.earliest.Goals as goal

pub returns-then-now : goal.returns-then-now
returns-then-now c =
    c.time_of.ensures
    ∙ sym (found c.args.cells.now c.args.condition.now c.args.limit c.loop-dt.dt (omega (arith, c.loop-dt-test.true, c.micros_of-limit.ensures.value)) c.loop-dt.invariant (c.outlook-now.ensures.tells.now ∙ c.if-now.true))

pub loop-dt-preserved : goal.loop-dt-preserved
loop-dt-preserved c =
    none_before_the_change c.args.cells.now c.args.condition.now c.loop-dt.dt c.in-Some.change c.outlook-now.result c.outlook-now.ensures.tells c.if-now.false c.loop-dt.invariant c.in-Some.is

pub returns-in-None : goal.returns-in-None
returns-in-None c =
    sym (none_ever c.args.cells.now c.args.condition.now c.args.limit c.loop-dt.dt c.outlook-now.result c.outlook-now.ensures.tells c.if-now.false c.loop-dt.invariant c.in-None.is)

pub returns : goal.returns
returns c = sym (past_the_limit c.args.cells.now c.args.condition.now c.args.limit c.loop-dt.dt (omega (arith, c.loop-dt-test.false, c.micros_of-limit.ensures.value)) c.loop-dt.invariant)
