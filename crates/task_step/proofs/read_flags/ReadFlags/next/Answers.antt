use Rattle.std.proofs.Common.{arith}
use Rattle.task_step.proofs.FlagWords.{IsNext, next_there, next_none, none_there}
use Rattle.task_step.proofs.read_flags.ReadFlags.next.Goals as goal
use Rattle.task_step.proofs.read_flags.ReadFlags.next.Goals.{After-min, After-loop-at}

found : (c : After-min) → IsNext c.args.self.now c.args.from c.min.result
found c =
    next_there c.self.inside.cells c.self.inside.words c.args.self.now c.word_of.result c.args.from c.loop-at.at c.min.result c.self.view_is c.word_of.ensures (omega (arith, c.word_of.type_inv)) c.if-rest-ne0.true
    c.loop-at.invariant.none c.loop-at.invariant.after c.loop-at-test.true c.min.ensures

past : (c : After-loop-at) → IsNext c.args.self.now c.args.from c.self.inside.cells
past c =
    next_none c.self.inside.cells c.self.inside.words c.args.self.now c.args.from c.loop-at.at c.self.view_is c.requires c.loop-at.invariant.none (omega (arith, c.loop-at-test.false))

pub returns-then-rest-ne0-clause-from : goal.returns-then-rest-ne0-clause-from
returns-then-rest-ne0-clause-from c = (found c).after

pub returns-then-rest-ne0-clause-within : goal.returns-then-rest-ne0-clause-within
returns-then-rest-ne0-clause-within c = (found c).within

pub returns-then-rest-ne0-clause-read : goal.returns-then-rest-ne0-clause-read
returns-then-rest-ne0-clause-read c = (found c).is_read

pub returns-then-rest-ne0-clause-none : goal.returns-then-rest-ne0-clause-none
returns-then-rest-ne0-clause-none c = (found c).none

pub returns-clause-from : goal.returns-clause-from
returns-clause-from c = (past c).after

pub returns-clause-within : goal.returns-clause-within
returns-clause-within c = (past c).within

pub returns-clause-read : goal.returns-clause-read
returns-clause-read c = (past c).is_read

pub returns-clause-none : goal.returns-clause-none
returns-clause-none c = (past c).none

pub loop-at-preserved : goal.loop-at-preserved
loop-at-preserved c = record {
  after = omega (arith, c.loop-at.invariant.after);
  none = none_there c.self.inside.cells c.self.inside.words c.args.self.now c.word_of.result c.args.from c.loop-at.at c.self.view_is c.word_of.ensures c.if-rest-ne0.false c.loop-at.invariant.none c.loop-at-test.true;
}
