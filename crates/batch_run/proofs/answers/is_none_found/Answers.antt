use Rattle.std.proofs.Common.{take, take_all, arith, sym, ◌∙◌}
use Rattle.std.proofs.lemmas.List.Elements.{All-more, All-same}
use Rattle.batch_run.proofs.Weaving.{IsNothing, nothing_there}
use Rattle.batch_run.proofs.answers.is_none_found.Goals as goal

pub loop-answer-preserved : goal.loop-answer-preserved
loop-answer-preserved c =
    All-more IsNothing c.args.answers.now c.loop-answer.answer-index c.answer-item.result c.loop-answer-test.true c.loop-answer.invariant
    (sym c.answer-item.is ∙ nothing_there c.answer-item.result (sym c.is_some.ensures ∙ c.if-is_some.false))

pub returns : goal.returns
returns c is =
    All-same IsNothing c.args.answers.now (take c.loop-answer.answer-index c.args.answers.now)
    (sym (take_all c.loop-answer.answer-index c.args.answers.now (omega (arith, c.loop-answer-test.false)))) c.loop-answer.invariant
