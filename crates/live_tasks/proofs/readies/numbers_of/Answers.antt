use Rattle.std.proofs.Common.{◌+◌, ◌++◌, ◌∷◌, [], ◌∙◌, sym, ap, drop, append_assoc}
use Rattle.std.proofs.lemmas.List.{drop_more}
use Rattle.live_tasks.specs.Readies.{numbers_of_tasks}
use Rattle.live_tasks.proofs.Coming.{beyond}
use Rattle.live_tasks.proofs.ListedNumbers.{append_none}
use Rattle.live_tasks.proofs.readies.numbers_of.Goals as goal

pub loop-one-preserved : goal.loop-one-preserved
loop-one-preserved c =
    let rest = numbers_of_tasks (drop (c.loop-one.one-index + 1) c.args.ready.now) in
    ap (λ numbers. numbers ++ rest) c.in_ok-push.ensures.items
    ∙ append_assoc c.loop-one.numbers.items (c.one-item.result.number ∷ []) rest
    ∙ ap (λ ready. c.loop-one.numbers.items ++ numbers_of_tasks ready)
    (sym (drop_more c.args.ready.now c.loop-one.one-index c.one-item.result c.loop-one-test.true ∙ ap (λ one. one ∷ drop (c.loop-one.one-index + 1) c.args.ready.now) (sym c.one-item.is)))
    ∙ c.loop-one.invariant

pub returns : goal.returns
returns c =
    sym (append_none c.loop-one.numbers.items)
    ∙ ap (λ ready. c.loop-one.numbers.items ++ numbers_of_tasks ready) (sym (beyond c.args.ready.now c.loop-one.one-index c.loop-one-test.false))
    ∙ c.loop-one.invariant
