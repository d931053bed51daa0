use Rattle.std.proofs.Common.{◌+◌, ◌++◌, ◌∙◌, sym, ap, drop, get_or}
use Rattle.std.proofs.lemmas.List.{drop_more}
use Rattle.live_tasks.specs.Readies.{ready_tasks}
use Rattle.live_tasks.proofs.Coming.{beyond}
use Rattle.live_tasks.proofs.PushedReadies.{ready_append, append_nothing}
use Rattle.live_tasks.proofs.readies.of_numbers.Goals as goal

pub loop-number-preserved : goal.loop-number-preserved
loop-number-preserved c =
    let slots = c.args.slots.now.slots in
    let number = get_or c.args.numbers.now c.loop-number.number-index 0 in
    let rest = drop (c.loop-number.number-index + 1) c.args.numbers.now in
    ap (λ ready. ready ++ ready_tasks slots rest) c.in_ok-push_ready.ensures
    ∙ ready_append slots c.loop-number.ready.items number rest
    ∙ ap (λ numbers. c.loop-number.ready.items ++ ready_tasks slots numbers) (sym (drop_more c.args.numbers.now c.loop-number.number-index 0 c.loop-number-test.true))
    ∙ c.loop-number.invariant

pub returns : goal.returns
returns c =
    sym (append_nothing c.loop-number.ready.items)
    ∙ ap (λ numbers. c.loop-number.ready.items ++ ready_tasks c.args.slots.now.slots numbers) (sym (beyond c.args.numbers.now c.loop-number.number-index c.loop-number-test.false))
    ∙ c.loop-number.invariant
