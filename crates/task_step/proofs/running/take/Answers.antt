use Rattle.std.proofs.Common.{◌∙◌, sym}
use Rattle.task_step.proofs.Taking.{do_doable, do_onward, do_ended, test_typed, test_ended, test_holds, test_fails}
use Rattle.task_step.proofs.running.take.Goals as goal

pub act-requires-clause-doable : goal.act-requires-clause-doable
act-requires-clause-doable c =
    do_doable c.args.model.now c.args.code.now c.args.kind c.args.at _ c.args.so_far.now _ c.requires.valid c.requires.code c.next.ensures.value c.pay.ensures c.requires.left c.requires.cells c.statements_are_typed.ensures.typed _ c.in-Do.is

pub value-requires : goal.value-requires
value-requires c =
    test_typed c.args.model.now c.args.code.now c.args.kind c.args.at _ c.args.so_far.now _ c.requires.valid c.requires.code c.next.ensures.value c.pay.ensures c.requires.left c.requires.cells c.statements_are_typed.ensures.typed _ _ c.in-Test.is

pub returns-in-None : goal.returns-in-None
returns-in-None c =
    do_onward c.args.model.now c.args.code.now c.args.kind c.args.at _ c.args.so_far.now _ c.requires.valid c.requires.code c.next.ensures.value c.pay.ensures c.requires.left c.requires.cells c.statements_are_typed.ensures.typed
    _ _ _ c.statements_are_typed.ensures.onward c.in-Do.is (c.in_ok-act-in-Do.ensures c.args.kind c.args.at) c.in-None.is

pub returns-in-Some : goal.returns-in-Some
returns-in-Some c =
    do_ended c.args.model.now c.args.code.now c.args.kind c.args.at _ c.args.so_far.now _ c.requires.valid c.requires.code c.next.ensures.value c.pay.ensures c.requires.left c.requires.cells c.statements_are_typed.ensures.typed
    _ _ _ _ c.in-Do.is (c.in_ok-act-in-Do.ensures c.args.kind c.args.at) c.in-Some.is

pub returns-in-Err : goal.returns-in-Err
returns-in-Err c =
    test_ended c.args.model.now c.args.code.now c.args.kind c.args.at _ c.args.so_far.now _ c.requires.valid c.requires.code c.next.ensures.value c.pay.ensures c.requires.left c.requires.cells c.statements_are_typed.ensures.typed
    _ _ _ c.in-Test.is c.in-Err.ensures.so_far _ c.in-Err.ensures.value

pub returns-then-truth_in : goal.returns-then-truth_in
returns-then-truth_in c =
    test_holds c.args.model.now c.args.code.now c.args.kind c.args.at _ c.args.so_far.now _ c.requires.valid c.requires.code c.next.ensures.value c.pay.ensures c.requires.left c.requires.cells c.statements_are_typed.ensures.typed
    _ _ _ c.in-Test.is c.in-Ok.ensures.so_far _ c.statements_are_typed.ensures.choice c.statements_are_typed.ensures.repeats c.in-Ok.ensures.value (sym c.truth_in.ensures ∙ c.if-truth_in.true)

pub returns-else-truth_in : goal.returns-else-truth_in
returns-else-truth_in c =
    test_fails c.args.model.now c.args.code.now c.args.kind c.args.at _ c.args.so_far.now _ c.requires.valid c.requires.code c.next.ensures.value c.pay.ensures c.requires.left c.requires.cells c.statements_are_typed.ensures.typed
    _ _ _ c.in-Test.is c.in-Ok.ensures.so_far _ c.statements_are_typed.ensures.choice c.statements_are_typed.ensures.repeats c.in-Ok.ensures.value (sym c.truth_in.ensures ∙ c.if-truth_in.false)
