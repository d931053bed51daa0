use Rattle.std.proofs.Common.{refl}
use Rattle.model_reader.specs.declared.raw.statements.RawStmtKind.{Let, LetCall, Assign, Add, Put, AddVolume, AddRate, Delay, WaitUntil, Spawn, Call, Return}
use Rattle.model_check.specs.StatementScopes.{scope_behind, scope_behind_all}
use Rattle.model_check.specs.Statements.{stmt_diagnostics, block_diagnostics, stmt_of, block_of}
use Rattle.model_check.proofs.StatementForms.{as_form, made_if, made_while}
use Rattle.model_check.specs.Diagnostics.{number_of_cause}
use Rattle.diagnostics.specs.Iterations.{state_iteration, judged_iteration, made_iteration}
use Rattle.model_check.proofs.statements.+statement.Goals as goal

pub statement-returns-in-Let : goal.statement-returns-in-Let
statement-returns-in-Let t c =
    as_form c.args.symbols.now c.args.returns c.let_value.result c.args.raw.now (Let c.in-Let.name c.in-Let.value) c.in-Let.is c.args.scope.now c.let_value.new.scope c.args.found.now c.let_value.new.found c.let_value.ensures

pub statement-returns-in-LetCall : goal.statement-returns-in-LetCall
statement-returns-in-LetCall t c =
    as_form c.args.symbols.now c.args.returns c.let_call.result c.args.raw.now (LetCall c.in-LetCall.name c.in-LetCall.call) c.in-LetCall.is c.args.scope.now c.let_call.new.scope c.args.found.now c.let_call.new.found c.let_call.ensures

pub statement-returns-in-Assign : goal.statement-returns-in-Assign
statement-returns-in-Assign t c =
    as_form c.args.symbols.now c.args.returns c.assign.result c.args.raw.now (Assign c.in-Assign.name c.in-Assign.value) c.in-Assign.is c.args.scope.now c.args.scope.now c.args.found.now c.assign.new.found c.assign.ensures

pub statement-returns-in-Add : goal.statement-returns-in-Add
statement-returns-in-Add t c =
    as_form c.args.symbols.now c.args.returns c.add.result c.args.raw.now (Add c.in-Add.name c.in-Add.value) c.in-Add.is c.args.scope.now c.args.scope.now c.args.found.now c.add.new.found c.add.ensures

pub statement-returns-in-Put : goal.statement-returns-in-Put
statement-returns-in-Put t c =
    as_form c.args.symbols.now c.args.returns c.put.result c.args.raw.now (Put c.in-Put.name c.in-Put.value) c.in-Put.is c.args.scope.now c.args.scope.now c.args.found.now c.put.new.found c.put.ensures

pub statement-returns-in-AddVolume : goal.statement-returns-in-AddVolume
statement-returns-in-AddVolume t c =
    as_form c.args.symbols.now c.args.returns c.add_volume.result c.args.raw.now (AddVolume c.in-AddVolume.name c.in-AddVolume.value) c.in-AddVolume.is c.args.scope.now c.args.scope.now c.args.found.now c.add_volume.new.found c.add_volume.ensures

pub statement-returns-in-AddRate : goal.statement-returns-in-AddRate
statement-returns-in-AddRate t c =
    as_form c.args.symbols.now c.args.returns c.add_rate.result c.args.raw.now (AddRate c.in-AddRate.name c.in-AddRate.value) c.in-AddRate.is c.args.scope.now c.args.scope.now c.args.found.now c.add_rate.new.found c.add_rate.ensures

pub statement-returns-in-Delay : goal.statement-returns-in-Delay
statement-returns-in-Delay t c =
    as_form c.args.symbols.now c.args.returns c.delay.result c.args.raw.now (Delay c.in-Delay.by) c.in-Delay.is c.args.scope.now c.args.scope.now c.args.found.now c.delay.new.found c.delay.ensures

pub statement-returns-in-WaitUntil : goal.statement-returns-in-WaitUntil
statement-returns-in-WaitUntil t c =
    as_form c.args.symbols.now c.args.returns c.wait_until.result c.args.raw.now (WaitUntil c.in-WaitUntil.condition) c.in-WaitUntil.is c.args.scope.now c.args.scope.now c.args.found.now c.wait_until.new.found c.wait_until.ensures

pub statement-returns-in-Spawn : goal.statement-returns-in-Spawn
statement-returns-in-Spawn t c =
    as_form c.args.symbols.now c.args.returns c.spawn.result c.args.raw.now (Spawn c.in-Spawn.child) c.in-Spawn.is c.args.scope.now c.args.scope.now c.args.found.now c.spawn.new.found c.spawn.ensures

pub statement-returns-in-Call : goal.statement-returns-in-Call
statement-returns-in-Call t c =
    as_form c.args.symbols.now c.args.returns c.call.result c.args.raw.now (Call c.in-Call.child) c.in-Call.is c.args.scope.now c.args.scope.now c.args.found.now c.call.new.found c.call.ensures

pub statement-returns-in-Return : goal.statement-returns-in-Return
statement-returns-in-Return t c =
    as_form c.args.symbols.now c.args.returns c.return_value.result c.args.raw.now (Return c.in-Return.value) c.in-Return.is c.args.scope.now c.args.scope.now c.args.found.now c.return_value.new.found c.return_value.ensures

pub statement-returns-in_ok-no-in-If : goal.statement-returns-in_ok-no-in-If
statement-returns-in_ok-no-in-If t c =
    made_if c.args.symbols.now c.args.returns c.args.raw.now c.in-If.test c.in-If.yes c.in-If.no c.in-If.is
    c.args.scope.now c.block.new.scope c.block-in-If.new.scope c.args.found.now c.typed.new.found c.block.new.found c.block-in-If.new.found
    c.in_ok-test-in-If.test c.in_ok-yes-in-If.yes c.in_ok-no-in-If.no c.in_ok-test-in-If.ensures c.in_ok-yes-in-If.ensures c.in_ok-no-in-If.ensures

pub statement-returns-in_ok-body-in-While : goal.statement-returns-in_ok-body-in-While
statement-returns-in_ok-body-in-While t c =
    made_while c.args.symbols.now c.args.returns c.args.raw.now c.in-While.test c.in-While.body c.in-While.is
    c.args.scope.now c.block-in-While.new.scope c.args.found.now c.typed-in-While.new.found c.block-in-While.new.found
    c.in_ok-test-in-While.test c.in_ok-body-in-While.body c.in_ok-test-in-While.ensures c.in_ok-body-in-While.ensures

pub block-loop-stmt-preserved : goal.block-loop-stmt-preserved
block-loop-stmt-preserved t c =
    let symbols = c.args.symbols.now in
    let returns = c.args.returns in (
      state_iteration (λ s x. scope_behind symbols x s) (λ s xs. scope_behind_all symbols xs s) (λ s x rest. refl)
          c.as_slice-stmt-items.result.now c.loop-stmt.stmt-index c.stmt-item.result c.loop-stmt-test.true c.stmt-item.is
          c.loop-stmt.scope c.statement.new.scope _ c.in_ok-statement.ensures.1 c.loop-stmt.invariant.0,
      made_iteration (λ s x. scope_behind symbols x s) (λ s x. stmt_of symbols x s) (λ s xs. block_of symbols xs s) (λ s x rest. refl)
          c.as_slice-stmt-items.result.now c.loop-stmt.stmt-index c.stmt-item.result c.loop-stmt-test.true c.stmt-item.is
          c.loop-stmt.scope c.statement.new.scope c.in_ok-statement.ensures.1 _ _ _ _ c.in_ok-statement.ensures.0.0 c.in_ok-push.ensures.pushed c.loop-stmt.invariant.1,
      judged_iteration number_of_cause (λ s x. scope_behind symbols x s) (λ s x. stmt_diagnostics symbols returns x s) (λ s xs. block_diagnostics symbols returns xs s) (λ s x rest. refl)
          c.as_slice-stmt-items.result.now c.loop-stmt.stmt-index c.stmt-item.result c.loop-stmt-test.true c.stmt-item.is
          c.loop-stmt.scope c.statement.new.scope c.in_ok-statement.ensures.1 _ _ _ c.in_ok-statement.ensures.0.1 c.loop-stmt.invariant.2,
    )
