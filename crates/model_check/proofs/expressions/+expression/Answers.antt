use Rattle.std.proofs.Common.{arith}
use Rattle.model_check.proofs.ExpressionForms.{wrong_literal, meant_literal, wrong_read, meant_read}
use Rattle.model_check.proofs.MadeExpressions.{made_not, made_negate, made_binary}
use Rattle.model_check.proofs.expressions.+expression.Goals as goal

pub returns-in-Literal : goal.returns-in-Literal
returns-in-Literal t c = grind (arith, wrong_literal, meant_literal)

pub returns-in-Read : goal.returns-in-Read
returns-in-Read t c = grind (arith, wrong_read, meant_read)

pub returns-in_ok-new-in-Not : goal.returns-in_ok-new-in-Not
returns-in_ok-new-in-Not t c =
    made_not c.args.symbols.now c.args.scope.now c.args.raw.now c.in-Not.inner c.get-inner.result.now c.in-Not.is c.get-inner.ensures
    _ _ _ _ _ c.in_ok-made-in-Not.ensures c.note_unless_wanted.ensures c.in_ok-new-in-Not.ensures

pub returns-in_ok-new-in-Negate : goal.returns-in_ok-new-in-Negate
returns-in_ok-new-in-Negate t c =
    made_negate c.args.symbols.now c.args.scope.now c.args.raw.now c.in-Negate.inner c.get-inner-in-Negate.result.now c.in-Negate.is c.get-inner-in-Negate.ensures
    _ _ _ _ _ c.in_ok-made-in-Negate.ensures c.note_unless_wanted-in-Negate.ensures c.in_ok-new-in-Negate.ensures

pub returns-in_ok-made_right-in-Binary-2 : goal.returns-in_ok-made_right-in-Binary-2
returns-in_ok-made_right-in-Binary-2 t c =
    made_binary c.args.symbols.now c.args.scope.now c.args.raw.now c.in-Binary.operator c.in-Binary.left c.in-Binary.right c.get-left.result.now c.get-right.result.now
    c.in-Binary.is c.get-left.ensures c.get-right.ensures
    _ _ _ _ _ _ _ _ c.in_ok-made_left-in-Binary.ensures c.in_ok-made_right-in-Binary.ensures c.note_sides.ensures c.in_ok-made_left-in-Binary-2.ensures c.in_ok-made_right-in-Binary-2.ensures
