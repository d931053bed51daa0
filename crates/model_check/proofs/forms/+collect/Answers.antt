use Rattle.std.proofs.Common.{◌++◌, refl, ap, sym, ◌∙◌}
use Rattle.model_reader.specs.declared.raw.expressions.RawExpr.{RawExpr}
use Rattle.model_reader.specs.declared.raw.expressions.RawExprKind.{Negate, Binary}
use Rattle.model_check.specs.LinearForms.{leaves_of, flipped}
use Rattle.model_check.proofs.LeafForms.{leaves_literal, leaves_read, leaves_not, leaves_negated, leaves_literal_negated, leaves_sum, leaves_operator}
use Rattle.model_check.proofs.Results.{ok_pushed, ok_same, ok_both}
use Rattle.model_check.proofs.forms.+collect.Goals as goal

pub returns-in-Literal : goal.returns-in-Literal
returns-in-Literal t c =
    ok_pushed c.push.result c.args.leaves.now c.push.new.self _ c.literal_leaf.result _ c.push.ensures.pushed c.literal_leaf.ensures
    (leaves_literal c.args.use_ c.args.symbols.now c.args.scope.now c.args.raw.now c.args.negative c.in-Literal.literal c.in-Literal.is)

pub returns-in-Read : goal.returns-in-Read
returns-in-Read t c =
    ok_pushed c.push-in-Read.result c.args.leaves.now c.push-in-Read.new.self _ c.read_leaf.result _ c.push-in-Read.ensures.pushed c.read_leaf.ensures
    (leaves_read c.args.use_ c.args.symbols.now c.args.scope.now c.args.raw.now c.args.negative c.in-Read.read c.in-Read.is)

pub returns-in-Not : goal.returns-in-Not
returns-in-Not t c =
    ok_pushed c.push-in-Not.result c.args.leaves.now c.push-in-Not.new.self _ c.unfit_leaf.result _ c.push-in-Not.ensures.pushed c.unfit_leaf.ensures
    (leaves_not c.args.use_ c.args.symbols.now c.args.scope.now c.args.raw.now c.args.negative c.in-Not.field-0 c.in-Not.is)

pub returns-in-Some : goal.returns-in-Some
returns-in-Some t c =
    ok_pushed c.push-in-Some.result c.args.leaves.now c.push-in-Some.new.self _ c.in-Some.leaf c.in-Some.leaf c.push-in-Some.ensures.pushed refl
    (leaves_literal_negated c.args.use_ c.args.symbols.now c.args.scope.now c.args.raw.now c.args.negative c.get-inner.result.now c.in-Some.leaf
    (c.in-Negate.is ∙ ap (λ (x : RawExpr). Negate x) (sym c.get-inner.ensures)) c.in-Some.ensures)

pub returns-in-None : goal.returns-in-None
returns-in-None t c =
    ok_same c.collect.result c.args.leaves.now c.collect.new.leaves
    (leaves_of c.args.use_ c.args.symbols.now c.args.scope.now c.get-inner.result.now (flipped c.args.negative)) _ c.collect.ensures
    (leaves_negated c.args.use_ c.args.symbols.now c.args.scope.now c.args.raw.now c.args.negative c.get-inner.result.now
    (c.in-Negate.is ∙ ap (λ (x : RawExpr). Negate x) (sym c.get-inner.ensures)) c.in-None.ensures)

pub returns-in_ok-collect-in-Some-sum_sign : goal.returns-in_ok-collect-in-Some-sum_sign
returns-in_ok-collect-in-Some-sum_sign t c =
    let here = c.in-Binary.is ∙ (λ i. Binary c.in-Binary.operator (sym c.get-left.ensures i) (sym c.get-right.ensures i)) in
    ok_both c.collect-in-Some-sum_sign-2.result c.args.leaves.now c.collect-in-Some-sum_sign.new.leaves c.collect-in-Some-sum_sign-2.new.leaves
    (leaves_of c.args.use_ c.args.symbols.now c.args.scope.now c.get-left.result.now c.args.negative)
    (leaves_of c.args.use_ c.args.symbols.now c.args.scope.now c.get-right.result.now c.joint_sign.result) _
    c.in_ok-collect-in-Some-sum_sign.ensures c.collect-in-Some-sum_sign-2.ensures
    (leaves_sum c.args.use_ c.args.symbols.now c.args.scope.now c.args.raw.now c.args.negative c.in-Binary.operator c.get-left.result.now c.get-right.result.now c.in-Some-sum_sign.minus here c.in-Some-sum_sign.ensures
    ∙ (λ i. leaves_of c.args.use_ c.args.symbols.now c.args.scope.now c.get-left.result.now c.args.negative ++ leaves_of c.args.use_ c.args.symbols.now c.args.scope.now c.get-right.result.now (sym c.joint_sign.ensures i)))

pub returns-in-None-sum_sign : goal.returns-in-None-sum_sign
returns-in-None-sum_sign t c =
    let here = c.in-Binary.is ∙ (λ i. Binary c.in-Binary.operator (sym c.get-left.ensures i) (sym c.get-right.ensures i)) in
    ok_pushed c.push-in-None-sum_sign.result c.args.leaves.now c.push-in-None-sum_sign.new.self _ c.operator_leaf-leaf.result _ c.push-in-None-sum_sign.ensures.pushed c.operator_leaf-leaf.ensures
    (leaves_operator c.args.use_ c.args.symbols.now c.args.scope.now c.args.raw.now c.args.negative c.in-Binary.operator c.get-left.result.now c.get-right.result.now here c.in-None-sum_sign.ensures)
