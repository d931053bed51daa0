use Rattle.std.proofs.Common.{Option, ap, sym, ◌∙◌}
use Rattle.aerie_base.specs.declared.values.Kind.{Kind}
use Rattle.model_reader.specs.declared.raw.expressions.RawExpr.{RawExpr}
use Rattle.model_reader.specs.declared.raw.expressions.RawExprKind.{Not, Binary}
use Rattle.model_check.specs.declared.causes.Cause.TheVariants.{NotLinear}
use Rattle.diagnostics.specs.Diagnostics.{refused_unless}
use Rattle.model_check.specs.Diagnostics.{noted}
use Rattle.model_check.specs.Waits.{is_truth}
use Rattle.model_check.proofs.ConditionForms.{made_literal, made_read, made_not, made_negate, made_plain, made_joint}
use Rattle.model_check.proofs.Results.{if_ok}
use Rattle.model_check.proofs.waits.+condition.Goals as goal

pub returns-in-Literal : goal.returns-in-Literal
returns-in-Literal t c =
    made_literal c.args.symbols.now c.args.scope.now c.args.raw.now c.in-Literal.literal c.in-Literal.is c.args.found.now c.note_truth.new.found c.literal_truth.result c.literal_truth.ensures
    (c.note_truth.ensures ∙ ap (λ (kind : Option Kind). noted c.args.found.now (refused_unless (is_truth kind) NotLinear c.args.raw.now.at)) c.literal_kind.ensures)

pub returns-in-Read : goal.returns-in-Read
returns-in-Read t c =
    made_read c.args.symbols.now c.args.scope.now c.args.raw.now c.in-Read.read c.in-Read.is c.args.found.now c.note_truth-in-Read.new.found c.read_operand.result c.read_operand.ensures
    (c.note_truth-in-Read.ensures ∙ ap (λ (kind : Option Kind). noted c.args.found.now (refused_unless (is_truth kind) NotLinear c.args.raw.now.at)) c.raw_read_kind.ensures)

pub returns-in_ok-new-in-Not : goal.returns-in_ok-new-in-Not
returns-in_ok-new-in-Not t c =
    made_not c.args.symbols.now c.args.scope.now c.args.raw.now c.get-inner.result.now (c.in-Not.is ∙ ap (λ (x : RawExpr). Not x) (sym c.get-inner.ensures))
    c.args.found.now c.condition.new.found c.in_ok-made-in-Not.made c.in_ok-new-in-Not.field-0 c.in_ok-made-in-Not.ensures c.in_ok-new-in-Not.ensures

pub returns-in-Negate : goal.returns-in-Negate
returns-in-Negate t c =
    made_negate c.args.symbols.now c.args.scope.now c.args.raw.now c.in-Negate.field-0 c.in-Negate.is c.args.found.now c.no_condition.new.found c.no_condition.result c.no_condition.ensures

pub returns-in_ok-made_right-in-Some : goal.returns-in_ok-made_right-in-Some
returns-in_ok-made_right-in-Some t c =
    let here = c.in-Binary.is ∙ (λ i. Binary c.in-Binary.operator (sym c.get-left.ensures i) (sym c.get-right.ensures i)) in
    if_ok c.joint.result _ _
    (λ made is. made_joint c.args.symbols.now c.args.scope.now c.args.raw.now c.in-Binary.operator c.get-left.result.now c.get-right.result.now here c.in-Some.is_or c.in-Some.ensures
    c.args.found.now c.condition-in-Some.new.found c.condition-in-Some-2.new.found c.in_ok-made_left-in-Some.made_left c.in_ok-made_right-in-Some.made_right made
    c.in_ok-made_left-in-Some.ensures c.in_ok-made_right-in-Some.ensures is)
    c.joint.ensures

pub returns-in-None : goal.returns-in-None
returns-in-None t c =
    let here = c.in-Binary.is ∙ (λ i. Binary c.in-Binary.operator (sym c.get-left.ensures i) (sym c.get-right.ensures i)) in
    if_ok c.no_junction.result _ _
    (λ made h. made_plain c.args.symbols.now c.args.scope.now c.args.raw.now c.in-Binary.operator c.get-left.result.now c.get-right.result.now here c.in-None.ensures
    c.args.found.now c.no_junction.new.found made h)
    c.no_junction.ensures
