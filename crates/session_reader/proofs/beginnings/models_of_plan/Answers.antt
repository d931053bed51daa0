use Rattle.std.proofs.Common.{sym, ◌∙◌, eqb-true}
use Rattle.session_reader.specs.Beginnings.{plan_diagnostics}
use Rattle.session_reader.specs.Diagnostics.{noted}
use Rattle.session_reader.proofs.BegunModels.{none_begun, none_wrong}
use Rattle.session_reader.proofs.beginnings.models_of_plan.Goals as goal

pub returns-then-is_empty-clause-made : goal.returns-then-is_empty-clause-made
returns-then-is_empty-clause-made c = none_begun c.args.beginnings.now c.args.models (eqb-true _ _ (sym c.is_empty.ensures ∙ c.if-is_empty.true))

pub returns-then-is_empty-clause-noted : goal.returns-then-is_empty-clause-noted
returns-then-is_empty-clause-noted c =
    c.requires.nothing ∙ none_wrong c.args.beginnings.now c.args.models (eqb-true _ _ (sym c.is_empty.ensures ∙ c.if-is_empty.true))

pub begun_if_good-requires-clause-noted : goal.begun_if_good-requires-clause-noted
begun_if_good-requires-clause-noted c =
    c.in_ok-note_plan.ensures ∙ (λ i. noted (c.requires.nothing i) (plan_diagnostics c.args.beginnings.now (c.as_slice.ensures i)))

pub returns-clause-noted : goal.returns-clause-noted
returns-clause-noted c =
    c.in_ok-note_plan.ensures ∙ (λ i. noted (c.requires.nothing i) (plan_diagnostics c.args.beginnings.now (c.as_slice.ensures i)))
