-- One argument after another is judged, up to the first that is refused.
use Rattle.std.proofs.Common.{◌≡◌, ℕ, suc, ◌+◌, subst, List, [], ◌∷◌, ◌++◌, Option, Some, None, take, drop, sym, ap, ◌∙◌, arith}
use Rattle.aerie_base.specs.declared.models.Parameter.{Parameter}
use Rattle.aerie_base.specs.declared.models.model.Parts.{Parts}
use Rattle.diagnostics.specs.declared.diagnostic.Diagnostic.{Diagnostic}
use Rattle.rule_check.specs.declared.causes.WrongRule.{WrongRule}
use Rattle.diagnostics.specs.NotedInTurn.{none_found}
use Rattle.rule_check.specs.RefusalLaws.{taken_next, dropped_next, or_one, or_other}
use Rattle.rule_check.specs.Refusals.{number_of_wrong, noted, first_diagnostic}
use Rattle.goal_check.specs.TemplateMeaning.{Argument}
use Rattle.goal_check.specs.TemplateRefusals.{refusals_of_argument, refusals_of_arguments}

module _ (model : Parts) (parameters : List Parameter) (all rest : List Argument) (argument : Argument) (at : ℕ) (here : drop at all ≡ argument ∷ rest) (before after : Option (Diagnostic WrongRule)) where
  -- the first that is refused
  pub refused_here : (found : Diagnostic WrongRule) → first_diagnostic (refusals_of_argument model parameters (take at all) argument) ≡ Some found
      → after ≡ noted before (refusals_of_argument model parameters (take at all) argument)
      → after ≡ noted before (refusals_of_arguments model parameters (take at all) (drop at all))
  refused_here found is e =
      e ∙ ap (noted before) (sym (or_one (refusals_of_argument model parameters (take at all) argument) (refusals_of_arguments model parameters (take at all ++ argument ∷ []) rest) found is))
      ∙ sym (ap (λ (left : List Argument). noted before (refusals_of_arguments model parameters (take at all) left)) here)

  -- one that is not, and those behind it
  pub refused_later : first_diagnostic (refusals_of_argument model parameters (take at all) argument) ≡ None
      → after ≡ noted before (refusals_of_arguments model parameters (take (at + 1) all) (drop (at + 1) all))
      → after ≡ noted before (refusals_of_arguments model parameters (take at all) (drop at all))
  refused_later none e =
      let next : at + 1 ≡ suc at = omega arith in
      subst (λ (n : ℕ). after ≡ noted before (refusals_of_arguments model parameters (take n all) (drop n all))) next e
      ∙ (λ i. noted before (refusals_of_arguments model parameters (taken_next at all rest argument here i) (dropped_next at all rest argument here i)))
      ∙ ap (noted before) (sym (or_other (refusals_of_argument model parameters (take at all) argument) (refusals_of_arguments model parameters (take at all ++ argument ∷ []) rest)
      (none_found number_of_wrong (refusals_of_argument model parameters (take at all) argument) none)))
      ∙ sym (ap (λ (left : List Argument). noted before (refusals_of_arguments model parameters (take at all) left)) here)
