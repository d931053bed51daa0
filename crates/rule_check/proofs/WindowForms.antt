-- What is refused of a window as it is written and what it means, at each form.
use Rattle.std.proofs.Common.{◌≡◌, ℕ, ℤ, Bool, false, List, [], ◌++◌, Option, refl}
use Rattle.aerie_base.specs.declared.expressions.Comparison.{Comparison}
use Rattle.aerie_base.specs.declared.models.model.Parts.{Parts}
use Rattle.aerie_base.specs.declared.values.Kind.TheVariants.{Truth as TruthKind}
use Rattle.model_reader.specs.declared.raw.names.RawName.{RawName}
use Rattle.rule_grammar.specs.declared.raw.sums.RawTerm.{RawTerm}
use Rattle.rule_grammar.specs.declared.raw.windows.RawTested.{RawTested}
use Rattle.rule_grammar.specs.declared.raw.windows.RawWindow.{RawWindow, Literal, Not, And, Or, During, Shift, Longer, Truth, Same, Compare}
use Rattle.diagnostics.specs.declared.diagnostic.Diagnostic.{Diagnostic}
use Rattle.rule_check.specs.declared.causes.WrongRule.{WrongRule}
use Rattle.constraints.specs.declared.types.Window.{Window}
use Rattle.constraints.specs.declared.types.Window as window
use Rattle.rule_check.specs.WindowMeaning.{window_level, window_of, signed_time, time_within, during_of, tested_value, meant_sum}
use Rattle.rule_check.specs.RuleNames.{Datasets, name_kind, reading_named}
use Rattle.rule_check.specs.WindowRefusals.{refusals_of_level, refusals_of_window, refusals_of_span, refusals_of_name, refusals_of_tested, refusals_of_sum}
use Rattle.rule_check.proofs.RawWindowForms.{gives_not, gives_and, gives_or, gives_shift, gives_longer}

module _ (model : Parts) (datasets : Datasets) (bound : Option (List ℕ)) where
  abbrev refused : RawWindow → List (Diagnostic WrongRule)
  refused raw = refusals_of_window model datasets bound raw

  abbrev meant : RawWindow → Window
  meant raw = window_of model datasets bound raw

  -- ---- what is refused

  pub refused_literal : (truth : Bool) → refused (Literal truth) ≡ []
  unfolding refusals_of_window
  refused_literal truth = refl

  pub refused_not : (part : RawWindow) → refused (Not part) ≡ refused part
  unfolding refusals_of_window
  refused_not part = gives_not (List (Diagnostic WrongRule)) [] (refusals_of_level model datasets bound) part

  pub refused_and : (left right : RawWindow) → refused (And left right) ≡ refused left ++ refused right
  unfolding refusals_of_window
  refused_and left right = gives_and (List (Diagnostic WrongRule)) [] (refusals_of_level model datasets bound) left right

  pub refused_or : (left right : RawWindow) → refused (Or left right) ≡ refused left ++ refused right
  unfolding refusals_of_window
  refused_or left right = gives_or (List (Diagnostic WrongRule)) [] (refusals_of_level model datasets bound) left right

  pub refused_during : (name : RawName) → refused (During name) ≡ refusals_of_span model bound name
  unfolding refusals_of_window
  refused_during name = refl

  pub refused_shift : (part : RawWindow) (start end : ℤ) → refused (Shift part start end) ≡ refused part
  unfolding refusals_of_window
  refused_shift part start end = gives_shift (List (Diagnostic WrongRule)) [] (refusals_of_level model datasets bound) part start end

  pub refused_longer : (part : RawWindow) (least : ℤ) → refused (Longer part least) ≡ refused part
  unfolding refusals_of_window
  refused_longer part least = gives_longer (List (Diagnostic WrongRule)) [] (refusals_of_level model datasets bound) part least

  pub refused_truth : (name : RawName) → refused (Truth name) ≡ refusals_of_name model datasets TruthKind name
  unfolding refusals_of_window
  refused_truth name = refl

  pub refused_same : (name : RawName) (value : RawTested) (equal : Bool) → refused (Same name value equal) ≡ refusals_of_tested model (name_kind model datasets name.name) name.at value
  unfolding refusals_of_window
  refused_same name value equal = refl

  pub refused_compare : (left : List RawTerm) (how : Comparison) (right : List RawTerm) → refused (Compare left how right) ≡ refusals_of_sum model datasets left ++ refusals_of_sum model datasets right
  unfolding refusals_of_window
  refused_compare left how right = refl

  -- ---- what is meant

  pub meant_literal : (truth : Bool) → meant (Literal truth) ≡ window.Literal truth
  unfolding window_of
  meant_literal truth = refl

  pub meant_not : (part : RawWindow) → meant (Not part) ≡ window.Not (meant part)
  unfolding window_of
  meant_not part = gives_not Window (window.Literal false) (window_level model datasets bound) part

  pub meant_and : (left right : RawWindow) → meant (And left right) ≡ window.And (meant left) (meant right)
  unfolding window_of
  meant_and left right = gives_and Window (window.Literal false) (window_level model datasets bound) left right

  pub meant_or : (left right : RawWindow) → meant (Or left right) ≡ window.Or (meant left) (meant right)
  unfolding window_of
  meant_or left right = gives_or Window (window.Literal false) (window_level model datasets bound) left right

  pub meant_during : (name : RawName) → meant (During name) ≡ during_of model bound name
  unfolding window_of
  meant_during name = refl

  pub meant_shift : (part : RawWindow) (start end : ℤ) → meant (Shift part start end) ≡ window.Shift (meant part) (signed_time start) (signed_time end)
  unfolding window_of
  meant_shift part start end = gives_shift Window (window.Literal false) (window_level model datasets bound) part start end

  pub meant_longer : (part : RawWindow) (least : ℤ) → meant (Longer part least) ≡ window.Longer (meant part) (time_within least)
  unfolding window_of
  meant_longer part least = gives_longer Window (window.Literal false) (window_level model datasets bound) part least

  pub meant_truth : (name : RawName) → meant (Truth name) ≡ window.Truth (reading_named model datasets name.name)
  unfolding window_of
  meant_truth name = refl

  pub meant_same : (name : RawName) (value : RawTested) (equal : Bool) → meant (Same name value equal) ≡ window.Same (reading_named model datasets name.name) (tested_value model value) equal
  unfolding window_of
  meant_same name value equal = refl

  pub meant_compare : (left : List RawTerm) (how : Comparison) (right : List RawTerm) → meant (Compare left how right) ≡ window.Compare (meant_sum model datasets left) how (meant_sum model datasets right)
  unfolding window_of
  meant_compare left how right = refl
