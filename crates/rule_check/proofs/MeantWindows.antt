-- Windows and constraints that are read without a refusal are of the model.
use Rattle.std.proofs.Common.{◌≡◌, ℕ, zero, suc, ℤ, pos, Bool, true, false, ◌||◌, not, List, [], ◌∷◌, ◌++◌, Option, Some, None, is_some, nat_le, refl, ◌∙◌, if◌then◌else◌}
use Rattle.std.specs.List.{list_all}
use Rattle.std.specs.Int.RustNames.{unsigned_abs}
use Rattle.aerie_base.specs.Ranges.{time_limit}
use Rattle.aerie_base.specs.declared.models.model.Parts.{Parts}
use Rattle.aerie_base.specs.declared.values.Kind.TheVariants.{Truth as TruthKind}
use Rattle.aerie_base.specs.models.ValidModel.{valid_model}
use Rattle.model_reader.specs.declared.raw.names.RawName.{RawName}
use Rattle.rule_grammar.specs.declared.raw.constraints.RawConstraint.{RawConstraint}
use Rattle.rule_grammar.specs.declared.raw.constraints.RawRule.{RawRule}
use Rattle.rule_grammar.specs.declared.raw.constraints.RawRule.TheVariants as raw_rule
use Rattle.rule_grammar.specs.declared.raw.windows.RawWindow.{RawWindow, Literal, During, Truth, Same, Compare, Not', And', Or', Shift', Longer', end_of-RawWindow, more_of-RawWindow}
use Rattle.constraints.specs.GivenSeries.{is_series}
use Rattle.constraints.specs.OfModel.{window_step, is_window, bound_step, speaks_of_bound, is_shift, is_rule, is_constraint}
use Rattle.constraints.specs.RecursionLaws.{gives-Not, gives-And, gives-Or, gives-Shift, gives-Longer}
use Rattle.constraints.specs.declared.types.Window.{Window}
use Rattle.constraints.specs.declared.types.Window as window
use Rattle.rule_check.specs.ConstraintRefusals.{refusals_of_rule, is_name_of_one, refusals_of_constraint, refusals_of_more, refusals_of_constraints}
use Rattle.rule_check.specs.WindowMeaning.{number_of_type, during_of, signed_time, time_within, window_of}
use Rattle.rule_check.specs.ConstraintMeaning.{meant_rule, constraints_of}
use Rattle.diagnostics.specs.Diagnostics.{refused_unless}
use Rattle.rule_check.specs.Refusals.{number_of_wrong, first_diagnostic}
use Rattle.rule_check.specs.RuleNames.{Datasets, position_of_type}
use Rattle.rule_check.specs.WindowRefusals.{is_bound, refusals_of_span, refusals_of_window, refusals_of_sum, refusals_of_type}
use Rattle.diagnostics.specs.NotedInTurn.{none_found}
use Rattle.rule_check.specs.RefusalLaws.{both_empty}
use Rattle.rule_check.proofs.Meant.{not_wrong, name_is, known_type, type_is, tested_is, sum_is}

-- a shift is at most the longest time
shift_is : (count : ℤ) → is_shift (signed_time count) ≡ true
shift_is count = go (nat_le (unsigned_abs count) time_limit) refl
  where
    go : (v : Bool) → nat_le (unsigned_abs count) time_limit ≡ v → is_shift (if v then count else pos 0) ≡ true
    go true e = e
    go false e = refl

module _ (model : Parts) (datasets : Datasets) (valid : valid_model model ≡ true) (series : list_all (λ dataset. is_series dataset.1) datasets ≡ true) where
  module _ (bound : Option (List ℕ)) where
    abbrev meant : RawWindow → Window
    meant raw = window_of model datasets bound raw

    span_is : (name : RawName) → refusals_of_span model bound name ≡ [] → is_window model (during_of model bound name) ≡ true
    unfolding is_window
    span_is name e = go (is_bound bound name.name) refl (not_wrong (is_bound bound name.name || is_some (position_of_type model.activities name.name)) _ name.at e)
      where
        go : (v : Bool) → is_bound bound name.name ≡ v → (v || is_some (position_of_type model.activities name.name)) ≡ true → is_window model (if v then window.DuringBound else window.During (number_of_type model name)) ≡ true
        go true h e = refl
        go false h e = known_type model datasets valid series name e

    -- a window that is not refused is of the model
    pub window_is : (raw : RawWindow) → refusals_of_window model datasets bound raw ≡ [] → is_window model (meant raw) ≡ true
    unfolding refusals_of_window window_of is_window
    window_is (Literal truth) e = refl
    window_is (During name) e = span_is name e
    window_is (Truth name) e = name_is model datasets valid series TruthKind name e
    window_is (Same name given equal) e = tested_is model datasets valid series name given e
    window_is (Compare left how right) e =
        let two = both_empty (refusals_of_sum model datasets left) (refusals_of_sum model datasets right) e in
        rw (sum_is model datasets valid series left two.0, sum_is model datasets valid series right two.1) refl
    window_is (Not' s (more_of-RawWindow part end_of-RawWindow)) e = gives-Not Bool false (window_step model) (meant part) ∙ window_is part e
    window_is (And' s (more_of-RawWindow left end_of-RawWindow) t (more_of-RawWindow right end_of-RawWindow)) e =
        let two = both_empty (refusals_of_window model datasets bound left) (refusals_of_window model datasets bound right) e in
        gives-And Bool false (window_step model) (meant left) (meant right) ∙ rw (window_is left two.0, window_is right two.1) refl
    window_is (Or' s (more_of-RawWindow left end_of-RawWindow) t (more_of-RawWindow right end_of-RawWindow)) e =
        let two = both_empty (refusals_of_window model datasets bound left) (refusals_of_window model datasets bound right) e in
        gives-Or Bool false (window_step model) (meant left) (meant right) ∙ rw (window_is left two.0, window_is right two.1) refl
    window_is (Shift' s (more_of-RawWindow part end_of-RawWindow) start end) e =
        gives-Shift Bool false (window_step model) (meant part) (signed_time start) (signed_time end) ∙ rw (window_is part e, shift_is start, shift_is end) refl
    window_is (Longer' s (more_of-RawWindow part end_of-RawWindow) least) e = gives-Longer Bool false (window_step model) (meant part) (time_within least) ∙ window_is part e

  -- where no name is bound a window speaks of no bound span
  pub speaks_not : (raw : RawWindow) → speaks_of_bound (window_of model datasets None raw) ≡ false
  unfolding window_of speaks_of_bound
  speaks_not (Literal truth) = refl
  speaks_not (During name) = refl
  speaks_not (Truth name) = refl
  speaks_not (Same name given equal) = refl
  speaks_not (Compare left how right) = refl
  speaks_not (Not' s (more_of-RawWindow part end_of-RawWindow)) = gives-Not Bool false bound_step (meant None part) ∙ speaks_not part
  speaks_not (And' s (more_of-RawWindow left end_of-RawWindow) t (more_of-RawWindow right end_of-RawWindow)) =
      gives-And Bool false bound_step (meant None left) (meant None right) ∙ rw (speaks_not left, speaks_not right) refl
  speaks_not (Or' s (more_of-RawWindow left end_of-RawWindow) t (more_of-RawWindow right end_of-RawWindow)) =
      gives-Or Bool false bound_step (meant None left) (meant None right) ∙ rw (speaks_not left, speaks_not right) refl
  speaks_not (Shift' s (more_of-RawWindow part end_of-RawWindow) start end) = gives-Shift Bool false bound_step (meant None part) (signed_time start) (signed_time end) ∙ speaks_not part
  speaks_not (Longer' s (more_of-RawWindow part end_of-RawWindow) least) = gives-Longer Bool false bound_step (meant None part) (time_within least) ∙ speaks_not part

  rule_is : (raw : RawRule) → refusals_of_rule model datasets raw ≡ [] → is_rule model (meant_rule model datasets raw) ≡ true
  rule_is (raw_rule.Plain raw) e = rw (window_is None raw e, speaks_not raw) refl
  rule_is (raw_rule.Each bound kind raw) e =
      let two = both_empty (refusals_of_type model kind) (refusals_of_window model datasets (Some bound.name) raw) e in
      rw (type_is model datasets valid series kind two.0, window_is (Some bound.name) raw two.1) refl
  rule_is (raw_rule.Forbid first second) e =
      let two = both_empty (refusals_of_type model first) (refusals_of_type model second) e in
      rw (type_is model datasets valid series first two.0, type_is model datasets valid series second two.1) refl

  constraints_are : (room : ℕ) (others constraints : List RawConstraint) → refusals_of_more model datasets room others constraints ≡ [] → list_all (is_constraint model) (constraints_of model datasets constraints) ≡ true
  constraints_are room others [] e = refl
  constraints_are zero others (constraint ∷ rest) e = cc
  constraints_are (suc room) others (constraint ∷ rest) e =
      let two = both_empty (refusals_of_constraint model datasets others constraint) (refusals_of_more model datasets room (others ++ constraint ∷ []) rest) e in
      let rule = both_empty (refused_unless (not (is_name_of_one others constraint.name.name)) _ constraint.name.at) (refusals_of_rule model datasets constraint.rule) two.0 in
      rw (rule_is constraint.rule rule.1, constraints_are room (others ++ constraint ∷ []) rest two.1) refl

  -- constraints of which nothing is refused are of the model
  pub all_of_model : (constraints : List RawConstraint) → first_diagnostic (refusals_of_constraints model datasets constraints) ≡ None → list_all (is_constraint model) (constraints_of model datasets constraints) ≡ true
  all_of_model constraints e = constraints_are _ [] constraints (none_found number_of_wrong (refusals_of_constraints model datasets constraints) e)
