-- What is noted part by part.
use Rattle.std.proofs.Common.{◌≡◌, ◌⊎◌, inl, inr, ℕ, Bool, List, [], ◌∷◌, ◌++◌, refl, sym, ap, ◌∙◌}
use Rattle.aerie_base.specs.declared.expressions.Comparison.{Comparison}
use Rattle.constraints.specs.Recursion.{window_gives}
use Rattle.constraints.specs.RecursionLaws.{gives-And, gives-Or, gives_fold}
use Rattle.constraints.specs.declared.types.RuleSum.{RuleSum}
use Rattle.constraints.specs.declared.types.Window.{And, Compare, Or, Window, fold-Window}
use Rattle.constraints.specs.declared.types.Window.TheOpen.{Window-F}
use Rattle.report_text.specs.NamedByConstraints.{NamedSeries, datasets_by_fold, datasets_step, noted, noted_all, resources_by_fold, resources_step, sum_datasets, sum_resources, types_by_fold, types_step, window_datasets, window_resources, window_types}

pub noted_append : {A : Type 0} (same : A → A → Bool) (items first second : List A) → noted_all same items (first ++ second) ≡ noted_all same (noted_all same items first) second
noted_append same items [] second = refl
noted_append same items (item ∷ rest) second = noted_append same (noted same items item) rest second

-- what one part and then another note is what the whole does
pub both_noted : {A : Type 0} (same : A → A → Bool) (old middle first second whole : List A) → whole ≡ first ++ second → middle ≡ noted_all same old first
    → noted_all same middle second ≡ noted_all same old whole
both_noted {A} same old middle first second whole is noted_first =
    ap (λ (items : List A). noted_all same items second) noted_first ∙ sym (noted_append same old first second) ∙ ap (λ (items : List A). noted_all same old items) (sym is)

pub types_are : (window : Window) → window_types window ≡ types_by_fold window
unfolding window_types
types_are window = gives_fold (List ℕ) [] types_step window

pub resources_are : (window : Window) → window_resources window ≡ resources_by_fold window
unfolding window_resources
resources_are window = gives_fold (List ℕ) [] resources_step window

pub datasets_are : (window : Window) → window_datasets window ≡ datasets_by_fold window
unfolding window_datasets
datasets_are window = gives_fold (List NamedSeries) [] datasets_step window

-- ---- parts of windows

module _ {A : Type 0} (step : Window-F (List A) → List A) where
  folds : (window : Window) → window_gives (List A) [] step window ≡ fold-Window (List A) step window
  folds window = gives_fold (List A) [] step window

  fold_and : (left right : Window) → fold-Window (List A) step (And left right) ≡ step (Window-F.And (fold-Window (List A) step left) (fold-Window (List A) step right))
  fold_and left right = sym (folds (And left right)) ∙ gives-And (List A) [] step left right ∙ (λ i. step (Window-F.And (folds left i) (folds right i)))

  fold_or : (left right : Window) → fold-Window (List A) step (Or left right) ≡ step (Window-F.Or (fold-Window (List A) step left) (fold-Window (List A) step right))
  fold_or left right = sym (folds (Or left right)) ∙ gives-Or (List A) [] step left right ∙ (λ i. step (Window-F.Or (folds left i) (folds right i)))

  fold_compare : (left : RuleSum) (how : Comparison) (right : RuleSum) → fold-Window (List A) step (Compare left how right) ≡ step (Window-F.Compare left how right)
  fold_compare left how right = sym (folds (Compare left how right))

pub types_of_both : (window left right : Window) → (window ≡ And left right) ⊎ (window ≡ Or left right) → types_by_fold window ≡ types_by_fold left ++ types_by_fold right
types_of_both window left right (inl is) = ap types_by_fold is ∙ fold_and types_step left right
types_of_both window left right (inr is) = ap types_by_fold is ∙ fold_or types_step left right

pub resources_of_both : (window left right : Window) → (window ≡ And left right) ⊎ (window ≡ Or left right) → resources_by_fold window ≡ resources_by_fold left ++ resources_by_fold right
resources_of_both window left right (inl is) = ap resources_by_fold is ∙ fold_and resources_step left right
resources_of_both window left right (inr is) = ap resources_by_fold is ∙ fold_or resources_step left right

pub resources_of_sums : (window : Window) (left : RuleSum) (how : Comparison) (right : RuleSum) → window ≡ Compare left how right → resources_by_fold window ≡ sum_resources left ++ sum_resources right
resources_of_sums window left how right is = ap resources_by_fold is ∙ fold_compare resources_step left how right

pub datasets_of_both : (window left right : Window) → (window ≡ And left right) ⊎ (window ≡ Or left right) → datasets_by_fold window ≡ datasets_by_fold left ++ datasets_by_fold right
datasets_of_both window left right (inl is) = ap datasets_by_fold is ∙ fold_and datasets_step left right
datasets_of_both window left right (inr is) = ap datasets_by_fold is ∙ fold_or datasets_step left right

pub datasets_of_sums : (window : Window) (left : RuleSum) (how : Comparison) (right : RuleSum) → window ≡ Compare left how right → datasets_by_fold window ≡ sum_datasets left ++ sum_datasets right
datasets_of_sums window left how right is = ap datasets_by_fold is ∙ fold_compare datasets_step left how right
