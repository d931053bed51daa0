-- A file of lemmas: what it proves need not be read to trust a clause.
--
-- What the recursion over a window gives at each form with parts, and that it is the fold, which does not compute.
use Rattle.std.proofs.Common.{◌≡◌, ℕ, ℤ, refl, sym, ap, ◌∙◌}
use Rattle.constraints.specs.declared.types.Window.{Window, Literal, During, DuringBound, Truth, Same, Compare, Not, And, Or, Shift, Longer, Not', And', Or', Shift', Longer', end_of-Window, more_of-Window, fold-Window, fold_out-Window, out-Window}
use Rattle.constraints.specs.declared.types.Window.TheOpen.{Window-F}
use Rattle.constraints.specs.declared.types.Window.TheBlock.{hidden-the_row-Window-0, shape-the_row-Window-0, shown-the_row-Window-0}
use denote.Hole.Carrier.{hidden, shown, out}
use Rattle.constraints.specs.Recursion.{window_gives}

-- it is the fold of the window, which does not compute
pub gives_fold : (A : Type 0) (nothing : A) (step : Window-F A → A) (window : Window) → window_gives A nothing step window ≡ fold-Window A step window
unfolding out-Window out shown hidden shown-the_row-Window-0 hidden-the_row-Window-0 shape-the_row-Window-0
gives_fold A nothing step (Literal truth) = sym (fold_out-Window A step (Literal truth))
gives_fold A nothing step (During kind) = sym (fold_out-Window A step (During kind))
gives_fold A nothing step DuringBound = sym (fold_out-Window A step DuringBound)
gives_fold A nothing step (Truth reading) = sym (fold_out-Window A step (Truth reading))
gives_fold A nothing step (Same resource value equal) = sym (fold_out-Window A step (Same resource value equal))
gives_fold A nothing step (Compare left how right) = sym (fold_out-Window A step (Compare left how right))
gives_fold A nothing step (Not' s (more_of-Window part end_of-Window)) =
    ap (λ (x : A). step (Window-F.Not x)) (gives_fold A nothing step part) ∙ sym (fold_out-Window A step (Not' s (more_of-Window part end_of-Window)))
gives_fold A nothing step (And' s (more_of-Window left end_of-Window) t (more_of-Window right end_of-Window)) =
    (λ i. step (Window-F.And (gives_fold A nothing step left i) (gives_fold A nothing step right i))) ∙ sym (fold_out-Window A step (And' s (more_of-Window left end_of-Window) t (more_of-Window right end_of-Window)))
gives_fold A nothing step (Or' s (more_of-Window left end_of-Window) t (more_of-Window right end_of-Window)) =
    (λ i. step (Window-F.Or (gives_fold A nothing step left i) (gives_fold A nothing step right i))) ∙ sym (fold_out-Window A step (Or' s (more_of-Window left end_of-Window) t (more_of-Window right end_of-Window)))
gives_fold A nothing step (Shift' s (more_of-Window part end_of-Window) start end) =
    ap (λ (x : A). step (Window-F.Shift x start end)) (gives_fold A nothing step part) ∙ sym (fold_out-Window A step (Shift' s (more_of-Window part end_of-Window) start end))
gives_fold A nothing step (Longer' s (more_of-Window part end_of-Window) least) =
    ap (λ (x : A). step (Window-F.Longer x least)) (gives_fold A nothing step part) ∙ sym (fold_out-Window A step (Longer' s (more_of-Window part end_of-Window) least))

-- ---- what it gives at each form with parts

module _ (A : Type 0) (nothing : A) (step : Window-F A → A) where
  pub gives-Not : (part : Window) → window_gives A nothing step (Not part) ≡ step (Window-F.Not (window_gives A nothing step part))
  unfolding hidden-the_row-Window-0 shape-the_row-Window-0 hidden
  gives-Not part = refl

  pub gives-And : (left right : Window) → window_gives A nothing step (And left right) ≡ step (Window-F.And (window_gives A nothing step left) (window_gives A nothing step right))
  unfolding hidden-the_row-Window-0 shape-the_row-Window-0 hidden
  gives-And left right = refl

  pub gives-Or : (left right : Window) → window_gives A nothing step (Or left right) ≡ step (Window-F.Or (window_gives A nothing step left) (window_gives A nothing step right))
  unfolding hidden-the_row-Window-0 shape-the_row-Window-0 hidden
  gives-Or left right = refl

  pub gives-Shift : (part : Window) (start end : ℤ) → window_gives A nothing step (Shift part start end) ≡ step (Window-F.Shift (window_gives A nothing step part) start end)
  unfolding hidden-the_row-Window-0 shape-the_row-Window-0 hidden
  gives-Shift part start end = refl

  pub gives-Longer : (part : Window) (least : ℕ) → window_gives A nothing step (Longer part least) ≡ step (Window-F.Longer (window_gives A nothing step part) least)
  unfolding hidden-the_row-Window-0 shape-the_row-Window-0 hidden
  gives-Longer part least = refl
