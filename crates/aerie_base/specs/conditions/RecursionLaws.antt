-- A file of lemmas: what it proves need not be read to trust a clause.
--
-- What the recursion over a condition gives at each form with parts, and that it is the fold, which does not compute.
use Rattle.std.proofs.Common.{◌≡◌, refl, sym, ap, ◌∙◌}
use Rattle.aerie_base.specs.declared.conditions.Cond.{Cond, Literal, Flag, Same, Compare, Not, And, Or, Not', And', Or', end_of-Cond, more_of-Cond, fold-Cond, fold_out-Cond, out-Cond}
use Rattle.aerie_base.specs.declared.conditions.Cond.TheOpen.{Cond-F}
use Rattle.aerie_base.specs.declared.conditions.Cond.TheBlock.{hidden-the_row-Cond-0, shape-the_row-Cond-0, shown-the_row-Cond-0}
use denote.Hole.Carrier.{hidden, shown, out}
use Rattle.aerie_base.specs.conditions.Recursion.{cond_gives}

-- it is the fold of the condition, which does not compute
pub gives_fold : (A : Type 0) (nothing : A) (step : Cond-F A → A) (condition : Cond) → cond_gives A nothing step condition ≡ fold-Cond A step condition
unfolding out-Cond out shown hidden shown-the_row-Cond-0 hidden-the_row-Cond-0 shape-the_row-Cond-0
gives_fold A nothing step (Literal truth) = sym (fold_out-Cond A step (Literal truth))
gives_fold A nothing step (Flag operand) = sym (fold_out-Cond A step (Flag operand))
gives_fold A nothing step (Same left right equal) = sym (fold_out-Cond A step (Same left right equal))
gives_fold A nothing step (Compare left how right) = sym (fold_out-Cond A step (Compare left how right))
gives_fold A nothing step (Not' s (more_of-Cond part end_of-Cond)) =
    ap (λ (x : A). step (Cond-F.Not x)) (gives_fold A nothing step part) ∙ sym (fold_out-Cond A step (Not' s (more_of-Cond part end_of-Cond)))
gives_fold A nothing step (And' s (more_of-Cond left end_of-Cond) t (more_of-Cond right end_of-Cond)) =
    (λ i. step (Cond-F.And (gives_fold A nothing step left i) (gives_fold A nothing step right i))) ∙ sym (fold_out-Cond A step (And' s (more_of-Cond left end_of-Cond) t (more_of-Cond right end_of-Cond)))
gives_fold A nothing step (Or' s (more_of-Cond left end_of-Cond) t (more_of-Cond right end_of-Cond)) =
    (λ i. step (Cond-F.Or (gives_fold A nothing step left i) (gives_fold A nothing step right i))) ∙ sym (fold_out-Cond A step (Or' s (more_of-Cond left end_of-Cond) t (more_of-Cond right end_of-Cond)))

-- ---- what it gives at each form with parts

module _ (A : Type 0) (nothing : A) (step : Cond-F A → A) where
  pub gives-Not : (part : Cond) → cond_gives A nothing step (Not part) ≡ step (Cond-F.Not (cond_gives A nothing step part))
  unfolding hidden-the_row-Cond-0 shape-the_row-Cond-0 hidden
  gives-Not part = refl

  pub gives-And : (left right : Cond) → cond_gives A nothing step (And left right) ≡ step (Cond-F.And (cond_gives A nothing step left) (cond_gives A nothing step right))
  unfolding hidden-the_row-Cond-0 shape-the_row-Cond-0 hidden
  gives-And left right = refl

  pub gives-Or : (left right : Cond) → cond_gives A nothing step (Or left right) ≡ step (Cond-F.Or (cond_gives A nothing step left) (cond_gives A nothing step right))
  unfolding hidden-the_row-Cond-0 shape-the_row-Cond-0 hidden
  gives-Or left right = refl
