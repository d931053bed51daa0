-- A file of lemmas: what it proves need not be read to trust a clause.
--
-- The recursion over a tree is the tree's own, which does not compute.
use Rattle.std.proofs.Common.{◌≡◌, List, [], ◌∷◌, map, refl, sym, ap, ◌∙◌, subst}
use Rattle.effect_cells.specs.declared.trees.Part.{Part, Child, roll-Part, map-Part, fold-Part, fold-roll-Part, ind-Part}
use Rattle.effect_cells.specs.declared.trees.Part.TheBlock.{hidden-the_row-Part-0, shape-the_row-Part-0}
use Rattle.effect_cells.specs.declared.trees.Part.TheOpen.{Part-F, Tree-F}
use Rattle.effect_cells.specs.declared.trees.Tree.{Tree, roll-Tree, map-Tree, fold-Tree, fold_out-Tree}
use denote.Hole.Carrier.{hidden}
use Rattle.effect_cells.specs.TreeRecursion.{part_gives, items_give, tree_gives}

module _ (A B : Type 0) (part : Part-F A B → A) (tree : Tree-F A B → B) where
  row_is : (items : List Part) → items_give A B part tree (hidden-the_row-Part-0 items) ≡ map (part_gives A B part tree) items
  unfolding hidden-the_row-Part-0 shape-the_row-Part-0 hidden
  row_is [] = refl
  row_is (item ∷ rest) = ap (λ (gifts : List A). part_gives A B part tree item ∷ gifts) (row_is rest)

  -- what a child gives
  pub gives-Child : (t : Tree) → part_gives A B part tree (Child t) ≡ part (Part-F.Child (tree_gives A B part tree t))
  gives-Child t = λ i. part (Part-F.Child (tree (record { items = row_is t.items i })))

  -- ---- it is the tree's own recursion, which does not compute

  abbrev PartAgrees : Part → Type 0
  PartAgrees p = part_gives A B part tree p ≡ fold-Part A B part tree p

  abbrev TreeAgrees : Tree → Type 0
  TreeAgrees t = tree_gives A B part tree t ≡ fold-Tree A B part tree t

  emit_agrees : (on : _) (effect : _) → PartAgrees (roll-Part (Part-F.Emit on effect))
  unfolding roll-Part denote.Hole.Carrier.roll
  emit_agrees on effect = sym (fold-roll-Part A B part tree (Part-F.Emit on effect))

  child_agrees : (t : Tree) → TreeAgrees t → PartAgrees (roll-Part (Part-F.Child t))
  unfolding roll-Part denote.Hole.Carrier.roll
  child_agrees t agrees =
      gives-Child t ∙ ap (λ (b : B). part (Part-F.Child b)) agrees ∙ sym (fold-roll-Part A B part tree (Part-F.Child t))

  items_agree : (known : List ((p : Part) × PartAgrees p)) →
      map (part_gives A B part tree) (map (λ entry. entry.0) known) ≡ map (fold-Part A B part tree) (map (λ entry. entry.0) known)
  items_agree [] = refl
  items_agree (entry ∷ rest) = λ i. entry.1 i ∷ items_agree rest i

  part_step : (x : Part-F Part Tree) (y : Part-F ((p : Part) × PartAgrees p) ((t : Tree) × TreeAgrees t)) →
      map-Part _ _ _ _ (λ entry. entry.0) (λ entry. entry.0) y ≡ x → PartAgrees (roll-Part x)
  part_step x (Part-F.Emit on effect) e = subst (λ x. PartAgrees (roll-Part x)) e (emit_agrees on effect)
  part_step x (Part-F.Child entry) e = subst (λ x. PartAgrees (roll-Part x)) e (child_agrees entry.0 entry.1)

  tree_step : (x : Tree-F Part Tree) (y : Tree-F ((p : Part) × PartAgrees p) ((t : Tree) × TreeAgrees t)) →
      map-Tree _ _ _ _ (λ entry. entry.0) (λ entry. entry.0) y ≡ x → TreeAgrees (roll-Tree x)
  tree_step x y e =
      subst (λ x. TreeAgrees (roll-Tree x)) e
      (ap (λ (gifts : List A). tree (record { items = gifts })) (items_agree y.items)
      ∙ sym (fold_out-Tree A B part tree (record { items = map (λ (entry : (p : Part) × PartAgrees p). entry.0) y.items })))

  pub part_gives_fold : (p : Part) → part_gives A B part tree p ≡ fold-Part A B part tree p
  part_gives_fold = ind-Part PartAgrees TreeAgrees part_step tree_step

  pub tree_gives_fold : (t : Tree) → tree_gives A B part tree t ≡ fold-Tree A B part tree t
  tree_gives_fold t = ap (λ (gifts : List A). tree (record { items = gifts })) (all_agree t.items) ∙ sym (fold_out-Tree A B part tree t)
    where
      all_agree : (items : List Part) → map (part_gives A B part tree) items ≡ map (fold-Part A B part tree) items
      all_agree [] = refl
      all_agree (item ∷ rest) = λ i. part_gives_fold item i ∷ all_agree rest i
