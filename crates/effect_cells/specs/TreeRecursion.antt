-- Recursion over a tree of effects that computes: what a tree gives, by what its items give.
use Rattle.std.proofs.Common.{List, [], ◌∷◌, map}
use Rattle.effect_cells.specs.declared.trees.Part.{Part, Emit, Child', Row_of-Part, end_of-Part, more_of-Part}
use Rattle.effect_cells.specs.declared.trees.Part.TheOpen.{Part-F, Tree-F}
use Rattle.effect_cells.specs.declared.trees.Tree.{Tree}

abbrev mutual
  -- what an item gives, by a step over one level for items and one for trees
  pub part_gives : (A B : Type 0) → (Part-F A B → A) → (Tree-F A B → B) → Part → A
  part_gives A B part tree (Emit on effect) = part (Part-F.Emit on effect)
  part_gives A B part tree (Child' _ items) = part (Part-F.Child (tree (record { items = items_give A B part tree items })))

  -- the same for each item of a child
  pub items_give : (A B : Type 0) → (Part-F A B → A) → (Tree-F A B → B) → {m : _} → Row_of-Part m → List A
  items_give A B part tree end_of-Part = []
  items_give A B part tree (more_of-Part item rest) = part_gives A B part tree item ∷ items_give A B part tree rest

-- what a tree gives
abbrev pub tree_gives : (A B : Type 0) → (Part-F A B → A) → (Tree-F A B → B) → Tree → B
tree_gives A B part tree t = tree (record { items = map (part_gives A B part tree) t.items })
