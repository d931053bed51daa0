-- What stands under a task.
use Rattle.std.proofs.Common.{◌≡◌, ◌≢◌, ◌⊎◌, inl, inr, ℕ, zero, suc, ◌+◌, ◌<◌, ◌≤◌, nat_eq, Bool, true, false, List, [], ◌∷◌, length, Option, Some, None, refl, sym, ap, ◌∙◌, arith}
use Rattle.std.proofs.lemmas.Bool.{false≢true}
use Rattle.std.proofs.lemmas.List.{length-append}
use Rattle.aerie_base.specs.Paths.{child_path, is_prefix}
use Rattle.run_data.specs.laws.PathsUnder.{both_true, same_number}
use Rattle.run_data.specs.laws.LiveAfterFrames.{prefix_child}
use Rattle.live_tasks.specs.declared.slots.Slot.{Slot}
use Rattle.live_tasks.specs.Slots.{Slots, slot_at, IsRoot, StandsUnder, live_children_of, IsForest}
use Rattle.live_tasks.proofs.Counts.{child_counts}

prefix_all : (path other : List ℕ) → is_prefix path other ≡ true → length other ≤ length path → path ≡ other
prefix_all [] [] under less = refl
prefix_all [] (number ∷ other) under less = absurd (omega arith)
prefix_all (number ∷ path) [] under less = absurd (false≢true under)
prefix_all (number ∷ path) (again ∷ other) under less =
    let fit = both_true (nat_eq number again) (is_prefix path other) under in
    let further = prefix_all path other fit.1 (omega arith) in
    λ i. same_number number again fit.0 i ∷ further i

pub root_length : (path : List ℕ) → IsRoot path → length path ≡ 2
root_length path (inl r) = ap length r.1
root_length path (inr r) = ap length r.1

pub below_length : (path above : List ℕ) (own : ℕ) → path ≡ child_path above own → length path ≡ length above + 1
below_length path above own e = ap length e ∙ length-append above (own ∷ [])

-- whether two numbers are one
pub same_or_not : (n m : ℕ) → (n ≡ m) ⊎ (n ≢ m)
same_or_not n m = by (nat_eq n m) refl
  where
    apart : nat_eq n m ≡ false → n ≡ m → ⊥
    apart e same = grind arith

    by : (b : Bool) → nat_eq n m ≡ b → (n ≡ m) ⊎ (n ≢ m)
    by true e = inl (same_number n m e)
    by false e = inr (apart e)

module _ (slots : Slots) (forest : IsForest slots) where
  long_by : (most number : ℕ) (slot : Slot) → length slot.path < most → slot_at slots number ≡ Some slot → 2 ≤ length slot.path
  long_by zero number slot short at = absurd (omega arith)
  long_by (suc most) number slot short at = by slot.parent (forest.stands number slot at) (λ n s less there. long_by most n s less there)
    where
      by : (parent : Option ℕ) → StandsUnder slots slot.path slot.own parent → ((n : ℕ) (s : Slot) → length s.path < most → slot_at slots n ≡ Some s → 2 ≤ length s.path) → 2 ≤ length slot.path
      by None is further = let l = root_length slot.path is in omega (arith, l)
      by (Some parent) below further =
          let l = below_length slot.path below.above.path slot.own below.is in
          let m = further parent below.above (omega (arith, l, short)) below.there in omega (arith, l, m)

  pub long_path : (number : ℕ) (slot : Slot) → slot_at slots number ≡ Some slot → 2 ≤ length slot.path
  long_path number slot at = long_by (length slot.path + 1) number slot (omega arith) at

  module _ (number : ℕ) (slot : Slot) (here : slot_at slots number ≡ Some slot) where
    below_by : (most other : ℕ) (second : Slot) → length second.path < most → slot_at slots other ≡ Some second → is_prefix slot.path second.path ≡ true → (number ≡ other) ⊎ (1 ≤ live_children_of number slots)
    below_by zero other second short at up = absurd (omega arith)
    below_by (suc most) other second short at up = by second.parent refl (forest.stands other second at) (λ n s less there above. below_by most n s less there above)
      where
        by : (parent : Option ℕ) → second.parent ≡ parent → StandsUnder slots second.path second.own parent →
            ((n : ℕ) (s : Slot) → length s.path < most → slot_at slots n ≡ Some s → is_prefix slot.path s.path ≡ true → (number ≡ n) ⊎ (1 ≤ live_children_of number slots)) →
            (number ≡ other) ⊎ (1 ≤ live_children_of number slots)
        by None e is further =
            let l = root_length second.path is in
            let m = long_path number slot here in
            inl (forest.distinct number other slot second here at (prefix_all slot.path second.path up (omega (arith, l, m))))
        by (Some parent) e below further = go (prefix_child slot.path below.above.path second.own (ap (is_prefix slot.path) (sym below.is) ∙ up))
          where
            deep : (number ≡ parent) ⊎ (1 ≤ live_children_of number slots) → (number ≡ other) ⊎ (1 ≤ live_children_of number slots)
            deep (inl same) = inr (child_counts number slots other second at (e ∙ ap Some (sym same)))
            deep (inr count) = inr count

            go : (slot.path ≡ child_path below.above.path second.own) ⊎ (is_prefix slot.path below.above.path ≡ true) → (number ≡ other) ⊎ (1 ≤ live_children_of number slots)
            go (inl same) = inl (forest.distinct number other slot second here at (same ∙ sym below.is))
            go (inr above) =
                let l = below_length second.path below.above.path second.own below.is in
                deep (further parent below.above (omega (arith, l, short)) below.there above)

    -- a task under this one is it, or this one has a child
    pub below_child : (other : ℕ) (second : Slot) → slot_at slots other ≡ Some second → is_prefix slot.path second.path ≡ true → (number ≡ other) ⊎ (1 ≤ live_children_of number slots)
    below_child other second at up = below_by (length second.path + 1) other second (omega arith) at up
