-- Passes that are joining one after another.
use Rattle.std.proofs.Common.{◌≡◌, ℕ, zero, suc, ◌+◌, ◌<◌, ◌≤◌, inl, List, [], ◌∷◌, ◌++◌, length, refl, sym, ◌∙◌, subst, arith, append_assoc}
use Rattle.std.proofs.lemmas.List.{append-nil}
use mathlib.Core.Logic.{dite}
use native.Mathlib.Decide.{dec_le}
use Rattle.hangar_lock.specs.Passes.{IsWhole, joined_with, PassView}
use Rattle.hangar_lock.specs.Places.{HasPassNumber}
use Rattle.hangar_lock.specs.laws.JoinedPasses.{all_mine, AreNumbered, AreOfOneLock, joined_with_all}
use Rattle.hangar_lock.proofs.Places.{has_number_left, has_number_right}

pub joined_mine : (first : PassView) (passes : List PassView) → (joined_with_all first passes).mine ≡ first.mine ++ all_mine passes
joined_mine first [] = sym (append-nil first.mine)
joined_mine first (pass ∷ passes) = joined_mine (joined_with first pass) passes ∙ append_assoc first.mine pass.mine (all_mine passes)

-- what a pass stands for it still stands for when it took others in
still_stands : (first : PassView) (passes : List PassView) (n : ℕ) → HasPassNumber first.stands n → HasPassNumber (joined_with_all first passes).stands n
still_stands first [] n h = h
still_stands first (pass ∷ passes) n h = still_stands (joined_with first pass) passes n (has_number_left first.stands pass.stands n h)

joined_split : (first : PassView) (number : ℕ) (passes : List PassView) → AreNumbered number passes → (joined_with_all first passes).split ≡ first.split
joined_split first number [] h = refl
joined_split first number (pass ∷ passes) h =
    let none = h.1 in
    let same : first.split + pass.split ≡ first.split = omega (arith, none) in joined_split (joined_with first pass) (number + 1) passes h.2 ∙ same

stands_for : (first : PassView) (number : ℕ) (passes : List PassView) → AreNumbered number passes → (n : ℕ) → number < n → n ≤ number + length passes →
    HasPassNumber (joined_with_all first passes).stands n
stands_for first number [] h n low high = absurd (omega (arith, low, high))
stands_for first number (pass ∷ passes) h n low high = dite (dec_le n (number + 1))
    (λ le. let is : number + 1 ≡ n = omega (arith, le, low) in
    still_stands (joined_with first pass) passes n
    (has_number_right first.stands pass.stands n (subst (λ (l : List ℕ). HasPassNumber l n) (sym h.0) (inl is))))
    (λ more. stands_for (joined_with first pass) (number + 1) passes h.2 n (omega (arith, more)) (omega (arith, high)))

pub joined_whole : (first : PassView) (passes : List PassView) → AreOfOneLock first passes → IsWhole (joined_with_all first passes)
joined_whole first passes one = (root, numbers)
  where
    root : HasPassNumber (joined_with_all first passes).stands 0
    root = still_stands first passes 0 (subst (λ (l : List ℕ). HasPassNumber l 0) (sym one.root) (inl refl))

    split : (joined_with_all first passes).split ≡ length passes
    split = joined_split first 0 passes one.numbered ∙ one.split

    numbers : (n : ℕ) → n ≤ (joined_with_all first passes).split → HasPassNumber (joined_with_all first passes).stands n
    numbers zero h = root
    numbers (suc n) h = let s = split in stands_for first 0 passes one.numbered (suc n) (omega arith) (omega (arith, h, s))
