-- A file of lemmas: what it proves need not be read to trust a clause.
--
-- Paths under others.
use Rattle.std.proofs.Common.{◌≡◌, ℕ, nat_eq, Bool, true, false, ◌&&◌, List, [], ◌∷◌, ◌++◌, refl, arith}
use Rattle.std.proofs.lemmas.Bool.{false≢true, eq-eqb}
use Rattle.aerie_base.specs.Paths.{is_prefix}

pub both_true : (first second : Bool) → (first && second) ≡ true → (first ≡ true) × (second ≡ true)
both_true true true h = (refl, refl)
both_true true false h = absurd (cc)
both_true false second h = absurd (cc)

pub same_number : (a b : ℕ) → nat_eq a b ≡ true → a ≡ b
same_number a b h = grind arith

pub under_itself : (path : List ℕ) → is_prefix path path ≡ true
under_itself [] = refl
under_itself (number ∷ path) = λ i. eq-eqb number number refl i && under_itself path i

pub under_shorter : (path more other : List ℕ) → is_prefix (path ++ more) other ≡ true → is_prefix path other ≡ true
under_shorter [] more other h = refl
under_shorter (number ∷ path) more [] h = absurd (false≢true h)
under_shorter (number ∷ path) more (first ∷ other) h =
    let fit = both_true (nat_eq number first) (is_prefix (path ++ more) other) h in
    λ i. fit.0 i && under_shorter path more other fit.1 i
