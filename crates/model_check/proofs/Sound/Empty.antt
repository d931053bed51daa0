-- What it says of the parts of a list of refusals that there is none in it.
use Rattle.std.proofs.Common.{◌≡◌, Bool, true, false, List, [], ◌∷◌, ◌++◌, Some, refl, sym, ap, ◌∙◌, arith, append_assoc}
use Rattle.aerie_base.specs.declared.places.Place.{Place}
use Rattle.aerie_base.specs.declared.values.Kind.{Kind}
use Rattle.aerie_base.specs.declared.values.Kind.TheVariants.{Int, Truth, Enum}
use Rattle.aerie_base.specs.expressions.Typing.{same_kind}
use Rattle.std.proofs.lemmas.Bool.Decides.{nat_tests}
use Rattle.diagnostics.specs.NotedInTurn.{holds_if_empty}
use Rattle.model_check.specs.Literals.{mismatch}

-- three, four or five lists that are empty together, the first of them and the others behind it
pub three : {A : Type 0} (a b c : List A) → a ++ b ++ c ≡ [] → a ++ (b ++ c) ≡ []
three a b c e = sym (append_assoc a b c) ∙ e

pub four : {A : Type 0} (a b c d : List A) → a ++ b ++ c ++ d ≡ [] → a ++ (b ++ (c ++ d)) ≡ []
four a b c d e = three a b (c ++ d) (sym (append_assoc (a ++ b) c d) ∙ e)

pub five : {A : Type 0} (a b c d f : List A) → a ++ b ++ c ++ d ++ f ≡ [] → a ++ (b ++ (c ++ (d ++ f))) ≡ []
five a b c d f e = four a b c (d ++ f) (sym (append_assoc (a ++ b ++ c) d f) ∙ e)

-- ---- types

pub same_kind_is : (a b : Kind) → same_kind a b ≡ true → a ≡ b
same_kind_is Int Int e = refl
same_kind_is Int Truth e = cc
same_kind_is Int (Enum b) e = cc
same_kind_is Truth Int e = cc
same_kind_is Truth Truth e = refl
same_kind_is Truth (Enum b) e = cc
same_kind_is (Enum a) Int e = cc
same_kind_is (Enum a) Truth e = cc
same_kind_is (Enum a) (Enum b) e = ap Enum (grind (arith, nat_tests))

pub same_kind_as : (a : Kind) → same_kind a a ≡ true
same_kind_as Int = refl
same_kind_as Truth = refl
same_kind_as (Enum a) = grind (arith, nat_tests)

pub same_kind_swapped : (a b : Kind) → same_kind a b ≡ true → same_kind b a ≡ true
same_kind_swapped a b e = ap (λ (k : Kind). same_kind b k) (same_kind_is a b e) ∙ same_kind_as b

pub kinds_match : (at : Place) (wanted found : Kind) → mismatch at (Some wanted) (Some found) ≡ [] → same_kind wanted found ≡ true
kinds_match at wanted found e = holds_if_empty (same_kind wanted found) _ at e
