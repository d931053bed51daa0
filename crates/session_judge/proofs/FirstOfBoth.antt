-- The first of three refusals does not depend on which two are compared first.
use Rattle.std.proofs.Common.{◌≡◌, ℕ, ◌<◌, Bool, true, false, ltb, List, [], ◌∷◌, ◌++◌, Option, Some, None, Ok, Err, refl, ap, arith, append_assoc, append-nil}
use Rattle.std.proofs.lemmas.Bool.{ltb-true, lt-ltb}
use Rattle.session_judge.specs.FirstRefused.{RulesAnswer, SectionRefusal, first_of_both, first_of_two, in_front_of}

not_below : (x y z : ℕ) → ltb y x ≡ false → ltb z y ≡ false → z < x → ⊥
not_below x y z p q lt = grind arith

chosen : (a b c : SectionRefusal) (ab bc ac : Bool) → ltb b.0 a.0 ≡ ab → ltb c.0 b.0 ≡ bc → ltb c.0 a.0 ≡ ac
    → first_of_two (first_of_two a b) c ≡ first_of_two a (first_of_two b c)
chosen a b c true true ac e1 e2 e3 =
    let lt : ltb c.0 a.0 ≡ true = lt-ltb c.0 a.0 (omega (arith, ltb-true b.0 a.0 e1, ltb-true c.0 b.0 e2)) in
    rw (e1, e2, lt) refl
chosen a b c true false ac e1 e2 e3 = rw (e1, e2, e1) refl
chosen a b c false true ac e1 e2 e3 = rw (e1, e2) refl
chosen a b c false false true e1 e2 e3 = absurd (not_below a.0 b.0 c.0 e1 e2 (ltb-true c.0 a.0 e3))
chosen a b c false false false e1 e2 e3 = rw (e1, e2, e3, e1) refl

-- of three refusals
pub first_of_three : (a b c : Option SectionRefusal) → first_of_both (first_of_both a b) c ≡ first_of_both a (first_of_both b c)
first_of_three None b c = refl
first_of_three (Some a) None None = refl
first_of_three (Some a) None (Some c) = refl
first_of_three (Some a) (Some b) None = refl
first_of_three (Some a) (Some b) (Some c) = ap Some (chosen a b c (ltb b.0 a.0) (ltb c.0 b.0) (ltb c.0 a.0) refl refl refl)

-- rules that are taken one after another
pub taken_on : {A : Type 0} (before later : List A) (answer : RulesAnswer A) → (before ++ in_front_of answer []) ++ later ≡ before ++ in_front_of answer later
taken_on before later (Ok rules) = append_assoc before (rules ∷ []) later
taken_on {A} before later (Err refusal) = ap (λ (row : List A). row ++ later) (append-nil before)
