-- What holds of a value that is answered.
use Rattle.std.proofs.Common.{◌≡◌, List, [], ◌∷◌, ◌++◌, Result, Ok, Err, IfOk, OnOk, sym, ap, ◌∙◌, append_assoc}

-- what follows of a value of itself follows of it where it is answered
pub if_ok : {T E : Type 0} → (result : Result T E) (P Q : T → Type 0) → ((value : T) → P value → Q value) → IfOk result P → IfOk result Q
if_ok (Ok value) P Q f h = f value h
if_ok (Err error) P Q f h = tt

-- one item was put behind a list, and is what was to be put there
pub ok_pushed : {X T E : Type 0} → (result : Result T E) (before after all : List X) (item one : X) →
    OnOk result (after ≡ before ++ item ∷ []) → item ≡ one → all ≡ one ∷ [] → IfOk result (λ _. after ≡ before ++ all)
ok_pushed {X} (Ok value) before after all item one h same is =
    h ∙ (ap (λ (x : X). before ++ x ∷ []) same ∙ ap (λ (xs : List X). before ++ xs) (sym is))
ok_pushed (Err error) before after all item one h same is = tt

-- some items were put behind a list, which are what was to be put there
pub ok_same : {X T E : Type 0} → (result : Result T E) (before after some all : List X) →
    IfOk result (λ _. after ≡ before ++ some) → all ≡ some → IfOk result (λ _. after ≡ before ++ all)
ok_same {X} (Ok value) before after some all h is = h ∙ ap (λ (xs : List X). before ++ xs) (sym is)
ok_same (Err error) before after some all h is = tt

-- some items were put behind a list, and then others
pub ok_both : {X T E : Type 0} → (result : Result T E) (before between after first second all : List X) →
    between ≡ before ++ first → IfOk result (λ _. after ≡ between ++ second) → all ≡ first ++ second → IfOk result (λ _. after ≡ before ++ all)
ok_both {X} (Ok value) before between after first second all one h is =
    h ∙ (ap (λ (xs : List X). xs ++ second) one ∙ (append_assoc before first second ∙ ap (λ (xs : List X). before ++ xs) (sym is)))
ok_both (Err error) before between after first second all one h is = tt
