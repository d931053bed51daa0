-- One value more behind a list that is filled up to a length.
use Rattle.std.proofs.Common.{◌≡◌, ℕ, suc, ◌-◌, ◌<◌, List, [], ◌∷◌, ◌++◌, length, replicate, append_assoc, length-append, ap, ◌∙◌, arith}

pub one_filled : {A : Type 0} (items : List A) (value : A) (size : ℕ) → length items < size →
    (items ++ value ∷ []) ++ replicate (size - length (items ++ value ∷ [])) value ≡ items ++ replicate (size - length items) value
one_filled items value size less =
    let long = length-append items (value ∷ []) in
    let fewer : suc (size - length (items ++ value ∷ [])) ≡ size - length items = omega (arith, long, less) in
    append_assoc items (value ∷ []) (replicate (size - length (items ++ value ∷ [])) value) ∙ ap (λ n. items ++ replicate n value) fewer
