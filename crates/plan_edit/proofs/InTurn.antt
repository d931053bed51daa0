-- What is made one behind another, up to the first refusal.
use Rattle.std.proofs.Common.{◌≡◌, List, [], ◌∷◌, ◌++◌, Result, Ok, Err, refl, sym, ap}
use Rattle.std.proofs.lemmas.List.{append_assoc}
use Rattle.plan_edit.specs.Answers.{put_in_front}

-- the rest behind those so far
abbrev pub joined_on : {A E : Type 0} → List A → Result (List A) E → Result (List A) E
joined_on all (Ok rest) = Ok (all ++ rest)
joined_on all (Err refusal) = Err refusal

pub joined_none : {A E : Type 0} (rest : Result (List A) E) → rest ≡ joined_on [] rest
joined_none (Ok rest) = refl
joined_none (Err refusal) = refl

pub joined_more : {A E : Type 0} (all : List A) (one : A) (rest : Result (List A) E) → joined_on all (put_in_front (Ok one) rest) ≡ joined_on (all ++ one ∷ []) rest
joined_more all one (Ok rest) = ap Ok (sym (append_assoc all (one ∷ []) rest))
joined_more all one (Err refusal) = refl
