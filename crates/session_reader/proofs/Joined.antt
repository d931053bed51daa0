-- Answers one after another: those so far, and those of the rest.
use Rattle.std.proofs.Common.{◌≡◌, ℕ, ◌+◌, ◌<◌, List, [], ◌∷◌, ◌++◌, Ok, Err, length, get_or, drop, refl, sym, ap, ◌∙◌, append_assoc}
use Rattle.session_reader.specs.declared.session_error.SessionError.{SessionError}
use Rattle.session_reader.specs.Answers.{Answer, in_front}
use Rattle.diagnostics.specs.Iterations.{next_left}

-- these in front of the rest, where there is one
abbrev pub joined_on : {A : Type 0} → List A → Answer (List A) → Answer (List A)
joined_on so_far (Ok rest) = Ok (so_far ++ rest)
joined_on so_far (Err refusal) = Err refusal

pub joined_none : {A : Type 0} → (rest : Answer (List A)) → rest ≡ joined_on [] rest
joined_none (Ok rest) = refl
joined_none (Err refusal) = refl

joined_more : {A : Type 0} → (so_far : List A) (one : A) (rest : Answer (List A)) → joined_on so_far (in_front (Ok one) rest) ≡ joined_on (so_far ++ one ∷ []) rest
joined_more so_far one (Ok rest) = ap Ok (sym (append_assoc so_far (one ∷ []) rest))
joined_more so_far one (Err refusal) = refl

module _ {X A : Type 0} (answer : ℕ → X → Answer A) (all : ℕ → List X → Answer (List A))
    (cons : (number : ℕ) (x : X) (rest : List X) → all number (x ∷ rest) ≡ in_front (answer number x) (all (number + 1) rest)) where
  -- the next one is made
  pub one_on : (so_far : List A) (xs : List X) (i : ℕ) (x : X) (made : A) → i < length xs → x ≡ get_or xs i x → answer i x ≡ Ok made →
      joined_on so_far (all i (drop i xs)) ≡ joined_on (so_far ++ made ∷ []) (all (i + 1) (drop (i + 1) xs))
  one_on so_far xs i x made lt is h =
      ap (λ (left : List X). joined_on so_far (all i left)) (next_left xs i x lt is)
      ∙ (ap (joined_on so_far) (cons i x (drop (i + 1) xs))
      ∙ (ap (λ (a : Answer A). joined_on so_far (in_front a (all (i + 1) (drop (i + 1) xs)))) h
      ∙ joined_more so_far made (all (i + 1) (drop (i + 1) xs))))

  -- the next one is refused
  pub stops_here : (so_far : List A) (xs : List X) (i : ℕ) (x : X) (refusal : SessionError) → i < length xs → x ≡ get_or xs i x → answer i x ≡ Err refusal →
      joined_on so_far (all i (drop i xs)) ≡ Err refusal
  stops_here so_far xs i x refusal lt is h =
      ap (λ (left : List X). joined_on so_far (all i left)) (next_left xs i x lt is)
      ∙ (ap (joined_on so_far) (cons i x (drop (i + 1) xs))
      ∙ ap (λ (a : Answer A). joined_on so_far (in_front a (all (i + 1) (drop (i + 1) xs)))) h)
