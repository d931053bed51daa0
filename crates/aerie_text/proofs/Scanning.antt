-- What is read from a place on, in the steps of the scanner.
use Rattle.std.proofs.Common.{◌≡◌, ℕ, zero, suc, ◌+◌, ◌-◌, ◌<◌, ◌≤◌, ◌∙◌, List, [], ◌∷◌, ◌++◌, length, drop, Option, Some, None, Result, Ok, Err, refl, ap, sym, arith, append_assoc, append-nil}
use Rattle.std.specs.Prelude.{IfErr, IfOk, IsErr, IsErrAnd, MatchResult}
use Rattle.std.proofs.lemmas.List.{drop-drop, drop_all, length-drop}
use Rattle.std.specs.Str.{IsCharBoundary}
use Rattle.aerie_text.specs.Cut.{IsBadAtEdge}
use Rattle.aerie_text.specs.Gaps.{gap_len}
use Rattle.aerie_text.specs.TokenAt.{token_at}
use Rattle.aerie_text.specs.Tokens.{found_at, tokens_of, token, tokens_from, with_tokens}
use Rattle.aerie_text.specs.declared.token.Token.{Token}
use Rattle.aerie_text.specs.declared.text_error.TextError.{TextError}
use Rattle.aerie_text.specs.declared.text_error.TextError.TheVariants.{BadToken, OutOfMemory}
use Rattle.aerie_text.specs.declared.token.TokenKind.{TokenKind}
use Rattle.aerie_text.proofs.Beginnings.{token_facts}

-- the bytes that belong to what was read before are passed
skipped : (at n : ℕ) (text : List ℕ) → n ≤ length text → tokens_from at n text ≡ tokens_from (at + n) 0 (drop n text)
unfolding tokens_from
skipped at zero text le = ap (λ (m : ℕ). tokens_from m 0 text) (omega arith)
skipped at (suc n) [] le = absurd (omega arith)
skipped at (suc n) (b ∷ bs) le =
    let here : at + 1 + n ≡ at + suc n = omega arith in
    skipped (at + 1) n bs (omega arith) ∙ ap (λ (m : ℕ). tokens_from m 0 (drop n bs)) here

-- behind white space or a comment
past_gap : (at g : ℕ) (rest : List ℕ) → g ≡ gap_len rest → 0 < g → g ≤ length rest → tokens_from at 0 rest ≡ tokens_from (at + g) 0 (drop g rest)
unfolding tokens_from
past_gap at zero rest e lt le = absurd (omega arith)
past_gap at (suc g) [] e lt le = absurd (omega arith)
past_gap at (suc g) (b ∷ bs) e lt le =
    let here : at + 1 + g ≡ at + suc g = omega arith in
    rw (sym e) (skipped (at + 1) g bs (omega arith) ∙ ap (λ (m : ℕ). tokens_from m 0 (drop g bs)) here)

-- no token begins
none_here : (at : ℕ) (rest : List ℕ) → 0 < length rest → gap_len rest ≡ 0 → token_at rest ≡ None → tokens_from at 0 rest ≡ Err at
unfolding tokens_from
none_here at [] lt g t = absurd (omega arith)
none_here at (b ∷ bs) lt g t = rw (g, t) refl

-- behind a token
past_token : (at : ℕ) (rest : List ℕ) (kind : TokenKind) (n : ℕ) → gap_len rest ≡ 0 → token_at rest ≡ Some (kind, n) → 0 < n → n ≤ length rest
    → tokens_from at 0 rest ≡ with_tokens (token at kind n ∷ []) (tokens_from (at + n) 0 (drop n rest))
unfolding tokens_from
past_token at rest kind zero g t lt le = absurd (omega arith)
past_token at [] kind (suc n) g t lt le = absurd (omega arith)
past_token at (b ∷ bs) kind (suc n) g t lt le =
    let here : at + 1 + n ≡ at + suc n = omega arith in
    let less : suc n - 1 ≡ n = omega arith in
    rw (g, t, less) (ap (with_tokens (token at kind (suc n) ∷ [])) (skipped (at + 1) n bs (omega arith) ∙ ap (λ (m : ℕ). tokens_from m 0 (drop n bs)) here))

-- ---- at places of one text

pub gap_step : (text : List ℕ) (at g : ℕ) → at < length text → g ≡ gap_len (drop at text) → 0 < g → g ≤ length (drop at text)
    → tokens_from at 0 (drop at text) ≡ tokens_from (at + g) 0 (drop (at + g) text)
gap_step text at g lt e positive le =
    past_gap at g (drop at text) e positive le ∙ ap (tokens_from (at + g) 0) (drop-drop g at text)

pub bad_step : (text : List ℕ) (at : ℕ) → at < length text → gap_len (drop at text) ≡ 0 → token_at (drop at text) ≡ None → tokens_from at 0 (drop at text) ≡ Err at
bad_step text at lt g t = none_here at (drop at text) (omega (arith, length-drop at text)) g t

pub token_step : (text : List ℕ) (at : ℕ) (kind : TokenKind) (n : ℕ) → gap_len (drop at text) ≡ 0 → token_at (drop at text) ≡ Some (kind, n) → 0 < n → n ≤ length (drop at text)
    → tokens_from at 0 (drop at text) ≡ with_tokens (token at kind n ∷ []) (tokens_from (at + n) 0 (drop (at + n) text))
token_step text at kind n g t positive le =
    past_token at (drop at text) kind n g t positive le
    ∙ ap (λ (l : List ℕ). with_tokens (token at kind n ∷ []) (tokens_from (at + n) 0 l)) (drop-drop n at text)

pub end_step : (text : List ℕ) (at : ℕ) → length text ≤ at → tokens_from at 0 (drop at text) ≡ Ok []
unfolding tokens_from
end_step text at le = rw (drop_all at text le) refl

pub regroup : (before more : List Token) (r : Result (List Token) ℕ) → with_tokens before (with_tokens more r) ≡ with_tokens (before ++ more) r
regroup before more (Ok behind) = ap (λ (l : List Token). Ok l) (sym (append_assoc before more behind))
regroup before more (Err at) = refl

-- ---- in the scanner's loop: the tokens before a place and what is read from there on are the whole

none_before : (r : Result (List Token) ℕ) → with_tokens [] r ≡ r
none_before (Ok tokens) = refl
none_before (Err at) = refl

pub at_start : (text : List ℕ) → with_tokens [] (tokens_from 0 0 (drop 0 text)) ≡ tokens_of text
unfolding tokens_of
at_start text = none_before (tokens_from 0 0 text)

pub at_end : (tokens : List Token) (text : List ℕ) (at : ℕ) (total : Result (List Token) ℕ) → length text ≤ at
    → with_tokens tokens (tokens_from at 0 (drop at text)) ≡ total → total ≡ Ok tokens
at_end tokens text at total le so_far =
    let whole : with_tokens tokens (tokens_from at 0 (drop at text)) ≡ Ok tokens = rw (end_step text at le) (ap (λ (l : List Token). Ok l) (append-nil tokens)) in
    sym so_far ∙ whole

pub gap_read : (tokens : List Token) (text : List ℕ) (at g : ℕ) (total : Result (List Token) ℕ) → at < length text → g ≡ gap_len (drop at text) → 0 < g → g ≤ length (drop at text)
    → with_tokens tokens (tokens_from at 0 (drop at text)) ≡ total → with_tokens tokens (tokens_from (at + g) 0 (drop (at + g) text)) ≡ total
gap_read tokens text at g total lt e positive le so_far = ap (with_tokens tokens) (sym (gap_step text at g lt e positive le)) ∙ so_far

-- the token that was found
pub record Found (at : ℕ) (t : Token) (found : Option (TokenKind × ℕ)) : Type 0 where
  pub kind : TokenKind
  pub len : ℕ
  pub is : found ≡ Some (kind, len)
  pub same : t ≡ token at kind len

pub found_ok : (at : ℕ) (t : Token) (found : Option (TokenKind × ℕ)) → Ok t ≡ found_at at found → Found at t found
found_ok at t None e = absurd (cc)
found_ok at t (Some (kind, len)) e = record { kind = kind; len = len; is = refl; same = cc }

pub found_bad : (at : ℕ) (e : TextError) (found : Option (TokenKind × ℕ)) → Err e ≡ found_at at found → (e ≡ BadToken at) × (found ≡ None)
found_bad at e None same = (cc, refl)
found_bad at e (Some (kind, len)) same = absurd (cc)

pub token_read : (tokens : List Token) (text : List ℕ) (at : ℕ) (t : Token) (total : Result (List Token) ℕ) → gap_len (drop at text) ≡ 0 → Ok t ≡ found_at at (token_at (drop at text))
    → with_tokens tokens (tokens_from at 0 (drop at text)) ≡ total → with_tokens (tokens ++ t ∷ []) (tokens_from t.to 0 (drop t.to text)) ≡ total
token_read tokens text at t total g ok so_far =
    let found = found_ok at t (token_at (drop at text)) ok in
    let facts = token_facts (drop at text) found.kind found.len found.is in
    let one = token_step text at found.kind found.len g found.is facts.positive facts.within in
    rw (found.same) (sym (regroup tokens (token at found.kind found.len ∷ []) (tokens_from (at + found.len) 0 (drop (at + found.len) text))) ∙ ap (with_tokens tokens) (sym one) ∙ so_far)

pub bad_read : (tokens : List Token) (text : List ℕ) (at : ℕ) (e : TextError) (total : Result (List Token) ℕ) → at < length text → gap_len (drop at text) ≡ 0 → Err e ≡ found_at at (token_at (drop at text))
    → with_tokens tokens (tokens_from at 0 (drop at text)) ≡ total → (place : ℕ) → e ≡ BadToken place → total ≡ Err place
bad_read tokens text at e total lt g bad so_far place named =
    let found = found_bad at e (token_at (drop at text)) bad in
    let here : at ≡ place = cc in
    let whole : with_tokens tokens (tokens_from at 0 (drop at text)) ≡ Err at = rw (bad_step text at lt g found.1) refl in
    sym so_far ∙ whole ∙ ap (λ (n : ℕ). Err n) here

-- what holds of an error, where there is one
pub err_case : {T E : Type 0} (r : Result T E) (P : T → Type 0) (Q R : E → Type 0) → IsErr r → IsErrAnd r R → ((e : E) → R e → Q e) → MatchResult r P Q
err_case (Ok x) P Q R is and leads = absurd (cc)
err_case (Err e) P Q R is and leads = leads e and

pub ok_case : {T E : Type 0} (r : Result T E) (P S : T → Type 0) (Q : E → Type 0) → MatchResult r P Q → ((x : T) → P x → S x) → IfOk r S
ok_case (Ok x) P S Q cases leads = leads x cases
ok_case (Err e) P S Q cases leads = tt

pub bad_case : {T : Type 0} (r : Result T TextError) (P : T → Type 0) (S : ℕ → Type 0) → MatchResult r P (λ e. (at : ℕ) → e ≡ BadToken at → S at) → (at : ℕ) → r ≡ Err (BadToken at) → S at
bad_case (Ok x) P S cases at e = absurd (cc)
bad_case (Err bad) P S cases at e = cases at (cc)

-- the same of the error, by its cases
pub bad_case_of : {T : Type 0} (text : List ℕ) (r : Result T TextError) (P : T → Type 0) (S : ℕ → Type 0) → MatchResult r P (λ e. (at : ℕ) → e ≡ BadToken at → S at)
    → ((at : ℕ) → S at → IsCharBoundary text at) → IfErr r (IsBadAtEdge text)
bad_case_of text (Ok x) P S cases leads = tt
bad_case_of text (Err (BadToken at)) P S cases leads = leads at (cases at refl)
bad_case_of text (Err OutOfMemory) P S cases leads = tt
