-- The violations of constraints, one constraint after another.
use Rattle.std.proofs.Common.{◌≡◌, ◌<◌, ◌≤◌, ◌+◌, ◌++◌, ◌∙◌, ℕ, ap, append_assoc, append-nil, arith, drop, get_or, length, suc, sym}
use Rattle.std.specs.Prelude.{List, flat_map, map}
use Rattle.std.proofs.Math.Seq.{drop-cons, drop-length}
use Rattle.json.specs.Token.{Token}
use Rattle.serde_json.specs.Data.{Data}
use Rattle.json_line.specs.Parts.{data_tokens, listed_tokens}
use Rattle.json_line.proofs.Steps.{listed_append}

module _ {A : Type 0} (form : A → List Data) (all : List A) where
  -- what is written, with what is left from a position on
  abbrev pub with_left : List Token → ℕ → List Token
  with_left line at = line ++ listed_tokens (flat_map form (drop at all))

  pub goes_on : (line next : List Token) (at : ℕ) (one : A) → at < length all → one ≡ get_or all at one → next ≡ line ++ listed_tokens (form one) →
      with_left next (at + 1) ≡ with_left line at
  goes_on line next at one within is written =
      let one_on : suc at ≡ at + 1 = omega arith in
      ap (λ (tokens : List Token). with_left tokens (at + 1)) written
      ∙ append_assoc line (listed_tokens (form one)) (listed_tokens (flat_map form (drop (at + 1) all)))
      ∙ ap (λ (tokens : List Token). line ++ tokens) (sym (listed_append (form one) (flat_map form (drop (at + 1) all))))
      ∙ ap (λ (a : A). line ++ listed_tokens (form a ++ flat_map form (drop (at + 1) all))) is
      ∙ ap (λ (k : ℕ). line ++ listed_tokens (form (get_or all at one) ++ flat_map form (drop k all))) (sym one_on)
      ∙ ap (λ (left : List A). line ++ listed_tokens (flat_map form left)) (sym (drop-cons all at one within))

  -- nothing is left
  pub ends : (line whole : List Token) (at : ℕ) → at ≤ length all → length all ≤ at → with_left line at ≡ whole → line ≡ whole
  unfolding listed_tokens
  ends line whole at below above so_far =
      let end : at ≡ length all = omega (arith, below, above) in
      sym (append-nil line)
      ∙ ap (λ (left : List A). line ++ listed_tokens (flat_map form left)) (sym (ap (λ (k : ℕ). drop k all) end ∙ drop-length all))
      ∙ so_far

module _ {A : Type 0} (form : A → Data) (all : List A) where
  -- what is written, with the items that are left from a position on
  abbrev pub one_by_one : List Token → ℕ → List Token
  one_by_one line at = line ++ listed_tokens (map form (drop at all))

  pub one_goes_on : (line next : List Token) (at : ℕ) (one : A) → at < length all → one ≡ get_or all at one → next ≡ line ++ data_tokens (form one) →
      one_by_one next (at + 1) ≡ one_by_one line at
  unfolding listed_tokens
  one_goes_on line next at one within is written =
      let one_on : suc at ≡ at + 1 = omega arith in
      ap (λ (tokens : List Token). one_by_one tokens (at + 1)) written
      ∙ append_assoc line (data_tokens (form one)) (listed_tokens (map form (drop (at + 1) all)))
      ∙ ap (λ (a : A). line ++ (data_tokens (form a) ++ listed_tokens (map form (drop (at + 1) all)))) is
      ∙ ap (λ (k : ℕ). line ++ (data_tokens (form (get_or all at one)) ++ listed_tokens (map form (drop k all)))) (sym one_on)
      ∙ ap (λ (left : List A). line ++ listed_tokens (map form left)) (sym (drop-cons all at one within))

  -- nothing is left
  pub one_ends : (line whole : List Token) (at : ℕ) → at ≤ length all → length all ≤ at → one_by_one line at ≡ whole → line ≡ whole
  unfolding listed_tokens
  one_ends line whole at below above so_far =
      let end : at ≡ length all = omega (arith, below, above) in
      sym (append-nil line)
      ∙ ap (λ (left : List A). line ++ listed_tokens (map form left)) (sym (ap (λ (k : ℕ). drop k all) end ∙ drop-length all))
      ∙ so_far
