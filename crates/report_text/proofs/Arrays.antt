-- An array is written item by item.
use Rattle.std.proofs.Common.{◌≡◌, ◌<◌, ◌≤◌, ◌+◌, ◌++◌, ◌∷◌, ◌∙◌, [], ℕ, ap, arith, drop, get_or, length, map, suc, sym}
use Rattle.std.specs.Prelude.{List}
use Rattle.std.proofs.Math.Seq.{drop-cons, drop-length}
use Rattle.json.specs.Token.{Token, begin_array, end_array}
use Rattle.serde_json.specs.Data.{Data, array}
use Rattle.serde_json.specs.View.{items_of}
use Rattle.json_line.specs.Parts.{data_tokens, with_items}
use Rattle.json_line.proofs.Steps.{array_ends, array_opens, item_next}

module _ {A : Type 0} (form : A → Data) (all : List A) where
  -- what is written, with the items that are left from a position on
  abbrev pub with_left : List Token → ℕ → List Token
  with_left line at = with_items line (items_of (map form (drop at all)))

  abbrev pub whole : List Token → List Token
  whole front = front ++ data_tokens (array (items_of (map form all)))

  pub begins : (front line : List Token) → line ≡ front ++ begin_array ∷ [] → with_left line 0 ≡ whole front
  begins front line opened = ap (λ (tokens : List Token). with_left tokens 0) opened ∙ sym (array_opens front (items_of (map form all)))

  pub goes_on : (front line next : List Token) (at : ℕ) (one : A) → at < length all → one ≡ get_or all at one → next ≡ line ++ data_tokens (form one) →
      with_left line at ≡ whole front → with_left next (at + 1) ≡ whole front
  goes_on front line next at one within is written so_far =
      let one_on : suc at ≡ at + 1 = omega arith in
      ap (λ (tokens : List Token). with_left tokens (at + 1)) written
      ∙ sym (item_next line (form one) (items_of (map form (drop (at + 1) all))))
      ∙ ap (λ (a : A). with_items line (items_of (map form (a ∷ drop (at + 1) all)))) is
      ∙ ap (λ (k : ℕ). with_items line (items_of (map form (get_or all at one ∷ drop k all)))) (sym one_on)
      ∙ ap (λ (left : List A). with_items line (items_of (map form left))) (sym (drop-cons all at one within))
      ∙ so_far

  pub is_whole : (front line : List Token) (at : ℕ) → at ≤ length all → length all ≤ at → with_left line at ≡ whole front → line ++ end_array ∷ [] ≡ whole front
  is_whole front line at below above so_far =
      let end : at ≡ length all = omega (arith, below, above) in
      sym (array_ends line)
      ∙ ap (λ (left : List A). with_items line (items_of (map form left))) (sym (ap (λ (k : ℕ). drop k all) end ∙ drop-length all))
      ∙ so_far
