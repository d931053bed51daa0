-- Segments one behind another.
use Rattle.std.proofs.Common.{◌≡◌, ℕ, suc, ◌+◌, ◌<◌, List, [], ◌∷◌, ◌++◌, length, get_or, map, drop, drop-cons, add-one, append_assoc, Option, Some, None, Result, Ok, Err, refl, sym, ap, ◌∙◌}
use Rattle.serde_json.specs.Data.{Data}
use Rattle.serde_json.specs.View.{view}
use Rattle.serde_json.specs.declared.value.Value.{Value}
use Rattle.dataset_in.specs.declared.dataset_error.DatasetError.{DatasetError}
use Rattle.dataset_in.specs.declared.dataset_error.DatasetError.TheVariants.{BadSegment}
use Rattle.dataset_in.specs.Datasets.{put_first, then_entry, next_entry, entries_behind}

-- the segments so far, and those behind them
abbrev pub joined : {A : Type 0} → List A → Result (List A) DatasetError → Result (List A) DatasetError
joined entries (Ok rest) = Ok (entries ++ rest)
joined entries (Err refusal) = Err refusal

pub joined_none : {A : Type 0} (rest : Result (List A) DatasetError) → rest ≡ joined [] rest
joined_none (Ok rest) = refl
joined_none (Err refusal) = refl

joined_front : {A : Type 0} (entries : List A) (next : A) (rest : Result (List A) DatasetError) → joined entries (put_first next rest) ≡ joined (entries ++ next ∷ []) rest
joined_front entries next (Ok rest) = ap Ok (sym (append_assoc entries (next ∷ []) rest))
joined_front entries next (Err refusal) = refl

-- the row with this number, and those behind it
cut : (rows : List Value) (number : ℕ) (row : Value) → number < length rows → row ≡ get_or rows number row →
    map view (drop number rows) ≡ view row ∷ map view (drop (number + 1) rows)
cut rows number row within is =
    let first : drop number rows ≡ row ∷ drop (number + 1) rows =
    rw (add-one, drop-cons rows number row) (ap (λ x. x ∷ drop (suc number) rows) (sym is)) in
    ap (map view) first

module _ {A : Type 0} (entry : Data → Option A) (from : A → ℕ) where
  -- a segment more
  pub one_more : (entries : List A) (last : Option ℕ) (number : ℕ) (rows : List Value) (row : Value) (next : A) → number < length rows →
      row ≡ get_or rows number row → Some next ≡ next_entry entry from last (view row) →
      joined entries (entries_behind entry from last number (map view (drop number rows)))
      ≡ joined (entries ++ next ∷ []) (entries_behind entry from (Some (from next)) (number + 1) (map view (drop (number + 1) rows)))
  one_more entries last number rows row next within is found =
      ap (λ (left : List Data). joined entries (entries_behind entry from last number left)) (cut rows number row within is)
      ∙ ap (λ (o : Option A). joined entries (then_entry number (λ x. entries_behind entry from (Some (from x)) (number + 1) (map view (drop (number + 1) rows))) o)) (sym found)
      ∙ joined_front entries next (entries_behind entry from (Some (from next)) (number + 1) (map view (drop (number + 1) rows)))

  -- a row that gives none
  pub none_here : (entries : List A) (last : Option ℕ) (number : ℕ) (rows : List Value) (row : Value) → number < length rows →
      row ≡ get_or rows number row → None ≡ next_entry entry from last (view row) →
      joined entries (entries_behind entry from last number (map view (drop number rows))) ≡ Err (BadSegment number)
  none_here entries last number rows row within is found =
      ap (λ (left : List Data). joined entries (entries_behind entry from last number left)) (cut rows number row within is)
      ∙ ap (λ (o : Option A). joined entries (then_entry number (λ x. entries_behind entry from (Some (from x)) (number + 1) (map view (drop (number + 1) rows))) o)) (sym found)
