-- What is read is a series: its segments rise from 0, and their numbers and rates are in range.
use Rattle.std.proofs.Common.{◌≡◌, ℕ, ◌+◌, ℤ, Bool, true, false, List, [], ◌∷◌, length, map, nat_eq, nat_lt, Option, Some, None, IfSome, option_map, option_and_then, Result, Ok, Err, IfOk, refl, arith, if◌then◌else◌}
use Rattle.std.proofs.lemmas.Grind.{common_steps}
use Rattle.std.proofs.lemmas.Result.{IfOk-weaker}
use Rattle.std.proofs.lemmas.List.Elements.{All-cons, All-nil}
use Rattle.std.specs.List.{All}
use Rattle.serde_json.specs.Data.{Data}
use Rattle.aerie_base.specs.Ranges.{IsNumber, IsRate, is_number, is_rate, checked_number}
use Rattle.aerie_base.specs.UnlessMemory.{UnlessMemory}
use Rattle.aerie_base.specs.UnlessMemoryLaws.{answered as answered_by}
use Rattle.windows.specs.declared.segments.Segment.{Segment}
use Rattle.dataset_in.specs.declared.series.Series.{Series}
use Rattle.dataset_in.specs.declared.series.Series.TheVariants.{Truth, Whole, Linear}
use Rattle.dataset_in.specs.declared.dataset_error.DatasetError.{DatasetError}
use Rattle.dataset_in.specs.declared.dataset_error.DatasetError.TheVariants.{TooMany}
use Rattle.dataset_in.specs.declared.forms.SeriesKind.{SeriesKind}
use Rattle.dataset_in.specs.declared.forms.SeriesKind.TheVariants as kind
use Rattle.windows.specs.Begun.{StartsRise}
use Rattle.dataset_in.specs.Series.{AreStarts, IsSeries}
use Rattle.dataset_in.specs.Datasets.{follows, put_first, then_entry, next_entry, entries_behind, entries_of, series_answer, series_of, form_answer, truth_entry, whole_entry, linear_entry, number_part, rate_part, time_part, whole_part, most_segments, ran_out}

some_weaker : {A : Type 0} {P Q : A → Type 0} → ((x : A) → P x → Q x) → (o : Option A) → IfSome o P → IfSome o Q
some_weaker f None h = tt
some_weaker f (Some x) h = f x h

map_ok : {A B : Type 0} {P : A → Type 0} (Q : B → Type 0) (f : A → B) → ((x : A) → P x → Q (f x)) → (o : Option A) → IfSome o P → IfSome (option_map f o) Q
map_ok Q f g None h = tt
map_ok Q f g (Some x) h = g x h

then_some : {A B : Type 0} {P : A → Type 0} (Q : B → Type 0) (f : A → Option B) → ((x : A) → P x → IfSome (f x) Q) → (o : Option A) → IfSome o P → IfSome (option_and_then f o) Q
then_some Q f g None h = tt
then_some Q f g (Some x) h = g x h

any : {A : Type 0} (o : Option A) → IfSome o (λ x. Unit {0})
any None = tt
any (Some x) = tt

front_ok : {A : Type 0} (P : List A → Type 0) (next : A) (rest : Result (List A) DatasetError) → IfOk rest (λ entries. P (next ∷ entries)) → IfOk (put_first next rest) P
front_ok P next (Ok rest) h = h
front_ok P next (Err refusal) h = tt

then_ok : {A : Type 0} (P : List A → Type 0) (number : ℕ) (rest : A → Result (List A) DatasetError) (o : Option A) →
    IfSome o (λ next. IfOk (rest next) (λ entries. P (next ∷ entries))) → IfOk (then_entry number rest o) P
then_ok P number rest None h = tt
then_ok P number rest (Some next) h = front_ok P next (rest next) h

module _ {A : Type 0} (entry : Data → Option A) (from : A → ℕ) where
  kept : (P : A → Type 0) (last : Option ℕ) (next : A) (b : Bool) → follows last (from next) ≡ b → P next →
      IfSome (if b then Some next else None) (λ next. (follows last (from next) ≡ true) × P next)
  kept P last next true e h = (e, h)
  kept P last next false e h = tt

  next_is : (P : A → Type 0) (last : Option ℕ) (o : Option A) → IfSome o P →
      IfSome (option_and_then (λ next. if follows last (from next) then Some next else None) o) (λ next. (follows last (from next) ≡ true) × P next)
  next_is P last None h = tt
  next_is P last (Some next) h = kept P last next (follows last (from next)) refl h

  module _ (P : A → Type 0) (each : (row : Data) → IfSome (entry row) P) where
    abbrev Behind : ℕ → List A → Type 0
    Behind last entries = StartsRise last (map from entries) × All P entries

    after : (last : ℕ) (next : A) (entries : List A) → nat_lt last (from next) ≡ true → P next → Behind (from next) entries → Behind last (next ∷ entries)
    after last next entries e p h = ((grind (arith, common_steps), h.0), All-cons P next entries p h.1)

    rises : (last number : ℕ) (rows : List Data) → IfOk (entries_behind entry from (Some last) number rows) (Behind last)
    rises last number [] = (tt, All-nil P)
    rises last number (row ∷ rest) =
        then_ok (Behind last) number (λ next. entries_behind entry from (Some (from next)) (number + 1) rest) (next_entry entry from (Some last) row)
        (some_weaker
        (λ next h. IfOk-weaker (entries_behind entry from (Some (from next)) (number + 1) rest) _ _
        (λ entries r. after last next entries h.0 h.1 r)
        (rises (from next) (number + 1) rest))
        (next_entry entry from (Some last) row) (next_is P (Some last) (entry row) (each row)))

    abbrev pub Starts : List A → Type 0
    Starts entries = AreStarts (map from entries) × All P entries

    first : (next : A) (entries : List A) → nat_eq (from next) 0 ≡ true → P next → Behind (from next) entries → Starts (next ∷ entries)
    first next entries e p h = ((grind (arith, common_steps), h.0), All-cons P next entries p h.1)

    pub starts : (rows : List Data) → IfOk (entries_of entry from rows) Starts
    starts [] = tt
    starts (row ∷ rest) =
        then_ok Starts 0 (λ next. entries_behind entry from (Some (from next)) 1 rest) (next_entry entry from None row)
        (some_weaker
        (λ next h. IfOk-weaker (entries_behind entry from (Some (from next)) 1 rest) _ _
        (λ entries r. first next entries h.0 h.1 r)
        (rises (from next) 1 rest))
        (next_entry entry from None row) (next_is P None (entry row) (each row)))

-- ---- each segment is in range

number_ok : (z : ℤ) → IfSome (checked_number z) IsNumber
number_ok z = pick (is_number z) refl where
  pick : (b : Bool) → is_number z ≡ b → IfSome (if b then Some z else None) IsNumber
  pick true e = grind (arith, common_steps)
  pick false e = tt

rate_ok : (z : ℤ) → IfSome (if is_rate z then Some z else None) IsRate
rate_ok z = pick (is_rate z) refl where
  pick : (b : Bool) → is_rate z ≡ b → IfSome (if b then Some z else None) IsRate
  pick true e = grind (arith, common_steps)
  pick false e = tt

number_part_ok : (position : ℕ) (row : Data) → IfSome (number_part position row) IsNumber
number_part_ok position row = then_some IsNumber checked_number (λ z h. number_ok z) (whole_part position row) (any (whole_part position row))

rate_part_ok : (position : ℕ) (row : Data) → IfSome (rate_part position row) IsRate
rate_part_ok position row = then_some IsRate (λ z. if is_rate z then Some z else None) (λ z h. rate_ok z) (whole_part position row) (any (whole_part position row))

whole_ok : (row : Data) → IfSome (whole_entry row) (λ entry. IsNumber entry.1)
whole_ok row =
    then_some (λ (entry : ℕ × ℤ). IsNumber entry.1) (λ from. option_map (λ value. (from, value)) (number_part 1 row))
    (λ from h. map_ok (λ (entry : ℕ × ℤ). IsNumber entry.1) (λ value. (from, value)) (λ value n. n) (number_part 1 row) (number_part_ok 1 row))
    (time_part 0 row) (any (time_part 0 row))

abbrev InRange : Segment → Type 0
InRange segment = IsNumber segment.value × IsRate segment.rate

linear_ok : (row : Data) → IfSome (linear_entry row) InRange
linear_ok row =
    then_some InRange (λ from. option_and_then (λ value. option_map (λ rate. record { from = from; value = value; rate = rate }) (rate_part 2 row)) (number_part 1 row))
    (λ from h. then_some InRange (λ value. option_map (λ rate. record { from = from; value = value; rate = rate }) (rate_part 2 row))
    (λ value n. map_ok InRange (λ rate. record { from = from; value = value; rate = rate }) (λ rate r. (n, r)) (rate_part 2 row) (rate_part_ok 2 row))
    (number_part 1 row) (number_part_ok 1 row))
    (time_part 0 row) (any (time_part 0 row))

-- ---- the answer

answered : {A : Type 0} (series : List A → Series) (entries : Result (List A) DatasetError) → IfOk entries (λ e. IsSeries (series e)) → IfOk (series_answer series entries) IsSeries
answered series (Ok entries) h = h
answered series (Err refusal) h = tt

of_kind : (kind : SeriesKind) (rows : List Data) → IfOk (series_of kind rows) IsSeries
of_kind kind.Truth rows =
    answered Truth (entries_of truth_entry (λ entry. entry.0) rows)
    (IfOk-weaker (entries_of truth_entry (λ entry. entry.0) rows) _ _ (λ entries s. s.0) (starts truth_entry (λ entry. entry.0) (λ entry. Unit {0}) (λ row. any (truth_entry row)) rows))
of_kind kind.Whole rows = answered Whole (entries_of whole_entry (λ entry. entry.0) rows) (starts whole_entry (λ entry. entry.0) (λ entry. IsNumber entry.1) whole_ok rows)
of_kind kind.Linear rows = answered Linear (entries_of linear_entry (λ segment. segment.from) rows) (starts linear_entry (λ segment. segment.from) InRange linear_ok rows)

form_answer_ok : (form : Option (SeriesKind × List Data)) → IfOk (form_answer form) IsSeries
form_answer_ok None = tt
form_answer_ok (Some (kind, rows)) = pick (nat_lt most_segments (length rows)) where
  pick : (b : Bool) → IfOk (if b then Err TooMany else series_of kind rows) IsSeries
  pick true = tt
  pick false = of_kind kind rows

pub series_answered : (form : Option (SeriesKind × List Data)) (result : Result Series DatasetError) → UnlessMemory ran_out (form_answer form) result → IfOk result IsSeries
series_answered form result is = answered_by ran_out IsSeries (form_answer form) result is (form_answer_ok form)
