-- How a reader of the code stands to the definition of what is read.
use Rattle.std.specs.Prelude.{◌≡◌, ◌<◌, ◌≤◌, ℕ, List, Result, Ok, Err, IfOk, MatchResult, length}
use denote.Bor.{Bor}
use Rattle.aerie_base.specs.declared.places.Place.{Place}
use Rattle.aerie_text.specs.declared.sorts.Sort.{Sort}
use Rattle.readers.specs.Marks.{Mark}
use Rattle.readers.specs.Parsed.{Parsed, parsed, failed, over_limit, word_at}
use Rattle.readers.specs.declared.refusal.Refusal.{Refusal}
use Rattle.readers.specs.declared.refusal.Refusal.TheVariants.{Syntax, TooMany, OutOfMemory}

-- a refusal comes where reading fails or a limit is passed, or where memory ran out
abbrev pub Refuses : {A : Type 0} → List Mark → Refusal → Parsed A → Type 0
Refuses rest Syntax read = read ≡ failed rest
Refuses rest (TooMany limit) read = read ≡ over_limit limit rest
Refuses rest OutOfMemory read = Unit {0}

-- What a reader returned, and the marks that it left, are what is read, unless memory ran out.
abbrev pub Implements : {A : Type 0} → List Mark → Result A Refusal → Parsed A → Type 0
Implements rest (Ok part) read = read ≡ parsed part rest
Implements rest (Err refusal) read = Refuses rest refusal read

-- The reader answers what the definition reads of the marks before, and leaves the marks behind; where it gives a part, it
-- reads one mark at least.
abbrev pub Consumes : {A : Type 0} → (List Mark → Parsed A) → List Mark → List Mark → Result A Refusal → Type 0
Consumes definition before behind result = Implements behind result (definition before) × IfOk result (λ _. length behind < length before)

-- The same, and it may read none.
abbrev pub MayConsume : {A : Type 0} → (List Mark → Parsed A) → List Mark → List Mark → Result A Refusal → Type 0
MayConsume definition before behind result = Implements behind result (definition before) × IfOk result (λ _. length behind ≤ length before)

-- The reader answers the place and the text of the next mark, which is of this sort.
abbrev pub ConsumesWord : Sort → List Mark → List Mark → Result (Place × Bor (List ℕ)) Refusal → Type 0
ConsumesWord sort before behind result =
    MatchResult result
    (λ part. (word_at sort before ≡ parsed (part.0, part.1.now) behind) × (length behind < length before))
    (λ refusal. Refuses behind refusal (word_at sort before))
