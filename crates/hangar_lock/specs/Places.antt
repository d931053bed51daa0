-- Places in a journal, and the numbers of passes.
use Rattle.std.specs.Prelude.{◌≡◌, ◌⊎◌, ℕ, suc, List, [], ◌∷◌, ◌++◌, length, nat_le, if◌then◌else◌, slice_get, Some}
use Rattle.hangar_core.specs.declared.entries.Entry.{Entry}
use Rattle.hangar_core.specs.declared.replies.Reply.{Reply}
use Rattle.hangar_core.specs.Journals.{Entries}

-- an entry with its reply
abbrev pub ToldEntry : Type 0
ToldEntry = Entry × Reply

-- entries with their replies, each with its place in a journal
abbrev pub Places : Type 0
Places = List (ℕ × ToldEntry)

-- the entry with its reply is among them, at that place
abbrev pub HasPlace : Places → ℕ → ToldEntry → Type 0
HasPlace [] place told = ⊥
HasPlace (first ∷ rest) place told = (first ≡ (place, told)) ⊎ HasPlace rest place told

-- each of them stands in a journal, at its place
abbrev pub StandIn : Places → Entries → Type 0
StandIn places journal = (place : ℕ) (told : ToldEntry) → HasPlace places place told → slice_get journal place ≡ Some told

-- and they are all that the journal has
abbrev pub HaveAllOf : Places → Entries → Type 0
HaveAllOf places journal = (place : ℕ) (told : ToldEntry) → slice_get journal place ≡ Some told → HasPlace places place told

abbrev pub HasPassNumber : List ℕ → ℕ → Type 0
HasPassNumber [] number = ⊥
HasPassNumber (first ∷ rest) number = (first ≡ number) ⊎ HasPassNumber rest number

-- a journal begins with what was seen of it
abbrev pub StartsWith : Entries → Entries → Type 0
StartsWith journal seen = (rest : Entries) × (journal ≡ seen ++ rest)

-- the longer one of two
abbrev pub longer : Entries → Entries → Entries
longer seen other = if nat_le (length seen) (length other) then other else seen

-- entries with their places, from a place on
abbrev pub placed_from : ℕ → Entries → Places
placed_from place [] = []
placed_from place (told ∷ rest) = (place, told) ∷ placed_from (suc place) rest
