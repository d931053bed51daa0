-- What the kinds of step on the table tell, and where a pass stands between them.
use Rattle.std.specs.Prelude.{◌≡◌, ◌≢◌, ℕ, ◌%◌, ◌^◌, true, false, [], ◌∷◌, ◌++◌, length, Option, Some, None}
use Rattle.atomic_table.specs.Table.{Me, Step}
use Rattle.hangar_core.specs.declared.entries.Entry.{Entry}
use Rattle.hangar_core.specs.Journals.{after_entries}
use Rattle.hangar_core.specs.Steps.{step}
use Rattle.hangar_lock.specs.declared.desk.Desk.{Desk}
use Rattle.hangar_lock.specs.declared.receipts.Receipt.{Receipt}
use Rattle.hangar_lock.specs.declared.views.View.{View}
use Rattle.hangar_lock.specs.Desks.{IsDesk}
use Rattle.hangar_lock.specs.Pasts.{IsPast}
use Rattle.hangar_lock.specs.Places.{HasPassNumber, StartsWith}
use Rattle.hangar_lock.specs.Views.{leaving_with}

-- what a pass knows, and what it has taken out of the slot
abbrev pub Seated : Type 0
Seated = Me (Option Desk) View

-- a pass has the workspace and the journal, all of which it has seen
abbrev pub enters_with : View → Desk → View
enters_with view desk = record view { seen = desk.journal; inside = true }

-- ---- the kinds of step

-- a pass has a ticket more, whose number was found in the word
abbrev pub HasDrawn : Seated → Seated → ℕ → Type 0
HasDrawn before after found =
    (ticket : ℕ) × (after ≡ (record before.0 { ticket = Some ticket }, before.1)) × (ticket % 2 ^ 64 ≡ found)

-- draw a ticket
abbrev pub Draws : Step (Option Desk) → Seated → ℕ → Seated → Type 0
Draws st before found after = HasDrawn before after found

-- look at the turn: where it is the pass's own, it takes what the slot has; where not, nothing changes
abbrev pub Looks : Step (Option Desk) → Seated → ℕ → Seated → Type 0
Looks st before found after = (ticket : ℕ) → before.0.ticket ≡ Some ticket →
    (found ≡ ticket % 2 ^ 64 →
    (desk : Desk) × (after ≡ (enters_with before.0 desk, (0, Some desk) ∷ before.1))
    × StartsWith desk.journal before.0.seen × IsDesk before.0.opened desk)
    × (found ≢ ticket % 2 ^ 64 → after ≡ before)

-- what a pass had is in the slot, and what is new in the journal is its own
abbrev pub HasLeft : Seated → Seated → Type 0
HasLeft before after =
    (desk : Desk) → before.1 ≡ (0, Some desk) ∷ [] → after ≡ (leaving_with before.0 desk.journal, [])

-- pass the turn on, and give back what is to be in the slot
abbrev pub PassesOn : Step (Option Desk) → Seated → ℕ → Seated → Type 0
PassesOn st before found after = HasLeft before after

-- ---- what it has taken

-- the workspace and the journal are in the hand of a pass, and its slot is empty
abbrev pub HasTaken : Seated → Seated → Desk → Type 0
HasTaken before after desk = (before.1 ≡ (0, Some desk) ∷ []) × (after ≡ (before.0, (0, None) ∷ []))

-- ---- where a pass stands

-- it neither waits nor is inside, and stands for some number
abbrev pub IsIdle : Seated → Type 0
IsIdle me = (me.0.ticket ≡ None) × (me.0.inside ≡ false) × (me.1 ≡ []) × ((number : ℕ) × HasPassNumber me.0.stands number)

-- it waits with a ticket whose number is told modulo 2 ^ 64
pub record IsWaiting (told : ℕ) (me : Seated) : Type 0 where
  pub ticket : ℕ
  pub drawn : me.0.ticket ≡ Some ticket
  pub number : ticket % 2 ^ 64 ≡ told
  pub outside : me.0.inside ≡ false
  pub bare : me.1 ≡ []
  pub stands : (number : ℕ) × HasPassNumber me.0.stands number

-- its turn has come
pub record HasTurn (before after : Seated) : Type 0 where
  pub desk : Desk
  pub after_is : after ≡ (enters_with before.0 desk, (0, Some desk) ∷ [])
  pub more : StartsWith desk.journal before.0.seen
  pub is_desk : IsDesk before.0.opened desk

-- it drew a ticket and its turn has come
pub record HasEntered (before after : Seated) : Type 0 where
  pub desk : Desk
  pub ticket : ℕ
  pub after_is : after ≡ (record before.0 { seen = desk.journal; ticket = Some ticket; inside = true }, (0, Some desk) ∷ [])
  pub more : StartsWith desk.journal before.0.seen
  pub is_desk : IsDesk before.0.opened desk

-- it may pass the turn on with this
pub record CanLeave (me : Seated) (desk : Desk) : Type 0 where
  pub has : me.1 ≡ (0, Some desk) ∷ []
  pub inside : me.0.inside ≡ true
  pub more : StartsWith desk.journal me.0.seen
  pub is_desk : IsDesk me.0.opened desk

-- an entry was noted and the turn passed on
pub record NotesEntry (before : Seated) (entry : Entry) (after : Seated) (receipt : Receipt) : Type 0 where
  pub place : receipt.place ≡ length before.0.seen
  pub reply : receipt.reply ≡ (step (after_entries before.0.opened.workspace before.0.seen) entry.action).0
  pub past : IsPast before.0.opened.workspace (before.0.seen ++ (entry, receipt.reply) ∷ [])
  pub after_is : after ≡ (leaving_with before.0 (before.0.seen ++ (entry, receipt.reply) ∷ []), [])
