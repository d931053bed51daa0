-- The rule of the lock: one journal for all passes, and turns by tickets.
-- Word 0 counts the tickets that were drawn and word 1 the turns that are over, both modulo 2 ^ 64.
use Rattle.std.specs.Prelude.{◌≡◌, ◌⊎◌, ℕ, ◌+◌, ◌%◌, ◌^◌, ◌<◌, ◌≤◌, true, false, List, [], ◌∷◌, length, slice_get, Option, Some, None}
use mathlib.Core.Option.{Option as Maybe, some, none}
use lib.ListN.{get_elem?}
use Rattle.atomic_table.specs.Table.{State}
use Rattle.hangar_core.specs.Journals.{Entries}
use Rattle.hangar_core.specs.ValidWorkspaces.{CountedWorkspace}
use Rattle.hangar_lock.specs.declared.desk.Desk.{Desk}
use Rattle.hangar_lock.specs.declared.views.View.{View}
use Rattle.hangar_lock.specs.Desks.{IsDesk}
use Rattle.hangar_lock.specs.Places.{ToldEntry, HasPassNumber, HasPlace, StartsWith}

abbrev pub has_ticket : Option ℕ → ℕ
has_ticket None = 0
has_ticket (Some ticket) = 1

-- how many passes hold a ticket
abbrev pub holders : List View → ℕ
holders [] = 0
holders (view ∷ views) = has_ticket view.ticket + holders views

-- no pass is inside
abbrev pub AllAreOutside : List View → Type 0
AllAreOutside views = (id : ℕ) (view : View) → get_elem? views id ≡ some view → view.inside ≡ false

-- what the slot has: the workspace and the journal, or nothing while a pass is inside
abbrev pub HasHome : CountedWorkspace → Entries → List View → Maybe (Option Desk) → Type 0
HasHome opened journal views none = (id : ℕ) × (view : View) × (get_elem? views id ≡ some view) × (view.inside ≡ true)
HasHome opened journal views (some None) = ⊥
HasHome opened journal views (some (Some desk)) =
    (desk.journal ≡ journal) × IsDesk opened desk × AllAreOutside views

-- what a pass knows is so; `owner` has the number with which each place was made, and `passes` is how many numbers there are
pub record Knows (start : CountedWorkspace) (journal : Entries) (owner : ℕ → ℕ) (passes drawn turn : ℕ) (view : View) : Type 0 where
  -- its places are right, and they are all those of its numbers
  pub sound : (place : ℕ) (told : ToldEntry) → HasPlace view.mine place told →
      (slice_get journal place ≡ Some told) × HasPassNumber view.stands (owner place)
  pub full : (place : ℕ) (told : ToldEntry) → slice_get journal place ≡ Some told →
      HasPassNumber view.stands (owner place) → HasPlace view.mine place told
  -- its numbers were given, and all were split from 0
  pub below : (number : ℕ) → HasPassNumber view.stands number → number < passes
  pub root : HasPassNumber view.stands 0 → view.split + 1 ≡ passes
  pub others_split : (view.split ≡ 0) ⊎ HasPassNumber view.stands 0
  pub ticketed : (ticket : ℕ) → view.ticket ≡ Some ticket → (number : ℕ) × HasPassNumber view.stands number
  pub opened : (number : ℕ) → HasPassNumber view.stands number → view.opened ≡ start
  pub seen : StartsWith journal view.seen
  -- its ticket was drawn and its turn is not over; inside it has the turn, and has seen all
  pub ticket : (ticket : ℕ) → view.ticket ≡ Some ticket → (turn ≤ ticket) × (ticket < drawn)
  pub inside : view.inside ≡ true → (view.ticket ≡ Some turn) × (view.seen ≡ journal)

pub record HasOneJournal (opened : CountedWorkspace) (s : State (Option Desk) View) : Type 0 where
  pub journal : Entries
  pub owner : ℕ → ℕ
  pub passes : ℕ
  pub passes_are : length s.views ≡ passes
  pub owned : (place : ℕ) (told : ToldEntry) → slice_get journal place ≡ Some told → owner place < passes
  pub drawn : ℕ
  pub turn : ℕ
  pub words : s.words ≡ (drawn % 2 ^ 64) ∷ (turn % 2 ^ 64) ∷ []
  pub count : drawn ≡ turn + holders s.views
  pub few : passes ≤ 2 ^ 32
  pub home : Maybe (Option Desk)
  pub homes : s.homes ≡ home ∷ []
  pub has_home : HasHome opened journal s.views home
  pub knows : (id : ℕ) (view : View) → get_elem? s.views id ≡ some view → Knows opened journal owner passes drawn turn view
  -- each number and each ticket is of one pass alone
  pub one_owner : (id other : ℕ) (view another : View) (number : ℕ) →
      get_elem? s.views id ≡ some view → get_elem? s.views other ≡ some another →
      HasPassNumber view.stands number → HasPassNumber another.stands number → id ≡ other
  pub apart : (id other : ℕ) (view another : View) (ticket : ℕ) →
      get_elem? s.views id ≡ some view → get_elem? s.views other ≡ some another →
      view.ticket ≡ Some ticket → another.ticket ≡ Some ticket → id ≡ other
