-- Locks and passes as contracts see them.
use Rattle.std.specs.Prelude.{◌≡◌, ℕ, ◌+◌, ◌≤◌, List, [], ◌∷◌, ◌++◌, length}
use Rattle.atomic_table.specs.Seated.{TableId}
use Rattle.hangar_core.specs.declared.entries.Entry.{Entry}
use Rattle.hangar_core.specs.Journals.{Entries, after_entries}
use Rattle.hangar_core.specs.ValidWorkspaces.{CountedWorkspace}
use Rattle.hangar_core.specs.Steps.{step}
use Rattle.hangar_lock.specs.declared.receipts.Receipt.{Receipt}
use Rattle.hangar_lock.specs.Places.{Places, HasPassNumber, StartsWith, longer}

-- a lock: which one it is, and the hangar with which it was opened
pub record LockView : Type 0 where
  pub id : TableId
  pub opened : CountedWorkspace

abbrev pub lock_view : TableId → CountedWorkspace → LockView
lock_view id opened = record { id = id; opened = opened }

-- a pass of a lock
pub record PassView : Type 0 where
  pub lock : LockView
  -- the first entries of the lock's journal, as far as the pass knows them
  pub seen : Entries
  -- what was done with the pass and with those that were joined into it
  pub mine : Places
  -- the numbers for which the pass stands
  pub stands : List ℕ
  -- how many numbers were split from these; they are 1, 2 and so on, since only the pass that stands for 0 is split
  pub split : ℕ

-- the pass with which a lock begins
abbrev pub first_pass : LockView → PassView
first_pass lock = record { lock = lock; seen = []; mine = []; stands = 0 ∷ []; split = 0 }

-- the pass is left with one number split from it
abbrev pub after_split : PassView → PassView
after_split pass = record pass { split = pass.split + 1 }

-- and the new one has that number, which nobody had
abbrev pub split_from : PassView → PassView
split_from pass = record { lock = pass.lock; seen = pass.seen; mine = []; stands = (pass.split + 1) ∷ []; split = 0 }

-- a pass that takes another one in
abbrev pub joined_with : PassView → PassView → PassView
joined_with pass other = record {
  lock = pass.lock;
  seen = longer pass.seen other.seen;
  mine = pass.mine ++ other.mine;
  stands = pass.stands ++ other.stands;
  split = pass.split + other.split;
}

-- the pass stands for 0 and for every number that was split: each other pass was joined into it
abbrev pub IsWhole : PassView → Type 0
IsWhole pass = HasPassNumber pass.stands 0 × ((number : ℕ) → number ≤ pass.split → HasPassNumber pass.stands number)

-- an entry went into the journal, behind all that the pass had seen, and the reply is the workspace's after all entries
-- before it
pub record HasActed (before : PassView) (entry : Entry) (receipt : Receipt) (after : PassView) : Type 0 where
  pub earlier : Entries
  pub later : StartsWith earlier before.seen
  pub place : receipt.place ≡ length earlier
  pub seen : after.seen ≡ earlier ++ (entry, receipt.reply) ∷ []
  pub reply : receipt.reply ≡ (step (after_entries before.lock.opened.workspace earlier) entry.action).0
  pub mine : after.mine ≡ before.mine ++ (receipt.place, (entry, receipt.reply)) ∷ []
  pub lock : after.lock ≡ before.lock
  pub stands : after.stands ≡ before.stands
  pub split : after.split ≡ before.split

-- the pass may have seen more, and has done nothing
pub record HasSeenMore (before after : PassView) : Type 0 where
  pub seen : StartsWith after.seen before.seen
  pub mine : after.mine ≡ before.mine
  pub lock : after.lock ≡ before.lock
  pub stands : after.stands ≡ before.stands
  pub split : after.split ≡ before.split
