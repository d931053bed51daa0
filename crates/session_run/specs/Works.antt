-- The works of clients, each with a pass of its own.
use Rattle.std.specs.declared.alloc.Global.{Global}
use Rattle.std.specs.Prelude.{Option, String, ◌≡◌, ℕ, ◌+◌, ◌<◌, List, [], ◌∷◌, length, map, Some, slice_get, IfSome}
use Rattle.std.specs.List.{AllByRecursion}
use Rattle.std.specs.String.{string_bytes}
use Rattle.hangar_lock.specs.Passes.{LockView, PassView}
use Rattle.session_reader.specs.declared.session.Client.{Client}
use Rattle.session_reader.specs.FewClients.{AreFewClients}
use Rattle.client_work.specs.declared.missions.Mission.{Mission}
use Rattle.client_work.specs.Working.{IsAtWork, IsWorkDone, work_of}
use Rattle.session_run.specs.declared.on_threads.Work.{Work}
use Rattle.session_run.specs.declared.on_threads.Done.{Done}
use Rattle.session_run.specs.Texts.{client_numbered}

-- the pass that is split for the client with a number
abbrev pub numbered_pass : LockView → ℕ → PassView
numbered_pass lock which = record { lock = lock; seen = []; mine = []; stands = (which + 1) ∷ []; split = 0 }

-- a pass from which so many more were split
abbrev pub split_often : ℕ → PassView → PassView
split_often count pass = record pass { split = pass.split + count }

-- a work for each of so many clients, nothing of which is done
pub record AreWorksOf (lock : LockView) (count : ℕ) (works : List Work) : Type 0 where
  pub many : length works ≡ count
  pub each : (which : ℕ) (work : Work) → slice_get works which ≡ Some work → (work.which ≡ which) × (work.pass ≡ numbered_pass lock which)

-- a work that can be done, for one of a few clients
pub record CanWork (mission : Mission) (lock : LockView) (clients : List Client) (work : Work) : Type 0 where
  pub at : IsAtWork mission lock work.pass
  pub within : work.which < length clients
  pub few : AreFewClients clients

-- a work was done, where memory did not end: all commands of its client
abbrev pub HasDoneWork : Mission → List Client → Work → Done → Type 0
HasDoneWork mission clients work done = (client : Client) → slice_get clients work.which ≡ Some client →
    IfSome done.text (λ text. IsWorkDone (work_of mission (client_numbered work.which client) client.commands) work.pass done.pass (string_bytes text))

-- all works were
pub record AreDone (mission : Mission) (clients : List Client) (works : List Work) (dones : List Done) : Type 0 where
  pub many : length dones ≡ length works
  pub each : (which : ℕ) (work : Work) (done : Done) → slice_get works which ≡ Some work → slice_get dones which ≡ Some done → HasDoneWork mission clients work done

-- the passes of works that were done
abbrev pub passes_of : List Done → List PassView
passes_of dones = map (λ done. done.pass) dones

-- and their texts, as far as memory sufficed
abbrev pub works_texts : List Done → List (Option (String Global))
works_texts dones = map (λ done. done.text) dones

-- works that were done with passes of a lock
abbrev pub AreOf : LockView → List Done → Type 0
AreOf lock dones = AllByRecursion (λ done. IfSome done.text (λ text. done.pass.lock ≡ lock)) dones
