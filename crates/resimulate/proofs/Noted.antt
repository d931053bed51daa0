-- States of which nothing is noted are alike.
use Rattle.std.proofs.Common.{◌≡◌, ◌⊎◌, inl, inr, ℕ, suc, false, List, [], ◌∷◌, Some, None, slice_get, refl}
use Rattle.std.proofs.lemmas.Bool.{both_ways}
use Rattle.run_data.specs.Endings.{has_ended}
use Rattle.run_data.specs.Fresh.{SimulationState}
use Rattle.run_data.specs.Tasks.{task_at}
use Rattle.run_data.specs.laws.LiveParts.{LiveByPaths}
use Rattle.run_data.specs.laws.ReachedStates.{ReachedIsOfModel}
use Rattle.run_data.specs.laws.RestOfRuns.{RestIsTakenOverSettled}
use Rattle.resimulate.specs.Noting.{IsSameOrEnded, NothingNotedIsAlike, RestIsTakenOverUnnoted}

same_by_index : {A : Type 0} (first second : List A) → ((k : ℕ) → slice_get first k ≡ slice_get second k) → first ≡ second
same_by_index [] [] same = refl
same_by_index [] (one ∷ rest) same = (let none : None ≡ Some one = same 0 in absurd (cc))
same_by_index (one ∷ rest) [] same = (let some : Some one ≡ None = same 0 in absurd (cc))
same_by_index (one ∷ rest) (other ∷ more_) same =
    let first : Some one ≡ Some other = same 0 in
    let here : one ≡ other = cc in
    let further = same_by_index rest more_ (λ k. same (suc k)) in
    λ i. here i ∷ further i

-- of a task that has not ended in both, only that it is the same is left
same_task : (at other : SimulationState) (path : List ℕ) → IsSameOrEnded at other path → (has_ended at.table path ≡ false) ⊎ (has_ended other.table path ≡ false) →
    task_at at.table path ≡ task_at other.table path
same_task at other path (inl same) open_ = same
same_task at other path (inr ended) (inl open_) = absurd (both_ways (has_ended at.table path) open_ ended.0)
same_task at other path (inr ended) (inr open_) = absurd (both_ways (has_ended other.table path) open_ ended.1)

pub alike : ReachedIsOfModel → LiveByPaths → NothingNotedIsAlike
alike of_model by_paths model plan old_plan bound old_bound noted at other both notes none = record {
  settled = notes.settled;
  old_settled = notes.old_settled;
  time = notes.time;
  cells = same_by_index at.cells other.cells (λ cell. notes.cells cell (none.0 cell));
  tables =
      by_paths at.table other.table (of_model model plan bound at both.valid both.is_plan both.reached).table.order
      (of_model model old_plan old_bound other both.valid both.old_is_plan both.old_reached).table.order
      (λ path open_. same_task at other path (notes.tasks path (none.1 path)) open_);
}

pub rest_taken : ReachedIsOfModel → LiveByPaths → RestIsTakenOverSettled → RestIsTakenOverUnnoted
rest_taken of_model by_paths taken model plan old_plan bound old_bound noted at other old rest both notes none fresh completed instants paid =
    taken model plan old_plan bound old_bound at other old rest both (alike of_model by_paths model plan old_plan bound old_bound noted at other both notes none) fresh completed instants paid
