-- The ready tasks of a table of the model: their jobs, and that none is yet to make another.
use Rattle.std.proofs.Common.{◌≡◌, ◌⊎◌, inl, inr, ℕ, zero, suc, ◌+◌, ◌<◌, ◌≤◌, nat_eq, Bool, true, false, ◌&&◌, List, [], ◌∷◌, length, Option, Some, None, refl, sym, ap, ◌∙◌, subst, arith, length-append}
use Rattle.std.proofs.lemmas.Bool.{false≢true, leb-true}
use Rattle.std.specs.List.{All, slice_get}
use Rattle.aerie_base.specs.declared.models.model.Parts.{Parts}
use Rattle.aerie_base.specs.Ranges.{number_limit, is_number, is_rate}
use Rattle.aerie_base.specs.Paths.{child_path, is_prefix}
use Rattle.effect_cells.specs.declared.effects.CellState.{CellState}
use Rattle.effect_cells.specs.declared.effects.CellState.TheVariants.{Counter, Register, Volume}
use Rattle.effect_cells.specs.Cells.{first_out_from, AreInRange}
use Rattle.effect_cells.specs.States.{is_in_range}
use Rattle.run_data.specs.declared.tasks.TaskState.{TaskState}
use Rattle.run_data.specs.declared.jobs.Job.{Job}
use Rattle.run_data.specs.Jobs.{IsModest, AreCellsOf, IsJobOf}
use Rattle.run_data.specs.Tasks.{TaskPhase, anchored, ready, delayed, waiting, calling, over, Task, Table, task_at, ready_jobs, job_if_ready}
use Rattle.run_data.specs.Magnitudes.{state_magnitude, AreWithin}
use Rattle.run_data.specs.laws.OrderedTables.{IsOrderedTable}
use Rattle.run_data.specs.laws.SmallSteps.{IsJobWithin}
use Rattle.run_data.specs.laws.Orders.{EachOf, EachTwo, AreApart}
use Rattle.run_data.specs.laws.ReachedStates.{MayGoOn, IsPhaseOf, ComesFrom, directive, daemon, maker, IsTableOf}
use Rattle.run_data.specs.laws.EndedTaskLaws.{stands_at}
use Rattle.run_data.specs.laws.PathsUnder.{both_true, same_number}
use Rattle.run_data.specs.NumberLaws.{above_at, not_same}

-- ---- paths

prefix_length : (path other : List ℕ) → is_prefix path other ≡ true → length path ≤ length other
prefix_length [] other h = omega arith
prefix_length (a ∷ path) [] h = absurd (false≢true h)
prefix_length (a ∷ path) (b ∷ other) h = omega (arith, prefix_length path other (both_true (nat_eq a b) (is_prefix path other) h).1)

not_empty : (path : List ℕ) (number : ℕ) → is_prefix (child_path path number) [] ≡ true → ⊥
not_empty [] number h = false≢true h
not_empty (a ∷ path) number h = false≢true h

-- what is under a child is that child or under its own maker
abbrev LastOrUp : List ℕ → ℕ → List ℕ → ℕ → Type 0
LastOrUp path number other last = (is_prefix (child_path path number) other ≡ true) ⊎ ((path ≡ other) × (number ≡ last))

last_or_up : (path : List ℕ) (number : ℕ) (other : List ℕ) (last : ℕ) → is_prefix (child_path path number) (child_path other last) ≡ true → LastOrUp path number other last
last_or_up [] number [] last h = inr (refl, same_number number last (both_true (nat_eq number last) true h).0)
last_or_up [] number (b ∷ other) last h = inl h
last_or_up (a ∷ path) number [] last h = absurd (not_empty path number (both_true (nat_eq a last) (is_prefix (child_path path number) []) h).1)
last_or_up (a ∷ path) number (b ∷ other) last h =
    let both = both_true (nat_eq a b) (is_prefix (child_path path number) (child_path other last)) h in by both.0 (last_or_up path number other last both.1)
  where
    by : nat_eq a b ≡ true → LastOrUp path number other last → LastOrUp (a ∷ path) number (b ∷ other) last
    by e (inl up) = inl (λ i. e i && up i)
    by e (inr same) = inr ((λ i. same_number a b e i ∷ same.0 i), same.1)

-- ---- who is yet to come

module _ (model : Parts) (table : Table) (is : IsTableOf model table) where
  path_length : (path : List ℕ) (number : ℕ) → length (child_path path number) ≡ length path + 1
  path_length path number = length-append path (number ∷ [])

  long : (most : ℕ) (path : List ℕ) (task : Task) → length path < most → task_at table path ≡ Some task → 2 ≤ length path
  long zero path task less there = absurd (omega (arith, less))
  long (suc most) path task less there = by (is.makers path task there) (λ parent number e. long most parent)
    where
      by : ComesFrom table path → ((parent : List ℕ) (number : ℕ) → path ≡ child_path parent number → (other : Task) → length parent < most → task_at table parent ≡ Some other → 2 ≤ length parent) → 2 ≤ length path
      by (directive id e) further = omega (arith, ap length e)
      by (daemon number e) further = omega (arith, ap length e)
      by (maker parent number other e its below) further =
          let one = ap length e ∙ path_length parent number in
          let up = further parent number e other (omega (arith, less, one)) its in omega (arith, one, up)

  module _ (path : List ℕ) (task : Task) (there : task_at table path ≡ Some task) (number : ℕ) (from : task.made ≤ number) where
    climb : (most : ℕ) (other : List ℕ) (second : Task) → length other < most → is_prefix (child_path path number) other ≡ true → task_at table other ≡ Some second → ⊥
    climb zero other second less under its = absurd (omega (arith, less))
    climb (suc most) other second less under its = by (is.makers other second its) (climb most)
      where
        deep : length path + 1 ≤ length other
        deep = omega (arith, path_length path number, prefix_length (child_path path number) other under)

        two : 2 ≤ length path
        two = long (length path + 1) path task (omega arith) there

        by : ComesFrom table other → ((up : List ℕ) (third : Task) → length up < most → is_prefix (child_path path number) up ≡ true → task_at table up ≡ Some third → ⊥) → ⊥
        by (directive id e) further = absurd (omega (arith, ap length e, deep, two))
        by (daemon n e) further = absurd (omega (arith, ap length e, deep, two))
        by (maker parent n third e stands below) further = way (last_or_up path number parent n (sym (ap (is_prefix (child_path path number)) e) ∙ under))
          where
            way : LastOrUp path number parent n → ⊥
            way (inl up) = further parent third (omega (arith, less, ap length e ∙ path_length parent n)) up stands
            way (inr same) =
                let one : task ≡ third = (let o : ◌≡◌ {A = Option Task} (Some task) (Some third) = sym there ∙ ap (task_at table) same.0 ∙ stands in cc) in
                absurd (omega (arith, below, from, same.1, ap (λ (t : Task). t.made) one))

    pub none_to_come : (other : List ℕ) → is_prefix (child_path path number) other ≡ true → task_at table other ≡ None
    none_to_come other under = by (task_at table other) refl
      where
        by : (found : Option Task) → task_at table other ≡ found → task_at table other ≡ None
        by None e = e
        by (Some second) e = absurd (climb (length other + 1) other second (omega arith) under e)

-- ---- jobs

pub ready_each : (cells : List CellState) (P : ℕ × Job → Type 0) (others : Table) →
    ((number : ℕ) (path : List ℕ) (task : Task) (state : TaskState) → slice_get others number ≡ Some (path, task) → task.phase ≡ ready state → P (task.made, record { path = path; state = state; view = cells })) →
    EachOf P (ready_jobs cells others)
ready_each cells P [] h = tt
ready_each cells P (entry ∷ rest) h = by entry.1.phase refl (ready_each cells P rest (λ n path task state at e. h (suc n) path task state at e))
  where
    by : (phase : TaskPhase) → entry.1.phase ≡ phase → EachOf P (ready_jobs cells rest) → EachOf P (job_if_ready cells entry.0 entry.1 phase (ready_jobs cells rest))
    by (ready state) e further = (h 0 entry.0 entry.1 state refl e, further)
    by (anchored to edge start state) e further = further
    by (delayed until state) e further = further
    by (waiting condition state) e further = further
    by (calling child into state) e further = further
    by (over result) e further = further

pub record OfTable (model : Parts) (cells : List CellState) (table : Table) (job : ℕ × Job) : Type 0 where
  pub task : Task
  pub there : task_at table job.1.path ≡ Some task
  pub phase : task.phase ≡ ready job.1.state
  pub made : job.0 ≡ task.made
  pub view : job.1.view ≡ cells
  pub good : MayGoOn model job.1.state

module _ (model : Parts) (cells : List CellState) (table : Table) (is : IsTableOf model table) where
  pub jobs_of_table : EachOf (OfTable model cells table) (ready_jobs cells table)
  jobs_of_table =
      ready_each cells (OfTable model cells table) table
      (λ number path task state at e. (let there = stands_at table number path task is.order at in record {
        task = task;
        there = there;
        phase = e;
        made = refl;
        view = refl;
        good = subst (IsPhaseOf model table path) e (is.phases path task there);
      }))

  not_under : (path : List ℕ) (task : Task) → task_at table path ≡ Some task → (other : List ℕ) (second : Task) → task_at table other ≡ Some second → (number : ℕ) → task.made ≤ number →
      is_prefix (child_path path number) other ≡ false
  not_under path task there other second its number from = by (is_prefix (child_path path number) other) refl
    where
      by : (under : Bool) → is_prefix (child_path path number) other ≡ under → is_prefix (child_path path number) other ≡ false
      by false e = e
      by true e = let clash : ◌≡◌ {A = Option Task} (Some second) None = sym its ∙ none_to_come model table is path task there number from other e in absurd (cc)

  ready_two : (others : Table) → IsOrderedTable others → ((number : ℕ) (path : List ℕ) (task : Task) → slice_get others number ≡ Some (path, task) → task_at table path ≡ Some task) → EachTwo AreApart (ready_jobs cells others)
  ready_two [] order stands = tt
  ready_two (entry ∷ rest) order stands = by entry.1.phase (ready_two rest order.1 (λ n path task at. stands (suc n) path task at))
    where
      here : task_at table entry.0 ≡ Some entry.1
      here = stands 0 entry.0 entry.1 refl

      by : (phase : TaskPhase) → EachTwo AreApart (ready_jobs cells rest) → EachTwo AreApart (job_if_ready cells entry.0 entry.1 phase (ready_jobs cells rest))
      by (ready state) further = (
        ready_each cells (AreApart (entry.1.made, record { path = entry.0; state = state; view = cells })) rest
            (λ n path task next at e. (let there = stands (suc n) path task at in record {
              different = not_same entry.0 path (above_at entry.0 rest order.0 n (path, task) at);
              no_child = λ number from. not_under entry.0 entry.1 here path task there number from;
              no_parent = λ number from. not_under path task there entry.0 entry.1 here number from;
            })),
        further,
      )
      by (anchored to edge start state) further = further
      by (delayed until state) further = further
      by (waiting condition state) further = further
      by (calling child into state) further = further
      by (over result) further = further

  pub jobs_apart : EachTwo AreApart (ready_jobs cells table)
  jobs_apart = ready_two table is.order (λ number path task at. stands_at table number path task is.order at)

-- ---- cells in range

modest_state : (state : CellState) → is_in_range state ≡ true → IsModest state
modest_state (Counter number) h = let small = leb-true _ _ h in omega (arith, small)
modest_state (Register value conflicted) h = tt
modest_state (Volume volume rate) h =
    let both = both_true (is_number volume) (is_rate rate) h in
    let one = leb-true _ _ both.0 in
    let two = leb-true _ _ both.1 in (omega (arith, one), omega (arith, two))

first_in : (from : ℕ) (state : CellState) (rest : List CellState) → first_out_from from (state ∷ rest) ≡ None → (is_in_range state ≡ true) × (first_out_from (from + 1) rest ≡ None)
first_in from state rest none = by (is_in_range state) refl
  where
    by : (b : Bool) → is_in_range state ≡ b → (is_in_range state ≡ true) × (first_out_from (from + 1) rest ≡ None)
    by true e = (e, (rw e at none))
    by false e = let k = rw e at none in absurd (cc)

pub all_modest : (from : ℕ) (cells : List CellState) → first_out_from from cells ≡ None → All IsModest cells
all_modest from [] none k d less = absurd (omega (arith, less))
all_modest from (state ∷ rest) none zero d less = modest_state state (first_in from state rest none).0
all_modest from (state ∷ rest) none (suc k) d less = all_modest (from + 1) rest (first_in from state rest none).1 k d (omega (arith, less))

pub all_of : {A : Type 0} (P : A → Type 0) (xs : List A) → EachOf P xs → All P xs
all_of P [] each k d less = absurd (omega (arith, less))
all_of P (x ∷ xs) each zero d less = each.0
all_of P (x ∷ xs) each (suc k) d less = all_of P xs each.1 k d (omega (arith, less))

pub each_weaker : {A : Type 0} (P Q : A → Type 0) → ((x : A) → P x → Q x) → (xs : List A) → EachOf P xs → EachOf Q xs
each_weaker P Q gives [] each = tt
each_weaker P Q gives (x ∷ xs) each = (gives x each.0, each_weaker P Q gives xs each.1)

within_state : (state : CellState) → is_in_range state ≡ true → state_magnitude state ≤ number_limit
within_state (Counter number) h = leb-true _ _ h
within_state (Register value conflicted) h = omega arith
within_state (Volume volume rate) h =
    let both = both_true (is_number volume) (is_rate rate) h in
    let one = leb-true _ _ both.0 in
    let two = leb-true _ _ both.1 in omega (arith, one, two)

cells_within : (from : ℕ) (cells : List CellState) → first_out_from from cells ≡ None → AreWithin number_limit cells
cells_within from [] none cell found e = absurd (cc)
cells_within from (state ∷ rest) none zero found e =
    let same : state ≡ found = cc in subst (λ s. state_magnitude s ≤ number_limit) same (within_state state (first_in from state rest none).0)
cells_within from (state ∷ rest) none (suc cell) found e = cells_within (from + 1) rest (first_in from state rest none).1 cell found e

pub jobs_within : (model : Parts) (cells : List CellState) (table : Table) → IsTableOf model table → AreCellsOf model cells → AreInRange cells →
    EachOf (λ (job : ℕ × Job). IsJobWithin model number_limit job.1) (ready_jobs cells table)
jobs_within model cells table is are in_range =
    each_weaker (OfTable model cells table) (λ job. IsJobWithin model number_limit job.1)
    (λ job of. record {
      state = of.good.of_model;
      view = subst (AreCellsOf model) (sym of.view) are;
      locals = of.good.numbers;
      within = subst (AreWithin number_limit) (sym of.view) (cells_within 0 cells in_range);
    })
    (ready_jobs cells table) (jobs_of_table model cells table is)

pub are_jobs : (model : Parts) (cells : List CellState) (table : Table) → IsTableOf model table → AreCellsOf model cells → AreInRange cells → All (λ (job : ℕ × Job). IsJobOf model job.1) (ready_jobs cells table)
are_jobs model cells table is are in_range =
    all_of (λ (job : ℕ × Job). IsJobOf model job.1) (ready_jobs cells table)
    (each_weaker (OfTable model cells table) (λ job. IsJobOf model job.1)
    (λ job of. record {
      state = of.good.of_model;
      view = subst (AreCellsOf model) (sym of.view) are;
      modest = subst (All IsModest) (sym of.view) (all_modest 0 cells in_range);
    })
    (ready_jobs cells table) (jobs_of_table model cells table is))
