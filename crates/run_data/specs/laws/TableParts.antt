-- A file of lemmas: what it proves need not be read to trust a clause.
--
-- Parts of tables.
use Rattle.std.proofs.Common.{◌≡◌, ℕ, suc, Bool, true, false, cond, not, ◌&&◌, ◌||◌, List, [], ◌∷◌, Option, Some, None, refl, sym, ap, ◌∙◌, subst, if◌then◌else◌, slice_get}
use Rattle.std.specs.declared.cmp.Ordering.{Ordering}
use Rattle.std.specs.declared.cmp.Ordering.TheVariants.{Less, Equal, Greater}
use Rattle.std.specs.Ordering.{is_eq}
use Rattle.std.specs.BTreeMap.{is_at}
use Rattle.aerie_base.specs.Paths.{path_cmp, is_prefix}
use Rattle.effect_cells.specs.declared.effects.CellState.{CellState}
use Rattle.run_data.specs.declared.jobs.Job.{Job}
use Rattle.run_data.specs.Endings.{is_open, has_ended}
use Rattle.run_data.specs.Fresh.{due_time, least_due}
use Rattle.run_data.specs.Tasks.{TaskPhase, anchored, ready, delayed, waiting, calling, over, Task, Table, task_at, on_each, ready_jobs, job_if_ready}
use Rattle.run_data.specs.laws.OrderedTables.{Above, IsOrderedTable}
use Rattle.run_data.specs.TableLaws.{is_same, path_itself, path_same, reversed, above_all}
use Rattle.run_data.specs.laws.ReadyTasks.{is_ready_phase}
use Rattle.aerie_base.specs.TimeOrder.{earlier}
use Rattle.run_data.specs.laws.LiveParts.{part}

module _ (keep : List ℕ → Bool) where
  above_part : (path : List ℕ) (table : Table) → Above path table → Above path (part keep table)
  above_part path [] above = tt
  above_part path (entry ∷ rest) above = by (keep entry.0) (above_part path rest above.1)
    where
      by : (kept : Bool) → Above path (part keep rest) → Above path (if kept then entry ∷ part keep rest else part keep rest)
      by true further = (above.0, further)
      by false further = further

  pub order_part : (table : Table) → IsOrderedTable table → IsOrderedTable (part keep table)
  order_part [] order = tt
  order_part (entry ∷ rest) order = by (keep entry.0) (order_part rest order.1)
    where
      by : (kept : Bool) → IsOrderedTable (part keep rest) → IsOrderedTable (if kept then entry ∷ part keep rest else part keep rest)
      by true further = (above_part entry.0 rest order.0, further)
      by false further = further

  -- a change of all tasks
  pub part_each : (change : List ℕ → Task → Task) (table : Table) → part keep (on_each change table) ≡ on_each change (part keep table)
  part_each change [] = refl
  part_each change (entry ∷ rest) = by (keep entry.0) (part_each change rest)
    where
      by : (kept : Bool) → part keep (on_each change rest) ≡ on_each change (part keep rest) →
          (if kept then (entry.0, change entry.0 entry.1) ∷ part keep (on_each change rest) else part keep (on_each change rest))
          ≡ on_each change (if kept then entry ∷ part keep rest else part keep rest)
      by true further = ap (λ t. (entry.0, change entry.0 entry.1) ∷ t) further
      by false further = further

  pub part_at : (table : Table) (path : List ℕ) → keep path ≡ true → task_at (part keep table) path ≡ task_at table path
  part_at [] path kept = refl
  part_at (entry ∷ rest) path kept = by (keep entry.0) (is_at (path_cmp path) entry.0) refl refl (part_at rest path kept)
    where
      by : (here same : Bool) → keep entry.0 ≡ here → is_at (path_cmp path) entry.0 ≡ same → task_at (part keep rest) path ≡ task_at rest path →
          task_at (if here then entry ∷ part keep rest else part keep rest) path ≡ cond same (Some entry.1) (task_at rest path)
      by true true e f further = rw f refl
      by true false e f further = rw f further
      by false true e f further =
          let clash : true ≡ false = sym kept ∙ ap keep (is_same path entry.0 f) ∙ e in absurd (cc)
      by false false e f further = further

  pub part_none : (table : Table) (path : List ℕ) → keep path ≡ false → task_at (part keep table) path ≡ None
  part_none [] path out = refl
  part_none (entry ∷ rest) path out = by (keep entry.0) refl (part_none rest path out)
    where
      by : (here : Bool) → keep entry.0 ≡ here → task_at (part keep rest) path ≡ None → task_at (if here then entry ∷ part keep rest else part keep rest) path ≡ None
      by true e further = at (is_at (path_cmp path) entry.0) refl
        where
          at : (same : Bool) → is_at (path_cmp path) entry.0 ≡ same → cond same (Some entry.1) (task_at (part keep rest) path) ≡ None
          at true f = let clash : true ≡ false = sym e ∙ ap keep (sym (is_same path entry.0 f)) ∙ out in absurd (cc)
          at false f = further
      by false e further = further

  -- entries that are left out and make no difference
  abbrev pub LeftOut : (List ℕ → Task → Type 0) → Table → Type 0
  LeftOut P table = (number : ℕ) (path : List ℕ) (task : Task) → slice_get table number ≡ Some (path, task) → keep path ≡ false → P path task

  pub ended_part : (path : List ℕ) (table : Table) → LeftOut (λ other task. (not (is_prefix path other) || not (is_open task.phase)) ≡ true) table →
      has_ended (part keep table) path ≡ has_ended table path
  ended_part path [] out = refl
  ended_part path (entry ∷ rest) out = by (keep entry.0) refl (ended_part path rest (λ number other task at. out (suc number) other task at))
    where
      stays : Bool
      stays = not (is_prefix path entry.0) || not (is_open entry.1.phase)

      by : (kept : Bool) → keep entry.0 ≡ kept → has_ended (part keep rest) path ≡ has_ended rest path →
          has_ended (if kept then entry ∷ part keep rest else part keep rest) path ≡ (stays && has_ended rest path)
      by true e further = ap (λ b. stays && b) further
      by false e further = further ∙ sym (ap (λ b. b && has_ended rest path) (out 0 entry.0 entry.1 refl e))

  not_ready : (cells : List CellState) (path : List ℕ) (task : Task) (phase : TaskPhase) (jobs : List (ℕ × Job)) → is_ready_phase phase ≡ false → job_if_ready cells path task phase jobs ≡ jobs
  not_ready cells path task (ready state) jobs e = absurd (cc)
  not_ready cells path task (anchored to edge start state) jobs e = refl
  not_ready cells path task (delayed until state) jobs e = refl
  not_ready cells path task (waiting condition state) jobs e = refl
  not_ready cells path task (calling child into state) jobs e = refl
  not_ready cells path task (over result) jobs e = refl

  pub ready_part : (cells : List CellState) (table : Table) → LeftOut (λ other task. is_ready_phase task.phase ≡ false) table → ready_jobs cells (part keep table) ≡ ready_jobs cells table
  ready_part cells [] out = refl
  ready_part cells (entry ∷ rest) out = by (keep entry.0) refl (ready_part cells rest (λ number other task at. out (suc number) other task at))
    where
      by : (kept : Bool) → keep entry.0 ≡ kept → ready_jobs cells (part keep rest) ≡ ready_jobs cells rest →
          ready_jobs cells (if kept then entry ∷ part keep rest else part keep rest) ≡ job_if_ready cells entry.0 entry.1 entry.1.phase (ready_jobs cells rest)
      by true e further = ap (job_if_ready cells entry.0 entry.1 entry.1.phase) further
      by false e further = further ∙ sym (not_ready cells entry.0 entry.1 entry.1.phase (ready_jobs cells rest) (out 0 entry.0 entry.1 refl e))

  pub due_part : (now horizon : ℕ) (cells : List CellState) (table : Table) → LeftOut (λ other task. due_time now horizon cells task.phase ≡ None) table →
      least_due now horizon cells (part keep table) ≡ least_due now horizon cells table
  due_part now horizon cells [] out = refl
  due_part now horizon cells (entry ∷ rest) out = by (keep entry.0) refl (due_part now horizon cells rest (λ number other task at. out (suc number) other task at))
    where
      by : (kept : Bool) → keep entry.0 ≡ kept → least_due now horizon cells (part keep rest) ≡ least_due now horizon cells rest →
          least_due now horizon cells (if kept then entry ∷ part keep rest else part keep rest) ≡ earlier (due_time now horizon cells entry.1.phase) (least_due now horizon cells rest)
      by true e further = ap (earlier (due_time now horizon cells entry.1.phase)) further
      by false e further = further ∙ sym (ap (λ o. earlier o (least_due now horizon cells rest)) (out 0 entry.0 entry.1 refl e))

-- ---- tables with the same tasks

pub above_none : (path : List ℕ) (table : Table) → Above path table → task_at table path ≡ None
above_none path [] above = refl
above_none path (entry ∷ rest) above = ap (λ o. cond (is_eq o) (Some entry.1) (task_at rest path)) above.0 ∙ above_none path rest above.1

pub first_at : (entry : List ℕ × Task) (rest : Table) → task_at (entry ∷ rest) entry.0 ≡ Some entry.1
first_at entry rest = ap (λ o. cond (is_eq o) (Some entry.1) (task_at rest entry.0)) (path_itself entry.0)

pub same_tables : (table other : Table) → IsOrderedTable table → IsOrderedTable other → ((path : List ℕ) → task_at table path ≡ task_at other path) → table ≡ other
same_tables [] [] order second same = refl
same_tables [] (entry ∷ rest) order second same = let k : None ≡ Some entry.1 = same entry.0 ∙ first_at entry rest in absurd (cc)
same_tables (entry ∷ rest) [] order second same = let k : Some entry.1 ≡ None = sym (first_at entry rest) ∙ same entry.0 in absurd (cc)
same_tables (entry ∷ rest) (one ∷ others) order second same = by (path_cmp entry.0 one.0) refl (same_tables rest others order.1 second.1)
  where
    tail : entry.0 ≡ one.0 → (path : List ℕ) → task_at rest path ≡ task_at others path
    tail e path = go (is_at (path_cmp path) entry.0) refl
      where
        go : (here : Bool) → is_at (path_cmp path) entry.0 ≡ here → task_at rest path ≡ task_at others path
        go true f =
            let here : path ≡ entry.0 = is_same path entry.0 f in
            subst (λ p. task_at rest p ≡ task_at others p) (sym here)
            (above_none entry.0 rest order.0 ∙ sym (ap (task_at others) e ∙ above_none one.0 others second.0))
        go false f =
            let g : is_at (path_cmp path) one.0 ≡ false = ap (λ p. is_at (path_cmp path) p) (sym e) ∙ f in
            ap (λ b. cond b (Some entry.1) (task_at rest path)) (sym f) ∙ same path ∙ ap (λ b. cond b (Some one.1) (task_at others path)) g

    by : (order_ : Ordering) → path_cmp entry.0 one.0 ≡ order_ → (((path : List ℕ) → task_at rest path ≡ task_at others path) → rest ≡ others) → entry ∷ rest ≡ one ∷ others
    by Less e further =
        let k : Some entry.1 ≡ None = sym (first_at entry rest) ∙ same entry.0 ∙ above_none entry.0 (one ∷ others) (e, above_all entry.0 one.0 others e second.0) in absurd (cc)
    by Greater e further =
        let f : path_cmp one.0 entry.0 ≡ Less = reversed entry.0 one.0 Greater e in
        let k : None ≡ Some one.1 = sym (above_none one.0 (entry ∷ rest) (f, above_all one.0 entry.0 rest f order.0)) ∙ same one.0 ∙ first_at one others in absurd (cc)
    by Equal e further =
        let p : entry.0 ≡ one.0 = path_same entry.0 one.0 e in
        let o : Some entry.1 ≡ Some one.1 = sym (first_at entry rest) ∙ same entry.0 ∙ ap (task_at (one ∷ others)) p ∙ first_at one others in
        let t : entry.1 ≡ one.1 = cc in
        let all = further (tail p) in λ i. (p i, t i) ∷ all i

-- ---- one task of all that are changed

abbrev pub changed_at : (List ℕ → Task → Task) → List ℕ → Option Task → Option Task
changed_at change path None = None
changed_at change path (Some task) = Some (change path task)

pub each_at : (change : List ℕ → Task → Task) (table : Table) (path : List ℕ) → task_at (on_each change table) path ≡ changed_at change path (task_at table path)
each_at change [] path = refl
each_at change (entry ∷ rest) path = by (is_at (path_cmp path) entry.0) refl (each_at change rest path)
  where
    by : (here : Bool) → is_at (path_cmp path) entry.0 ≡ here → task_at (on_each change rest) path ≡ changed_at change path (task_at rest path) →
        cond here (Some (change entry.0 entry.1)) (task_at (on_each change rest) path) ≡ changed_at change path (cond here (Some entry.1) (task_at rest path))
    by true e further = ap (λ p. Some (change p entry.1)) (sym (is_same path entry.0 e))
    by false e further = further
