-- Wherever the simulation of a plan of a valid model comes, what stands is of the model.
use Rattle.std.proofs.Common.{◌≡◌, ◌⊎◌, ℕ, ◌+◌, ◌-◌, ◌≤◌, Bool, true, false, if◌then◌else◌, nat_lt, IsTrue, inl, List, [], ◌∷◌, Option, Some, None, refl, sym, ap, ◌∙◌, subst, arith, cond}
use Rattle.std.proofs.lemmas.Bool.{ltb-false}
use Rattle.aerie_base.specs.declared.faults.Fault.{Fault}
use Rattle.aerie_base.specs.declared.models.model.Parts.{Parts}
use Rattle.aerie_base.specs.declared.plans.Plan.{Plan}
use Rattle.aerie_base.specs.models.ValidModel.{valid_model}
use Rattle.std.specs.BTreeMap.{is_at}
use Rattle.aerie_base.specs.Paths.{path_cmp}
use Rattle.aerie_base.specs.plans.OfModel.{IsPlanOf}
use Rattle.effect_cells.specs.declared.effects.CellState.{CellState}
use Rattle.effect_cells.specs.Cells.{passed, first_out, committed_cells, AreInRange}
use Rattle.run_data.specs.declared.jobs.Job.{Job}
use Rattle.run_data.specs.TaskFrames.{Frame}
use Rattle.run_data.specs.declared.runs.Run.{Run}
use Rattle.run_data.specs.Batches.{Batch, limit, failed, committed, batch, judged as judged_batch, when_within, when_no_fault, unless_out, Blame, fault_in, least_fault, lesser, blamed, tree_of, cost_of, by_path}
use Rattle.run_data.specs.Endings.{after_batch, gone_on}
use Rattle.run_data.specs.Frames.{Made, Making, made_by_all}
use Rattle.run_data.specs.Fresh.{SimulationState, start, next_by, woken_or_moved, moved, to_time, to_end, after_outcome, least_due, below, IsReached}
use Rattle.run_data.specs.Jobs.{AreCellsOf}
use Rattle.run_data.specs.Tasks.{ready, Task, Table, task_at, on_each, after_frame, after_frames, children_made, children_in, ready_jobs, woken, rested}
use Rattle.run_data.specs.Transitions.{Next, more, finished, begins, onward}
use Rattle.run_data.specs.laws.BatchFrames.{OfReady, OfChild, AreFramesOf, BatchFrames}
use Rattle.run_data.specs.laws.Orders.{EachOf}
use Rattle.run_data.specs.laws.ReachedStates.{IsTableOf, ReachedIsOfModel}
use Rattle.run_data.proofs.EffectKinds.{MadeLeaves, jobs_leave, committed_are, passed_are}
use Rattle.run_data.specs.laws.FramesByPath.{new_at, differ_sorted}
use Rattle.run_data.specs.FrameLaws.{any_sorted, each_sorted, sorted_cost}
use Rattle.run_data.specs.TableLaws.{at_with}
use Rattle.run_data.proofs.MadeByJobs.{MadeAmong, GoodJobs, Known, Begins, jobs_good}
use Rattle.run_data.proofs.ReadyJobs.{OfTable, none_to_come, jobs_of_table, jobs_apart, are_jobs, jobs_within, each_weaker}
use Rattle.run_data.proofs.Rising.{stands_well}
use Rattle.run_data.proofs.StartOfModel.{start_table, start_made, start_cells, start_in_range}
use Rattle.run_data.proofs.StepEndings.{GoodJob}
use Rattle.run_data.proofs.TableOfModel.{Keeps, found_at, table_changed, rested_keeps, woken_keeps, gone_keeps, called, batch_keeps_table}

-- ---- no frame of a committed batch faulted

blame_stays : (path : List ℕ) (fault : Fault) (rest : Option Blame) → lesser (path, fault) rest ≡ None → ⊥
blame_stays path fault None e = absurd (cc)
blame_stays path fault (Some other) e = absurd (cc)

pub none_faulted : (frames : List Frame) → least_fault frames ≡ None → EachOf (λ frame. fault_in frame.status ≡ None) frames
none_faulted [] e = tt
none_faulted (frame ∷ rest) e = by (fault_in frame.status) refl e (none_faulted rest)
  where
    by : (fault : Option Fault) → fault_in frame.status ≡ fault → blamed frame.path fault (least_fault rest) ≡ None → (least_fault rest ≡ None → EachOf (λ one. fault_in one.status ≡ None) rest) →
        EachOf (λ one. fault_in one.status ≡ None) (frame ∷ rest)
    by None same none further = (same, further none)
    by (Some fault) same none further = absurd (blame_stays frame.path fault (least_fault rest) none)

-- ---- children are paid for

abbrev pub MadeMost : ℕ → Table → Type 0
MadeMost most table = (path : List ℕ) (task : Task) → task_at table path ≡ Some task → task.made ≤ most

most_by : (most : ℕ) (found : Option Task) → ((task : Task) → found ≡ Some task → task.made ≤ most) → children_made found ≤ most
most_by most None h = omega arith
most_by most (Some task) h = h task refl

frame_most : (now most : ℕ) (frame : Frame) (table : Table) → children_in frame.items ≤ frame.cost → MadeMost most table → MadeMost (most + frame.cost) (after_frame now frame table)
frame_most now most frame table few all path task e = by (is_at (path_cmp path) frame.path) (sym (at_with table frame.path path (new_at now table frame)) ∙ e)
  where
    by : (here : Bool) → cond here (Some (new_at now table frame)) (task_at table path) ≡ Some task → task.made ≤ most + frame.cost
    by true same =
        let is : new_at now table frame ≡ task = cc in
        let made : children_made (task_at table frame.path) + children_in frame.items ≡ task.made = ap (λ (t : Task). t.made) is in
        omega (arith, made, few, most_by most (task_at table frame.path) (λ old there. all frame.path old there))
    by false same = omega (arith, all path task same)

frames_most : (now most : ℕ) (frames : List Frame) (table : Table) → EachOf (λ frame. children_in frame.items ≤ frame.cost) frames → MadeMost most table →
    MadeMost (most + cost_of frames) (after_frames now frames table)
frames_most now most [] table few all path task e = omega (arith, all path task e)
frames_most now most (frame ∷ rest) table few all path task e =
    let further = frames_most now (most + frame.cost) rest (after_frame now frame table) few.1 (frame_most now most frame table few.0 all) path task e in omega (arith, further)

changed_most : (model : Parts) (change : List ℕ → Task → Task) (table : Table) (most : ℕ) → Keeps model change table → MadeMost most table → MadeMost most (on_each change table)
changed_most model change table most keeps all path task e =
    let found = found_at model change table path task e in
    let same : (change path found.old).made ≡ task.made = ap (λ (t : Task). t.made) found.is in
    omega (arith, all path found.old found.there, keeps.made path found.old, same)

few_each : (P Q : Frame → Type 0) → ((frame : Frame) → P frame → Q frame) → (frames : List Frame) → EachOf P frames → EachOf Q frames
few_each P Q gives [] each = tt
few_each P Q gives (frame ∷ rest) each = (gives frame each.0, few_each P Q gives rest each.1)

each_of : (P : Frame → Type 0) (frames : List Frame) → EachOf P frames → EachOf P frames
each_of P [] each = tt
each_of P (frame ∷ rest) each = (each.0, each_of P rest each.1)

-- ---- a batch

module _ (model : Parts) (valid : IsTrue (valid_model model)) (cells : List CellState) (are : AreCellsOf model cells) (table : Table) (is : IsTableOf model table) where
  good_jobs : EachOf (λ (job : ℕ × Job). GoodJob model job.1) (ready_jobs cells table)
  good_jobs =
      each_weaker (OfTable model cells table) (λ job. GoodJob model job.1)
      (λ job of. record { state = of.good; view = subst (AreCellsOf model) (sym of.view) are }) (ready_jobs cells table) (jobs_of_table model cells table is)

  module _ (made : Made) (none : least_fault made.frames ≡ None) (budget : ℕ) (e : made_by_all model budget (ready_jobs cells table) ≡ Some made) (now : ℕ) where
    sound : EachOf (λ frame. fault_in frame.status ≡ None) (by_path made.frames)
    sound = each_sorted (λ frame. fault_in frame.status ≡ None) made.frames (none_faulted made.frames none)

    begins_of : (job : ℕ × Job) → OfTable model cells table job → Begins model valid table (by_path made.frames) sound job.0 job.1
    begins_of job of = record {
      good = record { state = of.good; view = subst (AreCellsOf model) (sym of.view) are };
      made = of.made ∙ sym (ap children_made of.there);
      none = λ number other from under. none_to_come model table is job.1.path of.task of.there number (subst (λ n. n ≤ number) (ap children_made of.there) from) other under;
      own = λ frame path before. inl (record {
        task = of.task;
        there = ap (task_at table) path ∙ of.there;
        phase = of.phase ∙ ap ready (sym before);
      });
    }

    all_begin : EachOf (λ (job : ℕ × Job). Begins model valid table (by_path made.frames) sound job.0 job.1) (ready_jobs cells table)
    all_begin =
        each_weaker (OfTable model cells table) (λ job. Begins model valid table (by_path made.frames) sound job.0 job.1) begins_of (ready_jobs cells table) (jobs_of_table model cells table is)

    all_among : MadeAmong model valid table (by_path made.frames) sound (made_by_all model budget (ready_jobs cells table))
    all_among = subst (MadeAmong model valid table (by_path made.frames) sound) (sym e) (λ frame among. any_sorted (λ one. one ≡ frame) made.frames among)

    all_good : GoodJobs model valid table (by_path made.frames) sound (Some made)
    all_good = subst (GoodJobs model valid table (by_path made.frames) sound) e
        (jobs_good model valid table (by_path made.frames) sound budget (ready_jobs cells table) all_begin (jobs_apart model cells table is) all_among)

    pub after_table : IsTableOf model (after_batch now (by_path made.frames) table)
    after_table =
        batch_keeps_table model valid table is (by_path made.frames) sound
        (each_sorted (Known model valid table (by_path made.frames) sound) made.frames all_good.each) (differ_sorted made.frames all_good.differ) now

    pub frames_are : AreFramesOf table (by_path made.frames)
    frames_are =
        let all = each_sorted (Known model valid table (by_path made.frames) sound) made.frames all_good.each in record {
          differ = differ_sorted made.frames all_good.differ;
          origin = each_of (λ frame. OfReady table frame ⊎ OfChild table (by_path made.frames) frame) (by_path made.frames)
              (few_each (Known model valid table (by_path made.frames) sound) (λ frame. OfReady table frame ⊎ OfChild table (by_path made.frames) frame) (λ frame known. known.origin) (by_path made.frames) all);
          few = each_of (λ frame. children_in frame.items ≤ frame.cost) (by_path made.frames)
              (few_each (Known model valid table (by_path made.frames) sound) (λ frame. children_in frame.items ≤ frame.cost) (λ frame known. known.few) (by_path made.frames) all);
          calls = called model valid table is (by_path made.frames) sound all (differ_sorted made.frames all_good.differ) now;
        }

    pub after_made : (most : ℕ) → MadeMost most table → MadeMost (most + cost_of (by_path made.frames)) (after_batch now (by_path made.frames) table)
    after_made most before =
        let few = each_sorted (λ frame. children_in frame.items ≤ frame.cost) made.frames
        (few_each (Known model valid table (by_path made.frames) sound) (λ frame. children_in frame.items ≤ frame.cost) (λ frame known. known.few) made.frames all_good.each) in
        changed_most model (gone_on (after_frames now (by_path made.frames) table) now) (after_frames now (by_path made.frames) table) (most + cost_of (by_path made.frames))
        (gone_keeps model now (after_frames now (by_path made.frames) table)) (frames_most now most (by_path made.frames) table few before)

    pub after_cells : AreCellsOf model (committed_cells cells (tree_of made))
    after_cells = committed_are model valid cells are made (subst (MadeLeaves model valid cells are) e (jobs_leave model valid cells are budget (ready_jobs cells table) good_jobs))

  -- what is committed
  abbrev pub BatchGood : ℕ → ℕ → ℕ → Batch → Type 0
  BatchGood bound spent now limit = Unit {0}
  BatchGood bound spent now (failed who fault) = Unit {0}
  BatchGood bound spent now (committed next touched frames) =
      IsTableOf model (after_batch now frames table) × AreCellsOf model next × AreInRange next × (spent + cost_of frames ≤ bound)
      × (MadeMost spent table → MadeMost (spent + cost_of frames) (after_batch now frames table)) × AreFramesOf table frames

  module _ (bound spent now : ℕ) where
    out_good : (made : Made) → least_fault made.frames ≡ None → made_by_all model bound (ready_jobs cells table) ≡ Some made → spent + cost_of made.frames ≤ bound →
        (out : Option ℕ) → first_out (committed_cells cells (tree_of made)) ≡ out → BatchGood bound spent now (unless_out out made cells (committed_cells cells (tree_of made)))
    out_good made none e fit None inside = (after_table made none bound e now, after_cells made none bound e now, inside, omega (arith, fit, sorted_cost made.frames), after_made made none bound e now spent, frames_are made none bound e now)
    out_good made none e fit (Some cell) inside = tt

    fault_good : (made : Made) → made_by_all model bound (ready_jobs cells table) ≡ Some made → spent + cost_of made.frames ≤ bound → (blame : Option Blame) → least_fault made.frames ≡ blame →
        BatchGood bound spent now (when_no_fault blame made cells)
    fault_good made e fit None none = out_good made none e fit (first_out (committed_cells cells (tree_of made))) refl
    fault_good made e fit (Some (path, fault)) none = tt

    making_good : (making : Making) → made_by_all model bound (ready_jobs cells table) ≡ making → BatchGood bound spent now (judged_batch bound spent cells making)
    making_good None e = tt
    making_good (Some made) e = by (nat_lt bound (spent + cost_of made.frames)) refl
      where
        by : (past : Bool) → nat_lt bound (spent + cost_of made.frames) ≡ past → BatchGood bound spent now (when_within (if past then false else true) made cells)
        by true past = tt
        by false past = fault_good made e (ltb-false bound (spent + cost_of made.frames) past) (least_fault made.frames) refl

    pub batch_good : BatchGood bound spent now (batch model bound spent cells (ready_jobs cells table))
    batch_good = making_good (made_by_all model bound (ready_jobs cells table)) refl

-- ---- where the simulation is

module _ (model : Parts) (plan : Plan) (bound : ℕ) (valid : IsTrue (valid_model model)) where
  pub record Here (at : SimulationState) : Type 0 where
    pub table : IsTableOf model at.table
    pub cells : AreCellsOf model at.cells
    pub in_range : AreInRange at.cells
    pub spent : at.spent ≤ bound
    pub made : MadeMost at.spent at.table

  abbrev pub GoodPoint : Next SimulationState Run → Type 0
  GoodPoint (more at) = Here at
  GoodPoint (finished run) = Unit {0}

  outcome_good : (at : SimulationState) → (here : Here at) → (outcome : Batch) → BatchGood model valid at.cells here.cells at.table here.table bound at.spent at.time outcome →
      GoodPoint (after_outcome model plan bound at outcome)
  outcome_good at here limit good = tt
  outcome_good at here (failed who fault) good = tt
  outcome_good at here (committed cells touched frames) good = record { table = good.0; cells = good.1; in_range = good.2; spent = good.3; made = good.4 here.made }

  time_good : (at : SimulationState) → Here at → (time : ℕ) (cells : List CellState) → AreCellsOf model cells → (out : Option ℕ) → first_out cells ≡ out →
      GoodPoint (to_time model plan bound at time cells out)
  time_good at here time cells are (Some cell) e = tt
  time_good at here time cells are None e = record {
    table = table_changed model (rested time) at.table here.table (rested_keeps model time at.table);
    cells = are;
    in_range = e;
    spent = here.spent;
    made = changed_most model (rested time) at.table at.spent (rested_keeps model time at.table) here.made;
  }

  end_good : (at : SimulationState) (out : Option ℕ) → GoodPoint (to_end model plan bound at out)
  end_good at (Some cell) = tt
  end_good at None = tt

  moved_good : (at : SimulationState) → Here at → (time : Option ℕ) → GoodPoint (moved model plan bound at time)
  moved_good at here None = end_good at (first_out (passed at.cells (plan.duration - at.time)))
  moved_good at here (Some time) =
      time_good at here time (passed at.cells (time - at.time)) (passed_are model at.cells (time - at.time) here.cells) (first_out (passed at.cells (time - at.time))) refl

  judged_good : (at : SimulationState) → Here at → (jobs : List (ℕ × Job)) → GoodPoint (woken_or_moved model plan bound at (on_each (woken at.cells) at.table) jobs)
  judged_good at here [] = moved_good at here (below plan.duration (least_due at.time plan.duration at.cells at.table))
  judged_good at here (job ∷ rest) = record {
    table = table_changed model (woken at.cells) at.table here.table (woken_keeps model at.cells at.table);
    cells = here.cells;
    in_range = here.in_range;
    spent = here.spent;
    made = changed_most model (woken at.cells) at.table at.spent (woken_keeps model at.cells at.table) here.made;
  }

  next_by_good : (at : SimulationState) → Here at → (jobs : List (ℕ × Job)) → ready_jobs at.cells at.table ≡ jobs → GoodPoint (next_by model plan bound at jobs)
  next_by_good at here [] e = judged_good at here (ready_jobs at.cells (on_each (woken at.cells) at.table))
  next_by_good at here (job ∷ rest) e =
      outcome_good at here (batch model bound at.spent at.cells (job ∷ rest))
      (subst (λ (jobs : List (ℕ × Job)). BatchGood model valid at.cells here.cells at.table here.table bound at.spent at.time (batch model bound at.spent at.cells jobs)) e
      (batch_good model valid at.cells here.cells at.table here.table bound at.spent at.time))

  start_good : IsPlanOf model plan → Here (start model plan)
  start_good is = record { table = start_table model valid plan is; cells = start_cells model valid; in_range = start_in_range model valid; spent = omega arith; made = start_made model valid plan is }

  pub reached_good : IsPlanOf model plan → (point : Next SimulationState Run) → IsReached model plan bound point → GoodPoint point
  reached_good is (more at) begins = start_good is
  reached_good is point (onward {point = at} before) = next_by_good at (reached_good is (more at) before) (ready_jobs at.cells at.table) refl

pub reached_is_of_model : ReachedIsOfModel
reached_is_of_model model plan bound at valid is reached =
    let here = reached_good model plan bound valid is (more at) reached in record {
      table = here.table;
      cells = here.cells;
      in_range = here.in_range;
      jobs = are_jobs model at.cells at.table here.table here.cells here.in_range;
      within = jobs_within model at.cells at.table here.table here.cells here.in_range;
      apart = jobs_apart model at.cells at.table here.table;
      spent = here.spent;
      made = here.made;
      time = (stands_well model plan bound (more at) reached).within (omega (arith, is.duration));
    }

pub batch_frames : BatchFrames
batch_frames model plan bound at cells touched frames valid is reached e =
    let here = reached_good model plan bound valid is (more at) reached in
    (subst (BatchGood model valid at.cells here.cells at.table here.table bound at.spent at.time) e
    (batch_good model valid at.cells here.cells at.table here.table bound at.spent at.time)).5
