-- The frames of children, as they are looked for one after another.
use Rattle.std.proofs.Common.{◌≡◌, ℕ, suc, ◌+◌, ◌<◌, ◌≤◌, length, get_or, drop, Bool, true, false, List, [], ◌∷◌, ◌++◌, Some, None, refl, sym, ap, ◌∙◌, subst, arith}
use Rattle.std.proofs.lemmas.List.{append-nil, at_drop_more, at_drop_all}
use Rattle.std.specs.List.{list_any}
use Rattle.aerie_base.specs.declared.models.model.Parts.{Parts}
use Rattle.effect_cells.specs.declared.effects.CellState.{CellState}
use Rattle.effect_cells.specs.Cells.{emitted}
use Rattle.run_data.specs.TaskFrames.{Frame}
use Rattle.run_data.specs.declared.frames.Item.{Item}
use Rattle.run_data.specs.declared.frames.Item.TheVariants as item
use Rattle.run_data.specs.declared.jobs.Job.{Job}
use Rattle.run_data.specs.Frames.{child_job, room_of}
use Rattle.run_data.specs.laws.BatchFrames.{Among, HasPath}
use Rattle.run_data.specs.laws.FittingFrames.{AreOfEach, FitsJob, FitTree}
use Rattle.run_data.specs.laws.Generations.{child_jobs}
use Rattle.run_data.specs.laws.Trees.{frame_at}
use Rattle.engine_core.specs.BatchViews.{CanEmitAll}
use Rattle.fitting.specs.Fitting.{job_of_frame, FitChild, FitChildren, Lacks, FindsOrLacks, FitsItem, MaySee, MaySeeChildren, is_child}
use Rattle.fitting.proofs.Finding.{found_there, none_there}
use Rattle.fitting.specs.DecidedJobs.{DecidesAll, decides_more, decides_none}
use Rattle.fitting.proofs.Parts.{finds_tree, lacks_path, lacks_frame, lacks_children}
use Rattle.fitting.proofs.Rooms.{room_is_little}
use Rattle.fitting.proofs.Stepping.{child_may}

-- ---- the job of a frame

pub frame_is_job : (frame : Frame) (job : Job) → frame.path ≡ job.path → frame.before ≡ job.state → job_of_frame frame job.view ≡ job
frame_is_job frame job path state = λ i. record { path = path i; state = state i; view = job.view }

-- what is found or lacks for the job of a frame is found or lacks for the job
pub of_job : (model : Parts) (bound number : ℕ) (old : List Frame) (frame : Frame) (job : Job) → frame.path ≡ job.path → frame.before ≡ job.state → (all_there : Bool) (before after : List Frame) →
    FindsOrLacks (FitTree model bound (room_of frame.path) number (job_of_frame frame job.view)) old all_there before after → FindsOrLacks (FitTree model bound (room_of job.path) number job) old all_there before after
of_job model bound number old frame job path state all_there before after h =
    subst (λ (p : List ℕ). FindsOrLacks (FitTree model bound (room_of p) number job) old all_there before after) path
    (subst (λ (j : Job). FindsOrLacks (FitTree model bound (room_of frame.path) number j) old all_there before after) (frame_is_job frame job path state) h)

-- or for a child of a task whose path has room for one number more
pub of_child : (model : Parts) (bound room : ℕ) (old : List Frame) (frame : Frame) (job : Job) → room ≡ suc (room_of frame.path) → frame.path ≡ job.path → frame.before ≡ job.state →
    (all_there : Bool) (before after : List Frame) → FindsOrLacks (FitTree model bound (room_of frame.path) 0 (job_of_frame frame job.view)) old all_there before after →
    FindsOrLacks (FitChild model bound room job) old all_there before after
of_child model bound room old frame job more_ path state all_there before after h =
    subst (λ (r : ℕ). FindsOrLacks (FitChild model bound r job) old all_there before after) (sym more_)
    (subst (λ (j : Job). FindsOrLacks (FitTree model bound (room_of frame.path) 0 j) old all_there before after) (frame_is_job frame job path state) h)

-- a frame with its children, or without
pub with_children : (model : Parts) (bound room number : ℕ) (old : List Frame) (job : Job) (frame : Frame) → Among frame old → frame.path ≡ job.path → FitsJob model bound job frame →
    (all_there : Bool) (before now after : List Frame) → now ≡ before ++ frame ∷ [] →
    FindsOrLacks (FitChildren model bound room (child_jobs model job.path number job.view frame.items)) old all_there now after → FindsOrLacks (FitTree model bound room number job) old all_there before after
with_children model bound room number old job frame there same fits true before now after one h = finds_tree model bound room number old job frame before now after fits one h
with_children model bound room number old job frame there same fits false before now after one h = lacks_children model bound room number old job frame there same h

-- ---- items

-- items without a child make none
pub none_made : (model : Parts) (maker : List ℕ) (number : ℕ) (view : List CellState) (items : List Item) → list_any is_child items ≡ false → child_jobs model maker number view items ≡ []
none_made model maker number view [] none = refl
none_made model maker number view (item.Emit cell effect ∷ rest) none = none_made model maker number (emitted view cell effect) rest none
none_made model maker number view (item.Child kind arguments ∷ rest) none = absurd (cc)

pub none_found : (model : Parts) (bound room : ℕ) (old : List Frame) (children : List Job) (before : List Frame) → children ≡ [] → FindsOrLacks (FitChildren model bound room children) old true before before
none_found model bound room old children before none =
    ([], sym (append-nil before), subst (λ (l : List Job). AreOfEach (FitChild model bound room) l []) (sym none) refl)

module _ (model : Parts) (bound : ℕ) (maker : List ℕ) (old : List Frame) (whole : List Job) (before : List Frame) where
  -- what an item leaves
  pub record GoesOn (rest : List Item) (number later index : ℕ) (seen after : List CellState) (now with_ : List Frame) : Type 0 where
    pub decides : DecidesAll (FitChild model bound (room_of maker)) old whole (child_jobs model maker later after rest) before with_
    pub can : CanEmitAll after rest
    pub may : MaySeeChildren model (room_of maker) (child_jobs model maker later after rest)
    pub few : later ≤ number + 1

  pub item_on : (one : Item) (rest : List Item) (number later index : ℕ) (seen after : List CellState) (now with_ : List Frame) →
      DecidesAll (FitChild model bound (room_of maker)) old whole (child_jobs model maker number seen (one ∷ rest)) before now → CanEmitAll seen (one ∷ rest) →
      MaySeeChildren model (room_of maker) (child_jobs model maker number seen (one ∷ rest)) → FitsItem model bound maker old one number seen (Some later) after now with_ →
      GoesOn rest number later index seen after now with_
  item_on (item.Emit cell effect) rest number later index seen after now with_ decides can may fits = record {
    decides =
        subst (λ (l : List Frame). DecidesAll (FitChild model bound (room_of maker)) old whole (child_jobs model maker later after rest) before l) (sym fits.2)
        (subst (λ (v : List CellState). DecidesAll (FitChild model bound (room_of maker)) old whole (child_jobs model maker later v rest) before now) (sym fits.1)
        (subst (λ n. DecidesAll (FitChild model bound (room_of maker)) old whole (child_jobs model maker n (emitted seen cell effect) rest) before now) (sym fits.0) decides));
    can = subst (λ (v : List CellState). CanEmitAll v rest) (sym fits.1) can.1;
    may =
        subst (λ (v : List CellState). MaySeeChildren model (room_of maker) (child_jobs model maker later v rest)) (sym fits.1)
        (subst (λ n. MaySeeChildren model (room_of maker) (child_jobs model maker n (emitted seen cell effect) rest)) (sym fits.0) may);
    few = omega (arith, fits.0);
  }
  item_on (item.Child kind arguments) rest number later index seen after now with_ decides can may fits = record {
    decides =
        subst (λ (v : List CellState). DecidesAll (FitChild model bound (room_of maker)) old whole (child_jobs model maker later v rest) before with_) (sym fits.1)
        (subst (λ n. DecidesAll (FitChild model bound (room_of maker)) old whole (child_jobs model maker n seen rest) before with_) (sym fits.0)
        (decides_more (FitChild model bound (room_of maker)) old whole before (child_job model maker number seen kind arguments) (child_jobs model maker (number + 1) seen rest) now with_ decides fits.2));
    can = subst (λ (v : List CellState). CanEmitAll v rest) (sym fits.1) can.1;
    may =
        subst (λ (v : List CellState). MaySeeChildren model (room_of maker) (child_jobs model maker later v rest)) (sym fits.1)
        (subst (λ n. MaySeeChildren model (room_of maker) (child_jobs model maker n seen rest)) (sym fits.0) may.1);
    few = omega (arith, fits.0);
  }

  -- a child that is not there decides that all are not
  pub item_lacks : (one : Item) (rest : List Item) (number : ℕ) (seen after : List CellState) (now with_ : List Frame) →
      DecidesAll (FitChild model bound (room_of maker)) old whole (child_jobs model maker number seen (one ∷ rest)) before now → FitsItem model bound maker old one number seen None after now with_ →
      Lacks (FitChildren model bound (room_of maker) whole) old
  item_lacks (item.Emit cell effect) rest number seen after now with_ decides fits = absurd fits
  item_lacks (item.Child kind arguments) rest number seen after now with_ decides fits =
      decides_none (FitChild model bound (room_of maker)) old whole before (child_job model maker number seen kind arguments) (child_jobs model maker (number + 1) seen rest) now decides fits

  -- the first item of some may be looked at
  pub first_may : (one : Item) (rest : List Item) (number : ℕ) (seen : List CellState) → MaySeeChildren model (room_of maker) (child_jobs model maker number seen (one ∷ rest)) →
      MaySeeChildren model (room_of maker) (child_jobs model maker number seen (one ∷ []))
  first_may (item.Emit cell effect) rest number seen may = tt
  first_may (item.Child kind arguments) rest number seen may = (may.0, tt)

-- ---- a child that is looked for by its path

pub child_no_path : (model : Parts) (bound : ℕ) (old : List Frame) (maker path : List ℕ) (job : Job) → room_of maker ≡ suc (room_of path) → job.path ≡ path → frame_at old path ≡ None →
    Lacks (FitChild model bound (room_of maker) job) old
child_no_path model bound old maker path job more_ same none =
    subst (λ (r : ℕ). Lacks (FitChild model bound r job) old) (sym more_)
    (lacks_path model bound (room_of path) 0 old job (λ has. none_there old path none (subst (λ (p : List ℕ). HasPath p old) same has)))

pub child_no_frame : (model : Parts) (bound : ℕ) (old : List Frame) (maker path : List ℕ) (job : Job) (frame : Frame) → room_of maker ≡ suc (room_of path) → job.path ≡ path → frame_at old path ≡ Some frame →
    (FitsJob model bound job frame → ⊥) → Lacks (FitChild model bound (room_of maker) job) old
child_no_frame model bound old maker path job frame more_ same is none =
    let there = found_there old path frame is in
    subst (λ (r : ℕ). Lacks (FitChild model bound r job) old) (sym more_)
    (lacks_frame model bound (room_of path) 0 old job frame there.0 (there.1 ∙ sym same) none)

-- what a child's frame may see
pub child_sees : (model : Parts) (maker : List ℕ) (frame : Frame) (job : Job) → room_of maker ≡ suc (room_of frame.path) → frame.path ≡ job.path → frame.before ≡ job.state →
    MaySeeChildren model (room_of maker) (job ∷ []) → MaySee model (room_of frame.path) (job_of_frame frame job.view)
child_sees model maker frame job more_ path state may =
    let little = room_is_little maker in
    subst (λ (j : Job). MaySee model (room_of frame.path) j) (sym (frame_is_job frame job path state))
    (child_may model (room_of frame.path) job (omega (arith, little, more_)) (subst (λ (r : ℕ). MaySeeChildren model r (job ∷ [])) more_ may))

-- and that of a ready job
pub job_sees : (model : Parts) (frame : Frame) (job : Job) → frame.path ≡ job.path → frame.before ≡ job.state → MaySee model (room_of job.path) job →
    MaySee model (room_of frame.path) (job_of_frame frame job.view)
job_sees model frame job path state may =
    subst (λ (j : Job). MaySee model (room_of frame.path) j) (sym (frame_is_job frame job path state))
    (subst (λ (p : List ℕ). MaySee model (room_of p) job) (sym path) may)

-- ---- an item among others

pub item_here : (items : List Item) (at : ℕ) (one : Item) → at < length items → one ≡ get_or items at one → drop at items ≡ one ∷ drop (at + 1) items
item_here items at one within is = at_drop_more (λ (l : List Item). l) items at one within ∙ ap (λ (x : Item). x ∷ drop (at + 1) items) (sym is)

pub none_left : (model : Parts) (maker : List ℕ) (number : ℕ) (view : List CellState) (items : List Item) (at : ℕ) → length items ≤ at → child_jobs model maker number view (drop at items) ≡ []
none_left model maker number view items at past = ap (child_jobs model maker number view) (at_drop_all (λ (l : List Item). l) items at past)
