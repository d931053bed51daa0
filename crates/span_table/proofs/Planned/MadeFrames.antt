-- Each job of a committed batch has its frame.
use Rattle.std.proofs.Common.{◌≡◌, inl, inr, ℕ, zero, suc, ◌+◌, Bool, true, false, List, [], ◌∷◌, ◌++◌, Option, Some, None, nat_lt, if◌then◌else◌, refl, sym, ap, subst}
use Rattle.aerie_base.specs.declared.models.model.Parts.{Parts}
use Rattle.effect_cells.specs.declared.effects.CellState.{CellState}
use Rattle.effect_cells.specs.Cells.{committed_cells, first_out}
use Rattle.run_data.specs.TaskFrames.{Frame}
use Rattle.run_data.specs.declared.jobs.Job.{Job}
use Rattle.run_data.specs.Batches.{Batch, limit, failed, committed, Blame, unless_out, when_no_fault, when_within, judged, batch, by_path, cost_of, least_fault, tree_of}
use Rattle.run_data.specs.Frames.{Made, Making, with_child, with_frame, frame_of, job_step, of_items, of_step, too_deep, made_within, made_by, made_by_all, room_of}
use Rattle.run_data.specs.Steps.{Stepped}
use Rattle.run_data.specs.laws.BatchFrames.{AnyFrame, HasPath}
use Rattle.span_table.specs.PlannedSpans.{IsOneOf}
use Rattle.run_data.specs.FrameLaws.{any_sorted}

-- ---- some frame of several

module _ (P : Frame → Type 0) where
  in_front : (frames others : List Frame) → AnyFrame P frames → AnyFrame P (frames ++ others)
  in_front [] others has = absurd has
  in_front (frame ∷ rest) others (inl h) = inl h
  in_front (frame ∷ rest) others (inr h) = inr (in_front rest others h)

  behind : (frames others : List Frame) → AnyFrame P others → AnyFrame P (frames ++ others)
  behind [] others has = has
  behind (frame ∷ rest) others has = inr (behind rest others has)

-- ---- a job's own frame

abbrev frames_in : Making → List Frame
frames_in None = []
frames_in (Some made) = made.frames

framed : (frame : Frame) (making : Making) (made : Made) → with_frame frame making ≡ Some made → HasPath frame.path made.frames
framed frame None made e = absurd (cc)
framed frame (Some rest) made e =
    let same : frame ∷ rest.frames ≡ made.frames = ap frames_in e in
    subst (λ frames. HasPath frame.path frames) same (inl refl)

own_by : (model : Parts) (of_child : Job → Making) (job : Job) (number : ℕ) (stepped : Stepped) (made : Made) →
    of_step model of_child job number stepped ≡ Some made → HasPath job.path made.frames
own_by model of_child job number None made e = absurd (cc)
own_by model of_child job number (Some (status, so_far)) made e =
    framed (frame_of job status so_far) (of_items model of_child job.path number job.view so_far.items) made e

own_within : (model : Parts) (budget room number : ℕ) (job : Job) (made : Made) → made_within model budget room number job ≡ Some made → HasPath job.path made.frames
own_within model budget zero number job made e = own_by model (too_deep job.path) job number (job_step model budget job) made e
own_within model budget (suc room) number job made e = own_by model (made_within model budget room 0) job number (job_step model budget job) made e

-- ---- the frames of all jobs

-- what is made of a child and of the rest
parts_of : (child rest : Making) (made : Made) → with_child child rest ≡ Some made →
    (one : Made) × (others : Made) × (child ≡ Some one) × (rest ≡ Some others) × (made.frames ≡ one.frames ++ others.frames)
parts_of None rest made e = absurd (cc)
parts_of (Some child) None made e = absurd (cc)
parts_of (Some child) (Some rest) made e = (child, rest, refl, refl, sym (ap frames_in e))

own_of_all : (model : Parts) (budget : ℕ) (jobs : List (ℕ × Job)) (made : Made) (job : ℕ × Job) → made_by_all model budget jobs ≡ Some made → IsOneOf job jobs →
    HasPath job.1.path made.frames
own_of_all model budget [] made job e among = absurd among
own_of_all model budget (first ∷ rest) made job e among =
    by among (parts_of (made_by model budget first) (made_by_all model budget rest) made e) (λ others is further. own_of_all model budget rest others job is further)
  where
    by : IsOneOf job (first ∷ rest) →
        (one : Made) × (others : Made) × (made_by model budget first ≡ Some one) × (made_by_all model budget rest ≡ Some others) × (made.frames ≡ one.frames ++ others.frames) →
        ((others : Made) → made_by_all model budget rest ≡ Some others → IsOneOf job rest → HasPath job.1.path others.frames) →
        HasPath job.1.path made.frames
    by (inl same) parts others =
        let own : HasPath first.1.path parts.0.frames = own_within model budget (room_of first.1.path) first.0 first.1 parts.0 parts.2 in
        subst (λ frames. HasPath job.1.path frames) (sym parts.4)
        (in_front (λ frame. frame.path ≡ job.1.path) parts.0.frames parts.1.frames
        (subst (λ (j : ℕ × Job). HasPath j.1.path parts.0.frames) same own))
    by (inr further) parts others =
        subst (λ frames. HasPath job.1.path frames) (sym parts.4)
        (behind (λ frame. frame.path ≡ job.1.path) parts.0.frames parts.1.frames
        (others parts.1 parts.3 further))

-- ---- a committed batch

abbrev frames_of : Batch → List Frame
frames_of limit = []
frames_of (failed who fault) = []
frames_of (committed cells touched frames) = frames

module _ (bound spent : ℕ) (before cells : List CellState) (touched : List ℕ) (frames : List Frame) where
  by_out : (out : Option ℕ) (made : Made) (next : List CellState) → unless_out out made before next ≡ committed cells touched frames → by_path made.frames ≡ frames
  by_out None made next e = ap frames_of e
  by_out (Some cell) made next e = absurd (cc)

  by_fault : (fault : Option Blame) (made : Made) → when_no_fault fault made before ≡ committed cells touched frames → by_path made.frames ≡ frames
  by_fault None made e = let next = committed_cells before (tree_of made) in by_out (first_out next) made next e
  by_fault (Some (path, fault)) made e = absurd (cc)

  by_cost : (within : Bool) (made : Made) → when_within within made before ≡ committed cells touched frames → by_path made.frames ≡ frames
  by_cost true made e = by_fault (least_fault made.frames) made e
  by_cost false made e = absurd (cc)

  by_making : (making : Making) → judged bound spent before making ≡ committed cells touched frames → (made : Made) × (making ≡ Some made) × (by_path made.frames ≡ frames)
  by_making None e = absurd (cc)
  by_making (Some made) e = (made, refl, by_cost (if nat_lt bound (spent + cost_of made.frames) then false else true) made e)

  pub has_frame : (model : Parts) (jobs : List (ℕ × Job)) (job : ℕ × Job) → batch model bound spent before jobs ≡ committed cells touched frames → IsOneOf job jobs → HasPath job.1.path frames
  has_frame model jobs job e among =
      let found = by_making (made_by_all model bound jobs) e in
      subst (λ frames. HasPath job.1.path frames) found.2
      (any_sorted (λ frame. frame.path ≡ job.1.path) found.0.frames (own_of_all model bound jobs found.0 job found.1 among))
