-- The frames of a generation of jobs whose paths have room, put behind others as one list.
use Rattle.std.proofs.Common.{◌≡◌, ℕ, suc, ◌+◌, ◌<◌, Bool, true, false, List, [], ◌∷◌, ◌++◌, map, length, ◌≤◌, get_or, take, drop, Some, slice_get, option_map, refl, sym, ap, ◌∙◌, subst, nat_eq, append_assoc, arith}
use Rattle.std.proofs.lemmas.Bool.Decides.{nat_tests}
use Rattle.std.proofs.lemmas.List.{append-nil, take_all}
use Rattle.std.proofs.lemmas.Option.{slice_get_read, slice_get-map, get_or_from_slice_get, slice_get_within}
use Rattle.std.proofs.Math.Seq.{take-suc}
use Rattle.aerie_base.specs.declared.models.model.Parts.{Parts}
use Rattle.run_data.specs.TaskFrames.{Frame}
use Rattle.run_data.specs.declared.jobs.Job.{Job}
use Rattle.run_data.specs.laws.Generations.{child_jobs, beside_generation, pending_of}
use Rattle.run_data.specs.laws.WaveGenerations.{generation_of}
use Rattle.engine_core.specs.BatchDues.{fresh}
use Rattle.engine_core.specs.BatchGenerations.{gathered_so_far, jobs_of, AddsGeneration, HasRoomForChild, HaveRoomForChildren}
use Rattle.engine_core.proofs.FrameByFrame.{adds_due, frame_iteration, frames_end}

-- the jobs up to a place have room
abbrev pub HaveRoomUpTo : List Job → ℕ → Type 0
HaveRoomUpTo jobs end = (at : ℕ) (one : Job) → at < end → slice_get jobs at ≡ Some one → HasRoomForChild one.path

pub room_more : (jobs : List Job) (index : ℕ) (job : Job) → HaveRoomUpTo jobs index → index < length jobs → job ≡ get_or jobs index job → HasRoomForChild job.path → HaveRoomUpTo jobs (index + 1)
room_more jobs index job before within is here at one less found = by (nat_eq at index) refl
  where
    by : (b : Bool) → nat_eq at index ≡ b → HasRoomForChild one.path
    by true e =
        let same : at ≡ index = grind (arith, nat_tests) in
        let both : Some one ≡ Some job = sym found ∙ ap (slice_get jobs) same ∙ slice_get_read jobs _ index job refl within is in
        let k : one ≡ job = cc in subst (λ (j : Job). HasRoomForChild j.path) (sym k) here
    by false e = before at one (grind (arith, nat_tests)) found

-- one frame more
taken_more : (made frames : List Frame) (at : ℕ) (frame : Frame) → slice_get frames at ≡ Some frame → made ++ take (at + 1) frames ≡ (made ++ take at frames) ++ frame ∷ []
taken_more made frames at frame found =
    let next : at + 1 ≡ suc at = omega arith in
    let here : get_or frames at frame ≡ frame = get_or_from_slice_get frames at frame frame found in
    ap (λ n. made ++ take n frames) next
    ∙ ap (λ (l : List Frame). made ++ l) (take-suc frames at frame (slice_get_within frames at frame found) ∙ ap (λ (one : Frame). take at frames ++ one ∷ []) here)
    ∙ sym (append_assoc made (take at frames) (frame ∷ []))

-- what there is, with what is left, is all with what there was
abbrev pub AddsSoFar : Parts → List (ℕ × Job) → List Frame → List Frame → ℕ → List (ℕ × Job) → Type 0
AddsSoFar model jobs frames made at dues =
    beside_generation (gathered_so_far (made ++ take at frames) dues) (generation_of model (map pending_of (drop at jobs)) (drop at frames))
    ≡ beside_generation (gathered_so_far made []) (generation_of model (map pending_of jobs) frames)

pub adds_none : (model : Parts) (jobs : List (ℕ × Job)) (frames made : List Frame) (dues : List (ℕ × Job)) → dues ≡ [] → AddsSoFar model jobs frames made 0 dues
adds_none model jobs frames made dues none =
    λ i. beside_generation (gathered_so_far (append-nil made i) (none i)) (generation_of model (map pending_of jobs) frames)

pub adds_more : (model : Parts) (jobs : List (ℕ × Job)) (frames made : List Frame) (at : ℕ) (job : ℕ × Job) (frame : Frame) (dues all : List (ℕ × Job)) → slice_get jobs at ≡ Some job → slice_get frames at ≡ Some frame →
    HasRoomForChild job.1.path → all ≡ dues ++ fresh (child_jobs model job.1.path job.0 job.1.view frame.items) → AddsSoFar model jobs frames made at dues → AddsSoFar model jobs frames made (at + 1) all
adds_more model jobs frames made at job frame dues all j f room is before =
    frame_iteration model jobs frames (made ++ take at frames) (made ++ take (at + 1) frames) dues all _ at job frame j f
    (adds_due model job frame (made ++ take at frames) (made ++ take (at + 1) frames) dues all room.good room.room (taken_more made frames at frame f) is) before

pub adds_all : (model : Parts) (jobs : List (ℕ × Job)) (frames made after : List Frame) (at : ℕ) (dues : List (ℕ × Job)) → length jobs ≤ at → length frames ≡ length jobs → after ≡ made ++ frames →
    AddsSoFar model jobs frames made at dues → AddsGeneration model jobs frames made after dues
adds_all model jobs frames made after at dues past long is before =
    frames_end model jobs frames (made ++ take at frames) dues _ at past before
    ∙ ap (λ (l : List Frame). gathered_so_far l dues) (ap (λ (l : List Frame). made ++ l) (take_all at frames (omega (arith, past, long))) ∙ sym is)

-- the job at a place has room
pub room_at : (jobs : List (ℕ × Job)) (at : ℕ) (job : ℕ × Job) → HaveRoomForChildren (jobs_of jobs) → slice_get jobs at ≡ Some job → HasRoomForChild job.1.path
room_at jobs at job room found = room at job.1 (slice_get-map (λ (one : ℕ × Job). one.1) jobs at ∙ ap (option_map (λ (one : ℕ × Job). one.1)) found)
