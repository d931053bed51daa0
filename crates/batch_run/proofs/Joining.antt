-- Waves of neighbouring jobs beside each other: the wave of all is spent where that of some is, and else has the frames of all.
use Rattle.std.proofs.Common.{◌≡◌, ◌≤◌, ◌<◌, ℕ, Bool, true, false, List, [], ◌∷◌, ◌++◌, Option, Some, None, Ok, Err, Result, take, drop, arith, refl, sym, ap, ◌∙◌, nat_lt, if◌then◌else◌, take-append-drop}
use Rattle.aerie_base.specs.declared.memory.OutOfMemory.{OutOfMemory}
use Rattle.aerie_base.specs.declared.models.model.Parts.{Parts}
use Rattle.run_data.specs.declared.jobs.Job.{Job}
use Rattle.run_data.specs.declared.steppers.Wave.{Wave}
use Rattle.run_data.specs.declared.steppers.Wave.TheVariants.{Frames, Spent}
use Rattle.run_data.specs.TaskFrames.{Frame}
use Rattle.run_data.specs.Batches.{cost_of}
use Rattle.run_data.specs.Counts.{cost_append}
use Rattle.run_data.specs.Frames.{job_step}
use Rattle.run_data.specs.Steps.{Stepped}
use Rattle.run_data.specs.Waves.{with_step, frames_of, unless_spent, wave_of}
use Rattle.run_data.specs.laws.Generations.{beside_frames}
use Rattle.task_step.specs.FreshWaves.{UncountedWave}
use Rattle.batch_run.specs.Pieces.{ArePieces, HaveNoError, frames_in_wave, frames_in_pieces, joined_wave}

-- ---- what a wave tells

pub spent_by : (fuel : ℕ) (frames : List Frame) → fuel < cost_of frames → unless_spent fuel (Some frames) ≡ Spent
spent_by fuel frames more =
    let past : nat_lt fuel (cost_of frames) ≡ true = grind (arith, more) in rw past refl

pub paid_by : (fuel : ℕ) (frames : List Frame) → cost_of frames ≤ fuel → unless_spent fuel (Some frames) ≡ Frames frames
paid_by fuel frames enough =
    let fits : nat_lt fuel (cost_of frames) ≡ false = grind (arith, enough) in rw fits refl

pub tells : (fuel : ℕ) (found : Option (List Frame)) (frames : List Frame) → unless_spent fuel found ≡ Frames frames → (found ≡ Some frames) × (cost_of frames ≤ fuel)
tells fuel None frames is = absurd (cc)
tells fuel (Some some) frames is = by (nat_lt fuel (cost_of some)) refl is
  where
    by : (past : Bool) → nat_lt fuel (cost_of some) ≡ past → ◌≡◌ {A = Wave} (if past then Spent else Frames some) (Frames frames) → (◌≡◌ {A = Option (List Frame)} (Some some) (Some frames)) × (cost_of frames ≤ fuel)
    by true past w = absurd (cc)
    by false past w =
        let same : some ≡ frames = cc in
        let fits : cost_of some ≤ fuel = grind (arith, past) in
        let cost : cost_of some ≡ cost_of frames = ap cost_of same in
        (ap Some same, omega (arith, fits, cost))

pub costs_more : (fuel : ℕ) (frames : List Frame) → unless_spent fuel (Some frames) ≡ Spent → fuel < cost_of frames
costs_more fuel frames is = by (nat_lt fuel (cost_of frames)) refl is
  where
    by : (past : Bool) → nat_lt fuel (cost_of frames) ≡ past → ◌≡◌ {A = Wave} (if past then Spent else Frames frames) Spent → fuel < cost_of frames
    by true past w = grind (arith, past)
    by false past w = absurd (cc)

-- ---- two beside each other

pub spent_first : (fuel : ℕ) (first rest : Option (List Frame)) → unless_spent fuel first ≡ Spent → unless_spent fuel (beside_frames first rest) ≡ Spent
spent_first fuel None rest is = refl
spent_first fuel (Some frames) None is = refl
spent_first fuel (Some frames) (Some others) is =
    let more = costs_more fuel frames is in
    let sum = cost_append frames others in
    spent_by fuel (frames ++ others) (omega (arith, more, sum))

pub spent_rest : (fuel : ℕ) (first rest : Option (List Frame)) → unless_spent fuel rest ≡ Spent → unless_spent fuel (beside_frames first rest) ≡ Spent
spent_rest fuel None rest is = refl
spent_rest fuel (Some frames) None is = refl
spent_rest fuel (Some frames) (Some others) is =
    let more = costs_more fuel others is in
    let sum = cost_append frames others in
    spent_by fuel (frames ++ others) (omega (arith, more, sum))

-- what two tell together goes by what each tells
pub alike : (fuel : ℕ) (first other rest more : Option (List Frame)) → unless_spent fuel first ≡ unless_spent fuel other → unless_spent fuel rest ≡ unless_spent fuel more →
    unless_spent fuel (beside_frames first rest) ≡ unless_spent fuel (beside_frames other more)
alike fuel first other rest more a b = by (unless_spent fuel first) (unless_spent fuel rest) refl refl
  where
    by : (wave later : Wave) → unless_spent fuel first ≡ wave → unless_spent fuel rest ≡ later → unless_spent fuel (beside_frames first rest) ≡ unless_spent fuel (beside_frames other more)
    by Spent later is other_is = spent_first fuel first rest is ∙ sym (spent_first fuel other more (sym a ∙ is))
    by (Frames frames) Spent is other_is = spent_rest fuel first rest other_is ∙ sym (spent_rest fuel other more (sym b ∙ other_is))
    by (Frames frames) (Frames others) is other_is =
        let one = (tells fuel first frames is).0 in
        let two = (tells fuel other frames (sym a ∙ is)).0 in
        let three = (tells fuel rest others other_is).0 in
        let four = (tells fuel more others (sym b ∙ other_is)).0 in
        rw (one, two, three, four) refl

-- ---- the frames of jobs

step_beside : (job : Job) (stepped : Stepped) (first rest : Option (List Frame)) → with_step job stepped (beside_frames first rest) ≡ beside_frames (with_step job stepped first) rest
step_beside job None first rest = refl
step_beside job (Some (status, so_far)) None rest = refl
step_beside job (Some (status, so_far)) (Some frames) None = refl
step_beside job (Some (status, so_far)) (Some frames) (Some others) = refl

nothing_first : (rest : Option (List Frame)) → beside_frames (Some []) rest ≡ rest
nothing_first None = refl
nothing_first (Some others) = refl

pub frames_append : (model : Parts) (fuel : ℕ) (jobs more : List Job) → frames_of model fuel (jobs ++ more) ≡ beside_frames (frames_of model fuel jobs) (frames_of model fuel more)
frames_append model fuel [] more = sym (nothing_first (frames_of model fuel more))
frames_append model fuel (job ∷ jobs) more =
    ap (with_step job (job_step model fuel job)) (frames_append model fuel jobs more)
    ∙ step_beside job (job_step model fuel job) (frames_of model fuel jobs) (frames_of model fuel more)

-- ---- pieces

again : (fuel : ℕ) (found : Option (List Frame)) → unless_spent fuel (frames_in_wave (unless_spent fuel found)) ≡ unless_spent fuel found
again fuel None = refl
again fuel (Some frames) = by (nat_lt fuel (cost_of frames)) refl
  where
    by : (past : Bool) → nat_lt fuel (cost_of frames) ≡ past → unless_spent fuel (frames_in_wave (if past then Spent else Frames frames)) ≡ (if past then Spent else Frames frames)
    by true past = refl
    by false past = rw past refl

-- the wave of all pieces is that of all jobs
pub joined_is : (model : Parts) (fuel size : ℕ) (jobs : List Job) (pieces : List (Result UncountedWave OutOfMemory)) → ArePieces model fuel size jobs pieces → HaveNoError pieces →
    joined_wave fuel pieces ≡ wave_of model fuel jobs
joined_is model fuel size jobs [] are done = ap (λ (these : List Job). wave_of model fuel these) (sym are)
joined_is model fuel size jobs (Err error ∷ pieces) are done = absurd done
joined_is model fuel size jobs (Ok fresh ∷ pieces) are done =
    let first : unless_spent fuel (frames_in_wave fresh.wave) ≡ unless_spent fuel (frames_of model fuel (take size jobs)) =
    ap (λ (wave : Wave). unless_spent fuel (frames_in_wave wave)) are.0 ∙ again fuel (frames_of model fuel (take size jobs)) in
    let rest = joined_is model fuel size (drop size jobs) pieces are.1 done in
    alike fuel (frames_in_wave fresh.wave) (frames_of model fuel (take size jobs)) (frames_in_pieces pieces) (frames_of model fuel (drop size jobs)) first rest
    ∙ ap (unless_spent fuel) (sym (frames_append model fuel (take size jobs) (drop size jobs)))
    ∙ ap (λ (these : List Job). wave_of model fuel these) (take-append-drop size jobs)
