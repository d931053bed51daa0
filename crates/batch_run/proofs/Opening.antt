-- Pieces that are opened one after another.
use Rattle.std.proofs.Common.{◌≡◌, ◌≤◌, ◌<◌, ℕ, ◌+◌, ◌-◌, Bool, true, false, List, [], ◌∷◌, ◌++◌, Option, Some, None, Result, Ok, Err, IfOk, arith, refl, sym, ap, subst, ◌∙◌, append_assoc, append-nil}
use Rattle.aerie_base.specs.declared.memory.OutOfMemory.{OutOfMemory}
use Rattle.run_data.specs.declared.steppers.Wave.TheVariants.{Frames, Spent}
use Rattle.run_data.specs.TaskFrames.{Frame}
use Rattle.run_data.specs.Batches.{cost_of}
use Rattle.run_data.specs.Counts.{cost_append, unmatched_of_none}
use Rattle.run_data.specs.Waves.{unless_spent, IsFrugal}
use Rattle.run_data.specs.laws.Generations.{beside_frames}
use Rattle.task_step.specs.FreshWaves.{UncountedWave}
use Rattle.batch_run.specs.Pieces.{HaveNoError, frames_in_pieces, frames_in_wave, joined_wave}
use Rattle.batch_run.proofs.Joining.{paid_by, spent_by}

-- All are spent; or the frames so far, and those of the pieces that are left, are those of all pieces, cost what is missing of the
-- fuel, and were counted.
abbrev pub JoinedSoFar : ℕ → List (Result UncountedWave OutOfMemory) → List (Result UncountedWave OutOfMemory) → Bool → List Frame → ℕ → ℕ → ℕ → Type 0
JoinedSoFar fuel all rest true frames left from to = joined_wave fuel all ≡ Spent
JoinedSoFar fuel all rest false frames left from to =
    (beside_frames (Some frames) (frames_in_pieces rest) ≡ frames_in_pieces all) × (left + cost_of frames ≡ fuel) × (to ≡ from + cost_of frames)

pub joined_first : (fuel : ℕ) (all : List (Result UncountedWave OutOfMemory)) (steps : ℕ) → JoinedSoFar fuel all all false [] fuel steps steps
joined_first fuel all steps = (by (frames_in_pieces all), omega arith, omega arith)
  where
    by : (found : Option (List Frame)) → beside_frames (Some []) found ≡ found
    by None = refl
    by (Some frames) = refl

-- the pieces that are left, of which this one is the first
pub record IsNext (pieces : List (Result UncountedWave OutOfMemory)) (piece : Result UncountedWave OutOfMemory) (fresh : UncountedWave) (rest : List (Result UncountedWave OutOfMemory)) : Type 0 where
  pub pieces_are : pieces ≡ piece ∷ rest
  pub piece_is : piece ≡ Ok fresh

pub no_error : (all pieces rest : List (Result UncountedWave OutOfMemory)) (piece : Result UncountedWave OutOfMemory) (fresh : UncountedWave) → IsNext pieces piece fresh rest →
    (HaveNoError pieces → HaveNoError all) → HaveNoError rest → HaveNoError all
no_error all pieces rest piece fresh is so_far none =
    so_far (subst HaveNoError (sym (is.pieces_are ∙ ap (λ (first : Result UncountedWave OutOfMemory). first ∷ rest) is.piece_is)) none)

first_frames : (pieces rest : List (Result UncountedWave OutOfMemory)) (piece : Result UncountedWave OutOfMemory) (fresh : UncountedWave) (found : Option (List Frame)) → IsNext pieces piece fresh rest →
    frames_in_wave fresh.wave ≡ found → frames_in_pieces pieces ≡ beside_frames found (frames_in_pieces rest)
first_frames pieces rest piece fresh found is wave =
    ap frames_in_pieces (is.pieces_are ∙ ap (λ (first : Result UncountedWave OutOfMemory). first ∷ rest) is.piece_is)
    ∙ ap (λ (frames : Option (List Frame)). beside_frames frames (frames_in_pieces rest)) wave

-- a piece that is spent
pub joined_spent : (fuel : ℕ) (all pieces rest : List (Result UncountedWave OutOfMemory)) (piece : Result UncountedWave OutOfMemory) (fresh : UncountedWave) (is_spent : Bool) (frames : List Frame) (left from to : ℕ) →
    IsNext pieces piece fresh rest → fresh.wave ≡ Spent → JoinedSoFar fuel all pieces is_spent frames left from to → joined_wave fuel all ≡ Spent
joined_spent fuel all pieces rest piece fresh true frames left from to is spent so_far = so_far
joined_spent fuel all pieces rest piece fresh false frames left from to is spent so_far =
    let none = first_frames pieces rest piece fresh None is (ap frames_in_wave spent) in
    ap (unless_spent fuel) (sym so_far.0 ∙ ap (beside_frames (Some frames)) none)

-- a piece that costs more than what is left
pub joined_past : (fuel : ℕ) (all pieces rest : List (Result UncountedWave OutOfMemory)) (piece : Result UncountedWave OutOfMemory) (fresh : UncountedWave) (more : List Frame) (is_spent : Bool) (frames : List Frame) (left from to : ℕ) →
    IsNext pieces piece fresh rest → fresh.wave ≡ Frames more → (is_spent ≡ false → left < cost_of more) → JoinedSoFar fuel all pieces is_spent frames left from to → joined_wave fuel all ≡ Spent
joined_past fuel all pieces rest piece fresh more true frames left from to is wave past so_far = so_far
joined_past fuel all pieces rest piece fresh more false frames left from to is wave past so_far =
    let some = first_frames pieces rest piece fresh (Some more) is (ap frames_in_wave wave) in
    ap (unless_spent fuel) (sym so_far.0 ∙ ap (beside_frames (Some frames)) some) ∙ by (frames_in_pieces rest)
  where
    by : (others : Option (List Frame)) → unless_spent fuel (beside_frames (Some frames) (beside_frames (Some more) others)) ≡ Spent
    by None = refl
    by (Some others) =
        let one = cost_append frames (more ++ others) in
        let two = cost_append more others in
        spent_by fuel (frames ++ (more ++ others)) (omega (arith, one, two, past refl, so_far.1))

-- a piece that is paid for
pub joined_more : (fuel : ℕ) (all pieces rest : List (Result UncountedWave OutOfMemory)) (piece : Result UncountedWave OutOfMemory) (fresh : UncountedWave) (more : List Frame) (is_spent : Bool) (frames : List Frame) (left from to : ℕ) →
    IsNext pieces piece fresh rest → fresh.wave ≡ Frames more → fresh.cost ≡ cost_of more → is_spent ≡ false → fresh.cost ≤ left → JoinedSoFar fuel all pieces is_spent frames left from to →
    (frames_then : List Frame) (left_then to_then : ℕ) → frames_then ≡ frames ++ more → left_then ≡ left - fresh.cost → to_then ≡ to + fresh.cost →
    JoinedSoFar fuel all rest is_spent frames_then left_then from to_then
joined_more fuel all pieces rest piece fresh more true frames left from to is wave cost unspent enough so_far frames_then left_then to_then f l t = absurd (cc)
joined_more fuel all pieces rest piece fresh more false frames left from to is wave cost unspent enough so_far frames_then left_then to_then f l t =
    let some = first_frames pieces rest piece fresh (Some more) is (ap frames_in_wave wave) in
    let sum = cost_append frames more in
    let now = ap cost_of f in (
      ap (λ (these : List Frame). beside_frames (Some these) (frames_in_pieces rest)) f ∙ by (frames_in_pieces rest) ∙ ap (beside_frames (Some frames)) (sym some) ∙ so_far.0,
      omega (arith, sum, now, cost, enough, l, so_far.1),
      omega (arith, sum, now, cost, t, so_far.2),
    )
  where
    by : (others : Option (List Frame)) → beside_frames (Some (frames ++ more)) others ≡ beside_frames (Some frames) (beside_frames (Some more) others)
    by None = refl
    by (Some others) = ap Some (append_assoc frames more others)

-- all pieces are opened
pub joined_all : (fuel : ℕ) (all : List (Result UncountedWave OutOfMemory)) (frames : List Frame) (left from to : ℕ) → JoinedSoFar fuel all [] false frames left from to →
    (Frames frames ≡ joined_wave fuel all) × IsFrugal (Frames frames) [] from to
joined_all fuel all frames left from to so_far =
    let whole : Some frames ≡ frames_in_pieces all = ap Some (sym (append-nil frames)) ∙ so_far.0 in
    let none = unmatched_of_none frames in (
      sym (ap (unless_spent fuel) (sym whole) ∙ paid_by fuel frames (omega (arith, so_far.1))),
      omega (arith, so_far.2, none),
    )

-- ---- results

pub if_ok : {A E : Type 0} (P S : A → Type 0) → ((x : A) → P x → S x) → (result : Result A E) → IfOk result P → IfOk result S
if_ok P S f (Ok x) p = f x p
if_ok P S f (Err error) p = tt

pub if_both : {A E : Type 0} (P Q S : A → Type 0) → ((x : A) → P x → Q x → S x) → (result : Result A E) → IfOk result P → IfOk result Q → IfOk result S
if_both P Q S f (Ok x) p q = f x p q
if_both P Q S f (Err error) p q = tt
