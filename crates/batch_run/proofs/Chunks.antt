-- The waves of chunks are the pieces of a wave.
use Rattle.std.proofs.Common.{◌≡◌, ◌≤◌, ◌<◌, ℕ, suc, ◌+◌, ◌*◌, Bool, true, false, nat_lt, List, [], ◌∷◌, Result, IfOk, length, take, drop, get_or, arith, refl, sym, ap, ◌∙◌, subst, drop-drop, suc-mul, zero-mul, length-drop}
use Rattle.std.proofs.lemmas.Grind.{div_ceil_times}
use Rattle.std.proofs.lemmas.Nat.{mul-le}
use Rattle.std.proofs.Math.Nat.{mul_comm}
use Rattle.aerie_base.specs.declared.memory.OutOfMemory.{OutOfMemory}
use Rattle.aerie_base.specs.declared.models.model.Parts.{Parts}
use Rattle.run_data.specs.declared.jobs.Job.{Job}
use Rattle.task_step.specs.FreshWaves.{UncountedWave}
use Rattle.batch_run.specs.Pieces.{ArePieces, IsWaveOf, piece_count}

nil_of : (jobs : List Job) → length jobs ≤ 0 → jobs ≡ []
nil_of [] few = refl
nil_of (job ∷ jobs) few = absurd (omega (arith, few))

module _ (model : Parts) (fuel size : ℕ) where
  -- this piece is the wave of that chunk of the jobs
  abbrev pub IsChunkOf : List Job → ℕ → Result UncountedWave OutOfMemory → Type 0
  IsChunkOf jobs n piece = IfOk piece (IsWaveOf model fuel (take size (drop (n * size) jobs)))

  pub are_pieces : (jobs : List Job) (pieces : List (Result UncountedWave OutOfMemory)) → length jobs ≤ length pieces * size →
      ((n : ℕ) (none : Result UncountedWave OutOfMemory) → n < length pieces → IsChunkOf jobs n (get_or pieces n none)) → ArePieces model fuel size jobs pieces
  are_pieces jobs [] covers each = nil_of jobs (omega (arith, covers, zero-mul size))
  are_pieces jobs (piece ∷ pieces) covers each = (
    subst (λ (from : ℕ). IfOk piece (IsWaveOf model fuel (take size (drop from jobs)))) (zero-mul size) (each 0 piece (omega arith)),
    are_pieces (drop size jobs) pieces (omega (arith, covers, suc-mul (length pieces) size, length-drop size jobs)) (λ n none within.
        let from : n * size + size ≡ suc n * size = omega (arith, suc-mul n size) in
        let there : drop (suc n * size) jobs ≡ drop (n * size) (drop size jobs) =
        ap (λ (k : ℕ). drop k jobs) {x = suc n * size} {y = size + n * size} (omega (arith, from)) ∙ sym (drop-drop (n * size) size jobs) in
        subst (λ (these : List Job). IfOk (get_or pieces n none) (IsWaveOf model fuel (take size these))) there (each (suc n) none (omega (arith, within)))),
  )

-- so many chunks cover the jobs
pub cover : (jobs size count : ℕ) → 0 < size → count ≡ piece_count jobs size → jobs ≤ count * size
cover jobs size count some is = let least = (div_ceil_times jobs size some).0 in subst (λ (n : ℕ). jobs ≤ n * size) (sym is) least

no_more_than : (made count jobs size : ℕ) → 0 < size → made * size < jobs + size → jobs ≤ count * size → made ≤ count
no_more_than made count jobs size some under room = by (nat_lt count made) refl
  where
    by : (more : Bool) → nat_lt count made ≡ more → made ≤ count
    by false more = grind (arith, more)
    by true more =
        let past : suc count ≤ made = grind (arith, more) in
        let least : suc count * size ≤ made * size = mul-le (suc count) size made size past (omega arith) in
        absurd (omega (arith, under, room, least, suc-mul count size))

-- where so many pieces have room for all jobs, no more are made
pub no_more : (jobs size count : ℕ) → 0 < size → jobs ≤ count * size → piece_count jobs size ≤ count
no_more jobs size count some room = no_more_than (piece_count jobs size) count jobs size some ((div_ceil_times jobs size some).1) room

-- where each of so many pieces could have so many jobs, each has as many
pub large : (least jobs size count : ℕ) → 0 < count → count * least ≤ jobs → jobs ≤ size * count → least ≤ size
large least jobs size count some full room = by (nat_lt size least) refl
  where
    by : (less : Bool) → nat_lt size least ≡ less → least ≤ size
    by false less = grind (arith, less)
    by true less =
        let past : suc size ≤ least = grind (arith, less) in
        let under : suc size * count ≤ least * count = mul-le (suc size) count least count past (omega arith) in
        absurd (omega (arith, some, full, room, under, suc-mul size count, mul_comm count least))
