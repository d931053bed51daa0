-- The frames of a fresh run are in order of time, by the time that it reached.
use Rattle.std.proofs.Common.{ℕ, ◌≤◌, List, [], ◌∷◌, arith}
use Rattle.run_data.specs.TaskFrames.{Frame}
use Rattle.run_data.specs.declared.runs.Instant.{Instant}
use Rattle.run_data.specs.laws.Rising.{RiseAbove, RiseFromStart}
use Rattle.run_data.specs.Spans.{Timed, with_time, in_batches, timed}
use Rattle.span_table.proofs.InstantTimes.{AreBy}
use Rattle.span_table.proofs.SpansByPath.{NoneBefore, AreInOrder}

none_in_batch : (from time : ℕ) (frames : List Frame) (rest : List Timed) → from ≤ time → NoneBefore from rest → NoneBefore from (with_time time frames rest)
none_in_batch from time [] rest le none = none
none_in_batch from time (frame ∷ frames) rest le none = (le, none_in_batch from time frames rest le none)

none_in_batches : (from time : ℕ) (batches : List (List Frame)) (rest : List Timed) → from ≤ time → NoneBefore from rest → NoneBefore from (in_batches time batches rest)
none_in_batches from time [] rest le none = none
none_in_batches from time (batch ∷ batches) rest le none =
    none_in_batch from time batch (in_batches time batches rest) le (none_in_batches from time batches rest le none)

none_before : (from time : ℕ) (instants : List Instant) → from ≤ time → RiseAbove time instants → NoneBefore from (timed instants)
none_before from time [] le rise = tt
none_before from time (instant ∷ rest) le rise =
    none_in_batches from instant.time instant.batches (timed rest) (omega (arith, rise.0)) (none_before from instant.time rest (omega (arith, rise.0)) rise.1)

order_in_batch : (reach time : ℕ) (frames : List Frame) (rest : List Timed) → time ≤ reach → NoneBefore time rest → AreInOrder reach rest → AreInOrder reach (with_time time frames rest)
order_in_batch reach time [] rest le none order = order
order_in_batch reach time (frame ∷ frames) rest le none order =
    (le, none_in_batch time time frames rest (omega arith) none, order_in_batch reach time frames rest le none order)

order_in_batches : (reach time : ℕ) (batches : List (List Frame)) (rest : List Timed) → time ≤ reach → NoneBefore time rest → AreInOrder reach rest → AreInOrder reach (in_batches time batches rest)
order_in_batches reach time [] rest le none order = order
order_in_batches reach time (batch ∷ batches) rest le none order =
    order_in_batch reach time batch (in_batches time batches rest) le (none_in_batches time time batches rest (omega arith) none)
    (order_in_batches reach time batches rest le none order)

order_above : (reach time : ℕ) (instants : List Instant) → RiseAbove time instants → AreBy reach instants → AreInOrder reach (timed instants)
order_above reach time [] rise are = tt
order_above reach time (instant ∷ rest) rise are =
    order_in_batches reach instant.time instant.batches (timed rest) are.0 (none_before instant.time instant.time rest (omega arith) rise.1)
    (order_above reach instant.time rest rise.1 are.1)

pub frames_in_order : (reach : ℕ) (instants : List Instant) → RiseFromStart instants → AreBy reach instants → AreInOrder reach (timed instants)
frames_in_order reach [] rise are = tt
frames_in_order reach (first ∷ rest) rise are =
    order_in_batches reach first.time first.batches (timed rest) are.0 (none_before first.time first.time rest (omega arith) rise.1)
    (order_above reach first.time rest rise.1 are.1)
