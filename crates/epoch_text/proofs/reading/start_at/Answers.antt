-- The instant of whole microseconds of a day, in nanoseconds, is one of jiff's.
use Rattle.std.proofs.Common.{◌/◌, arith, ◌∙◌}
use Rattle.jiff.specs.Words.{epoch_day, time_nanos}
use Rattle.jiff.proofs.SpanFacts.{signed_arith}
use Rattle.jiff_core.proofs.DateTimeLemmas.{time_nanos_bound}
use Rattle.epoch_text.proofs.Instants.{instant_in_range, micros_of_nanos, nanos_of_parts}
use Rattle.epoch_text.proofs.reading.start_at.Goals as goal

pub at-requires : goal.at-requires
at-requires c =
    let nanos = nanos_of_parts c.from_parts.result c.args.date c.args.time c.from_parts.ensures.date c.from_parts.ensures.time in
    let shown = c.in-Ok.ensures.value in
    let same = micros_of_nanos (epoch_day c.args.date) c.in-Ok.instant.nanosecond (time_nanos c.args.time) c.requires.whole (omega (arith, signed_arith, shown, nanos)) in
    let range = instant_in_range (epoch_day c.args.date) (time_nanos c.args.time / 1_000) c.requires.day (omega (arith, time_nanos_bound c.args.time)) in
    let micros = c.as_microsecond.ensures ∙ same in
    rw micros (omega (arith, signed_arith, range.0, range.1), omega (arith, signed_arith, range.0, range.1))

pub unreachable-requires : goal.unreachable-requires
unreachable-requires c =
    let nanos = nanos_of_parts c.from_parts.result c.args.date c.args.time c.from_parts.ensures.date c.from_parts.ensures.time in
    let bound = time_nanos_bound c.args.time in
    let wrong = c.in-Err.ensures.succeeds.1 (omega (arith, signed_arith, nanos, bound, c.requires.day), omega (arith, signed_arith, nanos, bound, c.requires.day)) in
    cc

pub returns : goal.returns
returns c =
    let nanos = nanos_of_parts c.from_parts.result c.args.date c.args.time c.from_parts.ensures.date c.from_parts.ensures.time in
    let shown = c.in-Ok.ensures.value in
    let same = micros_of_nanos (epoch_day c.args.date) c.in-Ok.instant.nanosecond (time_nanos c.args.time) c.requires.whole (omega (arith, signed_arith, shown, nanos)) in
    let range = instant_in_range (epoch_day c.args.date) (time_nanos c.args.time / 1_000) c.requires.day (omega (arith, time_nanos_bound c.args.time)) in
    let micros = c.as_microsecond.ensures ∙ same in
    omega (arith, signed_arith, c.at.ensures, micros, range.0, range.1)
