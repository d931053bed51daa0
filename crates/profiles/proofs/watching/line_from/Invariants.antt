use Rattle.std.proofs.Common.{◌≡◌, ◌≤◌, ◌*◌, ◌+ℤ◌, unsigned_abs, drop}
use Rattle.profiles.specs.Watching.{values_sum, rates_sum}
use Rattle.profiles.proofs.watching.line_from.Given as goal

-- what is summed up, and what is left, are the sums, and each cell adds no more than it may
abbrev pub invariant-loop-each : goal.invariant-loop-each
invariant-loop-each l = record {
  from : l.line.from ≡ l.fn.from;
  values : l.line.value +ℤ values_sum (drop l.each-index l.watched) ≡ values_sum l.watched;
  rates : l.line.rate +ℤ rates_sum (drop l.each-index l.watched) ≡ rates_sum l.watched;
  small_value : unsigned_abs l.line.value ≤ 1_000_000_000_000_000_000_000_000 * l.each-index;
  small_rate : unsigned_abs l.line.rate ≤ 1_000_000_000_000_000_000 * l.each-index;
}
