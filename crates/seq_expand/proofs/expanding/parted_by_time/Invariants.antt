-- Those so far, each where it belongs.
use Rattle.std.proofs.Common.{◌≡◌, not}
use Rattle.std.specs.List.{filter}
use Rattle.seq_expand.specs.Expanding.{is_in_plan}
use Rattle.seq_expand.proofs.expanding.parted_by_time.Given as goal

abbrev pub invariant-loop-one : goal.invariant-loop-one
invariant-loop-one l = record {
  within : l.within.items ≡ filter (is_in_plan l.duration) l.yielded;
  outside : l.outside.items ≡ filter (λ one. not (is_in_plan l.duration one)) l.yielded;
}
