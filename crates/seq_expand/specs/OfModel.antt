-- When the rules of a sequence are of a model.
use Rattle.std.specs.Prelude.{ℕ, Bool, nat_le}
use Rattle.std.specs.List.{list_all}
use Rattle.std.specs.Int.RustNames.{unsigned_abs}
use Rattle.seq_expand.specs.declared.rules.SendStep.{SendStep}
use Rattle.seq_expand.specs.declared.rules.SpanRule.{SpanRule}

-- the farthest that a command lies from an edge of its span, in microseconds
abbrev pub farthest_shift : ℕ
farthest_shift = 1_000_000_000_000_000

abbrev pub has_shift : SendStep → Bool
has_shift step = nat_le (unsigned_abs step.shift) farthest_shift

abbrev pub have_shifts : SpanRule → Bool
have_shifts rule = list_all has_shift rule.steps
