use Rattle.std.proofs.Common.{◌≡◌, length, map}
use Rattle.span_table.specs.AsDefined.{defined_span}
use Rattle.constraints.specs.Sources.{AreTimesIn}
use Rattle.constraints.proofs.sources.times_among.Given as goal

-- the times so far, by the number of the type
abbrev pub invariant-loop-kind : goal.invariant-loop-kind
invariant-loop-kind l = (length l.made ≡ l.kind) × AreTimesIn l.reach (map defined_span l.spans) l.made
