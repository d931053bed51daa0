-- The piece that has begun last is below 2^120 where it begins and at the time.
use Rattle.std.proofs.Common.{sym, subst}
use Rattle.windows.specs.BegunLaws.{one_holds, linear_is}
use Rattle.windows.specs.declared.segments.Segment.{Segment}
use Rattle.windows.specs.Linear.{IsSum}
use Rattle.profiles.proofs.sampling.sum_before.Goals as goal

pub value_at-requires-clause-value : goal.value_at-requires-clause-value
value_at-requires-clause-value c = one_holds (λ (s : Segment). IsSum s.value) c.last_begun.result.now _ c.last_begun.ensures.entry c.requires.value

pub value_at-requires-clause-given : goal.value_at-requires-clause-given
value_at-requires-clause-given c =
    subst IsSum (sym (linear_is c.args.segments.now c.args.t c.last_begun.result.now c.last_begun.ensures.entry)) c.requires.given
