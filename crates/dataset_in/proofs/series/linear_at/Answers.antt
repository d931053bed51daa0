-- The piece that has begun last is in range, and its value is that of them all.
use Rattle.aerie_base.specs.Ranges.{IsNumber, IsRate}
use Rattle.windows.specs.declared.segments.Segment.{Segment}
use Rattle.windows.specs.BegunLaws.{all_hold, one_holds}
use Rattle.dataset_in.proofs.series.linear_at.Goals as goal

pub value_of-requires-clause-value : goal.value_of-requires-clause-value
value_of-requires-clause-value c =
    (one_holds (λ (s : Segment). IsNumber s.value × IsRate s.rate) _ _ c.last_begun.ensures.entry
    (all_hold (λ (s : Segment). s.from) (λ (s : Segment). IsNumber s.value × IsRate s.rate) c.args.segments.now c.args.t c.requires.ranges)).0

pub value_of-requires-clause-rate : goal.value_of-requires-clause-rate
value_of-requires-clause-rate c =
    (one_holds (λ (s : Segment). IsNumber s.value × IsRate s.rate) _ _ c.last_begun.ensures.entry
    (all_hold (λ (s : Segment). s.from) (λ (s : Segment). IsNumber s.value × IsRate s.rate) c.args.segments.now c.args.t c.requires.ranges)).1
