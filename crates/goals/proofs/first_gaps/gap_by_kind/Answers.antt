use Rattle.constraints.specs.SpansByStart.{in_order}
use Rattle.goals.proofs.first_gaps.gap_by_kind.Goals as goal

pub match_spans-requires : goal.match_spans-requires
match_spans-requires c = in_order c.args.model.now c.args.run.now c.args.spans.now c.requires.spans
