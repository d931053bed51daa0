use Rattle.std.specs.Bool.{one_answer}
use Rattle.plan_merge.specs.Table.{same}
use Rattle.plan_merge.proofs.Same.{decides_same}
use Rattle.plan_merge.proofs.wide_directives.same_directive.Goals as goal

pub returns : goal.returns
returns c = one_answer c.has_same_parts.result (same c.args.directive.now c.args.other.now) c.has_same_parts.ensures (decides_same c.args.directive.now c.args.other.now)
