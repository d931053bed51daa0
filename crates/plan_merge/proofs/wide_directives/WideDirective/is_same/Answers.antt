use Rattle.std.specs.Bool.{one_answer}
use Rattle.plan_merge.specs.Table.{same}
use Rattle.plan_merge.proofs.Same.{decides_same}
use Rattle.plan_merge.proofs.wide_directives.WideDirective.is_same.Goals as goal

pub returns : goal.returns
returns c = one_answer c.has_parts_of.result (same c.args.self.now c.args.other.now) c.has_parts_of.ensures (decides_same c.args.self.now c.args.other.now)
