use Rattle.resimulate.proofs.Likenesses.{unnoted_like}
use Rattle.resimulate.proofs.alike.is_like_unbegun.Goals as goal

pub returns-then-stands_unnoted : goal.returns-then-stands_unnoted
returns-then-stands_unnoted c = λ yes.
    unnoted_like c.args.old_plan.now c.args.parted c.args.traces.now.entries c.args.others.now.entries c.args.roots.now.keys c.args.directive.now c.requires.noted
    (c.stands_unnoted.ensures c.if-stands_unnoted.true)
