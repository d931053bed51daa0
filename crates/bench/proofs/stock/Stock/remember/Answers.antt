use Rattle.bench.proofs.KnownRuns.{known_same, other_known, some_owner}
use Rattle.bench.proofs.stock.Stock.remember.Goals as goal

pub invariant_of-self : goal.invariant_of-self
invariant_of-self c =
    other_known c.self.inside.book c.self.inside.none c.self.inside.latest c.self.inside.earlier c.owner_of.result c.args.old c.self.invariant
    (some_owner c.self.inside.book c.args.self.now c.args.made.now c.owner_of.result c.self.view_is c.owner_of.ensures c.requires.made)
    (known_same c.self.inside.book c.args.self.now c.args.old c.self.view_is c.requires.old)
