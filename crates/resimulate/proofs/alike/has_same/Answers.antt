use Rattle.std.proofs.Common.{subst}
use Rattle.resimulate.specs.Likeness.{HasSame}
use Rattle.resimulate.proofs.alike.has_same.Goals as goal

pub returns-in-Some : goal.returns-in-Some
returns-in-Some c = λ yes. subst (HasSame c.args.trace.now) c.in-Some.ensures.value (c.tells_same.ensures yes)
