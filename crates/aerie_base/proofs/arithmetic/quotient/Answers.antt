use Rattle.aerie_base.proofs.Quotients.{quotient_is}
use Rattle.aerie_base.proofs.arithmetic.quotient.Goals as goal

pub returns : goal.returns
returns c =
    quotient_is c.args.dividend c.args.divisor c.ranged.result c.requires.dividend c.requires.divisor c.if-divisor-eq0.false
    c.ranged.ensures
