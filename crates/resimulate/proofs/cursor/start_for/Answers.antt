use Rattle.std.proofs.Common.{◌≡◌, ◌∙◌, ◌+◌, ◌-◌, sym, subst, arith}
use Rattle.resimulate.specs.OldBatches.{AreEarly}
use Rattle.resimulate.proofs.OldInstants.{early_through}
use Rattle.resimulate.proofs.cursor.start_for.Goals as goal

pub returns : goal.returns
returns c =
    let lookup = c.in-Some.ensures.lookup in
    let next : (c.args.at - 1) + 1 ≡ c.args.at = omega arith in
    subst (λ at. AreEarly c.args.time at c.args.instants.now) next
    (early_through c.args.time c.args.instants.now c.requires (c.args.at - 1) c.in-Some.before.now lookup.3.0 (lookup.3.1 c.in-Some.before.now) (sym c.is_earlier.ensures ∙ c.if-not-is_earlier.false))
