use Rattle.std.proofs.Common.{◌<◌, length, sym, ap, ◌∙◌, arith}
use Rattle.plan_merge.specs.Reached.{reached_from}
use Rattle.plan_merge.proofs.Finds.{none_reached, reached_found}
use Rattle.plan_merge.proofs.cycles.reached_from.Goals as goal

pub returns-in-None-position_of_id : goal.returns-in-None-position_of_id
returns-in-None-position_of_id g c =
    let all = g.D.HasIds.as_directives c.args.directives.now in
    sym (ap (reached_from all c.args.reached.now) c.in-Some.is
    ∙ none_reached all c.args.reached.now c.in-Some.id (sym c.in-None-position_of_id.ensures.found))

pub returns-in-Some-position_of_id : goal.returns-in-Some-position_of_id
returns-in-Some-position_of_id g c =
    let all = g.D.HasIds.as_directives c.args.directives.now in
    let as_many = g.D.HasIds.as_many c.args.directives.now in
    let within : c.in-Some-position_of_id.at < length all = omega (arith, c.in-Some-position_of_id.ensures.within, as_many) in
    reached_found all c.args.reached.now c.in-Some-position_of_id.at c.in-Some.id c.requires.rising (c.requires.count ∙ sym as_many) within c.in-Some-position_of_id.ensures.found
    ∙ sym (ap (reached_from all c.args.reached.now) c.in-Some.is)
