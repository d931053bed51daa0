use Rattle.std.proofs.Common.{◌≡◌, ◌∙◌, ◌+◌, ap, arith}
use Rattle.run_data.specs.laws.RunCosts.{cost_of_instants}
use Rattle.resimulate.proofs.InstantCosts.{others_cost}
use Rattle.resimulate.proofs.costs.cost_of_others.Goals as goal

pub returns : goal.returns
returns c =
    let less = c.in_ok-common.ensures.0 in
    let is = c.in_ok-common.ensures.1 in
    let rest : c.in_ok-common.common + c.in_ok-mine.mine ≡ c.args.spent = omega (arith, less, is) in
    c.in_ok-cost.ensures.1
    ∙ others_cost c.args.instants.now c.args.others.now c.args.first c.requires.first c.args.spent c.in_ok-mine.mine c.in_ok-other.other c.in_ok-common.common c.requires.spent
    (c.in_ok-mine.ensures ∙ ap cost_of_instants c.split_at.ensures.back) (c.in_ok-other.ensures ∙ ap cost_of_instants c.split_at-2.ensures.back) rest
