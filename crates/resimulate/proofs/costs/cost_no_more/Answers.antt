use Rattle.std.proofs.Common.{◌∙◌, ◌≤◌, drop, ap, subst}
use Rattle.std.proofs.lemmas.Bool.{leb-true}
use Rattle.run_data.specs.laws.RunCosts.{cost_of_instants}
use Rattle.resimulate.proofs.InstantCosts.{costs_no_more}
use Rattle.resimulate.proofs.costs.cost_no_more.Goals as goal

pub returns : goal.returns
returns c = λ yes.
    costs_no_more c.args.instants.now c.args.others.now c.args.first c.requires
    (subst (λ n. n ≤ cost_of_instants (drop c.args.first c.args.others.now)) (c.in-Some.ensures ∙ ap cost_of_instants c.split_at.ensures.back)
    (subst (λ n. c.in-Some.mine ≤ n) (c.in-Some-cost_of.ensures ∙ ap cost_of_instants c.split_at-2.ensures.back) (leb-true c.in-Some.mine c.in-Some-cost_of.other yes)))
