use Rattle.std.proofs.Common.{◌≡◌, Option, IfOk, IfSome, ap, sym, subst, ◌∙◌}
use Rattle.std.proofs.lemmas.Result.{IfOk-weaker}
use Rattle.resimulate.specs.EvenInstants.{LooksForUneven}
use Rattle.resimulate.specs.SharedEnds.{SharesEnds}
use Rattle.run_data.specs.KeptRuns.{KeptRun}
use Rattle.bench.specs.HeldSteps.{instants_of_kept}
use Rattle.bench.proofs.simulating.simulate_over.Goals as goal

pub simulate_beside-requires-clause-old : goal.simulate_beside-requires-clause-old
simulate_beside-requires-clause-old g c κs within =
    ap (λ (kept : KeptRun). kept.model) c.get.ensures
    ∙ subst (λ (old : Option KeptRun). IfSome old (λ kept. kept.model ≡ c.args.setting.now.compiled)) c.in-Some.is c.requires.old

pub returns-in-Some-clause-few_looks : goal.returns-in-Some-clause-few_looks
returns-in-Some-clause-few_looks g c =
    subst (λ (old : Option KeptRun). IfOk c.simulate_beside.result (λ made. IfSome old (λ kept.
    LooksForUneven kept.run made.kept.run c.args.looks.now c.simulate_beside.new.looks))) (sym c.in-Some.is)
    (subst (λ (kept : KeptRun). IfOk c.simulate_beside.result (λ made. LooksForUneven kept.run made.kept.run c.args.looks.now c.simulate_beside.new.looks)) c.get.ensures
    c.simulate_beside.ensures.few_looks)

pub returns-in-Some-clause-shares : goal.returns-in-Some-clause-shares
returns-in-Some-clause-shares g c =
    subst (λ (old : Option KeptRun). IfOk c.simulate_beside.result (λ made. SharesEnds (instants_of_kept old) made.kept.run.instants made.first made.last)) (sym c.in-Some.is)
    (subst (λ (kept : KeptRun). IfOk c.simulate_beside.result (λ made. SharesEnds kept.run.instants made.kept.run.instants made.first made.last)) c.get.ensures
    c.simulate_beside.ensures.shares)

pub returns-in-None-clause-shares : goal.returns-in-None-clause-shares
returns-in-None-clause-shares g c =
    subst (λ (old : Option KeptRun). IfOk c.simulate_alone.result (λ made. SharesEnds (instants_of_kept old) made.kept.run.instants made.first made.last)) (sym c.in-None.is)
    c.simulate_alone.ensures.shares

pub returns-in-None-clause-few_looks : goal.returns-in-None-clause-few_looks
returns-in-None-clause-few_looks g c =
    subst (λ (old : Option KeptRun). IfOk c.simulate_alone.result (λ made. IfSome old (λ kept.
    LooksForUneven kept.run made.kept.run c.args.looks.now c.simulate_alone.new.looks))) (sym c.in-None.is)
    (IfOk-weaker c.simulate_alone.result _ _ (λ made is. tt) c.simulate_alone.ensures.model)
