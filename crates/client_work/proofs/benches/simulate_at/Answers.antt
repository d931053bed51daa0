use Rattle.std.proofs.Common.{ℕ, sym, subst, ◌∙◌}
use Rattle.run_data.specs.Waves.{RoseAlike}
use Rattle.client_work.proofs.Paying.{pays_beside}
use Rattle.client_work.proofs.benches.simulate_at.Goals as goal

pub returns-clause-paid : goal.returns-clause-paid
returns-clause-paid g c =
    pays_beside c.get.result.now c.in_ok-run.run' c.args.bench.now.records c.args.kept.now c.in_ok-passed.passed c.args.steps.now c.simulate.new.steps c.statements-statements.result
    (c.in_ok-run.ensures.made.model ∙ sym (c.get.ensures ∙ c.model.ensures.model)) c.in_ok-passed.ensures c.in_ok-run.ensures.frugal
    (subst (λ (n : ℕ). RoseAlike 0 c.args.steps.now n c.simulate.new.steps) (sym c.statements-statements.ensures) c.in_ok-run.ensures.counted)
