use Rattle.std.proofs.Common.{refl, ap, ◌∙◌}
use Rattle.aerie_base.specs.declared.values.Kind.TheVariants.{Truth}
use Rattle.model_reader.specs.declared.raw.expressions.RawExpr.{RawExpr}
use Rattle.model_check.specs.declared.symbols.Symbols.{Symbols}
use Rattle.model_check.specs.Diagnostics.{number_of_cause, noted}
use Rattle.model_check.specs.Expressions.{expr_of, typed_diagnostics}
use Rattle.model_check.specs.ModelDiagnostics.{requires_diagnostics}
use Rattle.model_check.specs.ModelMeaning.{model_requires}
use Rattle.model_check.specs.ModelSymbols.{bare_symbols}
use Rattle.diagnostics.specs.Iterations.{judged_iteration, made_iteration}
use Rattle.model_check.proofs.bodies.requirements.Goals as goal

pub loop-truth-preserved : goal.loop-truth-preserved
loop-truth-preserved c =
    let bare = c.args.bare.now in
    let scope = c.args.scope.now in
    let truth = c.truth-item.result in (
      made_iteration {S = Unit {0}} (λ s x. s) (λ s (x : RawExpr). expr_of (bare_symbols bare.enums) scope x) (λ s xs. model_requires bare scope xs) (λ s x rest. refl)
          c.args.written.now c.loop-truth.truth-index truth c.loop-truth-test.true c.truth-item.is
          tt tt refl _ _ _ _ (c.in_ok-typed.ensures.0 ∙ ap (λ (s : Symbols). expr_of s scope truth) c.requires) c.in_ok-push.ensures.pushed c.loop-truth.invariant.0,
      judged_iteration {S = Unit {0}} number_of_cause (λ s x. s) (λ s (x : RawExpr). typed_diagnostics (bare_symbols bare.enums) scope Truth x) (λ s xs. requires_diagnostics bare scope xs) (λ s x rest. refl)
          c.args.written.now c.loop-truth.truth-index truth c.loop-truth-test.true c.truth-item.is
          tt tt refl _ _ _ (c.in_ok-typed.ensures.1 ∙ ap (λ (s : Symbols). noted c.loop-truth.found (typed_diagnostics s scope Truth truth)) c.requires) c.loop-truth.invariant.1,
    )
