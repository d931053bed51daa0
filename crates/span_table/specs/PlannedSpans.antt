-- Directives without an anchor begin when they are planned.
use Rattle.std.specs.Prelude.{◌≡◌, ◌⊎◌, ℕ, IsTrue, List, [], ◌∷◌, None}
use Rattle.aerie_base.specs.Paths.{root}
use Rattle.aerie_base.specs.declared.models.model.Parts.{Parts}
use Rattle.aerie_base.specs.declared.plans.Directive.{Directive}
use Rattle.aerie_base.specs.declared.plans.Plan.{Plan}
use Rattle.aerie_base.specs.models.ValidModel.{valid_model}
use Rattle.aerie_base.specs.plans.OfModel.{IsPlanOf}
use Rattle.run_data.specs.declared.runs.Outcome.TheVariants.{Completed}
use Rattle.run_data.specs.declared.runs.Run.{Run}
use Rattle.run_data.specs.Fresh.{IsFresh}
use Rattle.run_data.specs.Spans.{SpanOf, spans_of}

-- one of these
abbrev pub IsOneOf : {A : Type 0} → A → List A → Type 0
IsOneOf item [] = ⊥
IsOneOf item (first ∷ rest) = (first ≡ item) ⊎ IsOneOf item rest

-- a span is that of a directive without an anchor: it starts where the directive stands
pub record IsSpanOf (directive : Directive) (span : SpanOf) : Type 0 where
  pub path : span.path ≡ root directive.id
  pub kind : span.kind ≡ directive.kind
  pub arguments : span.arguments ≡ directive.arguments
  pub start : span.start ≡ directive.start

-- on a completed fresh run each directive of the plan without an anchor has its span
abbrev pub PlannedHaveSpans : Type 0
PlannedHaveSpans =
    (model : Parts) (plan : Plan) (bound : ℕ) (run : Run) (directive : Directive) → IsTrue (valid_model model) → IsPlanOf model plan →
    IsFresh model plan bound run → run.outcome ≡ Completed → IsOneOf directive plan.directives → directive.anchor ≡ None →
    (span : SpanOf) × IsOneOf span (spans_of model run) × IsSpanOf directive span
