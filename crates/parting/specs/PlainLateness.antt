-- Directives that are plainly not due before a time: they have no anchor, and their start is not before it.
use Rattle.std.specs.Prelude.{◌≡◌, ℕ, ◌≤◌, Bool, true, List, Option, Some, None}
use Rattle.aerie_base.specs.declared.models.model.Parts.{Parts}
use Rattle.aerie_base.specs.declared.plans.Anchor.{Anchor}
use Rattle.aerie_base.specs.declared.plans.Directive.{Directive}
use Rattle.aerie_base.specs.declared.plans.Plan.{Plan}
use Rattle.run_data.specs.laws.LateDifferences.{IsLate}
use Rattle.run_data.specs.laws.Orders.{EachOf}

abbrev pub StartsPlainlyLate : ℕ → Option Anchor → ℕ → Type 0
StartsPlainlyLate until None start = until ≤ start
StartsPlainlyLate until (Some anchor) start = ⊥

-- where the directive is one of those that differ, it starts so
abbrev pub IsPlainlyLate : (ℕ → Bool) → ℕ → Directive → Type 0
IsPlainlyLate differs until directive = differs directive.id ≡ true → StartsPlainlyLate until directive.anchor directive.start

-- then it is late in the sense of two plans that differ late, whatever the old simulation does
abbrev pub PlainlyLateIsLate : Type 0
PlainlyLateIsLate =
    (differs : ℕ → Bool) (until : ℕ) (model : Parts) (plan : Plan) (bound : ℕ) (directives : List Directive) →
    EachOf (IsPlainlyLate differs until) directives → EachOf (IsLate differs until model plan bound) directives
