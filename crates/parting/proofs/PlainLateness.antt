-- Directives that are plainly late are late.
use Rattle.std.proofs.Common.{ℕ, Bool, [], ◌∷◌, Option, Some, None}
use Rattle.aerie_base.specs.declared.models.model.Parts.{Parts}
use Rattle.aerie_base.specs.declared.plans.Anchor.{Anchor}
use Rattle.aerie_base.specs.declared.plans.Plan.{Plan}
use Rattle.run_data.specs.laws.LateDifferences.{StartsLate}
use Rattle.parting.specs.PlainLateness.{StartsPlainlyLate, PlainlyLateIsLate}

starts_late : (differs : ℕ → Bool) (until : ℕ) (model : Parts) (plan : Plan) (bound : ℕ) (anchor : Option Anchor) (start : ℕ) → StartsPlainlyLate until anchor start →
    StartsLate differs until model plan bound anchor start
starts_late differs until model plan bound None start late = late
starts_late differs until model plan bound (Some anchor) start late = absurd late

pub plainly_late_is_late : PlainlyLateIsLate
plainly_late_is_late differs until model plan bound [] each = tt
plainly_late_is_late differs until model plan bound (directive ∷ rest) each =
    (λ e. starts_late differs until model plan bound directive.anchor directive.start (each.0 e), plainly_late_is_late differs until model plan bound rest each.1)
