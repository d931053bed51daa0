-- What is found took a trial.
use Rattle.std.proofs.Common.{◌≡◌, ℕ, zero, suc, ◌<◌, List, [], ◌∷◌, Some, arith}
use Rattle.aerie_base.specs.declared.models.model.Parts.{Parts}
use Rattle.aerie_base.specs.declared.plans.Plan.{Plan}
use Rattle.run_data.specs.declared.runs.Run.{Run}
use Rattle.constraints.specs.declared.types.Constraint.{Constraint}
use Rattle.goals.specs.declared.gap.Gap.{Gap}
use Rattle.goals.specs.declared.types.Goal.{Goal}
use Rattle.scheduler.specs.Trials.{Verdict, refused, rejected, accepted, Found, verdict_of, found_by, first_accepted}

module _ (model : Parts) (constraints : List Constraint) (run_of : Plan → Run) (goal : Goal) (gap : Gap) (plan : Plan) where
  abbrev found_in : List ℕ → ℕ → Found
  found_in times left = first_accepted model constraints run_of goal gap plan times left

  -- what is found took a trial
  pub took_one : (times : List ℕ) (left : ℕ) (found : Plan) → (found_in times left).plan ≡ Some found → (found_in times left).left < left
  took_one [] left found e = absurd (cc)
  took_one (time ∷ rest) zero found e = absurd (cc)
  took_one (time ∷ rest) (suc left) found e =
      by (verdict_of model constraints run_of goal gap plan time) e (λ fewer. took_one rest fewer found)
    where
      by : (verdict : Verdict) → (found_by model constraints run_of verdict (found_in rest) left).plan ≡ Some found →
          ((fewer : ℕ) → (found_in rest fewer).plan ≡ Some found → (found_in rest fewer).left < fewer) →
          (found_by model constraints run_of verdict (found_in rest) left).left < suc left
      by refused e others = others (suc left) e
      by (rejected rejection) e others = let less = others left e in omega (arith, less)
      by (accepted plan) e others = omega arith
