-- Lists of values that are not as long as one another are not the same.
use Rattle.std.proofs.Common.{◌≡◌, suc, Bool, true, false, ◌&&◌, List, [], ◌∷◌, length, refl, ap}
use Rattle.aerie_base.specs.declared.values.Value.{Value}
use Rattle.aerie_base.specs.expressions.Arithmetic.{same_value}
use Rattle.plan_merge.specs.Table.{same_values}

no_and : (a b : Bool) → b ≡ false → (a && b) ≡ false
no_and true b is = is
no_and false b is = refl

pub lengths_differ : (values others : List Value) → (length values ≡ length others → ⊥) → same_values values others ≡ false
lengths_differ [] [] differ = absurd (differ refl)
lengths_differ [] (other ∷ others) differ = refl
lengths_differ (value ∷ values) [] differ = refl
lengths_differ (value ∷ values) (other ∷ others) differ =
    no_and (same_value value other) (same_values values others) (lengths_differ values others (λ is. differ (ap suc is)))
