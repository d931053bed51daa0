-- A file of lemmas: what it proves need not be read to trust a clause.
--
-- Anchors that are followed one after another.
use Rattle.std.proofs.Common.{◌≡◌, ℕ, zero, suc, ◌+◌, List, Option, Some, None, option_and_then, ap, refl, ◌∙◌, arith}
use Rattle.aerie_base.specs.declared.plans.Directive.{Directive}
use Rattle.aerie_base.specs.plans.OfModel.{followed, with_id, anchor_of, anchored_to}

zero-plus : (n : ℕ) → 0 + n ≡ n
zero-plus n = omega arith

suc-plus : (m n : ℕ) → suc m + n ≡ suc (m + n)
suc-plus m n = omega arith

-- first so many anchors, then so many more
pub followed_on : (directives : List Directive) (more steps id : ℕ) → followed directives (more + steps) id ≡ option_and_then (followed directives steps) (followed directives more id)
followed_on directives zero steps id = ap (λ (n : ℕ). followed directives n id) (zero-plus steps)
followed_on directives (suc more) steps id =
    ap (λ (n : ℕ). followed directives n id) (suc-plus more steps) ∙ go (followed_on directives more steps) (anchor_of directives id)
  where
    go : ((id : ℕ) → followed directives (more + steps) id ≡ option_and_then (followed directives steps) (followed directives more id)) → (next : Option ℕ) →
        option_and_then (followed directives (more + steps)) next ≡ option_and_then (followed directives steps) (option_and_then (followed directives more) next)
    go others None = refl
    go others (Some next) = others next

-- from an id that no directive has nothing is reached
pub nowhere : (directives : List Directive) (steps id : ℕ) → with_id directives id ≡ None → followed directives (suc steps) id ≡ None
nowhere directives steps id none = ap (λ (found : Option Directive). option_and_then (followed directives steps) (option_and_then anchored_to found)) none
