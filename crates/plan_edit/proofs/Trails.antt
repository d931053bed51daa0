-- Where anchors lead in a plan and in what is made of it.
use Rattle.std.proofs.Common.{◌≡◌, ℕ, zero, suc, List, Option, Some, None, option_and_then, refl, ap, ◌∙◌}
use Rattle.std.proofs.lemmas.Option.{none-some}
use Rattle.aerie_base.specs.declared.plans.Directive.{Directive}
use Rattle.aerie_base.specs.plans.OfModel.{followed, anchor_of}

-- no anchor leads elsewhere than among other directives
abbrev pub LeadNoFurther : List Directive → List Directive → Type 0
LeadNoFurther some all = (id to : ℕ) → anchor_of some id ≡ Some to → anchor_of all id ≡ Some to

pub follow_no_further : (some all : List Directive) → LeadNoFurther some all → (steps id to : ℕ) → followed some steps id ≡ Some to → followed all steps id ≡ Some to
follow_no_further some all less zero id to h = h
follow_no_further some all less (suc steps) id to h = go (λ next. follow_no_further some all less steps next to) (anchor_of some id) refl h
  where
    go : ((next : ℕ) → followed some steps next ≡ Some to → followed all steps next ≡ Some to) → (next : Option ℕ) → anchor_of some id ≡ next →
        option_and_then (followed some steps) next ≡ Some to → option_and_then (followed all steps) (anchor_of all id) ≡ Some to
    go others None e k = absurd (none-some to k)
    go others (Some next) e k = ap (option_and_then (followed all steps)) (less id next e) ∙ others next k

-- following anchors from a directive never returns to it
abbrev pub IsAcyclic : List Directive → Type 0
IsAcyclic directives = (id steps : ℕ) → followed directives (suc steps) id ≡ Some id → ⊥

pub acyclic_still : (some all : List Directive) → LeadNoFurther some all → IsAcyclic all → IsAcyclic some
acyclic_still some all less acyclic id steps h = acyclic id steps (follow_no_further some all less (suc steps) id id h)
