-- There is a cycle exactly where more anchors than there are directives can be followed from one.
use Rattle.std.proofs.Common.{◌≡◌, ℕ, suc, ◌+◌, ◌*◌, ◌-◌, ◌≤◌, ◌||◌, Bool, true, false, List, [], ◌∷◌, Option, Some, None, option_and_then, is_some, length, map, nat_eq, refl, sym, ap, ◌∙◌, true≢false, arith, if◌then◌else◌}
use Rattle.std.specs.List.{list_any}
use Rattle.std.proofs.lemmas.Option.{none-some, same_Some}
use Rattle.aerie_base.specs.declared.plans.Directive.{Directive}
use Rattle.aerie_base.specs.plans.OfModel.{followed, with_id}
use Rattle.aerie_base.specs.plans.FollowedAnchors.{followed_on, nowhere}
use Rattle.aerie_base.specs.plans.FoundById.{id_found}
use Rattle.aerie_base.specs.plans.RisingIds.{or_first}
use Rattle.plan_merge.specs.CycleLaws.{far_round, round_within, rounds, within_true}
use Rattle.plan_merge.specs.Reached.{reached_after}
use Rattle.plan_merge.specs.Merging.{returns_within, is_on_cycle}
use Rattle.plan_edit.specs.Loading.{has_cycle}
use Rattle.plan_edit.proofs.Trails.{IsAcyclic}

alike : (a b : Bool) → (a ≡ true → b ≡ true) → (b ≡ true → a ≡ true) → a ≡ b
alike true b to from = sym (to refl)
alike false true to from = from refl
alike false false to from = refl

or_last : (a b : Bool) → b ≡ true → (a || b) ≡ true
or_last true b h = refl
or_last false b h = h

some_of : {A : Type 0} (o : Option A) → is_some o ≡ true → (x : A) × (o ≡ Some x)
some_of None h = absurd (true≢false (sym h))
some_of (Some x) h = (x, refl)

module _ (directives : List Directive) where
  any_reached : (f : ℕ → Option ℕ) (some : List Directive) → list_any is_some (map (λ (d : Directive). f d.id) some) ≡ true → (first : ℕ) × ((to : ℕ) × (f first ≡ Some to))
  any_reached f [] h = absurd (true≢false (sym h))
  any_reached f (d ∷ rest) h = go (any_reached f rest) (is_some (f d.id)) refl h
    where
      go : (list_any is_some (map (λ (d : Directive). f d.id) rest) ≡ true → (first : ℕ) × ((to : ℕ) × (f first ≡ Some to))) → (t : Bool) → is_some (f d.id) ≡ t →
          (t || list_any is_some (map (λ (d : Directive). f d.id) rest)) ≡ true → (first : ℕ) × ((to : ℕ) × (f first ≡ Some to))
      go others true e k = (d.id, some_of (f d.id) e)
      go others false e k = others k

  any_with_id : (test : Directive → Bool) (some : List Directive) (id : ℕ) (found : Directive) → with_id some id ≡ Some found → test found ≡ true → list_any test some ≡ true
  any_with_id test [] id found here is = absurd (none-some found here)
  any_with_id test (d ∷ rest) id found here is = go (any_with_id test rest id found) (nat_eq d.id id) here
    where
      go : (with_id rest id ≡ Some found → test found ≡ true → list_any test rest ≡ true) → (t : Bool) → (if t then Some d else with_id rest id) ≡ Some found → (test d || list_any test rest) ≡ true
      go others true here = or_first (test d) (list_any test rest) (ap test (same_Some d found here) ∙ is)
      go others false here = or_last (test d) (list_any test rest) (others here is)

  -- where following anchors returns to an id, there is a cycle
  pub a_round : (steps id : ℕ) → followed directives (suc steps) id ≡ Some id → has_cycle directives ≡ true
  a_round steps id h = go (with_id directives id) refl
    where
      go : (found : Option Directive) → with_id directives id ≡ found → has_cycle directives ≡ true
      go None none = absurd (none-some id (sym (nowhere directives steps id none) ∙ h))
      go (Some found) here =
          any_with_id (is_on_cycle directives) directives id found here
          (ap (λ (i : ℕ). returns_within directives i (length directives)) (id_found directives id found here) ∙ round_within directives steps id h)

  -- anchors on a cycle can be followed for ever
  endless : (steps id many : ℕ) → followed directives (suc steps) id ≡ Some id → is_some (followed directives many id) ≡ true
  endless steps id many h = go (followed directives many id) refl (rounds directives steps id many h)
    where
      parts : (many steps : ℕ) → many * suc steps ≡ many + many * steps
      parts many steps = grind arith

      go : (there : Option ℕ) → followed directives many id ≡ there → followed directives (many * suc steps) id ≡ Some id → is_some there ≡ true
      go (Some there) is k = refl
      go None is k =
          absurd (none-some id (sym (ap (option_and_then (followed directives (many * steps))) is) ∙ sym (followed_on directives many (many * steps) id)
          ∙ sym (ap (λ (n : ℕ). followed directives n id) (parts many steps)) ∙ k))

  cycle_reaches : (many : ℕ) (some : List Directive) → list_any (is_on_cycle directives) some ≡ true → list_any is_some (map (λ (d : Directive). followed directives many d.id) some) ≡ true
  cycle_reaches many [] h = absurd (true≢false (sym h))
  cycle_reaches many (d ∷ rest) h = go (cycle_reaches many rest) (is_on_cycle directives d) refl h
    where
      go : (list_any (is_on_cycle directives) rest ≡ true → list_any is_some (map (λ (d : Directive). followed directives many d.id) rest) ≡ true) → (t : Bool) → is_on_cycle directives d ≡ t →
          (t || list_any (is_on_cycle directives) rest) ≡ true → (is_some (followed directives many d.id) || list_any is_some (map (λ (d : Directive). followed directives many d.id) rest)) ≡ true
      go others true e k =
          let round = within_true directives d.id (length directives) e in
          or_first (is_some (followed directives many d.id)) (list_any is_some (map (λ (d : Directive). followed directives many d.id) rest)) (endless round.0 d.id many round.1)
      go others false e k = or_last (is_some (followed directives many d.id)) (list_any is_some (map (λ (d : Directive). followed directives many d.id) rest)) (others k)

  pub far_is_cycle : (steps : ℕ) → length directives ≤ steps → list_any is_some (reached_after directives (suc steps)) ≡ has_cycle directives
  far_is_cycle steps enough = alike (list_any is_some (reached_after directives (suc steps))) (has_cycle directives) there (cycle_reaches (suc steps) directives)
    where
      split : (steps count : ℕ) → count ≤ steps → suc steps ≡ suc count + (steps - count)
      split steps count enough = omega (arith, enough)

      there : list_any is_some (reached_after directives (suc steps)) ≡ true → has_cycle directives ≡ true
      there h =
          let one = any_reached (followed directives (suc steps)) directives h in
          let round = far_round directives (steps - length directives) one.0 one.1.0
          (sym (ap (λ (n : ℕ). followed directives n one.0) (split steps (length directives) enough)) ∙ one.1.1) in
          a_round round.0 one.1.0 round.1.1

  -- without cycles none is found
  pub no_cycle : has_cycle directives ≡ false → IsAcyclic directives
  no_cycle none id steps h = true≢false (sym (a_round steps id h) ∙ none)
