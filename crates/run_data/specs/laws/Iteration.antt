-- A file of lemmas: what it proves need not be read to trust a clause.
--
-- The laws of a fold: what so many transitions give is where it comes, it comes nowhere else, and it has one result.
use Rattle.std.specs.Prelude.{◌≡◌, ℕ, zero, suc, refl}
use mathlib.Core.Path.{sym, ap, ◌∙◌}
use Rattle.run_data.specs.Transitions.{Next, more, finished, Reaches, begins, onward, and_on, iterate}

module _ (S R : Type 0) (next : S → Next S R) where
  -- a transition more
  pub and_on_comes : (first : S) (point : Next S R) → Reaches S R next first point → Reaches S R next first (and_on S R next point)
  and_on_comes first (more point) comes = onward comes
  and_on_comes first (finished result) comes = comes

  -- what so many transitions give is where the fold comes
  pub transitions_come : (count : ℕ) (first : S) (point : Next S R) → Reaches S R next first point → Reaches S R next first (iterate S R next count point)
  transitions_come zero first point comes = comes
  transitions_come (suc count) first point comes = transitions_come count first (and_on S R next point) (and_on_comes first point comes)

  -- the last transition by itself
  pub transition_more : (count : ℕ) (point : Next S R) → iterate S R next (suc count) point ≡ and_on S R next (iterate S R next count point)
  transition_more zero point = refl
  transition_more (suc count) point = transition_more count (and_on S R next point)

  -- wherever the fold comes, so many transitions give it
  pub comes_by_transitions : (first : S) (point : Next S R) → Reaches S R next first point → (count : ℕ) × (iterate S R next count (more first) ≡ point)
  comes_by_transitions first point begins = (0, refl)
  comes_by_transitions first point (onward before) =
      let found = comes_by_transitions first _ before in
      (suc found.0, transition_more found.0 (more first) ∙ ap (and_on S R next) found.1)

  -- a result stays
  pub result_stays : (count : ℕ) (result : R) → iterate S R next count (finished result) ≡ finished result
  result_stays zero result = refl
  result_stays (suc count) result = result_stays count result

  abbrev result_or : R → Next S R → R
  result_or other (more point) = other
  result_or other (finished result) = result

  finished_once : (count : ℕ) (result other : R) → iterate S R next count (finished result) ≡ finished other → result ≡ other
  finished_once count result other e = ap (result_or result) (sym (result_stays count result) ∙ e)

  -- transitions give one result
  pub one_result : (count again : ℕ) (point : Next S R) (result other : R) →
      iterate S R next count point ≡ finished result → iterate S R next again point ≡ finished other → result ≡ other
  one_result zero again point result other e f =
      finished_once again result other (ap (iterate S R next again) (sym e) ∙ f)
  one_result (suc count) zero point result other e f =
      sym (finished_once (suc count) other result (ap (iterate S R next (suc count)) (sym f) ∙ e))
  one_result (suc count) (suc again) point result other e f = one_result count again (and_on S R next point) result other e f

  -- a fold has one result
  pub same_result : (first : S) (result other : R) → Reaches S R next first (finished result) → Reaches S R next first (finished other) → result ≡ other
  same_result first result other comes again =
      let found = comes_by_transitions first (finished result) comes in
      let twice = comes_by_transitions first (finished other) again in
      one_result found.0 twice.0 (more first) result other found.1 twice.1
