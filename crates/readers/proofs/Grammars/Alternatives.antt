-- Forms with the same alternatives have the same expansions.
use Rattle.std.proofs.Common.{◌≡◌, ℕ, zero, suc, List, [], ◌∷◌, ◌++◌, map, refl, sym, ap, ◌∙◌, subst, append_assoc, append-nil, inl, inr, ◌⊎◌}
use Rattle.readers.specs.grammar.Forms.{Form, token, rule, nothing, both, either, many}
use Rattle.readers.specs.grammar.Expansions.{Symbol, IsExpansion, of_token, of_rule, of_nothing, of_both, of_first, of_second, of_no_iteration, of_iteration}
use Rattle.readers.specs.grammar.Alternatives.{joined, alternatives, element, picked, SameExpansions, SameAlternatives}
use Rattle.readers.proofs.Grammars.Choices.{Expand}

module _ {Rule Sort : Type 0} where
  -- the symbols are an expansion of one of the alternatives
  abbrev pub AnyExpands : List (List (Form Rule Sort)) → List (Symbol Rule Sort) → Type 0
  AnyExpands [] us = ⊥
  AnyExpands (xs ∷ xss) us = Expand xs us ⊎ AnyExpands xss us

  any_left : (xss yss : List (List (Form Rule Sort))) (us : List (Symbol Rule Sort)) → AnyExpands xss us → AnyExpands (xss ++ yss) us
  any_left [] yss us h = absurd h
  any_left (xs ∷ xss) yss us (inl h) = inl h
  any_left (xs ∷ xss) yss us (inr h) = inr (any_left xss yss us h)

  any_right : (xss yss : List (List (Form Rule Sort))) (us : List (Symbol Rule Sort)) → AnyExpands yss us → AnyExpands (xss ++ yss) us
  any_right [] yss us h = h
  any_right (xs ∷ xss) yss us h = inr (any_right xss yss us h)

  any_cases : (xss yss : List (List (Form Rule Sort))) (us : List (Symbol Rule Sort)) → AnyExpands (xss ++ yss) us → AnyExpands xss us ⊎ AnyExpands yss us
  any_cases [] yss us h = inr h
  any_cases (xs ∷ xss) yss us (inl h) = inl (inl h)
  any_cases (xs ∷ xss) yss us (inr h) = elim (any_cases xss yss us h) [ inl i ↦ inl (inr i) | inr i ↦ inr i ]

  expand_append : (xs ys : List (Form Rule Sort)) (vs ws : List (Symbol Rule Sort)) → Expand xs vs → Expand ys ws → Expand (xs ++ ys) (vs ++ ws)
  expand_append [] ys vs ws e f = subst (λ (x : List (Symbol Rule Sort)). Expand ys (x ++ ws)) (sym e) f
  expand_append (x ∷ xs) ys vs ws e f = (e.0, e.1 ++ ws, e.2, expand_append xs ys e.1 ws e.3 f, ap (λ (z : List (Symbol Rule Sort)). z ++ ws) e.4 ∙ append_assoc e.0 e.1 ws)

  abbrev pub Split : List (Form Rule Sort) → List (Form Rule Sort) → List (Symbol Rule Sort) → Type 0
  Split xs ys us = (vs : List (Symbol Rule Sort)) × (ws : List (Symbol Rule Sort)) × Expand xs vs × Expand ys ws × (us ≡ vs ++ ws)

  expand_split : (xs ys : List (Form Rule Sort)) (us : List (Symbol Rule Sort)) → Expand (xs ++ ys) us → Split xs ys us
  expand_split [] ys us e = ([], us, refl, e, refl)
  expand_split (x ∷ xs) ys us e =
      let i = expand_split xs ys e.1 e.3 in
      (e.0 ++ i.0, i.1, (e.0, i.0, e.2, i.2, refl), i.3, e.4 ∙ ap (λ (z : List (Symbol Rule Sort)). e.0 ++ z) i.4 ∙ sym (append_assoc e.0 i.0 i.1))

  any_map : (xs : List (Form Rule Sort)) (yss : List (List (Form Rule Sort))) (vs ws : List (Symbol Rule Sort)) → Expand xs vs → AnyExpands yss ws → AnyExpands (map (λ ys. xs ++ ys) yss) (vs ++ ws)
  any_map xs [] vs ws e h = absurd h
  any_map xs (ys ∷ yss) vs ws e (inl h) = inl (expand_append xs ys vs ws e h)
  any_map xs (ys ∷ yss) vs ws e (inr h) = inr (any_map xs yss vs ws e h)

  any_joined : (xss yss : List (List (Form Rule Sort))) (vs ws : List (Symbol Rule Sort)) → AnyExpands xss vs → AnyExpands yss ws → AnyExpands (joined xss yss) (vs ++ ws)
  any_joined [] yss vs ws h i = absurd h
  any_joined (xs ∷ xss) yss vs ws (inl h) i = any_left (map (λ ys. xs ++ ys) yss) (joined xss yss) (vs ++ ws) (any_map xs yss vs ws h i)
  any_joined (xs ∷ xss) yss vs ws (inr h) i = any_right (map (λ ys. xs ++ ys) yss) (joined xss yss) (vs ++ ws) (any_joined xss yss vs ws h i)

  map_any : (xs : List (Form Rule Sort)) (yss : List (List (Form Rule Sort))) (us : List (Symbol Rule Sort)) → AnyExpands (map (λ ys. xs ++ ys) yss) us
      → (vs : List (Symbol Rule Sort)) × (ws : List (Symbol Rule Sort)) × Expand xs vs × AnyExpands yss ws × (us ≡ vs ++ ws)
  map_any xs [] us h = absurd h
  map_any xs (ys ∷ yss) us (inl h) = let i = expand_split xs ys us h in (i.0, i.1, i.2, inl i.3, i.4)
  map_any xs (ys ∷ yss) us (inr h) = let i = map_any xs yss us h in (i.0, i.1, i.2, inr i.3, i.4)

  joined_any : (xss yss : List (List (Form Rule Sort))) (us : List (Symbol Rule Sort)) → AnyExpands (joined xss yss) us
      → (vs : List (Symbol Rule Sort)) × (ws : List (Symbol Rule Sort)) × AnyExpands xss vs × AnyExpands yss ws × (us ≡ vs ++ ws)
  joined_any [] yss us h = absurd h
  joined_any (xs ∷ xss) yss us h = elim (any_cases (map (λ ys. xs ++ ys) yss) (joined xss yss) us h) [
    | inl i ↦ (let j = map_any xs yss us i in (j.0, j.1, inl j.2, j.3, j.4))
    | inr i ↦ (let j = joined_any xss yss us i in (j.0, j.1, inr j.2, j.3, j.4))
  ]

  any_single : (a : Form Rule Sort) (us : List (Symbol Rule Sort)) → IsExpansion a us → AnyExpands ((a ∷ []) ∷ []) us
  any_single a us h = inl (us, [], h, refl, sym (append-nil us))

  single_any : (a : Form Rule Sort) (us : List (Symbol Rule Sort)) → AnyExpands ((a ∷ []) ∷ []) us → IsExpansion a us
  single_any a us (inl h) = subst (λ (x : List (Symbol Rule Sort)). IsExpansion a x) (sym (h.4 ∙ ap (λ (z : List (Symbol Rule Sort)). h.0 ++ z) h.3 ∙ append-nil h.0)) h.2
  single_any a us (inr h) = absurd h

  -- an expansion of a form is one of an alternative
  to_alternative : (a : Form Rule Sort) (us : List (Symbol Rule Sort)) → IsExpansion a us → AnyExpands (alternatives a) us
  to_alternative _ us (of_token {t = t}) = any_single (token t) us of_token
  to_alternative _ us (of_rule {r = r}) = any_single (rule r) us of_rule
  to_alternative _ us of_nothing = inl refl
  to_alternative _ _ (of_both {a = a} {b = b} {us = us} {vs = vs} h i) = any_joined (alternatives a) (alternatives b) us vs (to_alternative a us h) (to_alternative b vs i)
  to_alternative _ us (of_first {a = a} {b = b} h) = any_left (alternatives a) (alternatives b) us (to_alternative a us h)
  to_alternative _ us (of_second {a = a} {b = b} h) = any_right (alternatives a) (alternatives b) us (to_alternative b us h)
  to_alternative _ us (of_no_iteration {a = a}) = any_single (many a) us of_no_iteration
  to_alternative _ _ (of_iteration {a = a} {us = us} {vs = vs} h i) = any_single (many a) (us ++ vs) (of_iteration h i)

  from_alternative : (a : Form Rule Sort) (us : List (Symbol Rule Sort)) → AnyExpands (alternatives a) us → IsExpansion a us
  from_alternative (token t) us h = single_any (token t) us h
  from_alternative (rule r) us h = single_any (rule r) us h
  from_alternative nothing us (inl h) = subst (λ (x : List (Symbol Rule Sort)). IsExpansion nothing x) (sym h) of_nothing
  from_alternative nothing us (inr h) = absurd h
  from_alternative (both a b) us h =
      let i = joined_any (alternatives a) (alternatives b) us h in
      subst (λ (x : List (Symbol Rule Sort)). IsExpansion (both a b) x) (sym i.4) (of_both (from_alternative a i.0 i.2) (from_alternative b i.1 i.3))
  from_alternative (either a b) us h = elim (any_cases (alternatives a) (alternatives b) us h) [ inl i ↦ of_first (from_alternative a us i) | inr i ↦ of_second (from_alternative b us i) ]
  from_alternative (many a) us h = single_any (many a) us h

  element_any : (i : ℕ) (xss : List (List (Form Rule Sort))) (us : List (Symbol Rule Sort)) → AnyExpands (element i xss) us → AnyExpands xss us
  element_any i [] us h = h
  element_any zero (xs ∷ xss) us (inl h) = inl h
  element_any zero (xs ∷ xss) us (inr h) = absurd h
  element_any (suc i) (xs ∷ xss) us h = inr (element_any i xss us h)

  picked_any : (is : List ℕ) (xss : List (List (Form Rule Sort))) (us : List (Symbol Rule Sort)) → AnyExpands (picked is xss) us → AnyExpands xss us
  picked_any [] xss us h = absurd h
  picked_any (i ∷ is) xss us h = elim (any_cases (element i xss) (picked is xss) us h) [ inl j ↦ element_any i xss us j | inr j ↦ picked_any is xss us j ]

  pub same_alternatives : (a b : Form Rule Sort) → SameAlternatives a b → SameExpansions a b
  same_alternatives a b h = record {
    onward = λ us e. from_alternative b us (picked_any h.in_second (alternatives b) us (subst (λ (x : List (List (Form Rule Sort))). AnyExpands x us) (sym h.onward) (to_alternative a us e)));
    back = λ us e. from_alternative a us (picked_any h.in_first (alternatives a) us (subst (λ (x : List (List (Form Rule Sort))). AnyExpands x us) (sym h.back) (to_alternative b us e)));
  }

  pub same_form : (a : Form Rule Sort) → SameExpansions a a
  same_form a = record { onward = λ us e. e; back = λ us e. e }

  -- ---- forms with the same expansions, in larger forms

  pub same_swapped : (a b : Form Rule Sort) → SameExpansions a b → SameExpansions b a
  same_swapped a b h = record { onward = h.back; back = h.onward }

  pub same_chained : (a b c : Form Rule Sort) → SameExpansions a b → SameExpansions b c → SameExpansions a c
  same_chained a b c h i = record { onward = λ us e. i.onward us (h.onward us e); back = λ us e. h.back us (i.back us e) }

  both_across : (a b c d : Form Rule Sort) → ((us : List (Symbol Rule Sort)) → IsExpansion a us → IsExpansion c us) → ((us : List (Symbol Rule Sort)) → IsExpansion b us → IsExpansion d us)
      → (us : List (Symbol Rule Sort)) → IsExpansion (both a b) us → IsExpansion (both c d) us
  both_across a b c d f g _ (of_both {us = us} {vs = vs} h i) = of_both (f us h) (g vs i)

  pub same_both : (a b c d : Form Rule Sort) → SameExpansions a c → SameExpansions b d → SameExpansions (both a b) (both c d)
  same_both a b c d h i = record { onward = both_across a b c d h.onward i.onward; back = both_across c d a b h.back i.back }

  either_across : (a b c d : Form Rule Sort) → ((us : List (Symbol Rule Sort)) → IsExpansion a us → IsExpansion c us) → ((us : List (Symbol Rule Sort)) → IsExpansion b us → IsExpansion d us)
      → (us : List (Symbol Rule Sort)) → IsExpansion (either a b) us → IsExpansion (either c d) us
  either_across a b c d f g us (of_first h) = of_first (f us h)
  either_across a b c d f g us (of_second h) = of_second (g us h)

  pub same_either : (a b c d : Form Rule Sort) → SameExpansions a c → SameExpansions b d → SameExpansions (either a b) (either c d)
  same_either a b c d h i = record { onward = either_across a b c d h.onward i.onward; back = either_across c d a b h.back i.back }

  many_across : (a c : Form Rule Sort) → ((us : List (Symbol Rule Sort)) → IsExpansion a us → IsExpansion c us) → (us : List (Symbol Rule Sort)) → IsExpansion (many a) us → IsExpansion (many c) us
  many_across a c f _ of_no_iteration = of_no_iteration
  many_across a c f _ (of_iteration {us = us} {vs = vs} h i) = of_iteration (f us h) (many_across a c f vs i)

  pub same_many : (a c : Form Rule Sort) → SameExpansions a c → SameExpansions (many a) (many c)
  same_many a c h = record { onward = many_across a c h.onward; back = many_across c a h.back }

  unrolled : (a : Form Rule Sort) (us : List (Symbol Rule Sort)) → IsExpansion (many a) us → IsExpansion (either nothing (both a (many a))) us
  unrolled a _ of_no_iteration = of_first of_nothing
  unrolled a _ (of_iteration h i) = of_second (of_both h i)

  rolled : (a : Form Rule Sort) (us : List (Symbol Rule Sort)) → IsExpansion (either nothing (both a (many a))) us → IsExpansion (many a) us
  rolled a _ (of_first of_nothing) = of_no_iteration
  rolled a _ (of_second (of_both h i)) = of_iteration h i

  -- a repetition is nothing, or a iteration and the repetition
  pub many_unrolled : (a : Form Rule Sort) → SameExpansions (many a) (either nothing (both a (many a)))
  many_unrolled a = record { onward = unrolled a; back = rolled a }
