-- A file of lemmas: what it proves need not be read to trust a clause.
--
-- What rising ids give: each id is one directive's, so that a search by halves finds the one with an id; and ids still
-- rise once a directive is put behind the last, taken out or changed.
use Rattle.std.proofs.Common.{◌≡◌, ℕ, zero, suc, ◌<◌, ◌≤◌, Bool, true, false, ◌&&◌, ◌||◌, IsTrue, List, [], ◌∷◌, ◌++◌, Option, Some, None, option_map, slice_get, slice_set, nat_eq, nat_lt, refl, sym, ap, ◌∙◌, subst, true≢false, lt-ltb, ltb-true, eq-eqb, ne_eqb, lt_of_lt_of_le, lt_trans, ne_of_lt, not-suc-le-zero, le_of_suc-le-suc, if◌then◌else◌}
use Rattle.std.specs.List.{remove, list_all, list_any}
use Rattle.std.proofs.lemmas.List.Folds.{list_any-append}
use Rattle.std.proofs.lemmas.Option.{none-some, same_Some}
use Rattle.aerie_base.specs.declared.plans.Directive.{Directive}
use Rattle.aerie_base.specs.plans.OfModel.{rise_to, ids_of, is_there, with_id}

-- ---- both of two facts

pub both : (a b : Bool) → IsTrue (a && b) → IsTrue a × IsTrue b
both true b h = (refl, h)
both false b h = absurd (true≢false (sym h))

pub and_too : (a b : Bool) → IsTrue a → IsTrue b → IsTrue (a && b)
and_too true b h k = k
and_too false b h k = absurd (true≢false (sym h))

pub or_first : (a b : Bool) → IsTrue a → IsTrue (a || b)
or_first true b h = refl
or_first false b h = absurd (true≢false (sym h))

-- ---- ids

-- they rise to any later next id
pub rise_further : (next later before : ℕ) (ids : List ℕ) → next ≤ later → IsTrue (rise_to next before ids) → IsTrue (rise_to later before ids)
rise_further next later before [] far rise = lt-ltb before later (lt_of_lt_of_le (ltb-true before next rise) far)
rise_further next later before (id ∷ rest) far rise =
    let parts = both (nat_lt before id) (rise_to next id rest) rise in
    and_too (nat_lt before id) (rise_to later id rest) parts.0 (rise_further next later id rest far parts.1)

-- and from any earlier id
rise_from : (next lower before : ℕ) (ids : List ℕ) → lower < before → IsTrue (rise_to next before ids) → IsTrue (rise_to next lower ids)
rise_from next lower before [] low rise = lt-ltb lower next (lt_trans low (ltb-true before next rise))
rise_from next lower before (id ∷ rest) low rise =
    let parts = both (nat_lt before id) (rise_to next id rest) rise in
    and_too (nat_lt lower id) (rise_to next id rest) (lt-ltb lower id (lt_trans low (ltb-true before id parts.0))) parts.1

-- the next id may be put behind them
pub rise_pushed : (next id before : ℕ) (ids : List ℕ) → id < next → IsTrue (rise_to id before ids) → IsTrue (rise_to next before (ids ++ id ∷ []))
rise_pushed next id before [] more rise = and_too (nat_lt before id) (nat_lt id next) rise (lt-ltb id next more)
rise_pushed next id before (first ∷ rest) more rise =
    let parts = both (nat_lt before first) (rise_to id first rest) rise in
    and_too (nat_lt before first) (rise_to next first (rest ++ id ∷ [])) parts.0 (rise_pushed next id first rest more parts.1)

-- any of them may be left out
pub rise_removed : (next before : ℕ) (ids : List ℕ) (at : ℕ) → IsTrue (rise_to next before ids) → IsTrue (rise_to next before (remove ids at))
rise_removed next before [] zero rise = rise
rise_removed next before [] (suc at) rise = rise
rise_removed next before (id ∷ rest) zero rise =
    let parts = both (nat_lt before id) (rise_to next id rest) rise in
    rise_from next before id rest (ltb-true before id parts.0) parts.1
rise_removed next before (id ∷ rest) (suc at) rise =
    let parts = both (nat_lt before id) (rise_to next id rest) rise in
    and_too (nat_lt before id) (rise_to next id (remove rest at)) parts.0 (rise_removed next id rest at parts.1)

-- ---- the ids of directives that are changed

pub ids_pushed : (directives : List Directive) (more : Directive) → ids_of (directives ++ more ∷ []) ≡ ids_of directives ++ more.id ∷ []
ids_pushed [] more = refl
ids_pushed (directive ∷ rest) more = ap (λ (ids : List ℕ). directive.id ∷ ids) (ids_pushed rest more)

pub ids_removed : (directives : List Directive) (at : ℕ) → ids_of (remove directives at) ≡ remove (ids_of directives) at
ids_removed [] zero = refl
ids_removed [] (suc at) = refl
ids_removed (directive ∷ rest) zero = refl
ids_removed (directive ∷ rest) (suc at) = ap (λ (ids : List ℕ). directive.id ∷ ids) (ids_removed rest at)

-- a directive with the same id in the place of another one
pub ids_changed : (directives : List Directive) (at : ℕ) (other : Directive) →
    option_map (λ directive. directive.id) (slice_get directives at) ≡ Some other.id → ids_of (slice_set directives at other) ≡ ids_of directives
ids_changed [] at other same = refl
ids_changed (directive ∷ rest) zero other same = ap (λ (id : ℕ). id ∷ ids_of rest) (sym (same_Some directive.id other.id same))
ids_changed (directive ∷ rest) (suc at) other same = ap (λ (ids : List ℕ). directive.id ∷ ids) (ids_changed rest at other same)

-- ---- the directive with an id

module _ (next : ℕ) where
  -- each id is above the one in front of all
  pub above : (before : ℕ) (directives : List Directive) (at : ℕ) (found : Directive) → IsTrue (rise_to next before (ids_of directives)) →
      slice_get directives at ≡ Some found → before < found.id
  above before [] at found rise here = absurd (none-some found here)
  above before (directive ∷ rest) zero found rise here =
      let parts = both (nat_lt before directive.id) (rise_to next directive.id (ids_of rest)) rise in
      subst (λ (d : Directive). before < d.id) (same_Some directive found here) (ltb-true before directive.id parts.0)
  above before (directive ∷ rest) (suc at) found rise here =
      let parts = both (nat_lt before directive.id) (rise_to next directive.id (ids_of rest)) rise in
      lt_trans (ltb-true before directive.id parts.0) (above directive.id rest at found parts.1 here)

  -- a later directive has a greater id
  pub later_above : (before : ℕ) (directives : List Directive) (at then_at : ℕ) (found then_found : Directive) → IsTrue (rise_to next before (ids_of directives)) →
      slice_get directives at ≡ Some found → slice_get directives then_at ≡ Some then_found → at < then_at → found.id < then_found.id
  later_above before [] at then_at found then_found rise here there less = absurd (none-some found here)
  later_above before (directive ∷ rest) at zero found then_found rise here there less = absurd (not-suc-le-zero less)
  later_above before (directive ∷ rest) zero (suc then_at) found then_found rise here there less =
      let parts = both (nat_lt before directive.id) (rise_to next directive.id (ids_of rest)) rise in
      subst (λ (d : Directive). d.id < then_found.id) (same_Some directive found here) (above directive.id rest then_at then_found parts.1 there)
  later_above before (directive ∷ rest) (suc at) (suc then_at) found then_found rise here there less =
      let parts = both (nat_lt before directive.id) (rise_to next directive.id (ids_of rest)) rise in
      later_above directive.id rest at then_at found then_found parts.1 here there (le_of_suc-le-suc less)

  -- a directive at any place is the one with its id
  pub found_by_id : (before : ℕ) (directives : List Directive) (at : ℕ) (found : Directive) → IsTrue (rise_to next before (ids_of directives)) →
      slice_get directives at ≡ Some found → with_id directives found.id ≡ Some found
  found_by_id before [] at found rise here = absurd (none-some found here)
  found_by_id before (directive ∷ rest) zero found rise here =
      let same = same_Some directive found here in
      ap (λ (b : Bool). if b then Some directive else with_id rest found.id) (eq-eqb directive.id found.id (ap (λ (d : Directive). d.id) same))
      ∙ ap Some same
  found_by_id before (directive ∷ rest) (suc at) found rise here =
      let parts = both (nat_lt before directive.id) (rise_to next directive.id (ids_of rest)) rise in
      ap (λ (b : Bool). if b then Some directive else with_id rest found.id)
      (ne_eqb directive.id found.id (ne_of_lt (above directive.id rest at found parts.1 here)))
      ∙ found_by_id directive.id rest at found parts.1 here

-- where no directive has the id, none is found, whether ids rise or not
pub none_by_id : (directives : List Directive) (id : ℕ) → ((at : ℕ) (found : Directive) → slice_get directives at ≡ Some found → found.id ≡ id → ⊥) →
    with_id directives id ≡ None
none_by_id [] id absent = refl
none_by_id (directive ∷ rest) id absent =
    ap (λ (b : Bool). if b then Some directive else with_id rest id) (ne_eqb directive.id id (absent zero directive refl))
    ∙ none_by_id rest id (λ at found here. absent (suc at) found here)

-- ---- one directive more

-- an id that is there still is with one more
pub there_more : (directives : List Directive) (more : Directive) (id : Option ℕ) → IsTrue (is_there directives id) → IsTrue (is_there (directives ++ more ∷ []) id)
there_more directives more None h = refl
there_more directives more (Some id) h =
    ap (list_any (nat_eq id)) (ids_pushed directives more) ∙ list_any-append (nat_eq id) (ids_of directives) (more.id ∷ [])
    ∙ or_first (list_any (nat_eq id) (ids_of directives)) (list_any (nat_eq id) (more.id ∷ [])) h

pub all_pushed : (test : Directive → Bool) (directives : List Directive) (more : Directive) → IsTrue (list_all test directives) → IsTrue (test more) → IsTrue (list_all test (directives ++ more ∷ []))
all_pushed test [] more all one = and_too (test more) true one refl
all_pushed test (first ∷ rest) more all one =
    let parts = both (test first) (list_all test rest) all in
    and_too (test first) (list_all test (rest ++ more ∷ [])) parts.0 (all_pushed test rest more parts.1 one)
