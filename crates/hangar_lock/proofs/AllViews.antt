-- What holds of the views of all passes.
use Rattle.std.proofs.Common.{◌≡◌, ◌≢◌, ◌⊎◌, inl, inr, ℕ, zero, suc, ◌+◌, ◌<◌, ◌≤◌, false, List, [], ◌∷◌, ◌++◌, length, Some, None, Option, set, sym, refl, ap, ◌∙◌, subst, ⊎_elim, arith, true≢false}
use mathlib.Core.Option.{Option as Maybe, some, none, some-injective, some-ne-none}
use lib.ListN.{get_elem?}
use Rattle.atomic_table.specs.Table.{State}
use Rattle.atomic_table.proofs.Lists.{at_set, set_else, at_longer}
use Rattle.hangar_core.specs.Journals.{Entries}
use Rattle.hangar_core.specs.ValidWorkspaces.{CountedWorkspace}
use Rattle.hangar_lock.specs.declared.desk.Desk.{Desk}
use Rattle.hangar_lock.specs.declared.views.View.{View}
use Rattle.hangar_lock.specs.Places.{HasPassNumber}
use Rattle.hangar_lock.specs.OneJournal.{has_ticket, holders, HasHome}

abbrev pub St : Type 0
St = State (Option Desk) View

pub holders_set : (vs : List View) (i : ℕ) (v w : View) → get_elem? vs i ≡ some v → holders (set vs i w) + has_ticket v.ticket ≡ holders vs + has_ticket w.ticket
holders_set [] i v w e = absurd (some-ne-none v (sym e))
holders_set (x ∷ xs) zero v w e = let h : has_ticket x.ticket ≡ has_ticket v.ticket = ap (λ (z : View). has_ticket z.ticket) (some-injective x v e) in omega arith
holders_set (x ∷ xs) (suc i) v w e = omega (arith, holders_set xs i v w e)

pub holders_snoc : (vs : List View) (w : View) → holders (vs ++ w ∷ []) ≡ holders vs + has_ticket w.ticket
holders_snoc [] w = omega arith
holders_snoc (x ∷ xs) w = omega (arith, holders_snoc xs w)

one : (o : Option ℕ) → has_ticket o ≤ 1
one None = omega arith
one (Some k) = omega arith

pub holders_le : (vs : List View) → holders vs ≤ length vs
holders_le [] = omega arith
holders_le (x ∷ xs) = omega (arith, one x.ticket, holders_le xs)

pub here : (vs : List View) (i : ℕ) (v w : View) → get_elem? vs i ≡ some v → get_elem? (set vs i w) i ≡ some w
here [] i v w e = absurd (some-ne-none v (sym e))
here (x ∷ xs) zero v w e = refl
here (x ∷ xs) (suc i) v w e = here xs i v w e

pub at_end : (vs : List View) (w v : View) (j : ℕ) → get_elem? (vs ++ w ∷ []) j ≡ some v → (get_elem? vs j ≡ some v) ⊎ ((j ≡ length vs) × (w ≡ v))
at_end [] w v zero e = inr (refl, some-injective w v e)
at_end [] w v (suc j) e = absurd (some-ne-none v (sym e))
at_end (x ∷ xs) w v zero e = inl e
at_end (x ∷ xs) w v (suc j) e = ⊎_elim (λ (t : get_elem? xs j ≡ some v). inl t) (λ (t : (j ≡ length xs) × (w ≡ v)). inr (ap suc t.0, t.1)) (at_end xs w v j e)

pub is_in : (vs : List View) (i : ℕ) (v : View) → get_elem? vs i ≡ some v → i < length vs
is_in [] i v e = absurd (some-ne-none v (sym e))
is_in (x ∷ xs) zero v e = omega arith
is_in (x ∷ xs) (suc i) v e = omega (arith, is_in xs i v e)

-- what holds of all views, where the pass me gets the view w
pub all_hold : (K : View → Type 0) (vs : List View) (me : ℕ) (w : View) → K w → ((j : ℕ) (v : View) → j ≢ me → get_elem? vs j ≡ some v → K v)
    → (j : ℕ) (v : View) → get_elem? (set vs me w) j ≡ some v → K v
all_hold K vs me w mine others j v e =
    ⊎_elim (λ (t : (j ≡ me) × (w ≡ v)). subst K t.1 mine) (λ (t : (j ≢ me) × (get_elem? vs j ≡ some v)). others j v t.0 t.1) (at_set vs me j w v e)

-- at most one view has it
abbrev pub Alone : (View → ℕ → Type 0) → List View → Type 0
Alone P vs = (i j : ℕ) (v u : View) (k : ℕ) → get_elem? vs i ≡ some v → get_elem? vs j ≡ some u → P v k → P u k → i ≡ j

pub stay_alone : (P : View → ℕ → Type 0) (vs : List View) (me : ℕ) (w : View) → Alone P vs → ((j : ℕ) (u : View) (k : ℕ) → j ≢ me → get_elem? vs j ≡ some u → P w k → P u k → ⊥) → Alone P (set vs me w)
stay_alone P vs me w apart alone i j v u k ei ej hv hu =
    ⊎_elim
    (λ (t : (i ≡ me) × (w ≡ v)). ⊎_elim (λ (s : (j ≡ me) × (w ≡ u)). t.0 ∙ sym s.0)
    (λ (s : (j ≢ me) × (get_elem? vs j ≡ some u)). absurd (alone j u k s.0 s.1 (subst (λ (z : View). P z k) (sym t.1) hv) hu)) (at_set vs me j w u ej))
    (λ (t : (i ≢ me) × (get_elem? vs i ≡ some v)). ⊎_elim (λ (s : (j ≡ me) × (w ≡ u)). absurd (alone i v k t.0 t.1 (subst (λ (z : View). P z k) (sym s.1) hu) hv))
    (λ (s : (j ≢ me) × (get_elem? vs j ≡ some u)). apart i j v u k t.1 s.1 hv hu) (at_set vs me j w u ej))
    (at_set vs me i w v ei)

-- the same, where w has no more than v had
pub still_alone : (P : View → ℕ → Type 0) (vs : List View) (me : ℕ) (v w : View) → Alone P vs → get_elem? vs me ≡ some v → ((k : ℕ) → P w k → P v k) → Alone P (set vs me w)
still_alone P vs me v w apart at less = stay_alone P vs me w apart (λ j u k other there a b. other (apart j me u v k there at b (less k a)))

pub end_alone : (P : View → ℕ → Type 0) (vs : List View) (w : View) → Alone P vs → ((j : ℕ) (u : View) (k : ℕ) → get_elem? vs j ≡ some u → P w k → P u k → ⊥) → Alone P (vs ++ w ∷ [])
end_alone P vs w apart alone i j v u k ei ej hv hu =
    ⊎_elim
    (λ (t : get_elem? vs i ≡ some v). ⊎_elim (λ (s : get_elem? vs j ≡ some u). apart i j v u k t s hv hu)
    (λ (s : (j ≡ length vs) × (w ≡ u)). absurd (alone i v k t (subst (λ (z : View). P z k) (sym s.1) hu) hv)) (at_end vs w u j ej))
    (λ (t : (i ≡ length vs) × (w ≡ v)). ⊎_elim (λ (s : get_elem? vs j ≡ some u). absurd (alone j u k s (subst (λ (z : View). P z k) (sym t.1) hv) hu))
    (λ (s : (j ≡ length vs) × (w ≡ u)). t.0 ∙ sym s.0) (at_end vs w u j ej))
    (at_end vs w v i ei)

abbrev pub HoldsTicketNo : View → ℕ → Type 0
HoldsTicketNo v k = v.ticket ≡ Some k

abbrev pub StandsFor : View → ℕ → Type 0
StandsFor v n = HasPassNumber v.stands n

-- a pass that is outside stays outside, and the slot is as before
pub home_stays : (o : CountedWorkspace) (journal : Entries) (vs : List View) (me : ℕ) (v w : View) (h : Maybe (Option Desk)) → get_elem? vs me ≡ some v → v.inside ≡ false → w.inside ≡ false
    → HasHome o journal vs h → HasHome o journal (set vs me w) h
home_stays o journal vs me v w none at out out' has =
    (has.0, has.1, set_else vs me has.0 w (λ e. true≢false (sym has.3 ∙ ap (λ (z : View). z.inside) (some-injective _ _ (sym has.2 ∙ (ap (get_elem? vs) e ∙ at))) ∙ out)) ∙ has.2, has.3)
home_stays o journal vs me v w (some None) at out out' has = has
home_stays o journal vs me v w (some (Some d)) at out out' has = (
  has.0,
  has.1,
  λ j u e. ⊎_elim (λ (t : (j ≡ me) × (w ≡ u)). ap (λ (z : View). z.inside) (sym t.1) ∙ out')
      (λ (t : (j ≢ me) × (get_elem? vs j ≡ some u)). has.2 j u t.1) (at_set vs me j w u e),
)

pub home_more : (o : CountedWorkspace) (journal : Entries) (vs : List View) (w : View) (h : Maybe (Option Desk)) → w.inside ≡ false → HasHome o journal vs h → HasHome o journal (vs ++ w ∷ []) h
home_more o journal vs w none out has = (has.0, has.1, at_longer vs (w ∷ []) has.0 has.1 has.2, has.3)
home_more o journal vs w (some None) out has = has
home_more o journal vs w (some (Some d)) out has =
    (has.0, has.1, λ j u e. ⊎_elim (λ (t : get_elem? vs j ≡ some u). has.2 j u t) (λ (t : (j ≡ length vs) × (w ≡ u)). ap (λ (z : View). z.inside) (sym t.1) ∙ out) (at_end vs w u j e))
