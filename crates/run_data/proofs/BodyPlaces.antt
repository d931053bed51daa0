-- What holds at the places of a body of a valid model: the statement there is as it should be, and the states to which the
-- run goes on are of the model.
use Rattle.std.proofs.Common.{◌≡◌, ℕ, zero, suc, ◌+◌, ◌≤◌, Bool, true, false, ◌&&◌, IsTrue, List, [], ◌∷◌, ◌++◌, Option, Some, None, map, length, slice_get, slice_index_or, refl, sym, ap, ◌∙◌, subst, arith, eqb-true, nat_eq}
use Rattle.aerie_base.specs.declared.values.Kind.{Kind}
use Rattle.aerie_base.specs.declared.values.Value.{Value}
use Rattle.aerie_base.specs.declared.statements.Stmt.{Stmt}
use Rattle.aerie_base.specs.declared.models.model.Parts.{Parts}
use Rattle.aerie_base.specs.statements.Places.{Placed, left, block_lefts, all_lefts, block_size}
use Rattle.aerie_base.specs.models.Bodies.{Setting, block_checked, has_slots, is_body}
use Rattle.aerie_base.specs.models.Scopes.{Scope}
use Rattle.run_data.specs.declared.tasks.BodyId.{BodyId}
use Rattle.run_data.specs.TaskStates.{body_of}
use Rattle.run_data.specs.Scopes.{scope_or, block_scopes, scope_at, suits}
use Rattle.run_data.specs.Jobs.{is_state_of}
use Rattle.run_data.specs.Typed.{AreLeft}
use Rattle.run_data.proofs.ScopeForms.{block_scopes_length, block_lefts_length}
use Rattle.run_data.proofs.Sublists.{standing_parts, standing_whole}
use Rattle.run_data.proofs.Scoping.{both_hold, same_suffices, longer}
use Rattle.run_data.proofs.CheckedForms.{block_goes}
use Rattle.run_data.proofs.PlacesHold.{Follows, Reaches, Holds, AllHold, IsReached, all_hold, hold_at, follows, block_reaches, body_holds}
use Rattle.run_data.proofs.ModelBodies.{setting_of, IsBodyOf, Suits, suits_found, suits_make}

-- ---- any body that is as it should be

-- the scope at each place of a body and at its end
abbrev pub body_scopes : Setting → List Kind → List Stmt → List Scope
body_scopes setting kinds body =
    block_scopes setting body (map Some kinds) ++ scope_or [] (block_checked setting body (map Some kinds)) ∷ []

slots_are : (slots : ℕ) (found : Option Scope) → IsTrue (has_slots slots found) → (last : Scope) × (found ≡ Some last) × (length last ≡ slots)
slots_are slots None h = absurd (cc)
slots_are slots (Some last) h = (last, refl, sym (eqb-true slots (length last) (both_hold (nat_eq slots (length last)) _ h).0))

first_of_three : (a b c : Bool) → IsTrue (a && b && c) → IsTrue a
first_of_three true b c h = refl
first_of_three false b c h = absurd (cc)

pub all_places_hold : (setting : Setting) (kinds : List Kind) (slots : ℕ) (body : List Stmt) → IsTrue (is_body setting kinds slots body) →
    AllHold setting slots (body_scopes setting kinds body) (all_lefts body) (body_scopes setting kinds body) (all_lefts body)
unfolding is_body
all_places_hold setting kinds slots body good =
    let begin : Scope = map Some kinds in
    let scopes = body_scopes setting kinds body in
    let leftovers = all_lefts body in
    let end = slots_are slots (block_checked setting body begin) (first_of_three (has_slots slots (block_checked setting body begin)) _ _ good) in
    let at_end : scope_or [] (block_checked setting body begin) ≡ end.0 = ap (scope_or []) end.1 in
    let parts = standing_parts scopes 0 (block_size body) (block_scopes setting body begin) (scope_or [] (block_checked setting body begin) ∷ []) (block_scopes_length setting body begin) (standing_whole scopes) in
    let lists = standing_parts leftovers 0 (block_size body) (block_lefts body 0 []) ([] ∷ []) (block_lefts_length body 0 []) (standing_whole leftovers) in
    let reach : Reaches setting slots scopes leftovers end.0 (0 + block_size body) = (end.0, parts.1.0 ∙ ap Some at_end, same_suffices end.0) in
    let all = body_holds setting slots scopes leftovers body 0 begin end.0 [] end.1 (omega (arith, end.2)) lists.0 parts.0 tt reach lists.1.0 in
    all_hold setting slots scopes leftovers (block_scopes setting body begin) (scope_or [] (block_checked setting body begin) ∷ []) (block_lefts body 0 []) ([] ∷ []) all.1 (tt, tt)

-- the first place of a body, where the parameters are known, of which there are no more than slots
pub first_place : (setting : Setting) (kinds : List Kind) (slots : ℕ) (body : List Stmt) → IsTrue (is_body setting kinds slots body) →
    Reaches setting slots (body_scopes setting kinds body) (all_lefts body) (map Some kinds) 0 × (length (map (λ (k : Kind). Some k) kinds) ≤ slots)
unfolding is_body
first_place setting kinds slots body good =
    let begin : Scope = map Some kinds in
    let scopes = body_scopes setting kinds body in
    let end = slots_are slots (block_checked setting body begin) (first_of_three (has_slots slots (block_checked setting body begin)) _ _ good) in
    let at_end : scope_or [] (block_checked setting body begin) ≡ end.0 = ap (scope_or []) end.1 in
    let parts = standing_parts scopes 0 (block_size body) (block_scopes setting body begin) (scope_or [] (block_checked setting body begin) ∷ []) (block_scopes_length setting body begin) (standing_whole scopes) in
    let reach : Reaches setting slots scopes (all_lefts body) end.0 (0 + block_size body) = (end.0, parts.1.0 ∙ ap Some at_end, same_suffices end.0) in (
      block_reaches setting slots scopes (all_lefts body) body 0 begin end.0 end.1 parts.0 reach,
      omega (arith, longer begin end.0 (block_goes setting body begin end.0 end.1), end.2),
    )

-- ---- a body of a model

pub get_is : (lists : List (List Placed)) (at : ℕ) (list : List Placed) → slice_get lists at ≡ Some list → slice_index_or lists at [] ≡ list
get_is [] zero list e = absurd (cc)
get_is [] (suc at) list e = absurd (cc)
get_is (one ∷ lists) zero list e = cc
get_is (one ∷ lists) (suc at) list e = get_is lists at list e

module _ (model : Parts) (kind : BodyId) (is : IsBodyOf model kind) where
  abbrev pub its_setting : Setting
  its_setting = setting_of model is.parameters is.result

  abbrev pub its_scopes : List Scope
  its_scopes = body_scopes its_setting is.kinds (body_of model kind)

  abbrev pub its_lefts : List (List Placed)
  its_lefts = all_lefts (body_of model kind)

  -- the scope at the place of a state of the model
  pub its_scope : (at : ℕ) (locals : List Value) → IsTrue (is_state_of model (record { kind = kind; at = at; locals = locals })) →
      Suits its_setting is.kinds is.slots (body_of model kind) at locals
  unfolding is_state_of
  its_scope at locals h = suits_found its_setting is.kinds is.slots (body_of model kind) at locals (sym (is.states_are at locals) ∙ h)

  -- a place that is reached is that of a state of the model
  pub its_state : (scope : Scope) (at : ℕ) (locals : List Value) → Reaches its_setting is.slots its_scopes its_lefts scope at → length locals ≡ is.slots → IsTrue (suits scope locals) →
      IsTrue (is_state_of model (record { kind = kind; at = at; locals = locals }))
  unfolding is_state_of scope_at
  its_state scope at locals reach count suit =
      is.states_are at locals ∙ suits_make its_setting is.kinds is.slots (body_of model kind) at locals reach.0 count reach.1 (reach.2 locals suit)

  -- what follows is left, with locals that suit the scope
  pub its_lefts_are : (scope : Scope) (list : List Placed) (locals : List Value) → Follows its_setting is.slots its_scopes its_lefts scope list → length locals ≡ is.slots → IsTrue (suits scope locals) →
      AreLeft model kind list locals
  unfolding left
  its_lefts_are scope [] locals h count suit = tt
  its_lefts_are scope (here ∷ rest) locals h count suit =
      (get_is its_lefts here.at (here ∷ rest) h.0, its_state scope here.at locals h.1 count suit)

  -- what holds where the scope at a place is known
  pub its_place : (at : ℕ) (scope : Scope) → scope_at its_setting is.kinds (body_of model kind) at ≡ Some scope →
      Holds its_setting is.slots its_scopes its_lefts scope (left (body_of model kind) at)
  unfolding left scope_at
  its_place at scope e =
      hold_at its_setting is.slots its_scopes its_lefts its_scopes its_lefts at scope (all_places_hold its_setting is.kinds is.slots (body_of model kind) is.good) e

  -- at a state of the model, what is left goes with the locals
  pub its_beginning : (at : ℕ) (locals : List Value) → IsTrue (is_state_of model (record { kind = kind; at = at; locals = locals })) →
      AreLeft model kind (left (body_of model kind) at) locals
  its_beginning at locals h =
      let w = its_scope at locals h in
      its_lefts_are w.scope (left (body_of model kind) at) locals
      (follows its_setting is.slots its_scopes its_lefts w.scope (left (body_of model kind) at) (its_place at w.scope w.scope_is)) w.count w.suit

  -- the next statement stands at its place, in its scope
  pub its_next : (here : Placed) (rest : List Placed) (locals : List Value) (scope : Scope) → left (body_of model kind) here.at ≡ here ∷ rest →
      scope_at its_setting is.kinds (body_of model kind) here.at ≡ Some scope → IsReached its_setting is.slots its_scopes its_lefts here rest scope
  unfolding scope_at
  its_next here rest locals scope e found =
      let h : Holds its_setting is.slots its_scopes its_lefts scope (here ∷ rest) =
      subst (λ (l : List Placed). Holds its_setting is.slots its_scopes its_lefts scope l) e (its_place here.at scope found) in
      let both : Some h.0 ≡ Some scope = sym h.1 ∙ found in
      let same : h.0 ≡ scope = cc in
      subst (λ (s : Scope). IsReached its_setting is.slots its_scopes its_lefts here rest s) same h.4
