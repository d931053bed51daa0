-- A state of a model stands at a place of its body, and a body of a valid model has few places.
use Rattle.std.proofs.Common.{◌≡◌, ℕ, zero, suc, ◌*◌, ◌<◌, ◌≤◌, ◌&&◌, Bool, IsTrue, List, [], ◌∷◌, ◌++◌, Option, Some, None, map, nat_le, slice_get, refl, arith, length, length-append}
use Rattle.aerie_base.specs.declared.values.Kind.{Kind}
use Rattle.aerie_base.specs.declared.values.Value.{Value}
use Rattle.aerie_base.specs.declared.statements.Stmt.{Stmt}
use Rattle.aerie_base.specs.declared.models.Activity.{Activity}
use Rattle.aerie_base.specs.declared.models.Daemon.{Daemon}
use Rattle.aerie_base.specs.declared.models.model.Parts.{Parts}
use Rattle.aerie_base.specs.models.Activities.{activity_setting, daemon_setting}
use Rattle.aerie_base.specs.models.Signatures.{parameter_kinds, signatures_of}
use Rattle.aerie_base.specs.models.Bodies.{Setting, block_checked, has_slots, is_body}
use Rattle.aerie_base.specs.models.Scopes.{Scope}
use Rattle.aerie_base.specs.models.Depth.{body_depth}
use Rattle.aerie_base.specs.models.Limits.{statement_limit, depth_limit}
use Rattle.aerie_base.specs.models.ValidModel.{valid_model}
use Rattle.aerie_base.specs.statements.Places.{block_size, block_count}
use Rattle.aerie_base.specs.statements.Sizes.{block_few}
use Rattle.run_data.specs.declared.tasks.BodyId.{BodyId}
use Rattle.run_data.specs.declared.tasks.BodyId.TheVariants as body
use Rattle.run_data.specs.Jobs.{is_activity_state, is_daemon_state, is_state_in, is_state_of}
use Rattle.run_data.specs.Scopes.{scope_or, block_scopes, scope_at}
use Rattle.run_data.specs.TaskStates.{body_of, activity_body, daemon_body}
use Rattle.run_data.specs.laws.Places.{StatesStandInBodies, PlacesAreFew}
use Rattle.run_data.proofs.ModelBodies.{setting_of, activity_good, daemon_good, suits_found}
use Rattle.run_data.proofs.ScopeForms.{block_scopes_length}

-- ---- where a state stands

there : {A : Type 0} (xs : List A) (at : ℕ) (x : A) → slice_get xs at ≡ Some x → at < length xs
there [] zero x e = absurd (cc)
there [] (suc at) x e = absurd (cc)
there (y ∷ xs) zero x e = omega arith
there (y ∷ xs) (suc at) x e = omega (arith, there xs at x e)

-- a place with a scope is one of the body's, or its end
place_in : (setting : Setting) (kinds : List Kind) (body : List Stmt) (at : ℕ) (scope : Scope) → scope_at setting kinds body at ≡ Some scope → at ≤ block_size body
unfolding scope_at
place_in setting kinds body at scope e =
    let begin : Scope = map Some kinds in
    let end : List Scope = scope_or [] (block_checked setting body begin) ∷ [] in
    omega (
      arith,
      there (block_scopes setting body begin ++ end) at scope e,
      length-append (block_scopes setting body begin) end,
      block_scopes_length setting body begin,
    )

activity_place : (model : Parts) (activity : Option Activity) (at : ℕ) (locals : List Value) → IsTrue (is_activity_state model activity at locals) → at ≤ block_size (activity_body activity)
activity_place model None at locals h = absurd (cc)
activity_place model (Some activity) at locals h =
    let setting = activity_setting model.enums model.cells (signatures_of model.activities) activity in
    let suits = suits_found setting (parameter_kinds activity) activity.slots activity.body at locals h in
    place_in setting (parameter_kinds activity) activity.body at suits.scope suits.scope_is

daemon_place : (model : Parts) (daemon : Option Daemon) (at : ℕ) (locals : List Value) → IsTrue (is_daemon_state model daemon at locals) → at ≤ block_size (daemon_body daemon)
daemon_place model None at locals h = absurd (cc)
daemon_place model (Some daemon) at locals h =
    let suits = suits_found (daemon_setting model.enums model.cells (signatures_of model.activities)) [] daemon.slots daemon.body at locals h in
    place_in (daemon_setting model.enums model.cells (signatures_of model.activities)) [] daemon.body at suits.scope suits.scope_is

place_of : (model : Parts) (kind : BodyId) (at : ℕ) (locals : List Value) → IsTrue (is_state_in model kind at locals) → at ≤ block_size (body_of model kind)
place_of model (body.Activity kind) at locals h = activity_place model (slice_get model.activities kind) at locals h
place_of model (body.Daemon number) at locals h = daemon_place model (slice_get model.daemons number) at locals h

pub states_stand : StatesStandInBodies
unfolding is_state_of
states_stand model state h = place_of model state.kind state.at state.locals h

-- ---- few places

second : (a b c : Bool) → IsTrue (a && b && c) → IsTrue b
second a b c h = grind arith

good_few : (setting : Setting) (kinds : List Kind) (slots : ℕ) (block : List Stmt) → IsTrue (is_body setting kinds slots block) → block_size block ≤ 2 * statement_limit
unfolding is_body
good_few setting kinds slots block good =
    let few = second (has_slots slots (block_checked setting block (map Some kinds))) (nat_le (block_count block) statement_limit) (nat_le (body_depth block) depth_limit) good in
    let most : block_count block ≤ statement_limit = grind arith in
    omega (arith, most, block_few block)

activity_few : (model : Parts) (kind : ℕ) (activity : Option Activity) → IsTrue (valid_model model) → slice_get model.activities kind ≡ activity → block_size (activity_body activity) ≤ 2 * statement_limit
activity_few model kind None valid e = omega arith
activity_few model kind (Some activity) valid e =
    good_few (setting_of model (length activity.parameters) activity.result) (parameter_kinds activity) activity.slots activity.body (activity_good model valid kind activity e)

daemon_few : (model : Parts) (number : ℕ) (daemon : Option Daemon) → IsTrue (valid_model model) → slice_get model.daemons number ≡ daemon → block_size (daemon_body daemon) ≤ 2 * statement_limit
daemon_few model number None valid e = omega arith
daemon_few model number (Some daemon) valid e = good_few (setting_of model 0 None) [] daemon.slots daemon.body (daemon_good model valid number daemon e)

pub places_few : PlacesAreFew
places_few model (body.Activity kind) valid = activity_few model kind (slice_get model.activities kind) valid refl
places_few model (body.Daemon number) valid = daemon_few model number (slice_get model.daemons number) valid refl
