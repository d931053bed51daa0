-- The bodies of a valid model are as they should be, and a state of the model is one of a body of it.
use Rattle.std.proofs.Common.{◌≡◌, ℕ, zero, suc, Bool, true, false, ◌&&◌, IsTrue, List, [], ◌∷◌, ◌++◌, Option, Some, None, is_some, length, slice_get, nat_eq, refl, subst, eqb-true, eq-eqb}
use Rattle.std.specs.List.{list_all}
use Rattle.aerie_base.specs.declared.values.Kind.{Kind}
use Rattle.aerie_base.specs.declared.values.Value.{Value}
use Rattle.aerie_base.specs.declared.statements.Stmt.{Stmt}
use Rattle.aerie_base.specs.declared.models.Activity.{Activity}
use Rattle.aerie_base.specs.declared.models.Daemon.{Daemon}
use Rattle.aerie_base.specs.declared.models.model.Parts.{Parts}
use Rattle.aerie_base.specs.models.Activities.{ends_in_return, are_parameters, are_requires, is_result, is_activity, is_daemon}
use Rattle.aerie_base.specs.models.Signatures.{parameter_kinds, signatures_of}
use Rattle.aerie_base.specs.models.Bodies.{Setting, is_body}
use Rattle.aerie_base.specs.models.Scopes.{Scope}
use Rattle.aerie_base.specs.models.Values.{is_kind}
use Rattle.aerie_base.specs.models.ValidModel.{valid_model, has_good_activities, has_good_daemons, enum_names, cell_names}
use Rattle.aerie_base.specs.models.ValidParts.{are_good}
use Rattle.run_data.specs.declared.tasks.BodyId.{BodyId}
use Rattle.run_data.specs.declared.tasks.BodyId.TheVariants as body
use Rattle.run_data.specs.TaskStates.{body_of}
use Rattle.run_data.specs.Scopes.{scope_at, suits}
use Rattle.run_data.specs.Jobs.{suits_scope, is_activity_state, is_daemon_state, is_state_in}
use Rattle.run_data.specs.laws.Typing.{body_result}
use Rattle.run_data.proofs.Scoping.{both_hold, and_holds}

-- what a body of a model may name
abbrev pub setting_of : Parts → ℕ → Option Kind → Setting
setting_of model parameters result =
    record { enums = model.enums; cells = model.cells; signatures = signatures_of model.activities; parameters = parameters; result = result }

-- a body of a model, with its parameters' types, its slots and the type of its result
pub record IsBodyOf (model : Parts) (kind : BodyId) : Type 0 where
  pub parameters : ℕ
  pub result : Option Kind
  pub kinds : List Kind
  pub slots : ℕ
  pub good : IsTrue (is_body (setting_of model parameters result) kinds slots (body_of model kind))
  pub result_is : body_result model kind ≡ result
  pub ends : IsTrue (is_some result) → IsTrue (ends_in_return (body_of model kind))
  pub states_are : (at : ℕ) (locals : List Value) → is_state_in model kind at locals
      ≡ (nat_eq (length locals) slots && suits_scope (scope_at (setting_of model parameters result) kinds (body_of model kind) at) locals)

all_at : {A : Type 0} (test : A → Bool) (xs : List A) (at : ℕ) (x : A) → IsTrue (list_all test xs) → slice_get xs at ≡ Some x → IsTrue (test x)
all_at test [] zero x all e = absurd (cc)
all_at test [] (suc at) x all e = absurd (cc)
all_at test (y ∷ xs) zero x all e =
    let same : y ≡ x = cc in
    subst (λ z. IsTrue (test z)) same (both_hold (test y) (list_all test xs) all).0
all_at test (y ∷ xs) (suc at) x all e = all_at test xs at x (both_hold (test y) (list_all test xs) all).1 e

fourth : (a b c d : Bool) → IsTrue (a && b && c && d) → IsTrue d
fourth true true true d h = h
fourth false b c d h = absurd (cc)
fourth true false c d h = absurd (cc)
fourth true true false d h = absurd (cc)

third : (a b c d : Bool) → IsTrue (a && b && c && d) → IsTrue c
third true true true d h = refl
third false b c d h = absurd (cc)
third true false c d h = absurd (cc)
third true true false d h = absurd (cc)

module _ (model : Parts) (valid : IsTrue (valid_model model)) where
  pub activity_good : (kind : ℕ) (activity : Activity) → slice_get model.activities kind ≡ Some activity →
      IsTrue (is_body (setting_of model (length activity.parameters) activity.result) (parameter_kinds activity) activity.slots activity.body)
  unfolding has_good_activities is_activity
  activity_good kind activity e =
      let taken = enum_names model ++ cell_names model in
      let all = both_hold _ (list_all (is_activity model.enums model.cells (signatures_of model.activities) taken) model.activities) (are_good model valid).activities in
      let is = all_at (is_activity model.enums model.cells (signatures_of model.activities) taken) model.activities kind activity all.1 e in
      fourth (are_parameters model.enums taken activity) (are_requires model.enums activity) (is_result model.enums activity.result activity.body) _ is

  result_ends : (result : Option Kind) (body : List Stmt) → IsTrue (is_result model.enums result body) → IsTrue (is_some result) → IsTrue (ends_in_return body)
  result_ends None body h some = absurd (cc)
  result_ends (Some kind) body h some = (both_hold (is_kind model.enums kind) (ends_in_return body) h).1

  pub activity_ends : (kind : ℕ) (activity : Activity) → slice_get model.activities kind ≡ Some activity → IsTrue (is_some activity.result) → IsTrue (ends_in_return activity.body)
  unfolding has_good_activities is_activity
  activity_ends kind activity e some =
      let taken = enum_names model ++ cell_names model in
      let all = both_hold _ (list_all (is_activity model.enums model.cells (signatures_of model.activities) taken) model.activities) (are_good model valid).activities in
      let is = all_at (is_activity model.enums model.cells (signatures_of model.activities) taken) model.activities kind activity all.1 e in
      result_ends activity.result activity.body (third (are_parameters model.enums taken activity) (are_requires model.enums activity) (is_result model.enums activity.result activity.body) _ is) some

  pub daemon_good : (number : ℕ) (daemon : Daemon) → slice_get model.daemons number ≡ Some daemon →
      IsTrue (is_body (setting_of model 0 None) [] daemon.slots daemon.body)
  unfolding has_good_daemons is_daemon
  daemon_good number daemon e =
      let all = both_hold _ (list_all (is_daemon model.enums model.cells (signatures_of model.activities)) model.daemons) (are_good model valid).daemons in
      all_at (is_daemon model.enums model.cells (signatures_of model.activities)) model.daemons number daemon all.1 e

  -- the body of an activity type
  abbrev pub activity_body_is : (kind : ℕ) (activity : Activity) → slice_get model.activities kind ≡ Some activity → IsBodyOf model (body.Activity kind)
  activity_body_is kind activity e = record {
    parameters = length activity.parameters;
    result = activity.result;
    kinds = parameter_kinds activity;
    slots = activity.slots;
    good = rw e (activity_good kind activity e);
    result_is = rw e refl;
    ends = rw e (activity_ends kind activity e);
    states_are = λ place values. rw e refl;
  }

  activity_found : (kind : ℕ) (found : Option Activity) → slice_get model.activities kind ≡ found → (at : ℕ) (locals : List Value) →
      IsTrue (is_activity_state model found at locals) → IsBodyOf model (body.Activity kind)
  activity_found kind None e at locals h = absurd (cc)
  activity_found kind (Some activity) e at locals h = activity_body_is kind activity e

  daemon_found : (number : ℕ) (found : Option Daemon) → slice_get model.daemons number ≡ found → (at : ℕ) (locals : List Value) →
      IsTrue (is_daemon_state model found at locals) → IsBodyOf model (body.Daemon number)
  daemon_found number None e at locals h = absurd (cc)
  daemon_found number (Some daemon) e at locals h = record {
    parameters = 0;
    result = None;
    kinds = [];
    slots = daemon.slots;
    good = rw e (daemon_good number daemon e);
    result_is = refl;
    ends = λ h. absurd (cc);
    states_are = λ place values. rw e refl;
  }

  -- the body of a state of the model
  pub body_found : (kind : BodyId) (at : ℕ) (locals : List Value) → IsTrue (is_state_in model kind at locals) → IsBodyOf model kind
  body_found (body.Activity kind) at locals h = activity_found kind (slice_get model.activities kind) refl at locals h
  body_found (body.Daemon number) at locals h = daemon_found number (slice_get model.daemons number) refl at locals h

-- ---- states

-- the scope at the place of a state, which its locals suit
pub record Suits (setting : Setting) (kinds : List Kind) (slots : ℕ) (body : List Stmt) (at : ℕ) (locals : List Value) : Type 0 where
  pub scope : Scope
  pub count : length locals ≡ slots
  pub scope_is : scope_at setting kinds body at ≡ Some scope
  pub suit : IsTrue (suits scope locals)

scope_found : (found : Option Scope) (locals : List Value) → IsTrue (suits_scope found locals) → (scope : Scope) × (found ≡ Some scope) × IsTrue (suits scope locals)
scope_found None locals h = absurd (cc)
scope_found (Some scope) locals h = (scope, refl, h)

pub suits_found : (setting : Setting) (kinds : List Kind) (slots : ℕ) (body : List Stmt) (at : ℕ) (locals : List Value) →
    IsTrue (nat_eq (length locals) slots && suits_scope (scope_at setting kinds body at) locals) → Suits setting kinds slots body at locals
suits_found setting kinds slots body at locals h =
    let parts = both_hold (nat_eq (length locals) slots) (suits_scope (scope_at setting kinds body at) locals) h in
    let found = scope_found (scope_at setting kinds body at) locals parts.1 in
    record { scope = found.0; count = eqb-true (length locals) slots parts.0; scope_is = found.1; suit = found.2 }

nat_same : (n : ℕ) → IsTrue (nat_eq n n)
nat_same n = eq-eqb n n refl

pub suits_make : (setting : Setting) (kinds : List Kind) (slots : ℕ) (body : List Stmt) (at : ℕ) (locals : List Value) (scope : Scope) →
    length locals ≡ slots → scope_at setting kinds body at ≡ Some scope → IsTrue (suits scope locals) →
    IsTrue (nat_eq (length locals) slots && suits_scope (scope_at setting kinds body at) locals)
suits_make setting kinds slots body at locals scope e found h =
    rw (e, found) (and_holds (nat_eq slots slots) (suits scope locals) (nat_same slots) h)
