-- Wherever a run comes in a body of a valid model, the statement there is well typed, and the locals go with the place.
use Rattle.std.proofs.Common.{◌≡◌, ℕ, ◌+◌, ◌≤◌, true, false, IsTrue, List, ◌∷◌, ◌++◌, length, subst, arith}
use Rattle.aerie_base.specs.declared.values.Value.{Value}
use Rattle.aerie_base.specs.declared.statements.Stmt.{Stmt, out-Stmt}
use Rattle.aerie_base.specs.declared.statements.Stmt.TheOpen.{Stmt-F}
use Rattle.aerie_base.specs.declared.models.model.Parts.{Parts}
use Rattle.aerie_base.specs.models.ValidModel.{valid_model}
use Rattle.aerie_base.specs.statements.Places.{Placed, placed, block_size}
use Rattle.run_data.specs.declared.tasks.BodyId.{BodyId}
use Rattle.run_data.specs.StepStates.{StepState, after_items}
use Rattle.run_data.specs.Jobs.{is_state_of, AreCellsOf}
use Rattle.run_data.specs.Steps.{Acted, onward, ended, act}
use Rattle.run_data.specs.TaskStates.{body_of}
use Rattle.run_data.specs.Typed.{AreLeft}
use Rattle.run_data.specs.laws.Typing.{StatesBegin, NextIsTyped, RunsOn, ChoiceRunsOn, LoopRunsOn, StepEndsWell}
use Rattle.run_data.proofs.Scoping.{longer}
use Rattle.run_data.proofs.CheckedForms.{stmt_goes}
use Rattle.run_data.proofs.TypedStatements.{stmt_fits, fits_typed}
use Rattle.run_data.proofs.TypedActs.{ActedGoes, acted_goes}
use Rattle.run_data.proofs.ModelBodies.{IsBodyOf, body_found, Suits}
use Rattle.run_data.proofs.PlacesHold.{Follows, IsReached, Onward}
use Rattle.run_data.proofs.BodyPlaces.{its_setting, its_scopes, its_lefts, its_scope, its_lefts_are, its_beginning, its_next}

-- where a state of a model is
pub body_there : (model : Parts) (kind : BodyId) (at : ℕ) (locals : List Value) → IsTrue (valid_model model) → IsTrue (is_state_of model (record { kind = kind; at = at; locals = locals })) → IsBodyOf model kind
unfolding is_state_of
body_there model kind at locals valid h = body_found model valid kind at locals h

-- the next statement, with its body and its scope
pub record Now (model : Parts) (kind : BodyId) (here : Placed) (rest : List Placed) (locals : List Value) : Type 0 where
  pub is : IsBodyOf model kind
  pub suits_it : Suits (its_setting model kind is) is.kinds is.slots (body_of model kind) here.at locals
  pub stands : IsReached (its_setting model kind is) is.slots (its_scopes model kind is) (its_lefts model kind is) here rest suits_it.scope
  pub few : length suits_it.scope ≤ length locals

pub now : (model : Parts) (kind : BodyId) (here : Placed) (rest : List Placed) (locals : List Value) → IsTrue (valid_model model) → AreLeft model kind (here ∷ rest) locals → Now model kind here rest locals
now model kind here rest locals valid left =
    let is = body_there model kind here.at locals valid left.1 in
    let w = its_scope model kind is here.at locals left.1 in
    let s = its_next model kind is here rest locals w.scope left.0 w.scope_is in
    record { is = is; suits_it = w; stands = s; few = omega (arith, longer w.scope s.next (stmt_goes (its_setting model kind is) here.what w.scope s.next s.checks), s.small, w.count) }

pub states_begin : StatesBegin
states_begin model state valid h =
    its_beginning model state.kind (body_there model state.kind state.at state.locals valid h) state.at state.locals h

pub next_is_typed : NextIsTyped
next_is_typed model kind here rest locals valid left =
    let n = now model kind here rest locals valid left in
    let w = n.suits_it in
    let s = n.stands in
    fits_typed model n.is.parameters n.is.result w.scope locals n.few w.suit (out-Stmt here.what) s.next (omega (arith, s.small, w.count))
    (stmt_fits model n.is.parameters n.is.result w.scope locals n.few w.suit here.what s.next s.checks)

pub acted_there : (model : Parts) (kind : BodyId) (here : Placed) (rest : List Placed) (so_far : StepState) → (valid : IsTrue (valid_model model)) →
    AreLeft model kind (here ∷ rest) so_far.locals → AreCellsOf model (after_items so_far.view so_far.items) → (acted : Acted) → act kind here.at (out-Stmt here.what) so_far ≡ acted →
    ActedGoes model kind rest so_far acted
acted_there model kind here rest so_far valid left cells acted e =
    let n = now model kind here rest so_far.locals valid left in
    let w = n.suits_it in
    let s = n.stands in
    subst (λ (t : Acted). ActedGoes model kind rest so_far t) e
    (acted_goes model valid kind n.is here rest w.scope s.next so_far w.count w.suit n.few s.small cells (out-Stmt here.what)
    (stmt_fits model n.is.parameters n.is.result w.scope so_far.locals n.few w.suit here.what s.next s.checks) s.onward)

pub runs_on : RunsOn
runs_on model kind here rest so_far next valid left cells e =
    let on = acted_there model kind here rest so_far valid left cells (onward next) e in (on.0, on.1)

pub step_ends_well : StepEndsWell
step_ends_well model kind here rest so_far last status valid left cells e = (acted_there model kind here rest so_far valid left cells (ended status last) e).0

onward_there : (model : Parts) (kind : BodyId) (here : Placed) (rest : List Placed) (locals : List Value) (n : Now model kind here rest locals) (x : Stmt-F Stmt) → out-Stmt here.what ≡ x →
    Onward (its_setting model kind n.is) n.is.slots (its_scopes model kind n.is) (its_lefts model kind n.is) here rest n.suits_it.scope n.stands.next x
onward_there model kind here rest locals n x e =
    subst (λ (y : Stmt-F Stmt). Onward (its_setting model kind n.is) n.is.slots (its_scopes model kind n.is) (its_lefts model kind n.is) here rest n.suits_it.scope n.stands.next y) e n.stands.onward

left_there : (model : Parts) (kind : BodyId) (here : Placed) (rest : List Placed) (locals : List Value) (n : Now model kind here rest locals) (list : List Placed) →
    Follows (its_setting model kind n.is) n.is.slots (its_scopes model kind n.is) (its_lefts model kind n.is) n.suits_it.scope list → AreLeft model kind list locals
left_there model kind here rest locals n list follows = its_lefts_are model kind n.is n.suits_it.scope list locals follows n.suits_it.count n.suits_it.suit

pub choice_runs_on : ChoiceRunsOn
choice_runs_on model kind here rest locals test block other true valid left e =
    let n = now model kind here rest locals valid left in
    left_there model kind here rest locals n (placed (here.at + 1) block ++ rest) (onward_there model kind here rest locals n (Stmt-F.If test block other) e).0
choice_runs_on model kind here rest locals test block other false valid left e =
    let n = now model kind here rest locals valid left in
    left_there model kind here rest locals n (placed (here.at + 2 + block_size block) other ++ rest) (onward_there model kind here rest locals n (Stmt-F.If test block other) e).1

pub loop_runs_on : LoopRunsOn
loop_runs_on model kind here rest locals test block true valid left e =
    let n = now model kind here rest locals valid left in
    left_there model kind here rest locals n (placed (here.at + 1) block ++ here ∷ rest) (onward_there model kind here rest locals n (Stmt-F.While test block) e).0
loop_runs_on model kind here rest locals test block false valid left e =
    let n = now model kind here rest locals valid left in
    left_there model kind here rest locals n rest (onward_there model kind here rest locals n (Stmt-F.While test block) e).1
