-- After a statement of a valid model, what is left goes with the locals, and the state from which the task goes on is of
-- the model.
use Rattle.std.proofs.Common.{◌≡◌, ℕ, zero, suc, ◌+◌, ◌<◌, ◌≤◌, ℤ, pos, negsuc, Bool, true, IsTrue, List, [], ◌∷◌, ◌++◌, Option, Some, None, option_map, option_and_then, Result, Ok, Err, length, slice_get, slice_set, refl, sym, ap, ◌∙◌, subst, arith, length-set, length-append}
use Rattle.aerie_base.specs.declared.values.Kind.{Kind}
use Rattle.aerie_base.specs.declared.values.Kind.TheVariants.{Int}
use Rattle.aerie_base.specs.declared.values.Value.{Value}
use Rattle.aerie_base.specs.declared.faults.Fault.{Fault}
use Rattle.aerie_base.specs.declared.operands.CellRead.TheVariants as read
use Rattle.aerie_base.specs.declared.expressions.Expr.{Expr}
use Rattle.aerie_base.specs.declared.statements.Emission.{Emission}
use Rattle.aerie_base.specs.declared.statements.Emission.TheVariants as emission
use Rattle.aerie_base.specs.declared.statements.Stmt.{Stmt}
use Rattle.aerie_base.specs.declared.statements.Stmt.TheOpen.{Stmt-F}
use Rattle.aerie_base.specs.declared.models.model.Parts.{Parts}
use Rattle.aerie_base.specs.expressions.Arithmetic.{value_kind, number_in}
use Rattle.aerie_base.specs.expressions.Evaluation.{Evaluated}
use Rattle.aerie_base.specs.expressions.Soundness.{Gives, sound}
use Rattle.aerie_base.specs.expressions.Typing.{same_kind}
use Rattle.aerie_base.specs.models.Scopes.{Scope, known}
use Rattle.aerie_base.specs.models.Bodies.{behind_call}
use Rattle.aerie_base.specs.models.Signatures.{activity_result}
use Rattle.aerie_base.specs.models.Cells.{read_kind}
use Rattle.aerie_base.specs.models.Expressions.{is_kind_of}
use Rattle.aerie_base.specs.statements.Places.{Placed}
use Rattle.effect_cells.specs.declared.effects.CellState.{CellState}
use Rattle.run_data.specs.declared.tasks.BodyId.{BodyId}
use Rattle.run_data.specs.declared.tasks.TaskState.{TaskState}
use Rattle.run_data.specs.declared.frames.Item.{Item}
use Rattle.run_data.specs.declared.frames.Item.TheVariants as item
use Rattle.run_data.specs.declared.frames.Status.TheVariants.{Faulted}
use Rattle.run_data.specs.StepStates.{StepState, after_item, after_items, value_read, valued, with_flags}
use Rattle.run_data.specs.Endings.{with_result}
use Rattle.run_data.specs.Jobs.{is_state_of, AreCellsOf}
use Rattle.run_data.specs.Scopes.{suits}
use Rattle.run_data.specs.Steps.{Acted, onward, ended, with_evaluated, valued_all, with_all, act, emission_expr, effect_of, delay_of}
use Rattle.run_data.specs.Typed.{AreLeft, kind_here, has_kind, is_typed_emission}
use Rattle.run_data.specs.laws.Typing.{NextIsOfModel, last_child, or_this, result_kind}
use Rattle.run_data.specs.laws.ModelSteps.{AreChildrenOf, WaitsWell}
use Rattle.run_data.proofs.Waiting.{filled_waited}
use Rattle.run_data.proofs.Keeping.{all_notes}
use Rattle.run_data.proofs.Scoping.{both_hold, and_holds}
use Rattle.run_data.proofs.CheckedForms.{takes}
use Rattle.run_data.proofs.KnownKinds.{kind_is}
use Rattle.run_data.proofs.CellKinds.{value_read_readings, LeavesKinds, add_leaves, flow_leaves, set_leaves, cells_emitted, after_more}
use Rattle.run_data.proofs.Children.{ChildBegins, child_typed_begins, children_more, children_same}
use Rattle.aerie_base.specs.models.ValidModel.{valid_model}
use Rattle.run_data.proofs.TypedStatements.{same_kinds, there_is, Fits}
use Rattle.run_data.proofs.ModelBodies.{IsBodyOf}
use Rattle.run_data.proofs.PlacesHold.{Onward, Reaches}
use Rattle.run_data.proofs.BodyPlaces.{its_setting, its_scopes, its_lefts, its_state, its_lefts_are}

-- ---- locals that are set

-- a local that takes the next slot
set_next : (scope : Scope) (locals : List Value) (value : Value) (of : Kind) → length scope < length locals → IsTrue (suits scope locals) → value_kind value ≡ of →
    IsTrue (suits (scope ++ Some of ∷ []) (slice_set locals (length scope) value))
set_next scope [] value of few h e = absurd (omega (arith, few))
set_next [] (old ∷ locals) value of few h e = and_holds (same_kind (value_kind value) of) true (same_kinds (value_kind value) of e) refl
set_next (None ∷ scope) (old ∷ locals) value of few h e = set_next scope locals value of (omega (arith, few)) h e
set_next (Some kind ∷ scope) (old ∷ locals) value of few h e =
    let parts = both_hold (same_kind (value_kind old) kind) (suits scope locals) h in
    and_holds (same_kind (value_kind old) kind) (suits (scope ++ Some of ∷ []) (slice_set locals (length scope) value)) parts.0
    (set_next scope locals value of (omega (arith, few)) parts.1 e)

-- a local that keeps its type
set_known : (scope : Scope) (locals : List Value) (slot : ℕ) (value : Value) (of : Kind) → known scope slot ≡ Some of → IsTrue (suits scope locals) → value_kind value ≡ of →
    IsTrue (suits scope (slice_set locals slot value))
set_known [] locals slot value of k h e = refl
set_known (None ∷ scope) [] slot value of k h e = refl
set_known (Some kind ∷ scope) [] slot value of k h e = absurd (cc)
set_known (None ∷ scope) (old ∷ locals) zero value of k h e = absurd (cc)
set_known (None ∷ scope) (old ∷ locals) (suc slot) value of k h e = set_known scope locals slot value of k h e
set_known (Some kind ∷ scope) (old ∷ locals) zero value of k h e =
    let parts = both_hold (same_kind (value_kind old) kind) (suits scope locals) h in
    let one : kind ≡ of = cc in
    and_holds (same_kind (value_kind value) kind) (suits scope locals) (same_kinds (value_kind value) kind (e ∙ sym one)) parts.1
set_known (Some kind ∷ scope) (old ∷ locals) (suc slot) value of k h e =
    let parts = both_hold (same_kind (value_kind old) kind) (suits scope locals) h in
    and_holds (same_kind (value_kind old) kind) (suits scope (slice_set locals slot value)) parts.0 (set_known scope locals slot value of k parts.1 e)

-- ---- children

-- the child that was made last
child_made : (items : List Item) (kind : ℕ) (arguments : List Value) → last_child (items ++ item.Child kind arguments ∷ []) ≡ Some kind
child_made [] kind arguments = refl
child_made (item.Emit cell effect ∷ items) kind arguments = child_made items kind arguments
child_made (item.Child other values ∷ items) kind arguments = ap (λ (later : Option ℕ). or_this later other) (child_made items kind arguments)

-- ---- what follows a value

pub noted_act : (P : Acted → Type 0) (so_far : StepState) (result : Evaluated) (of : Kind) (go : Value → StepState → Acted) → Gives of result.0 →
    ((fault : Fault) (read_flags : List Bool) → P (ended (Faulted fault) (with_flags so_far read_flags))) →
    ((value : Value) (read_flags : List Bool) → value_kind value ≡ of → P (go value (with_flags so_far read_flags))) →
    P (with_evaluated so_far result go)
noted_act P so_far (Ok value, read_flags) of go given faulted goes = goes value read_flags given
noted_act P so_far (Err fault, read_flags) of go given faulted goes = faulted fault read_flags

pub all_acts : (P : Acted → Type 0) (Q : Result (List Value) Fault → Type 0) (so_far : StepState) (result : Result (List Value) Fault × StepState) (go : List Value → StepState → Acted) →
    ((later : List Bool) × (result.1 ≡ with_flags so_far later)) → Q result.0 →
    ((fault : Fault) (read_flags : List Bool) → P (ended (Faulted fault) (with_flags so_far read_flags))) →
    ((values : List Value) (read_flags : List Bool) → Q (Ok values) → P (go values (with_flags so_far read_flags))) →
    P (with_all result go)
all_acts P Q so_far (Err fault, last) go is given faulted goes = subst (λ (c : StepState). P (ended (Faulted fault) c)) (sym is.1) (faulted fault is.0)
all_acts P Q so_far (Ok values, last) go is given faulted goes = subst (λ (c : StepState). P (go values c)) (sym is.1) (goes values is.0 given)

-- ---- effects

-- the type of what an emission evaluates, whose values leave the cells with their types
pub emission_leaves : (model : Parts) (locals : List Value) (cells : List CellState) (cell : ℕ) (what : Emission) → AreCellsOf model cells → IsTrue (is_typed_emission model locals cell what) →
    (of : Kind) × (kind_here locals (read_kind model.cells) (emission_expr what) ≡ Some of)
    × ((value : Value) → value_kind value ≡ of → LeavesKinds (effect_of what value) (slice_get cells cell))
emission_leaves model locals cells cell (emission.Add by) are h =
    let parts = both_hold (is_kind_of (read_kind model.cells (read.Counter cell)) Int) (has_kind locals (read_kind model.cells) by Int) h in
    (Int, kind_is (kind_here locals (read_kind model.cells) by) Int parts.1, λ value e. add_leaves (number_in value) (slice_get cells cell))
emission_leaves model locals cells cell (emission.Set to) are h =
    let found = there_is (read_kind model.cells (read.Register cell)) (kind_here locals (read_kind model.cells) to) h in
    (found.0, found.2, λ value e. set_leaves cell value (slice_get cells cell) (are.kinds (read.Register cell) ∙ found.1 ∙ ap Some (sym e)))
emission_leaves model locals cells cell (emission.Volume by) are h =
    let parts = both_hold (is_kind_of (read_kind model.cells (read.Volume cell)) Int) (has_kind locals (read_kind model.cells) by Int) h in
    (Int, kind_is (kind_here locals (read_kind model.cells) by) Int parts.1, λ value e. flow_leaves (number_in value) (pos 0) (slice_get cells cell))
emission_leaves model locals cells cell (emission.Rate by) are h =
    let parts = both_hold (is_kind_of (read_kind model.cells (read.Rate cell)) Int) (has_kind locals (read_kind model.cells) by Int) h in
    (Int, kind_is (kind_here locals (read_kind model.cells) by) Int parts.1, λ value e. flow_leaves (pos 0) (number_in value) (slice_get cells cell))

-- ---- one statement

-- What is to hold after a statement. Where the children made before it begin in states of the model, all made by then do.
abbrev pub ActedGoes : Parts → BodyId → List Placed → StepState → Acted → Type 0
ActedGoes model kind rest before (onward later) =
    AreLeft model kind rest later.locals × AreCellsOf model (after_items later.view later.items)
    × (AreChildrenOf model before.items → AreChildrenOf model later.items)
ActedGoes model kind rest before (ended status last) =
    NextIsOfModel model last.items status × AreCellsOf model (after_items last.view last.items)
    × (AreChildrenOf model before.items → AreChildrenOf model last.items) × WaitsWell model status

module _ (model : Parts) (valid : IsTrue (valid_model model)) (kind : BodyId) (is : IsBodyOf model kind) (here : Placed) (rest : List Placed) (scope next : Scope) (so_far : StepState)
    (count : length so_far.locals ≡ is.slots) (suit : IsTrue (suits scope so_far.locals)) (few : length scope ≤ length so_far.locals) (small : length next ≤ is.slots)
    (cells : AreCellsOf model (after_items so_far.view so_far.items)) where
  abbrev Goes : Acted → Type 0
  Goes = ActedGoes model kind rest so_far

  abbrev FitsHere : Stmt-F Stmt → Type 0
  FitsHere = Fits model is.parameters is.result scope so_far.locals few suit next

  abbrev OnwardHere : Stmt-F Stmt → Type 0
  OnwardHere = Onward (its_setting model kind is) is.slots (its_scopes model kind is) (its_lefts model kind is) here rest scope next

  -- the value of an expression has the expression's type
  value_has : (expr : Expr) (of : Kind) → kind_here so_far.locals (read_kind model.cells) expr ≡ Some of → Gives of (valued so_far expr).0
  value_has expr of e =
      sound expr so_far.locals (read_kind model.cells) (value_read so_far.view so_far.items) so_far.read_flags of (value_read_readings model so_far.view so_far.items cells) e

  count_set : (slot : ℕ) (value : Value) → length (slice_set so_far.locals slot value) ≡ is.slots
  count_set slot value = length-set so_far.locals slot value ∙ count

  next_suit : next ≡ scope → IsTrue (suits next so_far.locals)
  next_suit e = subst (λ (s : Scope). IsTrue (suits s so_far.locals)) (sym e) suit

  next_set : (slot : ℕ) (value : Value) (of : Kind) → slot ≡ length scope → next ≡ scope ++ Some of ∷ [] → value_kind value ≡ of → IsTrue (suits next (slice_set so_far.locals slot value))
  next_set slot value of at e k =
      let room : length scope < length so_far.locals = omega (arith, count, small, ap (λ (s : Scope). length s) e, length-append scope (Some of ∷ [])) in
      subst (λ (s : Scope). IsTrue (suits s (slice_set so_far.locals slot value))) (sym e)
      (subst (λ (n : ℕ). IsTrue (suits (scope ++ Some of ∷ []) (slice_set so_far.locals n value))) (sym at) (set_next scope so_far.locals value of room suit k))

  -- a state behind the statement, with locals that suit the scope behind it
  state_on : (locals : List Value) → Reaches (its_setting model kind is) is.slots (its_scopes model kind is) (its_lefts model kind is) next (here.at + 1) →
      length locals ≡ is.slots → IsTrue (suits next locals) → IsTrue (is_state_of model (record { kind = kind; at = here.at + 1; locals = locals }))
  state_on locals reach = its_state model kind is next (here.at + 1) locals reach

  abbrev StateBehind : TaskState
  StateBehind = record { kind = kind; at = here.at + 1; locals = so_far.locals }

  -- a task that delays goes on from a state of the model
  delay_goes : (by : ℤ) (items : List Item) → IsTrue (is_state_of model StateBehind) → NextIsOfModel model items (delay_of by StateBehind)
  delay_goes (pos micros) items h = h
  delay_goes (negsuc below) items h = tt

  delay_waits : (by : ℤ) → WaitsWell model (delay_of by StateBehind)
  delay_waits (pos micros) = tt
  delay_waits (negsuc below) = tt

  -- a caller goes on with the result of its callee
  call_goes : (child : ℕ) (values : List Value) (into : Option ℕ) → behind_call into (activity_result (slice_get model.activities child)) scope ≡ Some next →
      Reaches (its_setting model kind is) is.slots (its_scopes model kind is) (its_lefts model kind is) next (here.at + 1) → (result : Option Value) →
      option_map value_kind result ≡ option_and_then (result_kind model) (last_child (so_far.items ++ item.Child child values ∷ [])) →
      IsTrue (is_state_of model (with_result into result StateBehind))
  call_goes child values None e reach result has =
      let same : scope ≡ next = cc in state_on so_far.locals reach count (next_suit (sym same))
  call_goes child values (Some slot) e reach None has =
      let taken = takes slot (activity_result (slice_get model.activities child)) scope next e in
      let nothing : ◌≡◌ {A = Option Kind} None (Some taken.of) =
      has ∙ ap (λ (found : Option ℕ). option_and_then (result_kind model) found) (child_made so_far.items child values) ∙ taken.kind_is in
      absurd (cc)
  call_goes child values (Some slot) e reach (Some value) has =
      let taken = takes slot (activity_result (slice_get model.activities child)) scope next e in
      let its_kind : Some (value_kind value) ≡ Some taken.of =
      has ∙ ap (λ (found : Option ℕ). option_and_then (result_kind model) found) (child_made so_far.items child values) ∙ taken.kind_is in
      let one : value_kind value ≡ taken.of = cc in
      state_on (slice_set so_far.locals slot value) reach (count_set slot value) (next_set slot value taken.of taken.slot_is taken.next_is one)

  -- the cells with one item more
  cells_more : (one : Item) → AreCellsOf model (after_item (after_items so_far.view so_far.items) one) → AreCellsOf model (after_items so_far.view (so_far.items ++ one ∷ []))
  cells_more one are = subst (λ (c : List CellState). AreCellsOf model c) (sym (after_more so_far.view so_far.items one)) are

  -- a fault leaves all as it was
  abbrev Faults : Type 0
  Faults = (fault : Fault) (read_flags : List Bool) → Goes (ended (Faulted fault) (with_flags so_far read_flags))

  faults : Faults
  faults fault read_flags = (tt, cells, (λ all. all), tt)

  pub acted_goes : (x : Stmt-F Stmt) → FitsHere x → OnwardHere x → Goes (act kind here.at x so_far)
  acted_goes (Stmt-F.Let slot expr) fit on =
      noted_act Goes so_far (valued so_far expr) fit.0 _ (value_has expr fit.0 fit.1) faults
      (λ value read_flags e. (
        its_lefts_are model kind is next rest (slice_set so_far.locals slot value) on.0 (count_set slot value) (next_set slot value fit.0 fit.2 fit.3 e),
        cells,
        λ all. all,
      ))
  acted_goes (Stmt-F.Assign slot expr) fit on =
      noted_act Goes so_far (valued so_far expr) fit.0 _ (value_has expr fit.0 fit.2) faults
      (λ value read_flags e. (
        its_lefts_are model kind is next rest (slice_set so_far.locals slot value) on.0 (count_set slot value)
            (subst (λ (s : Scope). IsTrue (suits s (slice_set so_far.locals slot value))) (sym fit.3) (set_known scope so_far.locals slot value fit.0 fit.1 suit e)),
        cells,
        λ all. all,
      ))
  acted_goes (Stmt-F.Emit cell what) fit on =
      let leaves = emission_leaves model so_far.locals (after_items so_far.view so_far.items) cell what cells fit.0 in
      noted_act Goes so_far (valued so_far (emission_expr what)) leaves.0 _ (value_has (emission_expr what) leaves.0 leaves.1) faults
      (λ value read_flags e. (
        its_lefts_are model kind is next rest so_far.locals on.0 count (next_suit fit.1),
        cells_more (item.Emit cell (effect_of what value)) (cells_emitted model (after_items so_far.view so_far.items) cell (effect_of what value) cells (leaves.2 value e)),
        children_same model so_far.items cell (effect_of what value),
      ))
  acted_goes (Stmt-F.Delay expr) fit on =
      noted_act Goes so_far (valued so_far expr) Int _ (value_has expr Int fit.0) faults
      (λ value read_flags e. (delay_goes (number_in value) so_far.items (state_on so_far.locals on.1 count (next_suit fit.1)), cells, (λ all. all), delay_waits (number_in value)))
  acted_goes (Stmt-F.WaitUntil condition) fit on =
      (state_on so_far.locals on.1 count (next_suit fit.1), cells, (λ all. all), λ numbers. filled_waited model.enums so_far.locals (read_kind model.cells) numbers condition fit.0)
  acted_goes (Stmt-F.Spawn child exprs) fit on =
      all_acts Goes (ChildBegins model valid child) so_far (valued_all exprs so_far) _ (all_notes exprs so_far) (child_typed_begins model valid child exprs so_far cells fit.0) faults
      (λ values read_flags begins. (
        its_lefts_are model kind is next rest so_far.locals on.0 count (next_suit fit.1),
        cells_more (item.Child child values) cells,
        λ all. children_more model so_far.items child values all begins,
      ))
  acted_goes (Stmt-F.Call child exprs into) fit on =
      all_acts Goes (ChildBegins model valid child) so_far (valued_all exprs so_far) _ (all_notes exprs so_far) (child_typed_begins model valid child exprs so_far cells fit.0) faults
      (λ values read_flags begins. (
        (λ result has. call_goes child values into fit.1 on.1 result has),
        cells_more (item.Child child values) cells,
        (λ all. children_more model so_far.items child values all begins),
        tt,
      ))
  acted_goes (Stmt-F.If test block other) fit on = (tt, cells, (λ all. all), tt)
  acted_goes (Stmt-F.While test body) fit on = (tt, cells, (λ all. all), tt)
  acted_goes (Stmt-F.Return None) fit on = (tt, cells, (λ all. all), tt)
  acted_goes (Stmt-F.Return (Some expr)) fit on =
      noted_act Goes so_far (valued so_far expr) fit.0 _ (value_has expr fit.0 fit.2) faults (λ value read_flags e. (tt, cells, (λ all. all), tt))
