-- The children that a statement of a valid model makes begin in states of the model.
use Rattle.std.proofs.Common.{◌≡◌, ℕ, suc, ◌-◌, Bool, IsTrue, List, [], ◌∷◌, ◌++◌, Option, Some, None, Result, Ok, Err, map, length, replicate, slice_get, refl, sym, ap, subst, arith, length-append}
use Rattle.std.proofs.lemmas.List.{length-replicate}
use Rattle.aerie_base.specs.declared.values.Kind.{Kind}
use Rattle.aerie_base.specs.declared.values.Value.{Value}
use Rattle.aerie_base.specs.declared.faults.Fault.{Fault}
use Rattle.aerie_base.specs.declared.expressions.Expr.{Expr}
use Rattle.aerie_base.specs.declared.models.Parameter.{Parameter}
use Rattle.aerie_base.specs.declared.models.Activity.{Activity}
use Rattle.aerie_base.specs.declared.models.model.Parts.{Parts}
use Rattle.aerie_base.specs.expressions.Arithmetic.{value_kind}
use Rattle.aerie_base.specs.expressions.Evaluation.{Evaluated}
use Rattle.aerie_base.specs.expressions.Soundness.{Gives, sound}
use Rattle.aerie_base.specs.expressions.Typing.{same_kind}
use Rattle.aerie_base.specs.models.Cells.{read_kind}
use Rattle.aerie_base.specs.models.ValidModel.{valid_model}
use Rattle.effect_cells.specs.declared.effects.Effect.{Effect}
use Rattle.run_data.specs.declared.tasks.BodyId.TheVariants as body
use Rattle.run_data.specs.declared.frames.Item.{Item}
use Rattle.run_data.specs.declared.frames.Item.TheVariants as item
use Rattle.run_data.specs.StepStates.{StepState, after_items, value_read, valued, with_flags}
use Rattle.run_data.specs.Jobs.{is_state_of, AreCellsOf}
use Rattle.run_data.specs.Scopes.{suits}
use Rattle.run_data.specs.Steps.{with_first, first_of, valued_all}
use Rattle.run_data.specs.TaskStates.{activity_begun, activity_slots, body_of, unset}
use Rattle.run_data.specs.Typed.{kind_here, has_kind, are_typed_arguments, is_typed_child}
use Rattle.run_data.specs.laws.ModelSteps.{AreChildrenOf}
use Rattle.run_data.proofs.Scoping.{both_hold, and_holds}
use Rattle.run_data.proofs.KnownKinds.{kind_is}
use Rattle.run_data.proofs.CellKinds.{value_read_readings}
use Rattle.run_data.proofs.TypedStatements.{same_kinds}
use Rattle.run_data.proofs.ModelBodies.{setting_of, activity_body_is}
use Rattle.run_data.proofs.BodyPlaces.{first_place, its_state}

-- as many values as parameters, each of its parameter's type
abbrev pub HaveKinds : List Value → List Parameter → Type 0
HaveKinds [] [] = Unit {0}
HaveKinds [] (parameter ∷ parameters) = ⊥
HaveKinds (value ∷ values) [] = ⊥
HaveKinds (value ∷ values) (parameter ∷ parameters) = (value_kind value ≡ parameter.kind) × HaveKinds values parameters

-- such values, or a fault
abbrev pub GiveAll : List Parameter → Result (List Value) Fault → Type 0
GiveAll parameters (Ok values) = HaveKinds values parameters
GiveAll parameters (Err fault) = Unit {0}

first_given : (value : Value) (parameter : Parameter) (parameters : List Parameter) (others : Result (List Value) Fault) → value_kind value ≡ parameter.kind → GiveAll parameters others → GiveAll (parameter ∷ parameters) (with_first value others)
first_given value parameter parameters (Ok values) e h = (e, h)
first_given value parameter parameters (Err fault) e h = tt

first_act : (so_far : StepState) (result : Evaluated) (parameter : Parameter) (parameters : List Parameter) (go : StepState → Result (List Value) Fault × StepState) →
    Gives parameter.kind result.0 → ((read_flags : List Bool) → GiveAll parameters (go (with_flags so_far read_flags)).0) → GiveAll (parameter ∷ parameters) (first_of so_far result go).0
first_act so_far (Ok value, read_flags) parameter parameters go e h = first_given value parameter parameters (go (with_flags so_far read_flags)).0 e (h read_flags)
first_act so_far (Err fault, read_flags) parameter parameters go e h = tt

-- the values of arguments have the parameters' types
pub all_given : (model : Parts) (exprs : List Expr) (parameters : List Parameter) (so_far : StepState) → AreCellsOf model (after_items so_far.view so_far.items) →
    IsTrue (are_typed_arguments model so_far.locals exprs parameters) → GiveAll parameters (valued_all exprs so_far).0
all_given model [] [] so_far cells h = tt
all_given model [] (parameter ∷ parameters) so_far cells h = absurd (cc)
all_given model (expr ∷ exprs) [] so_far cells h = absurd (cc)
all_given model (expr ∷ exprs) (parameter ∷ parameters) so_far cells h =
    let parts = both_hold (has_kind so_far.locals (read_kind model.cells) expr parameter.kind) (are_typed_arguments model so_far.locals exprs parameters) h in
    first_act so_far (valued so_far expr) parameter parameters (valued_all exprs)
    (sound expr so_far.locals (read_kind model.cells) (value_read so_far.view so_far.items) so_far.read_flags parameter.kind (value_read_readings model so_far.view so_far.items cells)
    (kind_is (kind_here so_far.locals (read_kind model.cells) expr) parameter.kind parts.0))
    (λ read_flags. all_given model exprs parameters (with_flags so_far read_flags) cells parts.1)

-- ---- the state in which a child begins

arguments_suit : (values : List Value) (parameters : List Parameter) (others : List Value) → HaveKinds values parameters →
    IsTrue (suits (map Some (map (λ parameter. parameter.kind) parameters)) (values ++ others))
arguments_suit [] [] others h = refl
arguments_suit [] (parameter ∷ parameters) others h = absurd h
arguments_suit (value ∷ values) [] others h = absurd h
arguments_suit (value ∷ values) (parameter ∷ parameters) others h =
    and_holds (same_kind (value_kind value) parameter.kind) (suits (map Some (map (λ p. p.kind) parameters)) (values ++ others))
    (same_kinds (value_kind value) parameter.kind h.0) (arguments_suit values parameters others h.1)

as_many : (values : List Value) (parameters : List Parameter) → HaveKinds values parameters → length values ≡ length (map (λ (k : Kind). Some k) (map (λ parameter. parameter.kind) parameters))
as_many [] [] h = refl
as_many [] (parameter ∷ parameters) h = absurd h
as_many (value ∷ values) [] h = absurd h
as_many (value ∷ values) (parameter ∷ parameters) h = ap suc (as_many values parameters h.1)

module _ (model : Parts) (valid : IsTrue (valid_model model)) where
  pub child_begins : (kind : ℕ) (activity : Activity) (values : List Value) → slice_get model.activities kind ≡ Some activity → HaveKinds values activity.parameters →
      IsTrue (is_state_of model (activity_begun model kind values))
  child_begins kind activity values e h =
      let is = activity_body_is model valid kind activity e in
      let place = first_place (setting_of model is.parameters is.result) is.kinds is.slots (body_of model (body.Activity kind)) is.good in
      let others : List Value = replicate (activity.slots - length values) unset in
      let count : length (values ++ others) ≡ activity.slots =
      omega (arith, length-append values others, length-replicate (activity.slots - length values) unset, place.1, as_many values activity.parameters h) in
      let slots_are : activity_slots (slice_get model.activities kind) ≡ activity.slots = ap activity_slots e in
      subst (λ (n : ℕ). IsTrue (is_state_of model (record { kind = body.Activity kind; at = 0; locals = values ++ replicate (n - length values) unset }))) (sym slots_are)
      (its_state model (body.Activity kind) is (map Some is.kinds) 0 (values ++ others) place.0 count (arguments_suit values activity.parameters others h))

  -- a child with typed arguments begins in a state of the model
  abbrev pub ChildBegins : ℕ → Result (List Value) Fault → Type 0
  ChildBegins kind (Ok values) = IsTrue (is_state_of model (activity_begun model kind values))
  ChildBegins kind (Err fault) = Unit {0}

  begins_by : (kind : ℕ) (activity : Activity) → slice_get model.activities kind ≡ Some activity → (result : Result (List Value) Fault) → GiveAll activity.parameters result → ChildBegins kind result
  begins_by kind activity e (Ok values) h = child_begins kind activity values e h
  begins_by kind activity e (Err fault) h = tt

  typed_begins : (kind : ℕ) (exprs : List Expr) (so_far : StepState) (found : Option Activity) → slice_get model.activities kind ≡ found → AreCellsOf model (after_items so_far.view so_far.items) →
      IsTrue (is_typed_child model so_far.locals found exprs) → ChildBegins kind (valued_all exprs so_far).0
  typed_begins kind exprs so_far None e cells h = absurd (cc)
  typed_begins kind exprs so_far (Some activity) e cells h =
      begins_by kind activity e (valued_all exprs so_far).0 (all_given model exprs activity.parameters so_far cells h)

  pub child_typed_begins : (kind : ℕ) (exprs : List Expr) (so_far : StepState) → AreCellsOf model (after_items so_far.view so_far.items) →
      IsTrue (is_typed_child model so_far.locals (slice_get model.activities kind) exprs) → ChildBegins kind (valued_all exprs so_far).0
  child_typed_begins kind exprs so_far cells h = typed_begins kind exprs so_far (slice_get model.activities kind) refl cells h

-- one child more
pub children_more : (model : Parts) (items : List Item) (kind : ℕ) (values : List Value) → AreChildrenOf model items → IsTrue (is_state_of model (activity_begun model kind values)) →
    AreChildrenOf model (items ++ item.Child kind values ∷ [])
children_more model [] kind values all h = (h, tt)
children_more model (item.Emit cell effect ∷ items) kind values all h = children_more model items kind values all h
children_more model (item.Child other arguments ∷ items) kind values all h = (all.0, children_more model items kind values all.1 h)

-- an effect is no child
pub children_same : (model : Parts) (items : List Item) (cell : ℕ) (effect : Effect) → AreChildrenOf model items → AreChildrenOf model (items ++ item.Emit cell effect ∷ [])
children_same model [] cell effect all = tt
children_same model (item.Emit other change ∷ items) cell effect all = children_same model items cell effect all
children_same model (item.Child other arguments ∷ items) cell effect all = (all.0, children_same model items cell effect all.1)
