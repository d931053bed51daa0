-- How a step of a task that may go on ends: the task may go on again, or has such a result as it declares.
use Rattle.std.proofs.Common.{◌≡◌, ℕ, zero, suc, ◌+◌, ◌-◌, ◌≤◌, IsTrue, List, [], ◌∷◌, ◌++◌, length, replicate, Option, Some, None, slice_get, slice_set, refl, sym, ap, ◌∙◌, arith}
use Rattle.std.specs.Prelude.{option_and_then}
use Rattle.std.specs.List.{All}
use Rattle.aerie_base.specs.declared.values.Value.{Value}
use Rattle.aerie_base.specs.declared.models.model.Parts.{Parts}
use Rattle.aerie_base.specs.models.Cells.{read_kind}
use Rattle.aerie_base.specs.models.ValidModel.{valid_model}
use Rattle.effect_cells.specs.declared.effects.CellState.{CellState}
use Rattle.effect_cells.specs.Solvable.{may_be_solved}
use Rattle.run_data.specs.declared.tasks.BodyId.{BodyId}
use Rattle.run_data.specs.declared.tasks.BodyId.TheVariants as bodies
use Rattle.run_data.specs.declared.tasks.TaskState.{TaskState}
use Rattle.run_data.specs.declared.jobs.Job.{Job}
use Rattle.run_data.specs.declared.frames.Item.{Item}
use Rattle.run_data.specs.declared.frames.Item.TheVariants as item
use Rattle.run_data.specs.declared.frames.Status.{Status}
use Rattle.run_data.specs.declared.frames.Status.TheVariants.{Delayed, Waiting, Calling, Done, Faulted}
use Rattle.run_data.specs.Endings.{with_result}
use Rattle.run_data.specs.Frames.{job_step}
use Rattle.run_data.specs.Jobs.{is_state_of, AreCellsOf}
use Rattle.run_data.specs.Numbers.{HasNumber}
use Rattle.run_data.specs.StepStates.{StepState}
use Rattle.run_data.specs.Tasks.{children_in}
use Rattle.run_data.specs.TaskStates.{activity_begun, activity_slots, unset}
use Rattle.run_data.specs.laws.ModelSteps.{AreChildrenOf, StaysOfModel}
use Rattle.run_data.specs.Magnitudes.{state_magnitude, AreWithin}
use Rattle.run_data.specs.laws.Orders.{EachOf}
use Rattle.run_data.specs.laws.ReachedStates.{MayGoOn, IsResultOf}
use Rattle.run_data.specs.laws.SmallSteps.{HasNumberIfAny, IsSmallItem, EndsInRange}
use Rattle.run_data.specs.laws.Results.{IsUnderWay, EndsAsDeclared}
use Rattle.run_data.specs.laws.Typing.{last_child, or_this, result_kind}
use Rattle.run_data.proofs.ModelSteps.{step_keeps}
use Rattle.run_data.proofs.Results.{step_declared, begins_under_way}
use Rattle.run_data.proofs.SmallActs.{steps_are_small}
use Rattle.run_data.proofs.StepLeavings.{EffectsFit, StaysIn, step_leaves}

-- ---- the child that is called

abbrev pub nth_child : List Item → ℕ → Option ℕ
nth_child [] n = None
nth_child (item.Emit cell effect ∷ rest) n = nth_child rest n
nth_child (item.Child kind arguments ∷ rest) zero = Some kind
nth_child (item.Child kind arguments ∷ rest) (suc n) = nth_child rest n

pub record LastIs (items : List Item) (kind : ℕ) : Type 0 where
  pub number : ℕ
  pub count : children_in items ≡ number + 1
  pub is : nth_child items number ≡ Some kind

children_few : (items : List Item) → children_in items ≤ length items
children_few [] = omega arith
children_few (item.Emit cell effect ∷ rest) = omega (arith, children_few rest)
children_few (item.Child kind arguments ∷ rest) = omega (arith, children_few rest)

or_later : (later : Option ℕ) (kind : ℕ) → or_this later kind ≡ None → ⊥
or_later None kind e = absurd (cc)
or_later (Some other) kind e = absurd (cc)

no_child : (items : List Item) → last_child items ≡ None → children_in items ≡ 0
no_child [] e = refl
no_child (item.Emit cell effect ∷ rest) e = no_child rest e
no_child (item.Child kind arguments ∷ rest) e = absurd (or_later (last_child rest) kind e)

pub last_is : (items : List Item) (kind : ℕ) → last_child items ≡ Some kind → LastIs items kind
last_is [] kind e = absurd (cc)
last_is (item.Emit cell effect ∷ rest) kind e = let found = last_is rest kind e in record { number = found.number; count = found.count; is = found.is }
last_is (item.Child other arguments ∷ rest) kind e = by (last_child rest) refl e (last_is rest)
  where
    by : (later : Option ℕ) → last_child rest ≡ later → or_this later other ≡ Some kind → ((k : ℕ) → last_child rest ≡ Some k → LastIs rest k) → LastIs (item.Child other arguments ∷ rest) kind
    by None is e further = record { number = 0; count = ap (λ n. n + 1) (no_child rest is); is = e }
    by (Some later) is e further =
        let found = further kind (is ∙ e) in record { number = suc found.number; count = omega (arith, found.count); is = found.is }

-- ---- numbers

numbers_append : (values others : List Value) → EachOf HasNumber values → EachOf HasNumber others → EachOf HasNumber (values ++ others)
numbers_append [] others h k = k
numbers_append (value ∷ values) others h k = (h.0, numbers_append values others h.1 k)

pub unset_numbers : (count : ℕ) → EachOf HasNumber (replicate count unset)
unset_numbers zero = tt
unset_numbers (suc count) = (omega arith, unset_numbers count)

numbers_set : (values : List Value) (slot : ℕ) (value : Value) → EachOf HasNumber values → HasNumber value → EachOf HasNumber (slice_set values slot value)
numbers_set [] slot value h k = tt
numbers_set (first ∷ values) zero value h k = (k, h.1)
numbers_set (first ∷ values) (suc slot) value h k = (h.0, numbers_set values slot value h.1 k)

numbers_with : (into : Option ℕ) (result : Option Value) (state : TaskState) → EachOf HasNumber state.locals → HasNumberIfAny result → EachOf HasNumber (with_result into result state).locals
numbers_with None result state h k = h
numbers_with (Some slot) None state h k = h
numbers_with (Some slot) (Some value) state h k = numbers_set state.locals slot value h k

all_numbers : (values : List Value) → EachOf HasNumber values → All HasNumber values
all_numbers [] each k d less = absurd (omega (arith, less))
all_numbers (value ∷ values) each zero d less = each.0
all_numbers (value ∷ values) each (suc k) d less = all_numbers values each.1 k d (omega (arith, less))

within_more : (state : CellState) (rest : List CellState) (most : ℕ) → AreWithin most rest → AreWithin (state_magnitude state + most) (state ∷ rest)
within_more state rest most within zero found e =
    let same : state ≡ found = cc in let size : state_magnitude state ≡ state_magnitude found = ap state_magnitude same in omega (arith, size)
within_more state rest most within (suc cell) found e = omega (arith, within cell found e)

-- some bound holds of any cells
some_within : (cells : List CellState) → (most : ℕ) × AreWithin most cells
some_within [] = (0, λ cell found e. absurd (cc))
some_within (state ∷ rest) = let more = some_within rest in (state_magnitude state + more.0, within_more state rest more.0 more.1)

-- ---- the end of a step

module _ (model : Parts) where
  pub record GoesOnIn (kind : BodyId) (next : TaskState) : Type 0 where
    pub good : MayGoOn model next
    pub body : next.kind ≡ kind

  pub record CallsChild (kind : BodyId) (items : List Item) (into : Option ℕ) (next : TaskState) : Type 0 where
    pub body : next.kind ≡ kind
    pub child : ℕ
    pub last : last_child items ≡ Some child
    pub goes_on : (result : Option Value) → IsResultOf model (bodies.Activity child) result → MayGoOn model (with_result into result next)

  pub record WaitsIn (kind : BodyId) (condition : _) (next : TaskState) : Type 0 where
    pub on : GoesOnIn kind next
    pub waits : IsTrue (may_be_solved (read_kind model.cells) condition)

  abbrev pub EndsWell : BodyId → List Item → Status → Type 0
  EndsWell kind items (Delayed by next) = GoesOnIn kind next
  EndsWell kind items (Waiting condition next) = WaitsIn kind condition next
  EndsWell kind items (Calling into next) = CallsChild kind items into next
  EndsWell kind items (Done result) = IsResultOf model kind result
  EndsWell kind items (Faulted fault) = Unit {0}

  under_way_with : (into : Option ℕ) (result : Option Value) (state : TaskState) → IsUnderWay model state → IsUnderWay model (with_result into result state)
  under_way_with None result state under = under
  under_way_with (Some slot) None state under = under
  under_way_with (Some slot) (Some value) state under = under

  ends : (kind : BodyId) (status : Status) (so_far : StepState) → StaysOfModel model status so_far → EndsAsDeclared model kind status → StaysIn kind so_far.items status → EndsInRange status → EndsWell kind so_far.items status
  ends kind (Delayed by next) so_far stays declared body small = record { good = record { of_model = stays.next; under_way = declared; numbers = small }; body = body }
  ends kind (Waiting condition next) so_far stays declared body small =
      record { on = record { good = record { of_model = stays.next; under_way = declared; numbers = small }; body = body }; waits = stays.waits (all_numbers next.locals small) }
  ends kind (Calling into next) so_far stays declared body small = record {
    body = body.0;
    child = body.1.0;
    last = body.1.1;
    goes_on = λ result has. record {
      of_model = stays.next result (has.0 ∙ sym (ap (λ (found : Option ℕ). option_and_then (result_kind model) found) body.1.1));
      under_way = under_way_with into result next declared;
      numbers = numbers_with into result next small has.1;
    };
  }
  ends kind (Done result) so_far stays declared body small = (declared, small)
  ends kind (Faulted fault) so_far stays declared body small = tt

  -- each child may go on from the state in which it begins
  abbrev pub ChildrenGoOn : List Item → Type 0
  ChildrenGoOn [] = Unit {0}
  ChildrenGoOn (item.Emit cell effect ∷ rest) = ChildrenGoOn rest
  ChildrenGoOn (item.Child kind arguments ∷ rest) = MayGoOn model (activity_begun model kind arguments) × ChildrenGoOn rest

  begun_numbers : (kind : ℕ) (arguments : List Value) → EachOf HasNumber arguments → EachOf HasNumber (activity_begun model kind arguments).locals
  begun_numbers kind arguments each = numbers_append arguments (replicate (activity_slots (slice_get model.activities kind) - length arguments) unset) each
      (unset_numbers (activity_slots (slice_get model.activities kind) - length arguments))

  pub begun_goes : (kind : ℕ) (arguments : List Value) → IsTrue (valid_model model) → IsTrue (is_state_of model (activity_begun model kind arguments)) → EachOf HasNumber arguments →
      MayGoOn model (activity_begun model kind arguments)
  begun_goes kind arguments valid of_model each = record { of_model = of_model; under_way = begins_under_way model kind arguments valid; numbers = begun_numbers kind arguments each }

  children_go : (view : List CellState) (items : List Item) → IsTrue (valid_model model) → AreChildrenOf model items → EachOf (IsSmallItem view) items → ChildrenGoOn items
  children_go view [] valid are small = tt
  children_go view (item.Emit cell effect ∷ rest) valid are small = children_go view rest valid are small.1
  children_go view (item.Child kind arguments ∷ rest) valid are small = (begun_goes kind arguments valid are.0 small.0, children_go view rest valid are.1 small.1)

  pub record GoodJob (job : Job) : Type 0 where
    pub state : MayGoOn model job.state
    pub view : AreCellsOf model job.view

  pub record GoodStep (kind : BodyId) (status : Status) (so_far : StepState) : Type 0 where
    pub well : EndsWell kind so_far.items status
    pub effects : EffectsFit model so_far.items
    pub children : ChildrenGoOn so_far.items
    pub few : children_in so_far.items ≤ so_far.cost

  pub good_step : (budget : ℕ) (job : Job) (status : Status) (so_far : StepState) → IsTrue (valid_model model) → GoodJob job → job_step model budget job ≡ Some (status, so_far) →
      GoodStep job.state.kind status so_far
  good_step budget job status so_far valid good e =
      let stays = step_keeps model budget job status so_far valid good.state.of_model good.view e in
      let leaves = step_leaves model valid budget job status so_far good.state.of_model good.view e in
      let most = some_within job.view in
      let small = steps_are_small model budget most.0 job status so_far valid
      (record { state = good.state.of_model; view = good.view; locals = good.state.numbers; within = most.1 }) e in
      record {
        well = ends job.state.kind status so_far stays.0 (step_declared model budget job status so_far valid good.state.of_model good.view good.state.under_way e) leaves.1 small.end;
        effects = leaves.0;
        few = omega (arith, children_few so_far.items, small.few);
        children = children_go job.view so_far.items valid stays.0.children small.items;
      }
