-- A step of a valid model gives numbers in range, effects of their cells, and no more of these than statements are run.
use Rattle.std.proofs.Common.{◌≡◌, ℕ, zero, suc, ◌+◌, ◌≤◌, ℤ, pos, negsuc, Bool, true, IsTrue, List, [], ◌∷◌, ◌++◌, length, Option, Some, None, Result, Ok, Err, slice_get, slice_set, refl, ap, ◌∙◌, subst, arith, length-append}
use Rattle.std.specs.Int.RustNames.{unsigned_abs}
use Rattle.aerie_base.specs.Ranges.{number_limit}
use Rattle.aerie_base.specs.declared.values.Kind.{Kind}
use Rattle.aerie_base.specs.declared.values.Kind.TheVariants.{Int as IntKind}
use Rattle.aerie_base.specs.declared.values.Value.{Value}
use Rattle.aerie_base.specs.declared.values.Value.TheVariants.{Int, Truth, Variant}
use Rattle.aerie_base.specs.declared.faults.Fault.{Fault}
use Rattle.aerie_base.specs.declared.operands.CellRead.TheVariants as read
use Rattle.aerie_base.specs.declared.expressions.Expr.{Expr}
use Rattle.aerie_base.specs.declared.statements.Emission.{Emission}
use Rattle.aerie_base.specs.declared.statements.Emission.TheVariants as emission
use Rattle.aerie_base.specs.declared.statements.Stmt.{Stmt, out-Stmt}
use Rattle.aerie_base.specs.declared.statements.Stmt.TheOpen.{Stmt-F}
use Rattle.aerie_base.specs.declared.models.model.Parts.{Parts}
use Rattle.aerie_base.specs.expressions.Arithmetic.{number_in, truth_in}
use Rattle.aerie_base.specs.expressions.Evaluation.{Evaluated}
use Rattle.aerie_base.specs.models.Cells.{read_kind}
use Rattle.aerie_base.specs.models.Expressions.{is_kind_of}
use Rattle.aerie_base.specs.models.ValidModel.{valid_model}
use Rattle.aerie_base.specs.statements.Places.{Placed}
use Rattle.effect_cells.specs.declared.effects.CellState.{CellState}
use Rattle.effect_cells.specs.declared.effects.CellState.TheVariants as state
use Rattle.effect_cells.specs.Cells.{accepts, accepted_by}
use Rattle.effect_cells.specs.Reads.{state_kind}
use Rattle.run_data.specs.declared.tasks.BodyId.{BodyId}
use Rattle.run_data.specs.declared.frames.Item.{Item}
use Rattle.run_data.specs.declared.frames.Item.TheVariants as item
use Rattle.run_data.specs.declared.frames.Status.TheVariants.{Faulted}
use Rattle.run_data.specs.Jobs.{AreCellsOf}
use Rattle.run_data.specs.Magnitudes.{effect_magnitude}
use Rattle.run_data.specs.Numbers.{HasNumber}
use Rattle.run_data.specs.StepStates.{StepState, after_items, value_read, starting, valued, with_flags, paid}
use Rattle.run_data.specs.Steps.{Acted, onward, ended, act, Stepped, after, after_test, perform, steps, with_evaluated, with_first, first_of, valued_all, emission_expr, effect_of, delay_of, state_behind}
use Rattle.run_data.specs.Typed.{AreLeft, kind_here, has_kind, is_typed_stmt, is_typed_emission}
use Rattle.run_data.specs.laws.Orders.{EachOf}
use Rattle.run_data.specs.laws.SmallSteps.{IsSmallItem, EndsInRange, IsSmallStep, StepsAreSmall}
use Rattle.run_data.proofs.BodyPlaces.{its_setting}
use Rattle.run_data.proofs.Keeping.{ActedKeeps, act_keeps, all_notes}
use Rattle.run_data.proofs.KnownKinds.{kind_is}
use Rattle.run_data.proofs.LiteralForms.{IsGood, Literals, stmt_good}
use Rattle.run_data.proofs.Scoping.{both_hold}
use Rattle.run_data.proofs.SmallSteps.{InRange, value_in}
use Rattle.run_data.proofs.TypedStatements.{there_is}
use Rattle.run_data.proofs.TypedActs.{all_acts}
use Rattle.run_data.proofs.Typing.{now, next_is_typed, states_begin, runs_on}
use Rattle.run_data.proofs.Performing.{performed_by}

-- ---- values

number_small : (value : Value) → HasNumber value → unsigned_abs (number_in value) ≤ number_limit
number_small (Int number) h = h
number_small (Truth truth) h = omega arith
number_small (Variant of number) h = omega arith

effect_small : (what : Emission) (value : Value) → HasNumber value → effect_magnitude (effect_of what value) ≤ number_limit
effect_small (emission.Add expr) value h = number_small value h
effect_small (emission.Set expr) value h = omega arith
effect_small (emission.Volume expr) value h = let small = number_small value h in omega (arith, small)
effect_small (emission.Rate expr) value h = let small = number_small value h in omega (arith, small)

set_in : (locals : List Value) (slot : ℕ) (value : Value) → EachOf HasNumber locals → HasNumber value → EachOf HasNumber (slice_set locals slot value)
set_in [] slot value each h = tt
set_in (first ∷ locals) zero value each h = (h, each.1)
set_in (first ∷ locals) (suc slot) value each h = (each.0, set_in locals slot value each.1 h)

-- such values, or a fault
abbrev AllIn : Result (List Value) Fault → Type 0
AllIn (Ok values) = EachOf HasNumber values
AllIn (Err fault) = Unit {0}

first_in : (value : Value) (others : Result (List Value) Fault) → HasNumber value → AllIn others → AllIn (with_first value others)
first_in value (Ok values) h k = (h, k)
first_in value (Err fault) h k = tt

acted_in : (so_far : StepState) (result : Evaluated) (go : StepState → Result (List Value) Fault × StepState) → InRange result.0 →
    ((flags : List Bool) → AllIn (go (with_flags so_far flags)).0) → AllIn (first_of so_far result go).0
acted_in so_far (Ok value, flags) go h k = first_in value (go (with_flags so_far flags)).0 h (k flags)
acted_in so_far (Err fault, flags) go h k = tt

-- ---- effects are of their cells

adds_to : (cell : ℕ) (found : Option CellState) (expr : Expr) (value : Value) (of : Kind) → state_kind (read.Counter cell) found ≡ Some of → accepted_by found (effect_of (emission.Add expr) value) ≡ true
adds_to cell None expr value of e = absurd (cc)
adds_to cell (Some (state.Counter n)) expr value of e = refl
adds_to cell (Some (state.Register v c)) expr value of e = absurd (cc)
adds_to cell (Some (state.Volume v r)) expr value of e = absurd (cc)

sets_to : (cell : ℕ) (found : Option CellState) (expr : Expr) (value : Value) (of : Kind) → state_kind (read.Register cell) found ≡ Some of → accepted_by found (effect_of (emission.Set expr) value) ≡ true
sets_to cell None expr value of e = absurd (cc)
sets_to cell (Some (state.Counter n)) expr value of e = absurd (cc)
sets_to cell (Some (state.Register v c)) expr value of e = refl
sets_to cell (Some (state.Volume v r)) expr value of e = absurd (cc)

fills : (cell : ℕ) (found : Option CellState) (expr : Expr) (value : Value) (of : Kind) → state_kind (read.Volume cell) found ≡ Some of → accepted_by found (effect_of (emission.Volume expr) value) ≡ true
fills cell None expr value of e = absurd (cc)
fills cell (Some (state.Counter n)) expr value of e = absurd (cc)
fills cell (Some (state.Register v c)) expr value of e = absurd (cc)
fills cell (Some (state.Volume v r)) expr value of e = refl

flows : (cell : ℕ) (found : Option CellState) (expr : Expr) (value : Value) (of : Kind) → state_kind (read.Rate cell) found ≡ Some of → accepted_by found (effect_of (emission.Rate expr) value) ≡ true
flows cell None expr value of e = absurd (cc)
flows cell (Some (state.Counter n)) expr value of e = absurd (cc)
flows cell (Some (state.Register v c)) expr value of e = absurd (cc)
flows cell (Some (state.Volume v r)) expr value of e = refl

pub emission_accepted : (model : Parts) (locals : List Value) (cells : List CellState) (cell : ℕ) (what : Emission) (value : Value) → AreCellsOf model cells → IsTrue (is_typed_emission model locals cell what) →
    accepts cells cell (effect_of what value) ≡ true
emission_accepted model locals cells cell (emission.Add by) value are h =
    let parts = both_hold (is_kind_of (read_kind model.cells (read.Counter cell)) IntKind) (has_kind locals (read_kind model.cells) by IntKind) h in
    adds_to cell (slice_get cells cell) by value IntKind (are.kinds (read.Counter cell) ∙ kind_is (read_kind model.cells (read.Counter cell)) IntKind parts.0)
emission_accepted model locals cells cell (emission.Set to) value are h =
    let found = there_is (read_kind model.cells (read.Register cell)) (kind_here locals (read_kind model.cells) to) h in
    sets_to cell (slice_get cells cell) to value found.0 (are.kinds (read.Register cell) ∙ found.1)
emission_accepted model locals cells cell (emission.Volume by) value are h =
    let parts = both_hold (is_kind_of (read_kind model.cells (read.Volume cell)) IntKind) (has_kind locals (read_kind model.cells) by IntKind) h in
    fills cell (slice_get cells cell) by value IntKind (are.kinds (read.Volume cell) ∙ kind_is (read_kind model.cells (read.Volume cell)) IntKind parts.0)
emission_accepted model locals cells cell (emission.Rate by) value are h =
    let parts = both_hold (is_kind_of (read_kind model.cells (read.Rate cell)) IntKind) (has_kind locals (read_kind model.cells) by IntKind) h in
    flows cell (slice_get cells cell) by value IntKind (are.kinds (read.Rate cell) ∙ kind_is (read_kind model.cells (read.Rate cell)) IntKind parts.0)

-- ---- one statement

pub each_more : (P : Item → Type 0) (items : List Item) (more : Item) → EachOf P items → P more → EachOf P (items ++ more ∷ [])
each_more P [] more each h = (h, tt)
each_more P (first ∷ items) more each h = (each.0, each_more P items more each.1 h)

module _ (model : Parts) (valid : IsTrue (valid_model model)) (view : List CellState) (of_view : AreCellsOf model view) where
  abbrev SmallItems : List Item → Type 0
  SmallItems = EachOf (IsSmallItem view)

  -- what is to hold after a statement: numbers are in range, and there is at most one item more
  abbrev ActedIsSmall : StepState → Acted → Type 0
  ActedIsSmall before (onward next) = EachOf HasNumber next.locals × SmallItems next.items × (length next.items ≤ length before.items + 1)
  ActedIsSmall before (ended status last) = EndsInRange status × SmallItems last.items × (length last.items ≤ length before.items + 1)

  module _ (kind : BodyId) (at : ℕ) (so_far : StepState) (numbers : EachOf HasNumber so_far.locals) (small : SmallItems so_far.items) where
    abbrev Small : Acted → Type 0
    Small = ActedIsSmall so_far

    faults : (fault : Fault) (flags : List Bool) → Small (ended (Faulted fault) (with_flags so_far flags))
    faults fault flags = (tt, small, omega arith)

    by_value : (result : Evaluated) (go : Value → StepState → Acted) → InRange result.0 → ((value : Value) (flags : List Bool) → HasNumber value → Small (go value (with_flags so_far flags))) →
        Small (with_evaluated so_far result go)
    by_value (Ok value, flags) go h goes = goes value flags h
    by_value (Err fault, flags) go h goes = faults fault flags

    valued_in : (expr : Expr) → IsGood model.enums expr → InRange (valued so_far expr).0
    valued_in expr good = value_in model.enums expr so_far.locals (value_read so_far.view so_far.items) so_far.read_flags good numbers

    all_in : (exprs : List Expr) (flags : List Bool) → EachOf (IsGood model.enums) exprs → AllIn (valued_all exprs (with_flags so_far flags)).0
    all_in [] flags good = tt
    all_in (expr ∷ rest) flags good =
        acted_in (with_flags so_far flags) (valued (with_flags so_far flags) expr) (valued_all rest)
        (value_in model.enums expr so_far.locals (value_read so_far.view so_far.items) flags good.0 numbers) (λ later. all_in rest later good.1)

    one_more : (more : Item) → IsSmallItem view more → SmallItems (so_far.items ++ more ∷ []) × (length (so_far.items ++ more ∷ []) ≤ length so_far.items + 1)
    one_more more h = (each_more (IsSmallItem view) so_far.items more small h, omega (arith, length-append so_far.items (more ∷ [])))

    delay_small : (by : ℤ) → EndsInRange (delay_of by (state_behind kind at so_far))
    delay_small (pos micros) = numbers
    delay_small (negsuc below) = tt

    act_small : (x : Stmt-F Stmt) → Literals model.enums x → IsTrue (is_typed_stmt model so_far.locals x) → Small (act kind at x so_far)
    act_small (Stmt-F.Let slot expr) good typed =
        by_value (valued so_far expr) _ (valued_in expr good) (λ value flags h. (set_in so_far.locals slot value numbers h, small, omega arith))
    act_small (Stmt-F.Assign slot expr) good typed =
        by_value (valued so_far expr) _ (valued_in expr good) (λ value flags h. (set_in so_far.locals slot value numbers h, small, omega arith))
    act_small (Stmt-F.Emit cell what) good typed =
        by_value (valued so_far (emission_expr what)) _ (valued_in (emission_expr what) good)
        (λ value flags h.
        (let more = one_more (item.Emit cell (effect_of what value)) (emission_accepted model so_far.locals view cell what value of_view typed, effect_small what value h) in
        (numbers, more.0, more.1)))
    act_small (Stmt-F.Delay expr) good typed = delay_act (valued so_far expr)
      where
        delay_act : (result : Evaluated) → Small (with_evaluated so_far result (λ value c. ended (delay_of (number_in value) (state_behind kind at c)) c))
        delay_act (Ok value, flags) = (delay_small (number_in value), small, omega arith)
        delay_act (Err fault, flags) = faults fault flags
    act_small (Stmt-F.WaitUntil condition) good typed = (numbers, small, omega arith)
    act_small (Stmt-F.Spawn child exprs) good typed =
        all_acts Small AllIn so_far (valued_all exprs so_far) _ (all_notes exprs so_far) (all_in exprs so_far.read_flags good) faults
        (λ values flags h. (let more = one_more (item.Child child values) h in (numbers, more.0, more.1)))
    act_small (Stmt-F.Call child exprs into) good typed =
        all_acts Small AllIn so_far (valued_all exprs so_far) _ (all_notes exprs so_far) (all_in exprs so_far.read_flags good) faults
        (λ values flags h. (let more = one_more (item.Child child values) h in (numbers, more.0, more.1)))
    act_small (Stmt-F.If test block other) good typed = (tt, small, omega arith)
    act_small (Stmt-F.While test body) good typed = (tt, small, omega arith)
    act_small (Stmt-F.Return None) good typed = (tt, small, omega arith)
    act_small (Stmt-F.Return (Some expr)) good typed =
        by_value (valued so_far expr) _ (valued_in expr good) (λ value flags h. (h, small, omega arith))

  -- ---- the step

  module _ (kind : BodyId) where
    abbrev Stays : Stepped → Type 0
    Stays None = Unit {0}
    Stays (Some (status, so_far)) = IsSmallStep view status so_far

    -- where a step is, before the statement here is paid for
    record IsThere (list : List Placed) (so_far : StepState) : Type 0 where
      left : AreLeft model kind list so_far.locals
      cells : AreCellsOf model (after_items so_far.view so_far.items)
      numbers : EachOf HasNumber so_far.locals
      small : SmallItems so_far.items
      few : length so_far.items ≤ so_far.cost

    module _ (here : Placed) (rest : List Placed) (so_far : StepState) (h : IsThere (here ∷ rest) so_far) (go : List Placed → StepState → Stepped)
        (goes : (list : List Placed) (next : StepState) → IsThere list next → Stays (go list next)) where
      now_paid : StepState
      now_paid = paid so_far

      good_here : Literals model.enums (out-Stmt here.what)
      good_here =
          let n = now model kind here rest so_far.locals valid h.left in
          stmt_good (its_setting model kind n.is) n.suits_it.scope here.what n.stands.next n.stands.checks

      after_acted : (acted : Acted) → act kind here.at (out-Stmt here.what) (paid so_far) ≡ acted → ActedIsSmall (paid so_far) acted → ActedKeeps (paid so_far) acted → Stays (after acted (go rest))
      after_acted (onward next) e s keeps =
          let on = runs_on model kind here rest (paid so_far) next valid h.left h.cells e in
          goes rest next (record { left = on.0; cells = on.1; numbers = s.0; small = s.1; few = omega (arith, s.2, keeps.cost, h.few) })
      after_acted (ended status last) e s keeps = record { items = s.1; few = omega (arith, s.2, keeps.cost, h.few); end = s.0 }

      simple_small : (x : Stmt-F Stmt) → out-Stmt here.what ≡ x → Stays (after (act kind here.at x (paid so_far)) (go rest))
      simple_small x e =
          after_acted (act kind here.at x (paid so_far)) (ap (λ (y : Stmt-F Stmt). act kind here.at y (paid so_far)) e)
          (act_small kind here.at (paid so_far) h.numbers h.small x (subst (λ (y : Stmt-F Stmt). Literals model.enums y) e good_here)
          (subst (λ (y : Stmt-F Stmt). IsTrue (is_typed_stmt model so_far.locals y)) e (next_is_typed model kind here rest so_far.locals valid h.left)))
          (act_keeps kind here.at x (paid so_far))

      there : (list : List Placed) (flags : List Bool) → AreLeft model kind list so_far.locals → IsThere list (with_flags (paid so_far) flags)
      there list flags left = record { left = left; cells = h.cells; numbers = h.numbers; small = h.small; few = omega (arith, h.few) }

      tested : (result : Evaluated) (then_ : Bool → StepState → Stepped) → ((holds : Bool) (flags : List Bool) → Stays (then_ holds (with_flags (paid so_far) flags))) → Stays (after_test (paid so_far) result then_)
      tested (Ok value, flags) then_ g = g (truth_in value) flags
      tested (Err fault, flags) then_ g = record { items = h.small; few = omega (arith, h.few); end = tt }

      performed : (x : Stmt-F Stmt) → out-Stmt here.what ≡ x → Stays (perform kind here rest x (paid so_far) go)
      performed =
          performed_by model kind here rest (paid so_far) go valid h.left Stays (λ test. tested (valued (paid so_far) test))
          (λ list flags left. goes list (with_flags (paid so_far) flags) (there list flags left)) simple_small

    steps_small : (budget : ℕ) (list : List Placed) (so_far : StepState) → IsThere list so_far → Stays (steps kind budget list so_far)
    steps_small budget [] so_far h = record { items = h.small; few = h.few; end = tt }
    steps_small zero (here ∷ rest) so_far h = tt
    steps_small (suc budget) (here ∷ rest) so_far h = performed here rest so_far h (steps kind budget) (steps_small budget) (out-Stmt here.what) refl

pub steps_are_small : StepsAreSmall
steps_are_small model budget most job status so_far valid is e =
    subst (Stays model valid job.view is.view job.state.kind) e
    (steps_small model valid job.view is.view job.state.kind budget _ (starting job.view job.state.locals)
    (record { left = states_begin model job.state valid is.state; cells = is.view; numbers = is.locals; small = tt; few = omega arith }))
