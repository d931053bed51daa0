-- A step depends on its state and on the cells that it read alone.
use Rattle.std.proofs.Common.{◌≡◌, get_or, inl, inr, ℕ, zero, suc, ◌+◌, ◌<◌, List, [], ◌∷◌, Option, Some, None, Result, Ok, Err, Bool, true, false, refl, sym, ap, ◌∙◌, subst, arith, length, replicate, slice_get}
use Rattle.std.proofs.lemmas.Option.{slice_get_past}
use Rattle.std.proofs.lemmas.Bool.{cases_lt}
use Rattle.std.proofs.lemmas.List.{length-replicate}
use Rattle.aerie_base.specs.declared.values.Value.{Value}
use Rattle.aerie_base.specs.declared.faults.Fault.{Fault}
use Rattle.aerie_base.specs.declared.expressions.Expr.{Expr}
use Rattle.aerie_base.specs.declared.statements.Stmt.{Stmt, out-Stmt}
use Rattle.aerie_base.specs.declared.statements.Stmt.TheOpen.{Stmt-F}
use Rattle.aerie_base.specs.expressions.Arithmetic.{truth_in}
use Rattle.aerie_base.specs.expressions.Dependence.{IsNoted, Grows, unchanged, in_turn, grows, depends}
use Rattle.aerie_base.specs.expressions.Evaluation.{Evaluated}
use Rattle.aerie_base.specs.expressions.Readings.{cell_of}
use Rattle.aerie_base.specs.statements.Places.{Placed, left}
use Rattle.effect_cells.specs.declared.effects.CellState.{CellState}
use Rattle.effect_cells.specs.declared.effects.Effect.{Effect}
use Rattle.effect_cells.specs.Cells.{emitted, emitted_on}
use Rattle.effect_cells.specs.Reads.{state_value}
use Rattle.effect_cells.specs.States.{applied}
use Rattle.run_data.specs.declared.tasks.BodyId.{BodyId}
use Rattle.run_data.specs.declared.frames.Item.{Item}
use Rattle.run_data.specs.declared.frames.Item.TheVariants as item
use Rattle.run_data.specs.declared.frames.Status.{Status}
use Rattle.run_data.specs.declared.frames.Status.TheVariants.{Done, Faulted}
use Rattle.run_data.specs.StepStates.{StepState, after_items, starting, value_read, valued, with_flags, paid}
use Rattle.run_data.specs.Steps.{Acted, onward, ended, Stepped, with_evaluated, with_value, with_first, first_of, valued_all, with_all, act, emission_expr, after, after_test, perform, steps}
use Rattle.run_data.specs.Frames.{read_from}
use Rattle.run_data.specs.Records.{Agrees}
use Rattle.run_data.specs.TaskStates.{body_of}
use Rattle.run_data.specs.laws.Reads.{seeing, StepDependsOnReads, FrameDependsOnReads}
use Rattle.run_data.proofs.Keeping.{ActedKeeps, act_keeps}

-- ---- cells that agree

emitted_on_more : (state : CellState) (rest : List CellState) (cell : ℕ) (effect : Effect) (found : Option CellState) →
    emitted_on (state ∷ rest) (suc cell) effect found ≡ state ∷ emitted_on rest cell effect found
emitted_on_more state rest cell effect None = refl
emitted_on_more state rest cell effect (Some here) = refl

pub emitted_more : (state : CellState) (rest : List CellState) (cell : ℕ) (effect : Effect) → emitted (state ∷ rest) (suc cell) effect ≡ state ∷ emitted rest cell effect
emitted_more state rest cell effect = emitted_on_more state rest cell effect (slice_get rest cell)

pub emitted_same : (view other : List CellState) (on cell : ℕ) (effect : Effect) → slice_get other cell ≡ slice_get view cell →
    slice_get (emitted other on effect) cell ≡ slice_get (emitted view on effect) cell
emitted_same [] [] on cell effect h = refl
emitted_same [] (state ∷ rest) zero zero effect h = absurd (cc)
emitted_same [] (state ∷ rest) zero (suc cell) effect h = h
emitted_same [] (state ∷ rest) (suc on) zero effect h = absurd (cc)
emitted_same [] (state ∷ rest) (suc on) (suc cell) effect h =
    ap (λ l. slice_get l (suc cell)) (emitted_more state rest on effect) ∙ emitted_same [] rest on cell effect h
emitted_same (state ∷ rest) [] zero zero effect h = absurd (cc)
emitted_same (state ∷ rest) [] zero (suc cell) effect h = h
emitted_same (state ∷ rest) [] (suc on) zero effect h = absurd (cc)
emitted_same (state ∷ rest) [] (suc on) (suc cell) effect h =
    emitted_same rest [] on cell effect h ∙ sym (ap (λ l. slice_get l (suc cell)) (emitted_more state rest on effect))
emitted_same (state ∷ rest) (again ∷ more) zero zero effect h = let m : again ≡ state = cc in ap (λ x. Some (applied x effect)) m
emitted_same (state ∷ rest) (again ∷ more) zero (suc cell) effect h = h
emitted_same (state ∷ rest) (again ∷ more) (suc on) zero effect h =
    ap (λ l. slice_get l 0) (emitted_more again more on effect) ∙ h ∙ sym (ap (λ l. slice_get l 0) (emitted_more state rest on effect))
emitted_same (state ∷ rest) (again ∷ more) (suc on) (suc cell) effect h =
    ap (λ l. slice_get l (suc cell)) (emitted_more again more on effect) ∙ emitted_same rest more on cell effect h
    ∙ sym (ap (λ l. slice_get l (suc cell)) (emitted_more state rest on effect))

after_same : (view other : List CellState) (items : List Item) (cell : ℕ) → slice_get other cell ≡ slice_get view cell →
    slice_get (after_items other items) cell ≡ slice_get (after_items view items) cell
after_same view other [] cell h = h
after_same view other (item.Emit on effect ∷ rest) cell h =
    after_same (emitted view on effect) (emitted other on effect) rest cell (emitted_same view other on cell effect h)
after_same view other (item.Child kind arguments ∷ rest) cell h = after_same view other rest cell h

abbrev AgreeOn : List Bool → List CellState → List CellState → Type 0
AgreeOn read_flags view other = (cell : ℕ) → IsNoted read_flags cell → slice_get other cell ≡ slice_get view cell

agree_before : (before later : List Bool) (view other : List CellState) → Grows before later → AgreeOn later view other → AgreeOn before view other
agree_before before later view other more agree cell read_flags = agree cell (more.stays cell read_flags)

-- ---- expressions

valued_grows : (so_far : StepState) (expr : Expr) → Grows so_far.read_flags (valued so_far expr).1
valued_grows so_far expr = grows expr so_far.locals (value_read so_far.view so_far.items) so_far.read_flags

valued_same : (so_far : StepState) (other : List CellState) (expr : Expr) → AgreeOn (valued so_far expr).1 so_far.view other → valued (seeing other so_far) expr ≡ valued so_far expr
valued_same so_far other expr agree =
    depends expr so_far.locals (value_read so_far.view so_far.items) (value_read other so_far.items) so_far.read_flags
    (λ read read_flags. ap (state_value read) (after_same so_far.view other so_far.items (cell_of read) (agree (cell_of read) read_flags)))

-- ---- statements without blocks

abbrev noted_in : Acted → List Bool
noted_in (onward so_far) = so_far.read_flags
noted_in (ended status so_far) = so_far.read_flags

abbrev acted_seeing : List CellState → Acted → Acted
acted_seeing other (onward so_far) = onward (seeing other so_far)
acted_seeing other (ended status so_far) = ended status (seeing other so_far)

-- what follows reads nothing more
record ReadsNoMore {A : Type 0} (go : A → StepState → Acted) : Type 0 where
  read_flags : (value : A) (so_far : StepState) → noted_in (go value so_far) ≡ so_far.read_flags
  same : (value : A) (so_far : StepState) (other : List CellState) → go value (seeing other so_far) ≡ acted_seeing other (go value so_far)

noted_flags : (so_far : StepState) (result : Evaluated) (go : Value → StepState → Acted) → ReadsNoMore go → noted_in (with_evaluated so_far result go) ≡ result.1
noted_flags so_far (Err fault, read_flags) go plain = refl
noted_flags so_far (Ok value, read_flags) go plain = plain.read_flags value (with_flags so_far read_flags)

noted_same : (so_far : StepState) (other : List CellState) (result : Evaluated) (go : Value → StepState → Acted) → ReadsNoMore go →
    with_evaluated (seeing other so_far) result go ≡ acted_seeing other (with_evaluated so_far result go)
noted_same so_far other (Err fault, read_flags) go plain = refl
noted_same so_far other (Ok value, read_flags) go plain = plain.same value (with_flags so_far read_flags) other

value_same : (so_far : StepState) (other : List CellState) (expr : Expr) (go : Value → StepState → Acted) → ReadsNoMore go →
    AgreeOn (noted_in (with_value so_far expr go)) so_far.view other → with_value (seeing other so_far) expr go ≡ acted_seeing other (with_value so_far expr go)
value_same so_far other expr go plain agree =
    let read : AgreeOn (valued so_far expr).1 so_far.view other =
    subst (λ read_flags. AgreeOn read_flags so_far.view other) (noted_flags so_far (valued so_far expr) go plain) agree in
    ap (λ result. with_evaluated (seeing other so_far) result go) (valued_same so_far other expr read) ∙ noted_same so_far other (valued so_far expr) go plain

value_grows : (so_far : StepState) (expr : Expr) (go : Value → StepState → Acted) → ReadsNoMore go → Grows so_far.read_flags (noted_in (with_value so_far expr go))
value_grows so_far expr go plain = subst (Grows so_far.read_flags) (sym (noted_flags so_far (valued so_far expr) go plain)) (valued_grows so_far expr)

first_grows : (so_far : StepState) (result : Evaluated) (go : StepState → Result (List Value) Fault × StepState) → ((read_flags : List Bool) → Grows read_flags (go (with_flags so_far read_flags)).1.read_flags) →
    Grows result.1 (first_of so_far result go).1.read_flags
first_grows so_far (Err fault, read_flags) go h = unchanged read_flags
first_grows so_far (Ok value, read_flags) go h = h read_flags

all_grows : (exprs : List Expr) (so_far : StepState) → Grows so_far.read_flags (valued_all exprs so_far).1.read_flags
all_grows [] so_far = unchanged so_far.read_flags
all_grows (expr ∷ rest) so_far =
    in_turn (valued_grows so_far expr) (first_grows so_far (valued so_far expr) (valued_all rest) (λ read_flags. all_grows rest (with_flags so_far read_flags)))

abbrev pair_seeing : List CellState → Result (List Value) Fault × StepState → Result (List Value) Fault × StepState
pair_seeing other result = (result.0, seeing other result.1)

first_same : (so_far : StepState) (other : List CellState) (result : Evaluated) (go : StepState → Result (List Value) Fault × StepState) →
    ((read_flags : List Bool) → AgreeOn (go (with_flags so_far read_flags)).1.read_flags so_far.view other → go (seeing other (with_flags so_far read_flags)) ≡ pair_seeing other (go (with_flags so_far read_flags))) →
    AgreeOn (first_of so_far result go).1.read_flags so_far.view other → first_of (seeing other so_far) result go ≡ pair_seeing other (first_of so_far result go)
first_same so_far other (Err fault, read_flags) go h agree = refl
first_same so_far other (Ok value, read_flags) go h agree = ap (λ result. (with_first value result.0, result.1)) (h read_flags agree)

all_same : (exprs : List Expr) (so_far : StepState) (other : List CellState) → AgreeOn (valued_all exprs so_far).1.read_flags so_far.view other →
    valued_all exprs (seeing other so_far) ≡ pair_seeing other (valued_all exprs so_far)
all_same [] so_far other agree = refl
all_same (expr ∷ rest) so_far other agree =
    let more = first_grows so_far (valued so_far expr) (valued_all rest) (λ read_flags. all_grows rest (with_flags so_far read_flags)) in
    ap (λ result. first_of (seeing other so_far) result (valued_all rest)) (valued_same so_far other expr (agree_before _ _ so_far.view other more agree))
    ∙ first_same so_far other (valued so_far expr) (valued_all rest) (λ read_flags. all_same rest (with_flags so_far read_flags) other) agree

all_flags : (result : Result (List Value) Fault × StepState) (go : List Value → StepState → Acted) → ReadsNoMore go → noted_in (with_all result go) ≡ result.1.read_flags
all_flags (Err fault, so_far) go plain = refl
all_flags (Ok values, so_far) go plain = plain.read_flags values so_far

all_seeing : (result : Result (List Value) Fault × StepState) (go : List Value → StepState → Acted) (other : List CellState) → ReadsNoMore go →
    with_all (pair_seeing other result) go ≡ acted_seeing other (with_all result go)
all_seeing (Err fault, so_far) go other plain = refl
all_seeing (Ok values, so_far) go other plain = plain.same values so_far other

values_same : (so_far : StepState) (other : List CellState) (exprs : List Expr) (go : List Value → StepState → Acted) → ReadsNoMore go →
    AgreeOn (noted_in (with_all (valued_all exprs so_far) go)) so_far.view other →
    with_all (valued_all exprs (seeing other so_far)) go ≡ acted_seeing other (with_all (valued_all exprs so_far) go)
values_same so_far other exprs go plain agree =
    let read = subst (λ read_flags. AgreeOn read_flags so_far.view other) (all_flags (valued_all exprs so_far) go plain) agree in
    ap (λ result. with_all result go) (all_same exprs so_far other read) ∙ all_seeing (valued_all exprs so_far) go other plain

values_grows : (so_far : StepState) (exprs : List Expr) (go : List Value → StepState → Acted) → ReadsNoMore go → Grows so_far.read_flags (noted_in (with_all (valued_all exprs so_far) go))
values_grows so_far exprs go plain = subst (Grows so_far.read_flags) (sym (all_flags (valued_all exprs so_far) go plain)) (all_grows exprs so_far)

act_grows : (kind : BodyId) (at : ℕ) (stmt : Stmt-F Stmt) (so_far : StepState) → Grows so_far.read_flags (noted_in (act kind at stmt so_far))
act_grows kind at (Stmt-F.Let slot expr) so_far = value_grows so_far expr _ (record { read_flags = λ v c. refl; same = λ v c other. refl })
act_grows kind at (Stmt-F.Assign slot expr) so_far = value_grows so_far expr _ (record { read_flags = λ v c. refl; same = λ v c other. refl })
act_grows kind at (Stmt-F.Emit cell what) so_far = value_grows so_far (emission_expr what) _ (record { read_flags = λ v c. refl; same = λ v c other. refl })
act_grows kind at (Stmt-F.Delay expr) so_far = value_grows so_far expr _ (record { read_flags = λ v c. refl; same = λ v c other. refl })
act_grows kind at (Stmt-F.WaitUntil condition) so_far = unchanged so_far.read_flags
act_grows kind at (Stmt-F.Spawn child exprs) so_far = values_grows so_far exprs _ (record { read_flags = λ v c. refl; same = λ v c other. refl })
act_grows kind at (Stmt-F.Call child exprs into) so_far = values_grows so_far exprs _ (record { read_flags = λ v c. refl; same = λ v c other. refl })
act_grows kind at (Stmt-F.If test block other) so_far = unchanged so_far.read_flags
act_grows kind at (Stmt-F.While test body) so_far = unchanged so_far.read_flags
act_grows kind at (Stmt-F.Return None) so_far = unchanged so_far.read_flags
act_grows kind at (Stmt-F.Return (Some expr)) so_far = value_grows so_far expr _ (record { read_flags = λ v c. refl; same = λ v c other. refl })

act_same : (kind : BodyId) (at : ℕ) (stmt : Stmt-F Stmt) (so_far : StepState) (other : List CellState) → AgreeOn (noted_in (act kind at stmt so_far)) so_far.view other →
    act kind at stmt (seeing other so_far) ≡ acted_seeing other (act kind at stmt so_far)
act_same kind at (Stmt-F.Let slot expr) so_far other = value_same so_far other expr _ (record { read_flags = λ v c. refl; same = λ v c other. refl })
act_same kind at (Stmt-F.Assign slot expr) so_far other = value_same so_far other expr _ (record { read_flags = λ v c. refl; same = λ v c other. refl })
act_same kind at (Stmt-F.Emit cell what) so_far other = value_same so_far other (emission_expr what) _ (record { read_flags = λ v c. refl; same = λ v c other. refl })
act_same kind at (Stmt-F.Delay expr) so_far other = value_same so_far other expr _ (record { read_flags = λ v c. refl; same = λ v c other. refl })
act_same kind at (Stmt-F.WaitUntil condition) so_far other = λ agree. refl
act_same kind at (Stmt-F.Spawn child exprs) so_far other = values_same so_far other exprs _ (record { read_flags = λ v c. refl; same = λ v c other. refl })
act_same kind at (Stmt-F.Call child exprs into) so_far other = values_same so_far other exprs _ (record { read_flags = λ v c. refl; same = λ v c other. refl })
act_same kind at (Stmt-F.If test block alternative) so_far other = λ agree. refl
act_same kind at (Stmt-F.While test body) so_far other = λ agree. refl
act_same kind at (Stmt-F.Return None) so_far other = λ agree. refl
act_same kind at (Stmt-F.Return (Some expr)) so_far other = value_same so_far other expr _ (record { read_flags = λ v c. refl; same = λ v c other. refl })

-- ---- which flags are set by the end of a step

pub both_are : (status ending : Status) (so_far last : StepState) → ◌≡◌ {A = Stepped} (Some (status, so_far)) (Some (ending, last)) → (status ≡ ending) × (so_far ≡ last)
both_are status ending so_far last e =
    let q : ◌≡◌ {A = Status × StepState} (status, so_far) (ending, last) = cc in
    (ap (λ x. x.0) q, ap (λ x. x.1) q)

-- whatever it is given, it ends with as many flags set
abbrev NotesMore : (StepState → Stepped) → Status → StepState → Type 0
NotesMore go ending last = (so_far : StepState) → go so_far ≡ Some (ending, last) → Grows so_far.read_flags last.read_flags

after_grows : (acted : Acted) (go : StepState → Stepped) (ending : Status) (last : StepState) → NotesMore go ending last → after acted go ≡ Some (ending, last) → Grows (noted_in acted) last.read_flags
after_grows (onward so_far) go ending last h e = h so_far e
after_grows (ended status so_far) go ending last h e = subst (λ c. Grows so_far.read_flags c.read_flags) (both_are status ending so_far last e).1 (unchanged so_far.read_flags)

test_grows : (so_far : StepState) (result : Evaluated) (go : Bool → StepState → Stepped) (ending : Status) (last : StepState) → ((holds : Bool) → NotesMore (go holds) ending last) →
    after_test so_far result go ≡ Some (ending, last) → Grows result.1 last.read_flags
test_grows so_far (Err fault, read_flags) go ending last h e = subst (λ c. Grows read_flags c.read_flags) (both_are (Faulted fault) ending (with_flags so_far read_flags) last e).1 (unchanged read_flags)
test_grows so_far (Ok value, read_flags) go ending last h e = h (truth_in value) (with_flags so_far read_flags) e

simple_grows : (kind : BodyId) (at : ℕ) (stmt : Stmt-F Stmt) (so_far : StepState) (go : StepState → Stepped) (ending : Status) (last : StepState) → NotesMore go ending last →
    after (act kind at stmt so_far) go ≡ Some (ending, last) → Grows so_far.read_flags last.read_flags
simple_grows kind at stmt so_far go ending last h e = in_turn (act_grows kind at stmt so_far) (after_grows (act kind at stmt so_far) go ending last h e)

perform_grows : (kind : BodyId) (here : Placed) (rest : List Placed) (stmt : Stmt-F Stmt) (so_far : StepState) (go : List Placed → StepState → Stepped) (ending : Status) (last : StepState) →
    ((placed : List Placed) → NotesMore (go placed) ending last) → perform kind here rest stmt so_far go ≡ Some (ending, last) → Grows so_far.read_flags last.read_flags
perform_grows kind here rest (Stmt-F.If test block other) so_far go ending last h e = in_turn (valued_grows so_far test) (test_grows so_far (valued so_far test) _ ending last (λ holds c. h _ c) e)
perform_grows kind here rest (Stmt-F.While test body) so_far go ending last h e = in_turn (valued_grows so_far test) (test_grows so_far (valued so_far test) _ ending last (λ holds c. h _ c) e)
perform_grows kind here rest (Stmt-F.Let slot expr) so_far go ending last h e = simple_grows kind here.at (Stmt-F.Let slot expr) so_far (go rest) ending last (h rest) e
perform_grows kind here rest (Stmt-F.Assign slot expr) so_far go ending last h e = simple_grows kind here.at (Stmt-F.Assign slot expr) so_far (go rest) ending last (h rest) e
perform_grows kind here rest (Stmt-F.Emit cell what) so_far go ending last h e = simple_grows kind here.at (Stmt-F.Emit cell what) so_far (go rest) ending last (h rest) e
perform_grows kind here rest (Stmt-F.Delay expr) so_far go ending last h e = simple_grows kind here.at (Stmt-F.Delay expr) so_far (go rest) ending last (h rest) e
perform_grows kind here rest (Stmt-F.WaitUntil condition) so_far go ending last h e = simple_grows kind here.at (Stmt-F.WaitUntil condition) so_far (go rest) ending last (h rest) e
perform_grows kind here rest (Stmt-F.Spawn child exprs) so_far go ending last h e = simple_grows kind here.at (Stmt-F.Spawn child exprs) so_far (go rest) ending last (h rest) e
perform_grows kind here rest (Stmt-F.Call child exprs into) so_far go ending last h e = simple_grows kind here.at (Stmt-F.Call child exprs into) so_far (go rest) ending last (h rest) e
perform_grows kind here rest (Stmt-F.Return value) so_far go ending last h e = simple_grows kind here.at (Stmt-F.Return value) so_far (go rest) ending last (h rest) e

steps_grow : (budget : ℕ) (kind : BodyId) (placed : List Placed) (ending : Status) (last : StepState) → NotesMore (steps kind budget placed) ending last
steps_grow budget kind [] ending last so_far e = subst (λ c. Grows so_far.read_flags c.read_flags) (both_are (Done None) ending so_far last e).1 (unchanged so_far.read_flags)
steps_grow zero kind (here ∷ rest) ending last so_far e = absurd (cc)
steps_grow (suc budget) kind (here ∷ rest) ending last so_far e =
    perform_grows kind here rest (out-Stmt here.what) (paid so_far) (steps kind budget) ending last (λ placed. steps_grow budget kind placed ending last) e

-- ---- the same step in another view

-- whatever it is given with this view, it ends in the other one in the same way, and still with this view
abbrev SameIn : List CellState → List CellState → (StepState → Stepped) → Status → StepState → Type 0
SameIn view other go ending last =
    (so_far : StepState) → so_far.view ≡ view → go so_far ≡ Some (ending, last) → AgreeOn last.read_flags view other →
    (go (seeing other so_far) ≡ Some (ending, seeing other last)) × (last.view ≡ view)

ended_same : (view other : List CellState) (status ending : Status) (so_far last : StepState) → so_far.view ≡ view → ◌≡◌ {A = Stepped} (Some (status, so_far)) (Some (ending, last)) →
    (◌≡◌ {A = Stepped} (Some (status, seeing other so_far)) (Some (ending, seeing other last))) × (last.view ≡ view)
ended_same view other status ending so_far last is e =
    let both = both_are status ending so_far last e in
    ((λ i. Some (both.0 i, seeing other (both.1 i))), sym (ap (λ x. x.view) both.1) ∙ is)

after_seeing : (view other : List CellState) (so_far : StepState) (acted : Acted) (go : StepState → Stepped) (ending : Status) (last : StepState) → so_far.view ≡ view → ActedKeeps so_far acted →
    SameIn view other go ending last → after acted go ≡ Some (ending, last) → AgreeOn last.read_flags view other →
    (after (acted_seeing other acted) go ≡ Some (ending, seeing other last)) × (last.view ≡ view)
after_seeing view other so_far (onward next) go ending last is keeps h e agree = h next (keeps.view ∙ is) e agree
after_seeing view other so_far (ended status c) go ending last is keeps h e agree = ended_same view other status ending c last (keeps.view ∙ is) e

simple_same : (view other : List CellState) (kind : BodyId) (at : ℕ) (stmt : Stmt-F Stmt) (so_far : StepState) (go : StepState → Stepped) (ending : Status) (last : StepState) →
    NotesMore go ending last → SameIn view other go ending last → so_far.view ≡ view → after (act kind at stmt so_far) go ≡ Some (ending, last) → AgreeOn last.read_flags view other →
    (after (act kind at stmt (seeing other so_far)) go ≡ Some (ending, seeing other last)) × (last.view ≡ view)
simple_same view other kind at stmt so_far go ending last more h is e agree =
    let up = after_grows (act kind at stmt so_far) go ending last more e in
    let read : AgreeOn (noted_in (act kind at stmt so_far)) so_far.view other =
    subst (λ v. AgreeOn (noted_in (act kind at stmt so_far)) v other) (sym is) (agree_before _ _ view other up agree) in
    let again = after_seeing view other so_far (act kind at stmt so_far) go ending last is (act_keeps kind at stmt so_far) h e agree in
    (ap (λ acted. after acted go) (act_same kind at stmt so_far other read) ∙ again.0, again.1)

test_seeing : (view other : List CellState) (so_far : StepState) (result : Evaluated) (go : Bool → StepState → Stepped) (ending : Status) (last : StepState) →
    ((holds : Bool) → SameIn view other (go holds) ending last) → so_far.view ≡ view → after_test so_far result go ≡ Some (ending, last) → AgreeOn last.read_flags view other →
    (after_test (seeing other so_far) result go ≡ Some (ending, seeing other last)) × (last.view ≡ view)
test_seeing view other so_far (Err fault, read_flags) go ending last h is e agree = ended_same view other (Faulted fault) ending (with_flags so_far read_flags) last is e
test_seeing view other so_far (Ok value, read_flags) go ending last h is e agree = h (truth_in value) (with_flags so_far read_flags) is e agree

test_same : (view other : List CellState) (so_far : StepState) (test : Expr) (go : Bool → StepState → Stepped) (ending : Status) (last : StepState) →
    ((holds : Bool) → NotesMore (go holds) ending last) → ((holds : Bool) → SameIn view other (go holds) ending last) → so_far.view ≡ view →
    after_test so_far (valued so_far test) go ≡ Some (ending, last) → AgreeOn last.read_flags view other →
    (after_test (seeing other so_far) (valued (seeing other so_far) test) go ≡ Some (ending, seeing other last)) × (last.view ≡ view)
test_same view other so_far test go ending last more h is e agree =
    let up = test_grows so_far (valued so_far test) go ending last more e in
    let read : AgreeOn (valued so_far test).1 so_far.view other =
    subst (λ v. AgreeOn (valued so_far test).1 v other) (sym is) (agree_before _ _ view other up agree) in
    let again = test_seeing view other so_far (valued so_far test) go ending last h is e agree in
    (ap (λ result. after_test (seeing other so_far) result go) (valued_same so_far other test read) ∙ again.0, again.1)

perform_same : (view other : List CellState) (kind : BodyId) (here : Placed) (rest : List Placed) (stmt : Stmt-F Stmt) (so_far : StepState) (go : List Placed → StepState → Stepped)
    (ending : Status) (last : StepState) → ((placed : List Placed) → NotesMore (go placed) ending last) → ((placed : List Placed) → SameIn view other (go placed) ending last) →
    so_far.view ≡ view → perform kind here rest stmt so_far go ≡ Some (ending, last) → AgreeOn last.read_flags view other →
    (perform kind here rest stmt (seeing other so_far) go ≡ Some (ending, seeing other last)) × (last.view ≡ view)
perform_same view other kind here rest (Stmt-F.If test block alternative) so_far go ending last more h = test_same view other so_far test _ ending last (λ holds c. more _ c) (λ holds. h _)
perform_same view other kind here rest (Stmt-F.While test body) so_far go ending last more h = test_same view other so_far test _ ending last (λ holds c. more _ c) (λ holds. h _)
perform_same view other kind here rest (Stmt-F.Let slot expr) so_far go ending last more h = simple_same view other kind here.at (Stmt-F.Let slot expr) so_far (go rest) ending last (more rest) (h rest)
perform_same view other kind here rest (Stmt-F.Assign slot expr) so_far go ending last more h = simple_same view other kind here.at (Stmt-F.Assign slot expr) so_far (go rest) ending last (more rest) (h rest)
perform_same view other kind here rest (Stmt-F.Emit cell what) so_far go ending last more h = simple_same view other kind here.at (Stmt-F.Emit cell what) so_far (go rest) ending last (more rest) (h rest)
perform_same view other kind here rest (Stmt-F.Delay expr) so_far go ending last more h = simple_same view other kind here.at (Stmt-F.Delay expr) so_far (go rest) ending last (more rest) (h rest)
perform_same view other kind here rest (Stmt-F.WaitUntil condition) so_far go ending last more h = simple_same view other kind here.at (Stmt-F.WaitUntil condition) so_far (go rest) ending last (more rest) (h rest)
perform_same view other kind here rest (Stmt-F.Spawn child exprs) so_far go ending last more h = simple_same view other kind here.at (Stmt-F.Spawn child exprs) so_far (go rest) ending last (more rest) (h rest)
perform_same view other kind here rest (Stmt-F.Call child exprs into) so_far go ending last more h = simple_same view other kind here.at (Stmt-F.Call child exprs into) so_far (go rest) ending last (more rest) (h rest)
perform_same view other kind here rest (Stmt-F.Return value) so_far go ending last more h = simple_same view other kind here.at (Stmt-F.Return value) so_far (go rest) ending last (more rest) (h rest)

pub steps_same : (budget : ℕ) (view other : List CellState) (kind : BodyId) (placed : List Placed) (ending : Status) (last : StepState) → SameIn view other (steps kind budget placed) ending last
steps_same budget view other kind [] ending last so_far is e agree = ended_same view other (Done None) ending so_far last is e
steps_same zero view other kind (here ∷ rest) ending last so_far is e agree = absurd (cc)
steps_same (suc budget) view other kind (here ∷ rest) ending last so_far is e agree =
    perform_same view other kind here rest (out-Stmt here.what) (paid so_far) (steps kind budget) ending last (λ placed. steps_grow budget kind placed ending last)
    (λ placed. steps_same budget view other kind placed ending last) is e agree

-- ---- the cells that were read

noted_or : (read_flags : List Bool) (cell : ℕ) → cell < length read_flags → IsNoted read_flags cell → get_or read_flags cell false ≡ true
noted_or [] cell less h = absurd (omega arith)
noted_or (flag ∷ rest) zero less h = h
noted_or (flag ∷ rest) (suc cell) less h = noted_or rest cell (omega arith) h

has_at : (from : ℕ) (read_flags : List Bool) (view other : List CellState) (cell : ℕ) → Agrees other (read_from from read_flags view) → get_or read_flags cell false ≡ true → cell < length view →
    slice_get other (from + cell) ≡ slice_get view cell
has_at from [] view other cell has flag less = absurd (cc)
has_at from (first ∷ flags) [] other cell has flag less = absurd (omega arith)
has_at from (true ∷ flags) (state ∷ states) other zero has flag less = let k : from ≡ from + 0 = omega arith in subst (λ m. slice_get other m ≡ Some state) k has.0
has_at from (false ∷ flags) (state ∷ states) other zero has flag less = absurd (cc)
has_at from (true ∷ flags) (state ∷ states) other (suc cell) has flag less =
    let k : from + 1 + cell ≡ from + suc cell = omega arith in
    subst (λ m. slice_get other m ≡ slice_get states cell) k (has_at (from + 1) flags states other cell has.1 flag (omega arith))
has_at from (false ∷ flags) (state ∷ states) other (suc cell) has flag less =
    let k : from + 1 + cell ≡ from + suc cell = omega arith in
    subst (λ m. slice_get other m ≡ slice_get states cell) k (has_at (from + 1) flags states other cell has flag (omega arith))

agree_of : (read_flags : List Bool) (view other : List CellState) → length read_flags ≡ length view → length other ≡ length view → Agrees other (read_from 0 read_flags view) → AgreeOn read_flags view other
agree_of read_flags view other long same has cell flag = elim (cases_lt cell (length view)) [
  | inl less ↦ (let k : 0 + cell ≡ cell = omega arith in
      subst (λ m. slice_get other m ≡ slice_get view cell) k (has_at 0 read_flags view other cell has (noted_or read_flags cell (omega arith) flag) less))
  | inr past ↦ slice_get_past other cell (omega arith) ∙ sym (slice_get_past view cell past)
]

read_same : (from : ℕ) (read_flags : List Bool) (view other : List CellState) → length other ≡ length view → AgreeOn read_flags view other → read_from from read_flags other ≡ read_from from read_flags view
read_same from [] view other long agree = refl
read_same from (first ∷ flags) [] [] long agree = refl
read_same from (first ∷ flags) [] (again ∷ more) long agree = absurd (omega arith)
read_same from (first ∷ flags) (state ∷ states) [] long agree = absurd (omega arith)
read_same from (true ∷ flags) (state ∷ states) (again ∷ more) long agree =
    let k : again ≡ state = (let q = agree 0 refl in cc) in
    λ i. (from, k i) ∷ read_same (from + 1) flags states more (omega arith) (λ cell. agree (suc cell)) i
read_same from (false ∷ flags) (state ∷ states) (again ∷ more) long agree = read_same (from + 1) flags states more (omega arith) (λ cell. agree (suc cell))

-- ---- the laws

module _ (body : List Stmt) (kind : BodyId) (at : ℕ) (locals : List Value) (view other : List CellState) (budget : ℕ) (status : Status) (so_far : StepState)
    (e : steps kind budget (left body at) (starting view locals) ≡ Some (status, so_far)) (same : length other ≡ length view)
    (has : Agrees other (read_from 0 so_far.read_flags so_far.view)) where
  view_is : so_far.view ≡ view
  view_is = (steps_same budget view view kind (left body at) status so_far (starting view locals) refl e (λ cell read_flags. refl)).1

  agrees : AgreeOn so_far.read_flags view other
  agrees =
      let more = steps_grow budget kind (left body at) status so_far (starting view locals) e in
      agree_of so_far.read_flags view other (more.same_length ∙ length-replicate (length view) false) same (subst (λ v. Agrees other (read_from 0 so_far.read_flags v)) view_is has)

  begins_same : starting other locals ≡ seeing other (starting view locals)
  begins_same = ap (λ count. record { view = other; locals = locals; items = []; read_flags = replicate count false; cost = 0 }) same

  step_same : steps kind budget (left body at) (starting other locals) ≡ Some (status, seeing other so_far)
  step_same =
      ap (steps kind budget (left body at)) begins_same
      ∙ (steps_same budget view other kind (left body at) status so_far (starting view locals) refl e agrees).0

  reads_same : read_from 0 so_far.read_flags other ≡ read_from 0 so_far.read_flags so_far.view
  reads_same = read_same 0 so_far.read_flags view other same agrees ∙ ap (read_from 0 so_far.read_flags) (sym view_is)

pub step_depends : StepDependsOnReads
step_depends body state view other budget status so_far e same has = step_same body state.kind state.at state.locals view other budget status so_far e same has

pub frame_depends : FrameDependsOnReads
frame_depends model budget path state view other status so_far e same has =
    let body = body_of model state.kind in (
      step_same body state.kind state.at state.locals view other budget status so_far e same has,
      ap (λ reads. record { path = path; before = state; reads = reads; items = so_far.items; status = status; cost = so_far.cost })
          (reads_same body state.kind state.at state.locals view other budget status so_far e same has),
    )
