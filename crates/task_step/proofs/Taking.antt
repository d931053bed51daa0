-- What one statement or test of flat code does to a step.
use Rattle.std.proofs.Common.{◌≡◌, if◌then◌else◌, ℕ, suc, ◌+◌, ◌<◌, ◌≤◌, List, [], ◌∷◌, ◌++◌, Option, Some, None, Result, Ok, Err, Bool, true, false, IsTrue, refl, sym, ap, ◌∙◌, subst, arith, length, length-append}
use Rattle.std.specs.Prelude.{slice_get}
use Rattle.aerie_base.specs.declared.values.Value.{Value}
use Rattle.aerie_base.specs.declared.faults.Fault.{Fault}
use Rattle.aerie_base.specs.declared.expressions.Expr.{Expr}
use Rattle.aerie_base.specs.declared.statements.Stmt.{Stmt, If, While, out-Stmt}
use Rattle.aerie_base.specs.declared.statements.Stmt.TheVariants.{outs-If, outs-While}
use Rattle.aerie_base.specs.declared.statements.Stmt.TheOpen.{Stmt-F}
use Rattle.aerie_base.specs.declared.models.model.Parts.{Parts}
use Rattle.aerie_base.specs.expressions.Arithmetic.{truth_in}
use Rattle.aerie_base.specs.expressions.Evaluation.{Evaluated}
use Rattle.aerie_base.specs.models.ValidModel.{valid_model}
use Rattle.aerie_base.specs.statements.Places.{Placed, placed, left, block_size, is_simple, simple_step}
use Rattle.body_code.specs.Denoting.{IsCodeOf, Denotes, Tests, chooses, repeats}
use Rattle.body_code.specs.declared.instructions.Instruction.{Instruction}
use Rattle.body_code.specs.declared.instructions.Instruction.TheVariants.{Do, Test}
use Rattle.run_data.specs.declared.tasks.BodyId.{BodyId}
use Rattle.run_data.specs.declared.frames.Item.{Item}
use Rattle.run_data.specs.declared.frames.Item.TheVariants as item
use Rattle.run_data.specs.declared.frames.Status.TheVariants.{Faulted}
use Rattle.run_data.specs.StepStates.{StepState, valued, with_flags, assigned, paid}
use Rattle.run_data.specs.Jobs.{AreCellsOf}
use Rattle.run_data.specs.Steps.{Stepped, steps, perform, act, after, after_test, Acted, onward, ended, with_evaluated, first_of, valued_all, with_all, emission_expr, effect_of}
use Rattle.run_data.specs.TaskStates.{body_of}
use Rattle.run_data.specs.Typed.{AreLeft, is_typed_stmt}
use Rattle.run_data.specs.laws.Typing.{NextIsTyped, RunsOn, ChoiceRunsOn, LoopRunsOn}
use Rattle.task_step.specs.declared.ends.End.{End}
use Rattle.task_step.specs.Doable.{cells_of, HasType, IsDoable}
use Rattle.task_step.specs.Ends.{status_of}
use Rattle.task_step.specs.Moves.{acted_of}
use Rattle.task_step.specs.Ways.{Leads}
use Rattle.task_step.proofs.Doing.{doable}

-- ---- what a statement keeps

abbrev KeepsActed : StepState → Acted → Type 0
KeepsActed so_far (onward next) = (next.view ≡ so_far.view) × (next.cost ≡ so_far.cost) × (length next.items ≤ length so_far.items + 1)
KeepsActed so_far (ended status last) = Unit {0}

evaluated_keeps : (so_far : StepState) (result : Evaluated) (go : Value → StepState → Acted) → ((value : Value) (read_flags : List Bool) → KeepsActed so_far (go value (with_flags so_far read_flags))) → KeepsActed so_far (with_evaluated so_far result go)
evaluated_keeps so_far (Ok value, read_flags) go h = h value read_flags
evaluated_keeps so_far (Err fault, read_flags) go h = tt

first_notes : (so_far : StepState) (result : Evaluated) (go : StepState → Result (List Value) Fault × StepState) →
    ((read_flags : List Bool) → (later : List Bool) × ((go (with_flags so_far read_flags)).1 ≡ with_flags so_far later)) → (later : List Bool) × ((first_of so_far result go).1 ≡ with_flags so_far later)
first_notes so_far (Ok value, read_flags) go h = h read_flags
first_notes so_far (Err fault, read_flags) go h = (read_flags, refl)

all_notes : (exprs : List Expr) (so_far : StepState) → (later : List Bool) × ((valued_all exprs so_far).1 ≡ with_flags so_far later)
all_notes [] so_far = (so_far.read_flags, refl)
all_notes (expr ∷ rest) so_far = first_notes so_far (valued so_far expr) (valued_all rest) (λ read_flags. all_notes rest (with_flags so_far read_flags))

all_keeps : (so_far : StepState) (result : Result (List Value) Fault × StepState) (go : List Value → StepState → Acted) → ((later : List Bool) × (result.1 ≡ with_flags so_far later)) →
    ((values : List Value) (read_flags : List Bool) → KeepsActed so_far (go values (with_flags so_far read_flags))) → KeepsActed so_far (with_all result go)
all_keeps so_far (Ok values, last) go n h = subst (λ c. KeepsActed so_far (go values c)) (sym n.1) (h values n.0)
all_keeps so_far (Err fault, last) go n h = tt

one_more : (items : List Item) (more : Item) → length (items ++ more ∷ []) ≤ length items + 1
one_more items more = omega (arith, length-append items (more ∷ []))

act_keeps : (kind : BodyId) (at : ℕ) (stmt : Stmt-F Stmt) (so_far : StepState) → KeepsActed so_far (act kind at stmt so_far)
act_keeps kind at (Stmt-F.Let slot expr) so_far = evaluated_keeps so_far (valued so_far expr) (λ value c. onward (assigned c slot value)) (λ value read_flags. (refl, refl, omega arith))
act_keeps kind at (Stmt-F.Assign slot expr) so_far = evaluated_keeps so_far (valued so_far expr) (λ value c. onward (assigned c slot value)) (λ value read_flags. (refl, refl, omega arith))
act_keeps kind at (Stmt-F.Emit cell what) so_far = evaluated_keeps so_far (valued so_far (emission_expr what)) _ (λ value read_flags. (refl, refl, one_more so_far.items (item.Emit cell (effect_of what value))))
act_keeps kind at (Stmt-F.Delay expr) so_far = evaluated_keeps so_far (valued so_far expr) _ (λ value read_flags. tt)
act_keeps kind at (Stmt-F.WaitUntil condition) so_far = tt
act_keeps kind at (Stmt-F.Spawn child exprs) so_far = all_keeps so_far (valued_all exprs so_far) _ (all_notes exprs so_far) (λ values read_flags. (refl, refl, one_more so_far.items (item.Child child values)))
act_keeps kind at (Stmt-F.Call child exprs into) so_far = all_keeps so_far (valued_all exprs so_far) _ (all_notes exprs so_far) (λ values read_flags. tt)
act_keeps kind at (Stmt-F.If test block other) so_far = tt
act_keeps kind at (Stmt-F.While test body) so_far = tt
act_keeps kind at (Stmt-F.Return None) so_far = tt
act_keeps kind at (Stmt-F.Return (Some expr)) so_far = evaluated_keeps so_far (valued so_far expr) _ (λ value read_flags. tt)

perform_simple : (kind : BodyId) (here : Placed) (rest : List Placed) (stmt : Stmt-F Stmt) (so_far : StepState) (go : List Placed → StepState → Stepped) → simple_step stmt ≡ true → perform kind here rest stmt so_far go ≡ after (act kind here.at stmt so_far) (go rest)
perform_simple kind here rest (Stmt-F.Let slot expr) so_far go h = refl
perform_simple kind here rest (Stmt-F.Assign slot expr) so_far go h = refl
perform_simple kind here rest (Stmt-F.Emit cell what) so_far go h = refl
perform_simple kind here rest (Stmt-F.Delay expr) so_far go h = refl
perform_simple kind here rest (Stmt-F.WaitUntil condition) so_far go h = refl
perform_simple kind here rest (Stmt-F.Spawn child exprs) so_far go h = refl
perform_simple kind here rest (Stmt-F.Call child exprs into) so_far go h = refl
perform_simple kind here rest (Stmt-F.If test block other) so_far go h = absurd (cc)
perform_simple kind here rest (Stmt-F.While test body) so_far go h = absurd (cc)
perform_simple kind here rest (Stmt-F.Return value) so_far go h = refl

-- ---- a test

after_test_same : (so_far : StepState) (result : Evaluated) (go other : Bool → StepState → Stepped) → ((holds : Bool) (c : StepState) → go holds c ≡ other holds c) → after_test so_far result go ≡ after_test so_far result other
after_test_same so_far (Ok value, read_flags) go other h = h (truth_in value) (with_flags so_far read_flags)
after_test_same so_far (Err fault, read_flags) go other h = refl

after_err : (so_far : StepState) (result : Evaluated) (fault : Fault) (go : Bool → StepState → Stepped) → result.0 ≡ Err fault → after_test so_far result go ≡ Some (Faulted fault, with_flags so_far result.1)
after_err so_far (Err other, read_flags) fault go e = let k : other ≡ fault = cc in ap (λ x. Some (Faulted x, with_flags so_far read_flags)) k
after_err so_far (Ok value, read_flags) fault go e = absurd (cc)

after_ok : (so_far : StepState) (result : Evaluated) (value : Value) (go : Bool → StepState → Stepped) → result.0 ≡ Ok value → after_test so_far result go ≡ go (truth_in value) (with_flags so_far result.1)
after_ok so_far (Err other, read_flags) value go e = absurd (cc)
after_ok so_far (Ok found, read_flags) value go e = let k : found ≡ value = cc in ap (λ x. go (truth_in x) (with_flags so_far read_flags)) k

module _ (model : Parts) (code : List Instruction) (kind : BodyId) (at : ℕ) (instruction : Instruction) (so_far paid_so_far : StepState)
    (valid : IsTrue (valid_model model)) (is_code : IsCodeOf (body_of model kind) code) (at_is : slice_get code at ≡ Some instruction) (pays : paid_so_far ≡ paid so_far)
    (left_here : AreLeft model kind (left (body_of model kind) at) so_far.locals) (cells : AreCellsOf model (cells_of so_far)) (typed : NextIsTyped) where
  body : List Stmt
  body = body_of model kind

  -- what is left here goes with the locals
  left_as : (list : List Placed) → left (body_of model kind) at ≡ list → AreLeft model kind list so_far.locals
  left_as list e = subst (λ l. AreLeft model kind l so_far.locals) e left_here

  -- ---- a statement without blocks

  pub do_stands : (stmt : Stmt) → instruction ≡ Do stmt → Denotes (left (body_of model kind)) (length code) at (Do stmt)
  do_stands stmt e = subst (Denotes (left (body_of model kind)) (length code) at) e (is_code.denotes at instruction at_is)

  pub do_doable : (stmt : Stmt) → instruction ≡ Do stmt → IsDoable paid_so_far (out-Stmt stmt)
  do_doable stmt e =
      let here : Placed = record { at = at; what = stmt } in
      let rest = left (body_of model kind) (at + 1) in
      subst (λ c. IsDoable c (out-Stmt stmt)) (sym pays)
      (doable model (paid so_far) cells (out-Stmt stmt) (typed model kind here rest so_far.locals valid (left_as (here ∷ rest) (do_stands stmt e).2)))

  do_steps : (stmt : Stmt) (budget : ℕ) → instruction ≡ Do stmt →
      steps kind (suc budget) (left (body_of model kind) at) so_far ≡ after (act kind at (out-Stmt stmt) (paid so_far)) (steps kind budget (left (body_of model kind) (at + 1)))
  unfolding is_simple
  do_steps stmt budget e =
      let st = do_stands stmt e in
      ap (λ l. steps kind (suc budget) l so_far) st.2
      ∙ perform_simple kind (record { at = at; what = stmt }) (left (body_of model kind) (at + 1)) (out-Stmt stmt) (paid so_far) (steps kind budget) st.0

  acted_is : (stmt : Stmt) (next : StepState) (end known : Option End) → acted_of end kind at next ≡ act kind at (out-Stmt stmt) paid_so_far → end ≡ known → acted_of known kind at next ≡ act kind at (out-Stmt stmt) (paid so_far)
  acted_is stmt next end known acted e = sym (ap (λ x. acted_of x kind at next) e) ∙ acted ∙ ap (act kind at (out-Stmt stmt)) pays

  pub do_onward : (stmt : Stmt) (next : StepState) (end : Option End) → RunsOn → instruction ≡ Do stmt → acted_of end kind at next ≡ act kind at (out-Stmt stmt) paid_so_far → end ≡ None →
      Leads model code kind at so_far (at + 1) next
  do_onward stmt next end on e acted none =
      let here : Placed = record { at = at; what = stmt } in
      let rest = left (body_of model kind) (at + 1) in
      let st = do_stands stmt e in
      let t = acted_is stmt next end None acted none in
      let keeps = subst (KeepsActed (paid so_far)) (sym t) (act_keeps kind at (out-Stmt stmt) (paid so_far)) in
      let goes = on model kind here rest (paid so_far) next valid (left_as (here ∷ rest) st.2) cells (sym t) in
      record {
        place = st.1;
        view = keeps.0;
        cost = keeps.1;
        items = keeps.2;
        left_there = goes.0;
        cells = goes.1;
        same = λ budget. do_steps stmt budget e ∙ ap (λ x. after x (steps kind budget rest)) (sym t);
      }

  pub do_ended : (stmt : Stmt) (last : StepState) (end : Option End) (how : End) → instruction ≡ Do stmt → acted_of end kind at last ≡ act kind at (out-Stmt stmt) paid_so_far → end ≡ Some how →
      (budget : ℕ) → steps kind (suc budget) (left (body_of model kind) at) so_far ≡ Some (status_of how kind at last, last)
  do_ended stmt last end how e acted some budget =
      do_steps stmt budget e ∙ ap (λ x. after x (steps kind budget (left (body_of model kind) (at + 1)))) (sym (acted_is stmt last end (Some how) acted some))

  -- ---- a test

  pub test_typed : (test : Expr) (otherwise : ℕ) → instruction ≡ Test test otherwise → HasType paid_so_far test
  test_typed test otherwise e = subst (λ c. HasType c test) (sym pays) (of_tests (subst (Denotes (left (body_of model kind)) (length code) at) e (is_code.denotes at instruction at_is)).2) where
    of_tests : Tests (left (body_of model kind)) at test otherwise → HasType (paid so_far) test
    of_tests (chooses block other rest here then_left else_left) =
        doable model (paid so_far) cells (Stmt-F.If test block other)
        (subst (λ x. IsTrue (is_typed_stmt model so_far.locals x)) (outs-If test block other)
        (typed model kind (record { at = at; what = If test block other }) rest so_far.locals valid (left_as _ here)))
    of_tests (repeats block rest here then_left else_left) =
        doable model (paid so_far) cells (Stmt-F.While test block)
        (subst (λ x. IsTrue (is_typed_stmt model so_far.locals x)) (outs-While test block)
        (typed model kind (record { at = at; what = While test block }) rest so_far.locals valid (left_as _ here)))

  module _ (test : Expr) (otherwise : ℕ) (next : StepState) (test_is : instruction ≡ Test test otherwise) (notes : next ≡ with_flags paid_so_far (valued paid_so_far test).1) where
    test_stands : Denotes (left (body_of model kind)) (length code) at (Test test otherwise)
    test_stands = subst (Denotes (left (body_of model kind)) (length code) at) test_is (is_code.denotes at instruction at_is)

    next_list : Bool → List Placed
    next_list holds = if holds then left (body_of model kind) (at + 1) else left (body_of model kind) otherwise

    next_is : with_flags (paid so_far) (valued (paid so_far) test).1 ≡ next
    next_is = sym (notes ∙ ap (λ x. with_flags x (valued x test).1) pays)

    test_steps : (budget : ℕ) → Tests (left (body_of model kind)) at test otherwise →
        steps kind (suc budget) (left (body_of model kind) at) so_far ≡ after_test (paid so_far) (valued (paid so_far) test) (λ holds c. steps kind budget (next_list holds) c)
    unfolding next_list
    test_steps budget (chooses block other rest here then_left else_left) =
        ap (λ l. steps kind (suc budget) l so_far) here
        ∙ ap (λ x. perform kind (record { at = at; what = If test block other }) rest x (paid so_far) (steps kind budget)) (outs-If test block other)
        ∙ after_test_same (paid so_far) (valued (paid so_far) test) _ _ (λ holds c. ap (λ l. steps kind budget l c) (pick holds)) where
          pick : (holds : Bool) → (if holds then placed (at + 1) block else placed (at + 2 + block_size block) other) ++ rest ≡ (if holds then left (body_of model kind) (at + 1) else left (body_of model kind) otherwise)
          pick true = sym then_left
          pick false = sym else_left
    test_steps budget (repeats block rest here then_left else_left) =
        ap (λ l. steps kind (suc budget) l so_far) here
        ∙ ap (λ x. perform kind (record { at = at; what = While test block }) rest x (paid so_far) (steps kind budget)) (outs-While test block)
        ∙ after_test_same (paid so_far) (valued (paid so_far) test) _ _ (λ holds c. ap (λ l. steps kind budget l c) (pick holds)) where
          pick : (holds : Bool) → (if holds then placed (at + 1) block ++ (record { at = at; what = While test block } ∷ rest) else rest) ≡ (if holds then left (body_of model kind) (at + 1) else left (body_of model kind) otherwise)
          pick true = ap (λ l. placed (at + 1) block ++ l) (sym here) ∙ sym then_left
          pick false = sym else_left

    left_behind : ChoiceRunsOn → LoopRunsOn → (holds : Bool) → Tests (left (body_of model kind)) at test otherwise → AreLeft model kind (next_list holds) so_far.locals
    unfolding next_list
    left_behind choice again true (chooses block other rest here then_left else_left) =
        subst (λ l. AreLeft model kind l so_far.locals) (sym then_left)
        (choice model kind (record { at = at; what = If test block other }) rest so_far.locals test block other true valid (left_as _ here) (outs-If test block other))
    left_behind choice again false (chooses block other rest here then_left else_left) =
        subst (λ l. AreLeft model kind l so_far.locals) (sym else_left)
        (choice model kind (record { at = at; what = If test block other }) rest so_far.locals test block other false valid (left_as _ here) (outs-If test block other))
    left_behind choice again true (repeats block rest here then_left else_left) =
        subst (λ l. AreLeft model kind l so_far.locals) (sym (then_left ∙ ap (λ l. placed (at + 1) block ++ l) here))
        (again model kind (record { at = at; what = While test block }) rest so_far.locals test block true valid (left_as _ here) (outs-While test block))
    left_behind choice again false (repeats block rest here then_left else_left) =
        subst (λ l. AreLeft model kind l so_far.locals) (sym else_left)
        (again model kind (record { at = at; what = While test block }) rest so_far.locals test block false valid (left_as _ here) (outs-While test block))

    pub test_ended : (fault : Fault) → Err fault ≡ (valued paid_so_far test).0 → (budget : ℕ) → steps kind (suc budget) (left (body_of model kind) at) so_far ≡ Some (Faulted fault, next)
    test_ended fault e budget =
        test_steps budget test_stands.2
        ∙ after_err (paid so_far) (valued (paid so_far) test) fault _ (sym (e ∙ ap (λ x. (valued x test).0) pays))
        ∙ ap (λ x. Some (Faulted fault, x)) next_is

    test_goes : (value : Value) (holds : Bool) (to : ℕ) → ChoiceRunsOn → LoopRunsOn → Ok value ≡ (valued paid_so_far test).0 → truth_in value ≡ holds →
        next_list holds ≡ left (body_of model kind) to → to < length code → Leads model code kind at so_far to next
    test_goes value holds to choice again e k l lt =
        let locals : next.locals ≡ so_far.locals = sym (ap (λ (x : StepState). x.locals) next_is) in
        let items : length next.items ≡ length so_far.items = sym (ap (λ (x : StepState). length x.items) next_is) in
        record {
          place = lt;
          view = sym (ap (λ (x : StepState). x.view) next_is);
          cost = sym (ap (λ (x : StepState). x.cost) next_is);
          items = omega (arith, items);
          left_there = subst (λ x. AreLeft model kind x next.locals) l (subst (AreLeft model kind (next_list holds)) (sym locals) (left_behind choice again holds test_stands.2));
          cells = subst (λ x. AreCellsOf model (cells_of x)) next_is cells;
          same = λ budget.
              (test_steps budget test_stands.2
              ∙ after_ok (paid so_far) (valued (paid so_far) test) value _ (sym (e ∙ ap (λ x. (valued x test).0) pays))
              ∙ ap (λ c. steps kind budget (next_list c) (with_flags (paid so_far) (valued (paid so_far) test).1)) k
              ∙ ap (λ m. steps kind budget m (with_flags (paid so_far) (valued (paid so_far) test).1)) l
              ∙ ap (λ x. steps kind budget (left (body_of model kind) to) x) next_is);
        }

    pub test_holds : (value : Value) → ChoiceRunsOn → LoopRunsOn → Ok value ≡ (valued paid_so_far test).0 → truth_in value ≡ true → Leads model code kind at so_far (at + 1) next
    unfolding next_list
    test_holds value choice again e k = test_goes value true (at + 1) choice again e k refl test_stands.0

    pub test_fails : (value : Value) → ChoiceRunsOn → LoopRunsOn → Ok value ≡ (valued paid_so_far test).0 → truth_in value ≡ false → Leads model code kind at so_far otherwise next
    unfolding next_list
    test_fails value choice again e k = test_goes value false otherwise choice again e k refl test_stands.1
