-- What a step may cost decides whether it is run to its end, and nothing else.
use Rattle.std.proofs.Common.{◌≡◌, ℕ, zero, suc, ◌+◌, ◌≤◌, Bool, List, [], ◌∷◌, Some, None, Ok, Err, refl, sym, ap, ◌∙◌, subst, arith}
use Rattle.aerie_base.specs.declared.statements.Stmt.{Stmt, out-Stmt}
use Rattle.aerie_base.specs.declared.statements.Stmt.TheOpen.{Stmt-F}
use Rattle.aerie_base.specs.expressions.Arithmetic.{truth_in}
use Rattle.aerie_base.specs.expressions.Evaluation.{Evaluated}
use Rattle.aerie_base.specs.statements.Places.{Placed, left}
use Rattle.run_data.specs.declared.tasks.BodyId.{BodyId}
use Rattle.run_data.specs.declared.frames.Status.{Status}
use Rattle.run_data.specs.declared.frames.Status.TheVariants.{Done, Faulted}
use Rattle.run_data.specs.StepStates.{StepState, starting, valued, with_flags, paid}
use Rattle.run_data.specs.Steps.{Acted, onward, ended, Stepped, act, after, after_test, perform, steps}
use Rattle.run_data.specs.laws.Budgets.{CostIsWithin, SameWithinCost}
use Rattle.run_data.proofs.Keeping.{ActedKeeps, act_keeps}
use Rattle.run_data.proofs.Paying.{perform_costs, steps_cost}
use Rattle.run_data.proofs.Reading.{both_are}

-- ---- whatever holds of all that the further steps give, given what was paid so far, holds of what a statement gives

module _ (paid_so_far : ℕ) (ending : Status) (last : StepState) (Q : Stepped → Type 0) where
  -- the further steps of two budgets: where the first give this end, the others have the property
  abbrev Follows : (StepState → Stepped) → (StepState → Stepped) → Type 0
  Follows go other = (so_far : StepState) → so_far.cost ≡ paid_so_far → go so_far ≡ Some (ending, last) → Q (other so_far)

  module _ (here_ : Q (Some (ending, last))) where
    after_follows : (so_far : StepState) (acted : Acted) (go other : StepState → Stepped) → so_far.cost ≡ paid_so_far → ActedKeeps so_far acted → Follows go other →
        after acted go ≡ Some (ending, last) → Q (after acted other)
    after_follows so_far (onward next) go other c keeps h e = h next (keeps.cost ∙ c) e
    after_follows so_far (ended status end_) go other c keeps h e = subst Q (sym e) here_

    test_follows : (so_far : StepState) (result : Evaluated) (go other : Bool → StepState → Stepped) → so_far.cost ≡ paid_so_far → ((holds : Bool) → Follows (go holds) (other holds)) →
        after_test so_far result go ≡ Some (ending, last) → Q (after_test so_far result other)
    test_follows so_far (Err fault, read_flags) go other c h e = subst Q (sym e) here_
    test_follows so_far (Ok value, read_flags) go other c h e = h (truth_in value) (with_flags so_far read_flags) c e

    simple_follows : (kind : BodyId) (at : ℕ) (stmt : Stmt-F Stmt) (so_far : StepState) (go other : StepState → Stepped) → so_far.cost ≡ paid_so_far → Follows go other →
        after (act kind at stmt so_far) go ≡ Some (ending, last) → Q (after (act kind at stmt so_far) other)
    simple_follows kind at stmt so_far go other c = after_follows so_far (act kind at stmt so_far) go other c (act_keeps kind at stmt so_far)

    perform_follows : (kind : BodyId) (here : Placed) (rest : List Placed) (stmt : Stmt-F Stmt) (so_far : StepState) (go other : List Placed → StepState → Stepped) → so_far.cost ≡ paid_so_far →
        ((placed : List Placed) → Follows (go placed) (other placed)) → perform kind here rest stmt so_far go ≡ Some (ending, last) → Q (perform kind here rest stmt so_far other)
    perform_follows kind here rest (Stmt-F.If test block alternative) so_far go other c h e = test_follows so_far (valued so_far test) _ _ c (λ holds. h _) e
    perform_follows kind here rest (Stmt-F.While test body) so_far go other c h e = test_follows so_far (valued so_far test) _ _ c (λ holds. h _) e
    perform_follows kind here rest (Stmt-F.Let slot expr) so_far go other c h e = simple_follows kind here.at (Stmt-F.Let slot expr) so_far (go rest) (other rest) c (h rest) e
    perform_follows kind here rest (Stmt-F.Assign slot expr) so_far go other c h e = simple_follows kind here.at (Stmt-F.Assign slot expr) so_far (go rest) (other rest) c (h rest) e
    perform_follows kind here rest (Stmt-F.Emit cell what) so_far go other c h e = simple_follows kind here.at (Stmt-F.Emit cell what) so_far (go rest) (other rest) c (h rest) e
    perform_follows kind here rest (Stmt-F.Delay expr) so_far go other c h e = simple_follows kind here.at (Stmt-F.Delay expr) so_far (go rest) (other rest) c (h rest) e
    perform_follows kind here rest (Stmt-F.WaitUntil condition) so_far go other c h e = simple_follows kind here.at (Stmt-F.WaitUntil condition) so_far (go rest) (other rest) c (h rest) e
    perform_follows kind here rest (Stmt-F.Spawn child exprs) so_far go other c h e = simple_follows kind here.at (Stmt-F.Spawn child exprs) so_far (go rest) (other rest) c (h rest) e
    perform_follows kind here rest (Stmt-F.Call child exprs into) so_far go other c h e = simple_follows kind here.at (Stmt-F.Call child exprs into) so_far (go rest) (other rest) c (h rest) e
    perform_follows kind here rest (Stmt-F.Return value) so_far go other c h e = simple_follows kind here.at (Stmt-F.Return value) so_far (go rest) (other rest) c (h rest) e

-- ---- the same step

steps_more : (budget other : ℕ) (kind : BodyId) (placed : List Placed) (ending : Status) (last so_far : StepState) → last.cost ≤ so_far.cost + other →
    steps kind budget placed so_far ≡ Some (ending, last) → steps kind other placed so_far ≡ Some (ending, last)
steps_more budget other kind [] ending last so_far less e = e
steps_more zero other kind (here ∷ rest) ending last so_far less e = absurd (cc)
steps_more (suc budget) zero kind (here ∷ rest) ending last so_far less e =
    let cost = perform_costs kind here rest (out-Stmt here.what) (paid so_far) (steps kind budget) ending last
    (λ placed c f. (let g = steps_cost budget kind placed ending last c f in omega arith)) e in
    absurd (omega arith)
steps_more (suc budget) (suc other) kind (here ∷ rest) ending last so_far less e =
    perform_follows (so_far.cost + 1) ending last (λ stepped. stepped ≡ Some (ending, last)) refl kind here rest (out-Stmt here.what) (paid so_far) (steps kind budget) (steps kind other) refl
    (λ placed c is f. steps_more budget other kind placed ending last c (omega arith) f) e

-- ---- the cost

abbrev EndsWithin : Status → StepState → ℕ → (StepState → Stepped) → Type 0
EndsWithin ending last most go = (so_far : StepState) → go so_far ≡ Some (ending, last) → last.cost ≤ so_far.cost + most

after_within : (ending : Status) (last : StepState) (most : ℕ) (so_far : StepState) (acted : Acted) (go : StepState → Stepped) → ActedKeeps so_far acted → EndsWithin ending last most go →
    after acted go ≡ Some (ending, last) → last.cost ≤ so_far.cost + most
after_within ending last most so_far (onward next) go keeps h e = omega (arith, h next e, keeps.cost)
after_within ending last most so_far (ended status end_) go keeps h e = omega (arith, ap (λ c. c.cost) (both_are status ending end_ last e).1, keeps.cost)

test_within : (ending : Status) (last : StepState) (most : ℕ) (so_far : StepState) (result : Evaluated) (go : Bool → StepState → Stepped) → ((holds : Bool) → EndsWithin ending last most (go holds)) →
    after_test so_far result go ≡ Some (ending, last) → last.cost ≤ so_far.cost + most
test_within ending last most so_far (Err fault, read_flags) go h e = omega (arith, ap (λ c. c.cost) (both_are (Faulted fault) ending (with_flags so_far read_flags) last e).1)
test_within ending last most so_far (Ok value, read_flags) go h e = h (truth_in value) (with_flags so_far read_flags) e

simple_within : (ending : Status) (last : StepState) (most : ℕ) (kind : BodyId) (at : ℕ) (stmt : Stmt-F Stmt) (so_far : StepState) (go : StepState → Stepped) → EndsWithin ending last most go →
    after (act kind at stmt so_far) go ≡ Some (ending, last) → last.cost ≤ so_far.cost + most
simple_within ending last most kind at stmt so_far go = after_within ending last most so_far (act kind at stmt so_far) go (act_keeps kind at stmt so_far)

perform_within : (ending : Status) (last : StepState) (most : ℕ) (kind : BodyId) (here : Placed) (rest : List Placed) (stmt : Stmt-F Stmt) (so_far : StepState) (go : List Placed → StepState → Stepped) →
    ((placed : List Placed) → EndsWithin ending last most (go placed)) → perform kind here rest stmt so_far go ≡ Some (ending, last) → last.cost ≤ so_far.cost + most
perform_within ending last most kind here rest (Stmt-F.If test block other) so_far go h e = test_within ending last most so_far (valued so_far test) _ (λ holds. h _) e
perform_within ending last most kind here rest (Stmt-F.While test body) so_far go h e = test_within ending last most so_far (valued so_far test) _ (λ holds. h _) e
perform_within ending last most kind here rest (Stmt-F.Let slot expr) so_far go h e = simple_within ending last most kind here.at (Stmt-F.Let slot expr) so_far (go rest) (h rest) e
perform_within ending last most kind here rest (Stmt-F.Assign slot expr) so_far go h e = simple_within ending last most kind here.at (Stmt-F.Assign slot expr) so_far (go rest) (h rest) e
perform_within ending last most kind here rest (Stmt-F.Emit cell what) so_far go h e = simple_within ending last most kind here.at (Stmt-F.Emit cell what) so_far (go rest) (h rest) e
perform_within ending last most kind here rest (Stmt-F.Delay expr) so_far go h e = simple_within ending last most kind here.at (Stmt-F.Delay expr) so_far (go rest) (h rest) e
perform_within ending last most kind here rest (Stmt-F.WaitUntil condition) so_far go h e = simple_within ending last most kind here.at (Stmt-F.WaitUntil condition) so_far (go rest) (h rest) e
perform_within ending last most kind here rest (Stmt-F.Spawn child exprs) so_far go h e = simple_within ending last most kind here.at (Stmt-F.Spawn child exprs) so_far (go rest) (h rest) e
perform_within ending last most kind here rest (Stmt-F.Call child exprs into) so_far go h e = simple_within ending last most kind here.at (Stmt-F.Call child exprs into) so_far (go rest) (h rest) e
perform_within ending last most kind here rest (Stmt-F.Return value) so_far go h e = simple_within ending last most kind here.at (Stmt-F.Return value) so_far (go rest) (h rest) e

steps_within : (budget : ℕ) (kind : BodyId) (placed : List Placed) (ending : Status) (last so_far : StepState) → steps kind budget placed so_far ≡ Some (ending, last) → last.cost ≤ so_far.cost + budget
steps_within budget kind [] ending last so_far e = omega (arith, ap (λ c. c.cost) (both_are (Done None) ending so_far last e).1)
steps_within zero kind (here ∷ rest) ending last so_far e = absurd (cc)
steps_within (suc budget) kind (here ∷ rest) ending last so_far e =
    let within = perform_within ending last budget kind here rest (out-Stmt here.what) (paid so_far) (steps kind budget) (λ placed c. steps_within budget kind placed ending last c) e in
    omega arith

pub same_within_cost : SameWithinCost
same_within_cost body state view budget other status so_far e less =
    steps_more budget other state.kind (left body state.at) status so_far (starting view state.locals) (omega arith) e

pub cost_is_within : CostIsWithin
cost_is_within body state view budget status so_far e =
    let within = steps_within budget state.kind (left body state.at) status so_far (starting view state.locals) e in omega arith
