-- A statement of a valid model is performed: behind the test of a choice and of a loop stands what is left there, and every other
-- statement acts. What holds of each of these holds of the step that goes on with them.
use Rattle.std.proofs.Common.{◌≡◌, ◌+◌, Bool, IsTrue, List, ◌∷◌, ◌++◌, if◌then◌else◌}
use Rattle.aerie_base.specs.declared.expressions.Expr.{Expr}
use Rattle.aerie_base.specs.declared.statements.Stmt.{Stmt, out-Stmt}
use Rattle.aerie_base.specs.declared.statements.Stmt.TheOpen.{Stmt-F}
use Rattle.aerie_base.specs.declared.models.model.Parts.{Parts}
use Rattle.aerie_base.specs.models.ValidModel.{valid_model}
use Rattle.aerie_base.specs.statements.Places.{Placed, placed, block_size}
use Rattle.run_data.specs.declared.tasks.BodyId.{BodyId}
use Rattle.run_data.specs.StepStates.{StepState, valued, with_flags}
use Rattle.run_data.specs.Steps.{act, Stepped, after, after_test, perform}
use Rattle.run_data.specs.Typed.{AreLeft}
use Rattle.run_data.proofs.Typing.{choice_runs_on, loop_runs_on}

module _ (model : Parts) (kind : BodyId) (here : Placed) (rest : List Placed) (so_far : StepState) (go : List Placed → StepState → Stepped)
    (valid : IsTrue (valid_model model)) (left : AreLeft model kind (here ∷ rest) so_far.locals) (Stays : Stepped → Type 0)
    (tested : (test : Expr) (then_ : Bool → StepState → Stepped) → ((holds : Bool) (flags : List Bool) → Stays (then_ holds (with_flags so_far flags))) →
    Stays (after_test so_far (valued so_far test) then_))
    (goes : (list : List Placed) (flags : List Bool) → AreLeft model kind list so_far.locals → Stays (go list (with_flags so_far flags)))
    (simple : (x : Stmt-F Stmt) → out-Stmt here.what ≡ x → Stays (after (act kind here.at x so_far) (go rest))) where
  pub performed_by : (x : Stmt-F Stmt) → out-Stmt here.what ≡ x → Stays (perform kind here rest x so_far go)
  performed_by (Stmt-F.If test block other) e =
      tested test _ (λ holds flags.
      goes ((if holds then placed (here.at + 1) block else placed (here.at + 2 + block_size block) other) ++ rest) flags
      (choice_runs_on model kind here rest so_far.locals test block other holds valid left e))
  performed_by (Stmt-F.While test block) e =
      tested test _ (λ holds flags.
      goes (if holds then placed (here.at + 1) block ++ here ∷ rest else rest) flags
      (loop_runs_on model kind here rest so_far.locals test block holds valid left e))
  performed_by (Stmt-F.Let slot value) e = simple (Stmt-F.Let slot value) e
  performed_by (Stmt-F.Assign slot value) e = simple (Stmt-F.Assign slot value) e
  performed_by (Stmt-F.Emit cell what) e = simple (Stmt-F.Emit cell what) e
  performed_by (Stmt-F.Delay by) e = simple (Stmt-F.Delay by) e
  performed_by (Stmt-F.WaitUntil condition) e = simple (Stmt-F.WaitUntil condition) e
  performed_by (Stmt-F.Spawn child arguments) e = simple (Stmt-F.Spawn child arguments) e
  performed_by (Stmt-F.Call child arguments into) e = simple (Stmt-F.Call child arguments into) e
  performed_by (Stmt-F.Return value) e = simple (Stmt-F.Return value) e
