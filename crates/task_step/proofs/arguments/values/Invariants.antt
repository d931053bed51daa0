use Rattle.std.proofs.Common.{◌≡◌, drop, IsTrue}
use Rattle.run_data.specs.StepStates.{with_flags}
use Rattle.run_data.specs.Steps.{valued_all}
use Rattle.task_step.specs.Doable.{have_types}
use Rattle.task_step.specs.Moves.{with_front}
use Rattle.task_step.proofs.arguments.values.Given as goal

abbrev pub invariant-loop-expr : goal.invariant-loop-expr
invariant-loop-expr l = record {
  same : l.so_far ≡ with_flags l.initial.so_far l.so_far.read_flags;
  typed : IsTrue (have_types l.so_far (drop l.expr-index l.exprs));
  rest : valued_all l.exprs l.initial.so_far ≡ with_front l.values (valued_all (drop l.expr-index l.exprs) l.so_far);
}
