use Rattle.run_data.proofs.Typing.{states_begin, next_is_typed, runs_on, choice_runs_on, loop_runs_on, step_ends_well}
use Rattle.run_data.proofs.laws.steps.statements_are_typed.Goals as goal

pub returns : goal.returns
returns c = record {
  begins = states_begin;
  typed = next_is_typed;
  onward = runs_on;
  choice = choice_runs_on;
  repeats = loop_runs_on;
  stopped = step_ends_well;
}
