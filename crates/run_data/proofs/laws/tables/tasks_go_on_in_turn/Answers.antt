use Rattle.run_data.proofs.GoingOn.{go_on_in_turn, all_gone_on}
use Rattle.run_data.specs.laws.QuietTasks.{others_stay, quiet_after, none_goes_on, go_on_once}
use Rattle.run_data.proofs.laws.tables.tasks_go_on_in_turn.Goals as goal

pub returns : goal.returns
returns c = record {
  in_turn = go_on_in_turn;
  all = all_gone_on;
  others = others_stay;
  quiet = quiet_after;
  none = none_goes_on;
  once = go_on_once;
}
