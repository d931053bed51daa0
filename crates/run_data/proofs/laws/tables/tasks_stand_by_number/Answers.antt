use Rattle.run_data.specs.NumberLaws.{are_in_order, order_is_distinct, order_is_itself, found_by_number, new_is_not_there, set_by_number, pushed_by_number, changed_by_number, changed_in_turn, set_keeps_distinct, push_keeps_distinct}
use Rattle.run_data.proofs.laws.tables.tasks_stand_by_number.Goals as goal

pub returns : goal.returns
returns c = record {
  order = are_in_order;
  distinct = order_is_distinct;
  itself = order_is_itself;
  found = found_by_number;
  new = new_is_not_there;
  set = set_by_number;
  pushed = pushed_by_number;
  changed = changed_by_number;
  in_turn = changed_in_turn;
  set_distinct = set_keeps_distinct;
  pushed_distinct = push_keeps_distinct;
}
