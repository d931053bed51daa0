use Rattle.run_data.specs.TableLaws.{order_with, order_each}
use Rattle.run_data.proofs.laws.tables.tables_stay_in_order.Goals as goal

pub returns : goal.returns
returns c = record { put = order_with; changes = order_each }
