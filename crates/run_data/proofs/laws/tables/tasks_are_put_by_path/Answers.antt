use Rattle.run_data.specs.TableLaws.{put_is_there, later_put_stands, puts_exchange, put_then_changed}
use Rattle.run_data.proofs.laws.tables.tasks_are_put_by_path.Goals as goal

pub returns : goal.returns
returns c = record { there = put_is_there; later = later_put_stands; exchange = puts_exchange; changed = put_then_changed }
