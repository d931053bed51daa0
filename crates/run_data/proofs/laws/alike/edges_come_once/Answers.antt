use Rattle.run_data.proofs.LateEdges.{edges_stay, late_by_time, late_by_absence}
use Rattle.run_data.proofs.laws.alike.edges_come_once.Goals as goal

pub returns : goal.returns
returns c = record { stays = edges_stay; time = late_by_time; absence = late_by_absence }
