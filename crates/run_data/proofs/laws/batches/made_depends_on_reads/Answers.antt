use Rattle.run_data.proofs.MadeReads.{made_depends, ready_in_view}
use Rattle.run_data.proofs.laws.batches.made_depends_on_reads.Goals as goal

pub returns : goal.returns
returns c = record { made = made_depends; ready = ready_in_view }
