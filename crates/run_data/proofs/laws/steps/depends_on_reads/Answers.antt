use Rattle.run_data.proofs.MadeReads.{reads_agree}
use Rattle.run_data.proofs.Reading.{step_depends, frame_depends}
use Rattle.run_data.proofs.laws.steps.depends_on_reads.Goals as goal

pub returns : goal.returns
returns c = record { step = step_depends; frame = frame_depends; view = reads_agree }
