use Rattle.task_step.proofs.FlagWords.{no_flags}
use Rattle.task_step.proofs.read_flags.ReadFlags.none.Goals as goal

pub returns : goal.returns
returns c = no_flags c.args.cells
