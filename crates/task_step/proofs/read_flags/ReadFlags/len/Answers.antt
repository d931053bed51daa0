use Rattle.std.proofs.Common.{◌∙◌, sym, ap, length}
use Rattle.task_step.proofs.FlagWords.{flags_length}
use Rattle.task_step.proofs.read_flags.ReadFlags.len.Goals as goal

pub returns-clause-length : goal.returns-clause-length
returns-clause-length c = sym (flags_length c.self.inside.cells c.self.inside.words) ∙ ap length c.self.view_is
