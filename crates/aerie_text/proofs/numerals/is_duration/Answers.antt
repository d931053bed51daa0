-- It is one where a duration is read.
use Rattle.std.proofs.Common.{ap, ◌∙◌}
use Rattle.std.specs.Prelude.{is_some}
use Rattle.aerie_base.specs.Durations.{duration_of}
use Rattle.aerie_text.proofs.numerals.is_duration.Goals as goal

pub returns : goal.returns
returns c = c.is_some.ensures ∙ ap is_some (c.read_duration.ensures ∙ ap duration_of c.ascii_text.ensures)
