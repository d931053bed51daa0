-- A refusal that is told by its name alone.
use Rattle.report_text.proofs.lines.write_answer.Goals as goal

pub returns-in-OtherModel : goal.returns-in-OtherModel
returns-in-OtherModel c = rw (c.in-OtherModel.is) c.refuse.ensures
