use Rattle.session_run.proofs.Capped.{noted}
use Rattle.session_run.proofs.summary.Summary.note.Goals as goal

pub returns : goal.returns
returns c = λ answers was. rw (
  c.saturating_add.ensures,
  c.saturating_add-2.ensures,
  c.saturating_add-3.ensures,
  c.saturating_add-4.ensures,
  c.saturating_add-5.ensures,
  c.saturating_add-6.ensures,
  c.saturating_add-7.ensures,
) (noted answers c.args.answer.now c.args.self.now c.in_ok-one.one was c.in_ok-one.ensures)
