use Rattle.resimulate.proofs.Likenesses.{notes_more}
use Rattle.resimulate.proofs.alike.differing_roots.Goals as goal

pub returns-clause-here : goal.returns-clause-here
returns-clause-here c =
    notes_more c.args.traces.now.entries c.args.others.now.entries c.note_differing.new.roots.keys c.note_differing-2.new.roots.keys c.in_ok-note_differing-2.ensures.kept c.in_ok-note_differing.ensures.noted

pub returns-clause-there : goal.returns-clause-there
returns-clause-there c = c.in_ok-note_differing-2.ensures.noted
