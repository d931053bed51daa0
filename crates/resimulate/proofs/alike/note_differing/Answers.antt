use Rattle.std.proofs.Common.{arith}
use Rattle.resimulate.specs.Likeness.{NotesAt}
use Rattle.resimulate.proofs.Likenesses.{each_next, notes_still, notes_all}
use Rattle.resimulate.proofs.alike.note_differing.Goals as goal

pub loop-at-init : goal.loop-at-init
loop-at-init c = record { noted = λ k less. absurd (omega (arith, less)); kept = λ number h. h }

pub loop-at-preserved : goal.loop-at-preserved
loop-at-preserved c = record {
  noted =
      each_next c.loop-at.at (λ k. NotesAt c.args.traces.now.entries c.args.others.now.entries k c.note_at.new.roots.keys)
      (notes_still c.args.traces.now.entries c.args.others.now.entries c.loop-at.at c.loop-at.roots.keys c.note_at.new.roots.keys c.in_ok-note_at.ensures.kept c.loop-at.invariant.noted) c.in_ok-note_at.ensures.noted;
  kept = λ number h. c.in_ok-note_at.ensures.kept number (c.loop-at.invariant.kept number h);
}

pub returns-clause-noted : goal.returns-clause-noted
returns-clause-noted c =
    notes_all c.args.traces.now.entries c.args.others.now.entries c.loop-at.roots.keys c.loop-at.at (let past = c.loop-at-test.false in let many = c.len-at-end.ensures in omega (arith, past, many)) c.loop-at.invariant.noted

pub returns-clause-kept : goal.returns-clause-kept
returns-clause-kept c = c.loop-at.invariant.kept
