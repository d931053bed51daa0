use Rattle.resimulate.specs.Likeness.{KeepsRoots, NotesAt}
use Rattle.resimulate.proofs.Likenesses.{EachBefore}
use Rattle.resimulate.proofs.alike.note_differing.Given as goal

-- those at the indices before are noted
abbrev pub invariant-loop-at : goal.invariant-loop-at
invariant-loop-at l = record {
  noted : EachBefore l.at (λ k. NotesAt l.traces.entries l.others.entries k l.roots.keys);
  kept : KeepsRoots l.initial.roots.keys l.roots.keys;
}
