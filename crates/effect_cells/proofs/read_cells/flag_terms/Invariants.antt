use Rattle.std.proofs.Common.{◌≡◌, drop}
use Rattle.effect_cells.specs.ReadCells.{reads_terms}
use Rattle.effect_cells.specs.Touched.{flagged_from}
use Rattle.effect_cells.proofs.read_cells.flag_terms.Given as goal

-- with the terms that are left, the flags come to what the form makes of them
abbrev pub invariant-loop-term : goal.invariant-loop-term
invariant-loop-term l = flagged_from (reads_terms (drop l.term-index l.term-items)) 0 l.flags ≡ flagged_from (reads_terms l.form.terms) 0 l.initial.flags
