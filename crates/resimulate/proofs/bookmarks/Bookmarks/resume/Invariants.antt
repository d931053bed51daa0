use Rattle.std.proofs.Common.{IfSome, option_map}
use Rattle.resimulate.specs.Bookmarks.{AreOfOld}
use Rattle.resimulate.proofs.bookmarks.Bookmarks.resume.Given as goal

-- what is set apart so far is of the old run
abbrev pub invariant-loop-simulation : goal.invariant-loop-simulation
invariant-loop-simulation l = IfSome l.late (AreOfOld l.model (option_map (λ run. run.now) l.old))
