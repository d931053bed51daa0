-- So far the head and the lines of the directives before this position are written.
use Rattle.std.proofs.Common.{◌≡◌, ◌++◌, string_bytes}
use Rattle.session_make.specs.Sessions.{head, directives}
use Rattle.session_make.proofs.making.make.Given as goal

abbrev pub invariant-loop-position : goal.invariant-loop-position
invariant-loop-position l =
    (string_bytes l.text ≡ head ++ directives l.spacing l.position)
