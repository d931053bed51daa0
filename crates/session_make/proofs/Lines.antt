-- The lines of one more directive.
use Rattle.std.proofs.Common.{◌≡◌, ℕ, ◌+◌, ◌++◌, append_assoc}
use native.Mathlib.Numerals.{unary_clauses}
use Rattle.session_make.specs.Sessions.{head, directive, directives}

pub one_more : (spacing position : ℕ) → (head ++ directives spacing position) ++ directive spacing position ≡ head ++ directives spacing (position + 1)
one_more spacing position = simp unary_clauses (append_assoc head (directives spacing position) (directive spacing position))
