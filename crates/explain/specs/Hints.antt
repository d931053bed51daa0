-- A change of a text, as it is proposed to who wrote it.
use Rattle.std.specs.Prelude.{ℕ, List, ◌++◌, take, drop}
use Rattle.explain.specs.declared.hint.Hint.{Hint}

-- the text with the change: what stands before it, what is put in, and what stands behind what is taken out
abbrev pub applied : List ℕ → Hint → List ℕ
applied bytes hint = take hint.from bytes ++ hint.put ++ drop hint.to bytes
