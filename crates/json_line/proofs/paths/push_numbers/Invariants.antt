-- What is written, with the numbers that are left, makes the whole.
use Rattle.std.proofs.Common.{◌≡◌, ◌++◌, drop}
use Rattle.std.specs.Prelude.{string_bytes}
use Rattle.json_line.specs.PathTexts.{numbers_text}
use Rattle.json_line.proofs.paths.push_numbers.Given as goal

abbrev pub invariant-loop-number : goal.invariant-loop-number
invariant-loop-number l = string_bytes l.text ++ numbers_text (drop l.number-index l.numbers) ≡ string_bytes l.fn.text ++ numbers_text l.numbers
