use Rattle.std.proofs.Common.{◌≡◌, take}
use Rattle.commands.proofs.arguments.copy_arguments.Given as goal

-- so many copies were made as arguments were passed, each equal
abbrev pub invariant-loop-argument : goal.invariant-loop-argument
invariant-loop-argument l = l.copies ≡ take l.argument-index l.arguments
