-- The branch that a command names first.
use Rattle.std.specs.Prelude.{ℕ, List}
use Rattle.commands.specs.declared.commands.Command.{Command}
use Rattle.commands.specs.declared.commands.Command.TheVariants.{New, Fork, Drop, Edit, Migrate, Show, Simulate, Schedule, Merge, Expand}

-- the branch on which a command begins: the new one, or the one that it is for
abbrev pub branch_of : Command → List ℕ
branch_of (New branch) = branch
branch_of (Fork branch source) = branch
branch_of (Drop branch) = branch
branch_of (Edit branch edit) = branch
branch_of (Migrate branch model) = branch
branch_of (Show branch) = branch
branch_of (Simulate branch) = branch
branch_of (Schedule branch) = branch
branch_of (Merge target source base) = target
branch_of (Expand branch) = branch
