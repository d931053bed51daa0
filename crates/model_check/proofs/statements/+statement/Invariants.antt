use Rattle.std.proofs.Common.{◌≡◌, ◌++◌, drop}
use Rattle.model_check.specs.Diagnostics.{noted}
use Rattle.model_check.specs.StatementScopes.{scope_behind_all}
use Rattle.model_check.specs.Statements.{block_of, block_diagnostics}
use Rattle.model_check.proofs.statements.+statement.Given as goal

-- what was made, noted and left so far goes on to the whole over the statements that are left
abbrev pub invariant-block-loop-stmt : goal.invariant-block-loop-stmt
invariant-block-loop-stmt l =
    (scope_behind_all l.symbols (drop l.stmt-index l.stmt-items) l.scope ≡ scope_behind_all l.symbols l.stmt-items l.initial.scope)
    × (l.made ++ block_of l.symbols (drop l.stmt-index l.stmt-items) l.scope ≡ block_of l.symbols l.stmt-items l.initial.scope)
    × (noted l.found (block_diagnostics l.symbols l.returns (drop l.stmt-index l.stmt-items) l.scope) ≡ noted l.initial.found (block_diagnostics l.symbols l.returns l.stmt-items l.initial.scope))
