-- What is made of a body: its statements, and how many locals it has.
use Rattle.std.specs.Prelude.{List}
use Rattle.model_reader.specs.declared.raw.statements.RawStmt.{RawStmt}
use Rattle.model_check.specs.declared.bodies.CheckedBody.{CheckedBody}
use Rattle.model_check.specs.declared.scopes.BodyScope.{BodyScope}
use Rattle.model_check.specs.declared.symbols.Symbols.{Symbols}
use Rattle.model_check.specs.StatementScopes.{scope_behind_all}
use Rattle.model_check.specs.Statements.{block_of}

-- the body that is meant, by the scope in front of it
abbrev pub checked_body : Symbols → List RawStmt → BodyScope → CheckedBody
checked_body symbols block scope =
    record { slots = (scope_behind_all symbols block scope).count; statements = block_of symbols block scope }
