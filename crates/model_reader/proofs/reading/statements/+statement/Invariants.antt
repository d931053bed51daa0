use Rattle.std.proofs.Common.{length, ◌+◌, ◌*◌}
use Rattle.readers.proofs.Going.{Going}
use Rattle.model_reader.specs.reading.Statements.{begins_stmt, inner_blocks, stmt_iteration_at}
use Rattle.model_reader.proofs.reading.statements.+statement.Given as goal

abbrev pub decreases-nested : goal.decreases-nested
decreases-nested l = 10 * l.room + 0

abbrev pub decreases-block : goal.decreases-block
decreases-block l = 10 * l.room + 2

abbrev pub decreases-else_ : goal.decreases-else_
decreases-else_ l = 10 * l.room + 4

abbrev pub decreases-if_ : goal.decreases-if_
decreases-if_ l = 10 * l.room + 6

abbrev pub decreases-while_ : goal.decreases-while_
decreases-while_ l = 10 * l.room + 6

abbrev pub decreases-stmt_iteration : goal.decreases-stmt_iteration
decreases-stmt_iteration l = 10 * l.room + 8

abbrev pub decreases-stmts : goal.decreases-stmts
decreases-stmts l = 10 * l.room + 9

abbrev pub invariant-stmts-loop-alloc : goal.invariant-stmts-loop-alloc
invariant-stmts-loop-alloc l =
    Going begins_stmt (stmt_iteration_at l.room (inner_blocks l.room)) l.initial.body l.initial.reader l.body l.reader

abbrev pub decreases-stmts-loop-alloc : goal.decreases-stmts-loop-alloc
decreases-stmts-loop-alloc l = length l.reader
