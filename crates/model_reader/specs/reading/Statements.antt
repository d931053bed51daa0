-- Reading statements and blocks, the limits of a body with them: how many statements it has, those of its blocks
-- included, and how many blocks stand inside one another.
use Rattle.std.specs.Prelude.{ℕ, zero, suc, ◌-◌, ◌==◌, Bool, List, [], ◌∷◌, ◌++◌, Option, Some, None}
use Rattle.aerie_base.specs.declared.places.Place.{Place}
use Rattle.aerie_base.specs.models.Limits.{depth_limit, statement_limit}
use Rattle.readers.specs.declared.limits.Limit.TheVariants.{Depth, Statements}
use Rattle.readers.specs.Lists.{parenthesized_at}
use Rattle.readers.specs.Marks.{Mark}
use Rattle.aerie_text.specs.declared.sorts.Sort.TheVariants as sort
use Rattle.readers.specs.Parsed.{Parsed, parsed, failed, ◌>>=◌, next_is, next_fits, next_is_one_of, is_one_of, chosen, limited, repeated, take_at, one_of_at}
use Rattle.model_reader.specs.declared.raw.expressions.RawExpr.{RawExpr}
use Rattle.model_reader.specs.declared.raw.invokes.RawInvoke.{RawInvoke}
use Rattle.model_reader.specs.declared.raw.names.RawName.{RawName}
use Rattle.model_reader.specs.declared.raw.statements.RawStmt.{RawStmt}
use Rattle.model_reader.specs.declared.raw.statements.RawStmtKind.{RawStmtKind, Let, LetCall, Assign, Add, Put, AddVolume, AddRate, Delay, WaitUntil, Spawn, Call, If, While, Return}
use Rattle.model_reader.specs.declared.reading.body.Body.{Body}
use Rattle.model_reader.specs.declared.reading.assignment_operator.AssignmentOperator.{AssignmentOperator}
use Rattle.model_reader.specs.declared.reading.assignment_operator.AssignmentOperator.TheVariants as change
use Rattle.model_reader.specs.declared.reading.child_start.ChildStart.{ChildStart}
use Rattle.model_reader.specs.declared.reading.child_start.ChildStart.TheVariants as start
use Rattle.model_reader.specs.reading.Expressions.{expr_at, begins_expr}
use Rattle.model_reader.specs.reading.Names.{raw_name_at, one_standing_for}

-- ---- activities with arguments

-- NAME "=" expr
unfoldable pub argument_at : List Mark → Parsed (RawName × RawExpr)
argument_at marks = do
  name ← raw_name_at marks
  equals ← take_at sort.Assign name.1
  value ← expr_at equals.1
  parsed (name.0, value.0) value.1

-- invoke = NAME "(" [ NAME "=" expr { "," NAME "=" expr } ] ")"
unfoldable pub invoke_at : List Mark → Parsed RawInvoke
invoke_at marks = do
  name ← raw_name_at marks
  arguments ← parenthesized_at sort.Name None argument_at name.1
  parsed (record { name = name.0; arguments = arguments.0 }) arguments.1

-- ---- statements without blocks

abbrev pub stmt : Place → RawStmtKind → RawStmt
stmt at what = record { at = at; what = what }

-- "call" invoke: the result of a child is the first value of the local of this name
unfoldable pub let_call_at : RawName → List Mark → Parsed RawStmtKind
let_call_at name marks = do
  word ← take_at sort.Call marks
  call ← invoke_at word.1
  parsed (LetCall name call.0) call.1

-- expr: the first value of the local of this name
unfoldable pub let_expr_at : RawName → List Mark → Parsed RawStmtKind
let_expr_at name marks = do
  value ← expr_at marks
  parsed (Let name value.0) value.1

-- "call" invoke | expr
unfoldable pub let_value_at : RawName → List Mark → Parsed RawStmtKind
let_value_at name marks = chosen (next_is sort.Call marks) (let_call_at name) (let_expr_at name) marks

-- "let" NAME "=" ( "call" invoke | expr ) ";"
unfoldable pub let_at : List Mark → Parsed RawStmt
let_at marks = do
  word ← take_at sort.Let marks
  name ← raw_name_at word.1
  equals ← take_at sort.Assign name.1
  value ← let_value_at name.0 equals.1
  end ← take_at sort.Semicolon value.1
  parsed (stmt word.0 value.0) end.1

-- "volume" | "rate"
unfoldable pub part_change_word_at : List Mark → Parsed AssignmentOperator
part_change_word_at marks = one_standing_for ((sort.Volume, change.AddVolume) ∷ (sort.Rate, change.AddRate) ∷ []) marks

-- "." ( "volume" | "rate" ) "+="
unfoldable pub part_change_at : List Mark → Parsed AssignmentOperator
part_change_at marks = do
  dot ← take_at sort.Dot marks
  how ← part_change_word_at dot.1
  sign ← take_at sort.PlusAssign how.1
  parsed how.0 sign.1

-- "=" | "+=" | ":=" | "." ( "volume" | "rate" ) "+="
unfoldable pub change_sign_at : List Mark → Parsed AssignmentOperator
change_sign_at marks =
    chosen (next_is_one_of (sort.Assign ∷ sort.PlusAssign ∷ sort.ColonAssign ∷ []) marks)
    (one_standing_for ((sort.Assign, change.Assign) ∷ (sort.PlusAssign, change.Add) ∷ (sort.ColonAssign, change.Put) ∷ []))
    part_change_at marks

-- what the change of a local or a cell is as a statement
abbrev pub statement_of : AssignmentOperator → RawName → RawExpr → RawStmtKind
statement_of change.Assign name value = Assign name value
statement_of change.Add name value = Add name value
statement_of change.Put name value = Put name value
statement_of change.AddVolume name value = AddVolume name value
statement_of change.AddRate name value = AddRate name value

-- NAME ( "=" | "+=" | ":=" | "." ( "volume" | "rate" ) "+=" ) expr ";"
unfoldable pub change_at : List Mark → Parsed RawStmt
change_at marks = do
  name ← raw_name_at marks
  how ← change_sign_at name.1
  value ← expr_at how.1
  end ← take_at sort.Semicolon value.1
  parsed (stmt name.0.at (statement_of how.0 name.0 value.0)) end.1

-- "delay" expr ";"
unfoldable pub delay_at : List Mark → Parsed RawStmt
delay_at marks = do
  word ← take_at sort.Delay marks
  by ← expr_at word.1
  end ← take_at sort.Semicolon by.1
  parsed (stmt word.0 (Delay by.0)) end.1

-- "wait" "until" expr ";"
unfoldable pub wait_at : List Mark → Parsed RawStmt
wait_at marks = do
  word ← take_at sort.Wait marks
  until ← take_at sort.Until word.1
  condition ← expr_at until.1
  end ← take_at sort.Semicolon condition.1
  parsed (stmt word.0 (WaitUntil condition.0)) end.1

-- "spawn" | "call"
unfoldable pub start_word_at : List Mark → Parsed (Place × ChildStart)
start_word_at marks = one_of_at ((sort.Spawn, start.Spawn) ∷ (sort.Call, start.Call) ∷ []) marks

-- what the start of a child is as a statement
abbrev pub started : ChildStart → RawInvoke → RawStmtKind
started start.Spawn child = Spawn child
started start.Call child = Call child

-- ( "spawn" | "call" ) invoke ";"
unfoldable pub start_at : List Mark → Parsed RawStmt
start_at marks = do
  word ← start_word_at marks
  child ← invoke_at word.1
  end ← take_at sort.Semicolon child.1
  parsed (stmt word.0.0 (started word.0.1 child.0)) end.1

-- expr, where it is given
unfoldable pub some_expr_at : List Mark → Parsed (Option RawExpr)
some_expr_at marks = do
  value ← expr_at marks
  parsed (Some value.0) value.1

-- [ expr ]
unfoldable pub optional_expr_at : List Mark → Parsed (Option RawExpr)
optional_expr_at marks = chosen (next_fits begins_expr marks) some_expr_at (parsed None) marks

-- "return" [ expr ] ";"
unfoldable pub return_at : List Mark → Parsed RawStmt
return_at marks = do
  word ← take_at sort.Return marks
  value ← optional_expr_at word.1
  end ← take_at sort.Semicolon value.1
  parsed (stmt word.0 (Return value.0)) end.1

-- ---- blocks

-- Reads the statements of a block, of which and of whose blocks the body may still have so many.
abbrev pub Blocks : Type 0
Blocks = ℕ → List Mark → Parsed Body

-- "{" { stmt } "}", where the block may be opened
unfoldable pub opened_block_at : Blocks → Blocks
opened_block_at blocks spare marks = do
  brace ← take_at sort.OpenBrace marks
  inner ← blocks spare brace.1
  close ← take_at sort.CloseBrace inner.1
  parsed inner.0 close.1

-- block = "{" { stmt } "}", where so many may still be opened inside one another
unfoldable pub block_at : ℕ → Blocks → Blocks
block_at room blocks spare marks =
    chosen (next_is sort.OpenBrace marks) (limited (room == 0) Depth (opened_block_at blocks spare)) failed marks

-- "else" block
unfoldable pub else_block_at : ℕ → Blocks → Blocks
else_block_at room blocks spare marks = do
  word ← take_at sort.Else marks
  block_at room blocks spare word.1

-- [ "else" block ]
unfoldable pub else_at : ℕ → Blocks → Blocks
else_at room blocks spare marks =
    chosen (next_is sort.Else marks) (else_block_at room blocks spare) (parsed (record { stmts = []; spare = spare })) marks

-- statements of a body, and one more behind them; how many it may still have
abbrev pub with_stmt : Body → ℕ → RawStmt → Body
with_stmt body spare last = record { stmts = body.stmts ++ last ∷ []; spare = spare }

-- block [ "else" block ], behind "if" and its test
unfoldable pub choice_at : ℕ → Blocks → Place → RawExpr → Body → List Mark → Parsed Body
choice_at room blocks at test body marks = do
  yes_block ← block_at room blocks (body.spare - 1) marks
  no_block ← else_at room blocks yes_block.0.spare yes_block.1
  parsed (with_stmt body no_block.0.spare (stmt at (If test yes_block.0.stmts no_block.0.stmts))) no_block.1

-- "if" expr block [ "else" block ]
unfoldable pub if_at : ℕ → Blocks → Body → List Mark → Parsed Body
if_at room blocks body marks = do
  word ← take_at sort.If marks
  test ← expr_at word.1
  choice_at room blocks word.0 test.0 body test.1

-- "while" expr block
unfoldable pub while_at : ℕ → Blocks → Body → List Mark → Parsed Body
while_at room blocks body marks = do
  word ← take_at sort.While marks
  test ← expr_at word.1
  inner ← block_at room blocks (body.spare - 1) test.1
  parsed (with_stmt body inner.0.spare (stmt word.0 (While test.0 inner.0.stmts))) inner.1

-- ---- statements

-- a statement without blocks
unfoldable pub simple_at : List Mark → Parsed RawStmt
simple_at marks =
    chosen (next_is sort.Let marks) let_at
    (chosen (next_is sort.Name marks) change_at
    (chosen (next_is sort.Delay marks) delay_at
    (chosen (next_is sort.Wait marks) wait_at
    (chosen (next_is_one_of (sort.Spawn ∷ sort.Call ∷ []) marks) start_at return_at)))) marks

-- the same, behind the statements of the block so far
unfoldable pub simple_iteration_at : Body → List Mark → Parsed Body
simple_iteration_at body marks = do
  last ← simple_at marks
  parsed (with_stmt body (body.spare - 1) last.0) last.1

-- stmt, behind the statements of the block so far
unfoldable pub stmt_at : ℕ → Blocks → Body → List Mark → Parsed Body
stmt_at room blocks body marks =
    chosen (next_is sort.If marks) (if_at room blocks body)
    (chosen (next_is sort.While marks) (while_at room blocks body) (simple_iteration_at body)) marks

-- the same, where the body may have one more
unfoldable pub stmt_iteration_at : ℕ → Blocks → Body → List Mark → Parsed Body
stmt_iteration_at room blocks body marks = limited (body.spare == 0) Statements (stmt_at room blocks body) marks

-- the mark begins a statement
abbrev pub begins_stmt : Mark → Bool
begins_stmt =
    is_one_of
    (sort.Let ∷ sort.Name ∷ sort.Delay ∷ sort.Wait ∷ sort.Spawn ∷ sort.Call ∷ sort.If ∷ sort.While ∷ sort.Return ∷ [])

-- { stmt }, by the reader of the statements of its blocks
unfoldable pub stmts_by : ℕ → Blocks → Blocks
stmts_by room blocks spare marks = repeated begins_stmt (stmt_iteration_at room blocks) (record { stmts = []; spare = spare }) marks

-- where no block may be opened nothing is read in one
abbrev pub no_blocks : Blocks
no_blocks spare marks = failed marks

-- { stmt } of a block, where it and those in it may be so many inside one another
abbrev pub inner_blocks : ℕ → Blocks
inner_blocks zero = no_blocks
inner_blocks (suc room) = stmts_by room (inner_blocks room)

-- { stmt }, where so many blocks may be opened inside one another, and so many statements may be read
abbrev pub stmts_at : ℕ → Blocks
stmts_at room = stmts_by room (inner_blocks room)

-- { stmt } of a body
unfoldable pub body_at : List Mark → Parsed (List RawStmt)
body_at marks = do
  body ← stmts_at depth_limit statement_limit marks
  parsed body.0.stmts body.1
