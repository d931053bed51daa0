-- What is read of statements and blocks is within the limits of a body.
use Rattle.std.proofs.Common.{◌≡◌, ℕ, zero, suc, ◌+◌, ◌-◌, ◌<◌, ◌≤◌, ◌==◌, max, false, List, [], ◌∷◌, ◌++◌, None, refl, ap, arith}
use Rattle.aerie_base.specs.declared.places.Place.{Place}
use Rattle.aerie_base.specs.models.Limits.{depth_limit, statement_limit}
use Rattle.aerie_text.specs.declared.sorts.Sort.TheVariants as sort
use Rattle.readers.specs.Marks.{Mark}
use Rattle.readers.specs.Parsed.{next_is, next_is_one_of, next_fits}
use Rattle.model_reader.specs.declared.raw.expressions.RawExpr.{RawExpr}
use Rattle.model_reader.specs.declared.raw.invokes.RawInvoke.{RawInvoke}
use Rattle.model_reader.specs.declared.raw.names.RawName.{RawName}
use Rattle.model_reader.specs.declared.raw.statements.RawStmt.{RawStmt}
use Rattle.model_reader.specs.declared.raw.statements.RawStmtKind.{RawStmtKind, If, While}
use Rattle.model_reader.specs.declared.raw.statements.RawStmtKind.TheBlock.{hidden-the_row-RawStmt-0, shape-the_row-RawStmt-0}
use denote.Hole.Carrier.{hidden}
use Rattle.model_reader.specs.declared.reading.body.Body.{Body}
use Rattle.model_reader.specs.declared.reading.assignment_operator.AssignmentOperator.{AssignmentOperator}
use Rattle.model_reader.specs.declared.reading.assignment_operator.AssignmentOperator.TheVariants as change
use Rattle.model_reader.specs.declared.reading.child_start.ChildStart.{ChildStart}
use Rattle.model_reader.specs.declared.reading.child_start.ChildStart.TheVariants as start
use Rattle.model_reader.specs.Limits.{CountNumbers, IsLimitedExpr, AreLimitedArguments, IsLimitedValue, raw_count, row_count, raw_nesting, row_nesting, HasLimitedExprs, RowLimited, stmts_count, stmts_nesting, AreLimitedStmts, IsLimitedBody}
use Rattle.model_reader.specs.reading.Expressions.{begins_expr}
use Rattle.model_reader.specs.reading.Statements.{argument_at, invoke_at, stmt, let_call_at, let_expr_at, let_value_at, let_at, part_change_word_at, part_change_at, change_sign_at, statement_of, change_at, delay_at, wait_at, start_word_at, started, start_at, some_expr_at, optional_expr_at, return_at, Blocks, opened_block_at, block_at, else_block_at, else_at, with_stmt, choice_at, if_at, while_at, simple_at, simple_iteration_at, stmt_at, stmt_iteration_at, begins_stmt, stmts_by, inner_blocks, body_at}
use Rattle.model_reader.proofs.Limited.Keeping.{Nothing, Keeps, gives, fails, and_then, weakened, one_of_two, unless_over, take_keeps, one_of_keeps, repeated_keeps}
use Rattle.model_reader.proofs.Limited.Lists.{all_behind, parenthesized_keeps}
use Rattle.model_reader.proofs.Limited.Literals.{raw_name_keeps, one_standing_for_keeps}
use Rattle.model_reader.proofs.Limited.Expressions.{expr_keeps}

-- ---- activities with arguments

argument_keeps : (marks : List Mark) → CountNumbers marks → Keeps (λ argument. IsLimitedExpr argument.1) (argument_at marks)
unfolding argument_at
argument_keeps marks count =
    and_then _ (raw_name_keeps marks count) (λ name rest unit left. and_then _ (take_keeps sort.Assign rest left)
    (λ equals behind unit_ from. and_then _ (expr_keeps behind from) (λ value last is after. gives is after)))

invoke_keeps : (marks : List Mark) → CountNumbers marks → Keeps (λ invoke. AreLimitedArguments invoke.arguments) (invoke_at marks)
unfolding invoke_at
invoke_keeps marks count =
    and_then _ (raw_name_keeps marks count) (λ name rest unit left. and_then _ (parenthesized_keeps argument_keeps sort.Name None rest left) (λ arguments behind are from. gives are.all from))

-- ---- statements without blocks

-- one statement, whose expressions are within the limits
record IsPlain (what : RawStmtKind) : Type 0 where
  count : raw_count what ≡ 1
  nesting : raw_nesting what ≡ 0
  exprs : HasLimitedExprs what

abbrev IsPlainStmt : RawStmt → Type 0
IsPlainStmt stmt = IsPlain stmt.what

let_call_keeps : (name : RawName) (marks : List Mark) → CountNumbers marks → Keeps IsPlain (let_call_at name marks)
unfolding let_call_at
let_call_keeps name marks count =
    and_then _ (take_keeps sort.Call marks count) (λ word rest unit left. and_then _ (invoke_keeps rest left)
    (λ call behind are from. gives (record { count = refl; nesting = refl; exprs = are }) from))

let_expr_keeps : (name : RawName) (marks : List Mark) → CountNumbers marks → Keeps IsPlain (let_expr_at name marks)
unfolding let_expr_at
let_expr_keeps name marks count = and_then _ (expr_keeps marks count) (λ value rest is left. gives (record { count = refl; nesting = refl; exprs = is }) left)

let_value_keeps : (name : RawName) (marks : List Mark) → CountNumbers marks → Keeps IsPlain (let_value_at name marks)
unfolding let_value_at
let_value_keeps name marks count = one_of_two (next_is sort.Call marks) _ _ (let_call_keeps name marks count) (let_expr_keeps name marks count)

let_keeps : (marks : List Mark) → CountNumbers marks → Keeps IsPlainStmt (let_at marks)
unfolding let_at
let_keeps marks count =
    and_then _ (take_keeps sort.Let marks count) (λ word rest unit left. and_then _ (raw_name_keeps rest left) (λ name behind unit_ from. and_then _ (take_keeps sort.Assign behind from)
    (λ equals on unit__ further. and_then _ (let_value_keeps name on further) (λ value last is after. and_then _ (take_keeps sort.Semicolon last after) (λ end over unit___ finally. gives is finally)))))

part_change_word_keeps : (marks : List Mark) → CountNumbers marks → Keeps Nothing (part_change_word_at marks)
unfolding part_change_word_at
part_change_word_keeps marks count = one_standing_for_keeps _ marks count

part_change_keeps : (marks : List Mark) → CountNumbers marks → Keeps Nothing (part_change_at marks)
unfolding part_change_at
part_change_keeps marks count =
    and_then _ (take_keeps sort.Dot marks count) (λ dot rest unit left. and_then _ (part_change_word_keeps rest left)
    (λ how behind unit_ from. and_then _ (take_keeps sort.PlusAssign behind from) (λ sign last unit__ after. gives tt after)))

change_sign_keeps : (marks : List Mark) → CountNumbers marks → Keeps Nothing (change_sign_at marks)
unfolding change_sign_at
change_sign_keeps marks count =
    one_of_two (next_is_one_of (sort.Assign ∷ sort.PlusAssign ∷ sort.ColonAssign ∷ []) marks) _ _ (one_standing_for_keeps _ marks count) (part_change_keeps marks count)

change_is_plain : (how : AssignmentOperator) (name : RawName) (value : RawExpr) → IsLimitedExpr value → IsPlain (statement_of how name value)
change_is_plain change.Assign name value is = record { count = refl; nesting = refl; exprs = is }
change_is_plain change.Add name value is = record { count = refl; nesting = refl; exprs = is }
change_is_plain change.Put name value is = record { count = refl; nesting = refl; exprs = is }
change_is_plain change.AddVolume name value is = record { count = refl; nesting = refl; exprs = is }
change_is_plain change.AddRate name value is = record { count = refl; nesting = refl; exprs = is }

change_keeps : (marks : List Mark) → CountNumbers marks → Keeps IsPlainStmt (change_at marks)
unfolding change_at
change_keeps marks count =
    and_then _ (raw_name_keeps marks count) (λ name rest unit left. and_then _ (change_sign_keeps rest left) (λ how behind unit_ from. and_then _ (expr_keeps behind from)
    (λ value last is after. and_then _ (take_keeps sort.Semicolon last after) (λ end over unit__ finally. gives (change_is_plain how name value is) finally))))

delay_keeps : (marks : List Mark) → CountNumbers marks → Keeps IsPlainStmt (delay_at marks)
unfolding delay_at
delay_keeps marks count =
    and_then _ (take_keeps sort.Delay marks count) (λ word rest unit left. and_then _ (expr_keeps rest left)
    (λ by behind is from. and_then _ (take_keeps sort.Semicolon behind from) (λ end last unit_ after. gives (record { count = refl; nesting = refl; exprs = is }) after)))

wait_keeps : (marks : List Mark) → CountNumbers marks → Keeps IsPlainStmt (wait_at marks)
unfolding wait_at
wait_keeps marks count =
    and_then _ (take_keeps sort.Wait marks count) (λ word rest unit left. and_then _ (take_keeps sort.Until rest left) (λ until behind unit_ from. and_then _ (expr_keeps behind from)
    (λ condition last is after. and_then _ (take_keeps sort.Semicolon last after) (λ end over unit__ finally. gives (record { count = refl; nesting = refl; exprs = is }) finally))))

start_word_keeps : (marks : List Mark) → CountNumbers marks → Keeps Nothing (start_word_at marks)
unfolding start_word_at
start_word_keeps marks count = one_of_keeps ((sort.Spawn, start.Spawn) ∷ (sort.Call, start.Call) ∷ []) marks count

started_is_plain : (how : ChildStart) (child : RawInvoke) → AreLimitedArguments child.arguments → IsPlain (started how child)
started_is_plain start.Spawn child are = record { count = refl; nesting = refl; exprs = are }
started_is_plain start.Call child are = record { count = refl; nesting = refl; exprs = are }

start_keeps : (marks : List Mark) → CountNumbers marks → Keeps IsPlainStmt (start_at marks)
unfolding start_at
start_keeps marks count =
    and_then _ (start_word_keeps marks count) (λ word rest unit left. and_then _ (invoke_keeps rest left)
    (λ child behind are from. and_then _ (take_keeps sort.Semicolon behind from) (λ end last unit_ after. gives (started_is_plain _ child are) after)))

some_expr_keeps : (marks : List Mark) → CountNumbers marks → Keeps IsLimitedValue (some_expr_at marks)
unfolding some_expr_at
some_expr_keeps marks count = and_then _ (expr_keeps marks count) (λ value rest is left. gives is left)

optional_expr_keeps : (marks : List Mark) → CountNumbers marks → Keeps IsLimitedValue (optional_expr_at marks)
unfolding optional_expr_at
optional_expr_keeps marks count = one_of_two (next_fits begins_expr marks) _ _ (some_expr_keeps marks count) (gives tt count)

return_keeps : (marks : List Mark) → CountNumbers marks → Keeps IsPlainStmt (return_at marks)
unfolding return_at
return_keeps marks count =
    and_then _ (take_keeps sort.Return marks count) (λ word rest unit left. and_then _ (optional_expr_keeps rest left)
    (λ value behind is from. and_then _ (take_keeps sort.Semicolon behind from) (λ end last unit_ after. gives (record { count = refl; nesting = refl; exprs = is }) after)))

simple_keeps : (marks : List Mark) → CountNumbers marks → Keeps IsPlainStmt (simple_at marks)
unfolding simple_at
simple_keeps marks count =
    one_of_two (next_is sort.Let marks) _ _ (let_keeps marks count)
    (one_of_two (next_is sort.Name marks) _ _ (change_keeps marks count)
    (one_of_two (next_is sort.Delay marks) _ _ (delay_keeps marks count)
    (one_of_two (next_is sort.Wait marks) _ _ (wait_keeps marks count)
    (one_of_two (next_is_one_of (sort.Spawn ∷ sort.Call ∷ []) marks) _ _ (start_keeps marks count) (return_keeps marks count)))))

-- ---- blocks

row_count_is : (block : List RawStmt) → row_count (hidden-the_row-RawStmt-0 block) ≡ stmts_count block
unfolding hidden-the_row-RawStmt-0 shape-the_row-RawStmt-0 hidden
row_count_is [] = refl
row_count_is (stmt ∷ rest) = ap (λ (n : ℕ). raw_count stmt.what + n) (row_count_is rest)

row_nesting_is : (block : List RawStmt) → row_nesting (hidden-the_row-RawStmt-0 block) ≡ stmts_nesting block
unfolding hidden-the_row-RawStmt-0 shape-the_row-RawStmt-0 hidden
row_nesting_is [] = refl
row_nesting_is (stmt ∷ rest) = ap (λ (n : ℕ). max (raw_nesting stmt.what) n) (row_nesting_is rest)

row_limited : (block : List RawStmt) → AreLimitedStmts block → RowLimited (hidden-the_row-RawStmt-0 block)
unfolding hidden-the_row-RawStmt-0 shape-the_row-RawStmt-0 hidden
row_limited [] are = tt
row_limited (stmt ∷ rest) are = (are.0, row_limited rest are.1)

pub count_If : (test : RawExpr) (block other : List RawStmt) → raw_count (If test block other) ≡ 1 + (stmts_count block + stmts_count other)
count_If test block other = λ i. 1 + (row_count_is block i + row_count_is other i)

pub count_While : (test : RawExpr) (body : List RawStmt) → raw_count (While test body) ≡ 1 + stmts_count body
count_While test body = λ i. 1 + row_count_is body i

pub nesting_If : (test : RawExpr) (block other : List RawStmt) → raw_nesting (If test block other) ≡ 1 + max (stmts_nesting block) (stmts_nesting other)
nesting_If test block other = λ i. 1 + max (row_nesting_is block i) (row_nesting_is other i)

pub nesting_While : (test : RawExpr) (body : List RawStmt) → raw_nesting (While test body) ≡ 1 + stmts_nesting body
nesting_While test body = λ i. 1 + row_nesting_is body i

limited_If : (test : RawExpr) (block other : List RawStmt) → IsLimitedExpr test → AreLimitedStmts block → AreLimitedStmts other → HasLimitedExprs (If test block other)
limited_If test block other is are also = (is, row_limited block are, row_limited other also)

limited_While : (test : RawExpr) (body : List RawStmt) → IsLimitedExpr test → AreLimitedStmts body → HasLimitedExprs (While test body)
limited_While test body is are = (is, row_limited body are)

count_behind : (stmts : List RawStmt) (last : RawStmt) → stmts_count (stmts ++ last ∷ []) ≡ stmts_count stmts + raw_count last.what
count_behind [] last = omega arith
count_behind (stmt ∷ stmts) last = omega (arith, count_behind stmts last)

nesting_behind : (stmts : List RawStmt) (last : RawStmt) → stmts_nesting (stmts ++ last ∷ []) ≡ max (stmts_nesting stmts) (raw_nesting last.what)
nesting_behind [] last = omega arith
nesting_behind (stmt ∷ stmts) last = omega (arith, nesting_behind stmts last)

-- The statements so far, where the body might have so many before them: as many as they are it may have less. Blocks stand
-- in them so deep at most.
pub record IsKept (room before : ℕ) (body : Body) : Type 0 where
  pub count : stmts_count body.stmts + body.spare ≤ before
  pub nesting : stmts_nesting body.stmts ≤ room
  pub exprs : AreLimitedStmts body.stmts

abbrev IsKeptBelow : ℕ → ℕ → Body → Type 0
IsKeptBelow room before body = IsKept room before body × (stmts_nesting body.stmts < room)

none_kept : (room before : ℕ) → IsKept room before (record { stmts = []; spare = before })
none_kept room before = record { count = omega arith; nesting = omega arith; exprs = tt }

one_more_kept : (room before spare : ℕ) (body : Body) (last : RawStmt) → IsKept room before body → raw_count last.what + spare ≤ body.spare → raw_nesting last.what ≤ room → HasLimitedExprs last.what
    → IsKept room before (with_stmt body spare last)
one_more_kept room before spare body last kept less shallow exprs = record {
  count = omega (arith, kept.count, less, count_behind body.stmts last);
  nesting = omega (arith, kept.nesting, shallow, nesting_behind body.stmts last);
  exprs = all_behind (λ stmt. HasLimitedExprs stmt.what) body.stmts last kept.exprs exprs;
}

some_spare : (spare : ℕ) → (spare == 0) ≡ false → 1 ≤ spare
some_spare zero e = cc
some_spare (suc spare) e = omega arith

plain_kept : (room before : ℕ) (body : Body) (last : RawStmt) → 1 ≤ body.spare → IsKept room before body → IsPlainStmt last → IsKept room before (with_stmt body (body.spare - 1) last)
plain_kept room before body last some kept is = one_more_kept room before (body.spare - 1) body last kept (omega (arith, is.count, some)) (omega (arith, is.nesting)) is.exprs

simple_iteration_keeps : (room before : ℕ) (body : Body) (marks : List Mark) → (body.spare == 0) ≡ false → IsKept room before body → CountNumbers marks → Keeps (IsKept room before) (simple_iteration_at body marks)
unfolding simple_iteration_at
simple_iteration_keeps room before body marks free kept count =
    and_then _ (simple_keeps marks count) (λ last rest is left. gives (plain_kept room before body last (some_spare body.spare free) kept is) left)

-- the readers of blocks keep within the limits, with blocks in them a level less deep than the room
abbrev KeepBlocks : ℕ → Blocks → Type 0
KeepBlocks room blocks = (spare : ℕ) (marks : List Mark) → CountNumbers marks → Keeps (IsKeptBelow room spare) (blocks spare marks)

module _ (room : ℕ) (blocks : Blocks) (law : KeepBlocks room blocks) where
  opened_block_keeps : (spare : ℕ) (marks : List Mark) → CountNumbers marks → Keeps (IsKeptBelow room spare) (opened_block_at blocks spare marks)
  unfolding opened_block_at
  opened_block_keeps spare marks count =
      and_then _ (take_keeps sort.OpenBrace marks count) (λ brace rest unit left. and_then _ (law spare rest left)
      (λ inner behind is from. and_then _ (take_keeps sort.CloseBrace behind from) (λ close last unit_ after. gives is after)))

  block_keeps : (spare : ℕ) (marks : List Mark) → CountNumbers marks → Keeps (IsKeptBelow room spare) (block_at room blocks spare marks)
  unfolding block_at
  block_keeps spare marks count = one_of_two (next_is sort.OpenBrace marks) _ _ (unless_over (room == 0) _ _ (λ free. opened_block_keeps spare marks count)) fails

  else_block_keeps : (spare : ℕ) (marks : List Mark) → CountNumbers marks → Keeps (IsKeptBelow room spare) (else_block_at room blocks spare marks)
  unfolding else_block_at
  else_block_keeps spare marks count = and_then _ (take_keeps sort.Else marks count) (λ word rest unit left. block_keeps spare rest left)

  else_keeps : (spare : ℕ) (marks : List Mark) → 0 < room → CountNumbers marks → Keeps (IsKeptBelow room spare) (else_at room blocks spare marks)
  unfolding else_at
  else_keeps spare marks some count = one_of_two (next_is sort.Else marks) _ _ (else_block_keeps spare marks count) (gives (none_kept room spare, some) count)

  choice_kept : (before : ℕ) (at : Place) (test : RawExpr) (body block other : Body) → 1 ≤ body.spare → IsKept room before body → IsLimitedExpr test
      → IsKeptBelow room (body.spare - 1) block → IsKeptBelow room block.spare other → IsKept room before (with_stmt body other.spare (stmt at (If test block.stmts other.stmts)))
  choice_kept before at test body block other some kept is one two =
      let first = one.0 in
      let second = two.0 in
      one_more_kept room before other.spare body (stmt at (If test block.stmts other.stmts)) kept (omega (arith, first.count, second.count, some, count_If test block.stmts other.stmts))
      (omega (arith, one.1, two.1, nesting_If test block.stmts other.stmts)) (limited_If test block.stmts other.stmts is first.exprs second.exprs)

  choice_keeps : (before : ℕ) (at : Place) (test : RawExpr) (body : Body) (marks : List Mark) → 1 ≤ body.spare → IsKept room before body → IsLimitedExpr test → CountNumbers marks
      → Keeps (IsKept room before) (choice_at room blocks at test body marks)
  unfolding choice_at
  choice_keeps before at test body marks some kept is count =
      and_then _ (block_keeps (body.spare - 1) marks count) (λ block rest one left. and_then _ (else_keeps block.spare rest (omega (arith, one.1)) left)
      (λ other behind two from. gives (choice_kept before at test body block other some kept is one two) from))

  if_keeps : (before : ℕ) (body : Body) (marks : List Mark) → 1 ≤ body.spare → IsKept room before body → CountNumbers marks → Keeps (IsKept room before) (if_at room blocks body marks)
  unfolding if_at
  if_keeps before body marks some kept count =
      and_then _ (take_keeps sort.If marks count) (λ word rest unit left. and_then _ (expr_keeps rest left) (λ test behind is from. choice_keeps before word test body behind some kept is from))

  while_kept : (before : ℕ) (at : Place) (test : RawExpr) (body inner : Body) → 1 ≤ body.spare → IsKept room before body → IsLimitedExpr test
      → IsKeptBelow room (body.spare - 1) inner → IsKept room before (with_stmt body inner.spare (stmt at (While test inner.stmts)))
  while_kept before at test body inner some kept is one =
      let first = one.0 in
      one_more_kept room before inner.spare body (stmt at (While test inner.stmts)) kept (omega (arith, first.count, some, count_While test inner.stmts))
      (omega (arith, one.1, nesting_While test inner.stmts)) (limited_While test inner.stmts is first.exprs)

  while_keeps : (before : ℕ) (body : Body) (marks : List Mark) → 1 ≤ body.spare → IsKept room before body → CountNumbers marks → Keeps (IsKept room before) (while_at room blocks body marks)
  unfolding while_at
  while_keeps before body marks some kept count =
      and_then _ (take_keeps sort.While marks count) (λ word rest unit left. and_then _ (expr_keeps rest left) (λ test behind is from. and_then _ (block_keeps (body.spare - 1) behind from)
      (λ inner last one after. gives (while_kept before word test body inner some kept is one) after)))

  -- ---- statements

  stmt_keeps : (before : ℕ) (body : Body) (marks : List Mark) → (body.spare == 0) ≡ false → IsKept room before body → CountNumbers marks → Keeps (IsKept room before) (stmt_at room blocks body marks)
  unfolding stmt_at
  stmt_keeps before body marks free kept count =
      one_of_two (next_is sort.If marks) _ _ (if_keeps before body marks (some_spare body.spare free) kept count)
      (one_of_two (next_is sort.While marks) _ _ (while_keeps before body marks (some_spare body.spare free) kept count) (simple_iteration_keeps room before body marks free kept count))

  stmt_iteration_keeps : (before : ℕ) (body : Body) (marks : List Mark) → IsKept room before body → CountNumbers marks → Keeps (IsKept room before) (stmt_iteration_at room blocks body marks)
  unfolding stmt_iteration_at
  stmt_iteration_keeps before body marks kept count = unless_over (body.spare == 0) _ _ (λ free. stmt_keeps before body marks free kept count)

  stmts_by_keep : (spare : ℕ) (marks : List Mark) → CountNumbers marks → Keeps (IsKept room spare) (stmts_by room blocks spare marks)
  unfolding stmts_by
  stmts_by_keep spare marks count = repeated_keeps begins_stmt (stmt_iteration_at room blocks) (stmt_iteration_keeps spare) (record { stmts = []; spare = spare }) marks (none_kept room spare) count

kept_below : (room before : ℕ) (body : Body) → IsKept room before body → IsKeptBelow (suc room) before body
kept_below room before body kept = (record { count = kept.count; nesting = omega (arith, kept.nesting); exprs = kept.exprs }, omega (arith, kept.nesting))

inner_blocks_keep : (room : ℕ) → KeepBlocks room (inner_blocks room)
inner_blocks_keep zero spare marks count = fails
inner_blocks_keep (suc room) spare marks count = weakened (kept_below room spare) (stmts_by_keep room (inner_blocks room) (inner_blocks_keep room) spare marks count)

body_limited : (body : Body) → IsKept depth_limit statement_limit body → IsLimitedBody body.stmts
body_limited body kept = (omega (arith, kept.count), kept.nesting, kept.exprs)

-- a body is within the limits
pub body_keeps : (marks : List Mark) → CountNumbers marks → Keeps IsLimitedBody (body_at marks)
unfolding body_at
body_keeps marks count =
    and_then _ (stmts_by_keep depth_limit (inner_blocks depth_limit) (inner_blocks_keep depth_limit) statement_limit marks count) (λ body rest kept left. gives (body_limited body kept) left)
