-- What is read of statements and blocks conforms to the grammar of models, the limits of a body included: they are passed at
-- the mark that begins a statement or a block.
use Rattle.std.proofs.Common.{◌≡◌, ℕ, zero, suc, true, false, ◌==◌, List, [], ◌∷◌, None, refl}
use Rattle.aerie_base.specs.declared.places.Place.{Place}
use Rattle.aerie_base.specs.models.Limits.{depth_limit, statement_limit}
use Rattle.readers.specs.declared.limits.Limit.TheVariants.{Statements}
use Rattle.readers.specs.Marks.{Mark}
use Rattle.aerie_text.specs.declared.sorts.Sort.TheVariants as sort
use Rattle.readers.specs.grammar.Forms.{rule, both, many, option}
use Rattle.readers.specs.Parsed.{is_of, next_fits}
use Rattle.readers.proofs.Conforming.{Begins, begins_both, begins_rule, begins_here, in_table, and_then, then_value, value, either_conforms, option_conforms, chosen_conforms, repeated_conforms, rule_conforms, limited_conforms, failed_conforms}
use Rattle.readers.proofs.Listing.{parenthesized_conforms}
use Rattle.model_reader.specs.declared.raw.expressions.RawExpr.{RawExpr}
use Rattle.model_reader.specs.declared.raw.names.RawName.{RawName}
use Rattle.model_reader.specs.declared.reading.body.Body.{Body}
use Rattle.model_reader.specs.declared.reading.assignment_operator.AssignmentOperator.TheVariants as change
use Rattle.model_reader.specs.declared.reading.child_start.ChildStart.TheVariants as start
use Rattle.model_reader.specs.grammar.Factored.{look, stmt_first, simple_form, argument_form, let_call_form, let_value_form, let_form, changed_part_form, part_change_form, change_sign_form, change_form, start_word_form, given_else_form, else_form}
use Rattle.model_reader.specs.grammar.Written.{delay_form, wait_form, start_form, if_form, while_form, return_form, block_form}
use Rattle.model_reader.specs.grammar.Rules.{stmt_rule, block_rule, invoke_rule, expr_rule}
use Rattle.model_reader.specs.reading.Statements.{argument_at, invoke_at, let_call_at, let_expr_at, let_value_at, let_at, part_change_word_at, part_change_at, change_sign_at, change_at, delay_at, wait_at, start_word_at, start_at, some_expr_at, optional_expr_at, return_at, Blocks, opened_block_at, block_at, else_block_at, else_at, choice_at, if_at, while_at, simple_at, simple_iteration_at, stmt_at, stmt_iteration_at, begins_stmt, stmts_by, inner_blocks, body_at}
use Rattle.model_reader.proofs.Following.Expressions.{expr_rule_begins, expr_conforms}
use Rattle.model_reader.proofs.Following.Names.{Along, begins_with, take_conforms, raw_name_conforms, begins_with_one_of, word_conforms, one_standing_for_conforms}
use Rattle.model_reader.proofs.Grammar.Predictive.{predictive}

-- ---- activities with arguments

argument_conforms : (marks : List Mark) → Along argument_form marks (argument_at marks)
unfolding argument_at
argument_conforms marks =
    and_then _ (raw_name_conforms marks) (λ name rest. and_then _ (take_conforms sort.Assign rest) (λ equals behind. then_value _ (expr_conforms behind) (λ given left. value)))

invoke_conforms : (marks : List Mark) → Along (rule invoke_rule) marks (invoke_at marks)
unfolding invoke_at
invoke_conforms marks =
    rule_conforms predictive (and_then _ (raw_name_conforms marks) (λ name rest. then_value _
    (parenthesized_conforms predictive sort.Name (λ k. refl) (λ k. refl) (λ k. refl) (begins_both (begins_with sort.Name) refl) refl argument_conforms None rest) (λ arguments behind. value)))

-- ---- statements without blocks

let_call_conforms : (name : RawName) (marks : List Mark) → Along let_call_form marks (let_call_at name marks)
unfolding let_call_at
let_call_conforms name marks = and_then _ (take_conforms sort.Call marks) (λ word rest. then_value _ (invoke_conforms rest) (λ call behind. value))

let_expr_conforms : (name : RawName) (marks : List Mark) → Along (rule expr_rule) marks (let_expr_at name marks)
unfolding let_expr_at
let_expr_conforms name marks = then_value _ (expr_conforms marks) (λ given rest. value)

let_value_conforms : (name : RawName) (marks : List Mark) → Along let_value_form marks (let_value_at name marks)
unfolding let_value_at
let_value_conforms name marks =
    either_conforms _ _ (begins_both (begins_with sort.Call) refl) refl (λ next. let_call_conforms name marks) (λ next. let_expr_conforms name marks)

let_conforms : (marks : List Mark) → Along let_form marks (let_at marks)
unfolding let_at
let_conforms marks =
    and_then _ (take_conforms sort.Let marks) (λ word rest. and_then _ (raw_name_conforms rest) (λ name behind. and_then _ (take_conforms sort.Assign behind)
    (λ equals from. and_then _ (let_value_conforms name from) (λ given left. then_value _ (take_conforms sort.Semicolon left) (λ end last. value)))))

part_change_word_conforms : (marks : List Mark) → Along changed_part_form marks (part_change_word_at marks)
unfolding part_change_word_at
part_change_word_conforms marks = one_standing_for_conforms (sort.Volume, change.AddVolume) ((sort.Rate, change.AddRate) ∷ []) marks

part_change_conforms : (marks : List Mark) → Along part_change_form marks (part_change_at marks)
unfolding part_change_at
part_change_conforms marks =
    and_then _ (take_conforms sort.Dot marks) (λ dot rest. and_then _ (part_change_word_conforms rest) (λ how behind. then_value _ (take_conforms sort.PlusAssign behind) (λ sign left. value)))

change_sign_conforms : (marks : List Mark) → Along change_sign_form marks (change_sign_at marks)
unfolding change_sign_at
change_sign_conforms marks =
    either_conforms _ _ (begins_with_one_of sort.Assign (sort.PlusAssign ∷ sort.ColonAssign ∷ [])) refl
    (λ next. one_standing_for_conforms (sort.Assign, change.Assign) ((sort.PlusAssign, change.Add) ∷ (sort.ColonAssign, change.Put) ∷ []) marks)
    (λ next. part_change_conforms marks)

change_conforms : (marks : List Mark) → Along change_form marks (change_at marks)
unfolding change_at
change_conforms marks =
    and_then _ (raw_name_conforms marks) (λ name rest. and_then _ (change_sign_conforms rest) (λ how behind. and_then _ (expr_conforms behind)
    (λ given left. then_value _ (take_conforms sort.Semicolon left) (λ end last. value))))

delay_conforms : (marks : List Mark) → Along delay_form marks (delay_at marks)
unfolding delay_at
delay_conforms marks =
    and_then _ (take_conforms sort.Delay marks) (λ word rest. and_then _ (expr_conforms rest) (λ by behind. then_value _ (take_conforms sort.Semicolon behind) (λ end left. value)))

wait_conforms : (marks : List Mark) → Along wait_form marks (wait_at marks)
unfolding wait_at
wait_conforms marks =
    and_then _ (take_conforms sort.Wait marks) (λ word rest. and_then _ (take_conforms sort.Until rest) (λ until behind. and_then _ (expr_conforms behind)
    (λ condition left. then_value _ (take_conforms sort.Semicolon left) (λ end last. value))))

start_word_conforms : (marks : List Mark) → Along start_word_form marks (start_word_at marks)
unfolding start_word_at
start_word_conforms marks = word_conforms (sort.Spawn, start.Spawn) ((sort.Call, start.Call) ∷ []) marks

start_conforms : (marks : List Mark) → Along start_form marks (start_at marks)
unfolding start_at
start_conforms marks =
    and_then _ (start_word_conforms marks) (λ word rest. and_then _ (invoke_conforms rest) (λ child behind. then_value _ (take_conforms sort.Semicolon behind) (λ end left. value)))

some_expr_conforms : (marks : List Mark) → Along (rule expr_rule) marks (some_expr_at marks)
unfolding some_expr_at
some_expr_conforms marks = then_value _ (expr_conforms marks) (λ given rest. value)

optional_expr_conforms : (marks : List Mark) → Along (option (rule expr_rule)) marks (optional_expr_at marks)
unfolding optional_expr_at
optional_expr_conforms marks = option_conforms _ _ expr_rule_begins (λ next. some_expr_conforms marks) value

return_conforms : (marks : List Mark) → Along return_form marks (return_at marks)
unfolding return_at
return_conforms marks =
    and_then _ (take_conforms sort.Return marks) (λ word rest. and_then _ (optional_expr_conforms rest) (λ given behind. then_value _ (take_conforms sort.Semicolon behind) (λ end left. value)))

simple_conforms : (marks : List Mark) → Along simple_form marks (simple_at marks)
unfolding simple_at
simple_conforms marks =
    either_conforms _ _ (begins_both (begins_with sort.Let) refl) refl (λ next. let_conforms marks)
    (λ next. either_conforms _ _ (begins_both (begins_with sort.Name) refl) refl (λ next. change_conforms marks)
    (λ next. either_conforms _ _ (begins_both (begins_with sort.Delay) refl) refl (λ next. delay_conforms marks)
    (λ next. either_conforms _ _ (begins_both (begins_with sort.Wait) refl) refl (λ next. wait_conforms marks)
    (λ next. either_conforms _ _ (begins_both (begins_with_one_of sort.Spawn (sort.Call ∷ [])) refl) refl (λ next. start_conforms marks)
    (λ next. return_conforms marks)))))

-- the same behind the others
simple_iteration_conforms : (body : Body) (marks : List Mark) → Along simple_form marks (simple_iteration_at body marks)
unfolding simple_iteration_at
simple_iteration_conforms body marks = then_value _ (simple_conforms marks) (λ last rest. value)

-- ---- with which marks statements and blocks begin

stmt_rule_begins : Begins look begins_stmt (rule stmt_rule)
stmt_rule_begins = begins_rule (in_table stmt_first)

block_begins : Begins look (is_of sort.OpenBrace) block_form
block_begins = begins_both (begins_with sort.OpenBrace) refl

-- ---- blocks

-- the statements of blocks conform to the grammar
abbrev pub ConformBlocks : Blocks → Type 0
ConformBlocks blocks = (spare : ℕ) (marks : List Mark) → Along (many (rule stmt_rule)) marks (blocks spare marks)

-- The readers where so many blocks may be opened inside one another conform to their rules if those of the blocks do. Where
-- no block may be opened those are not asked.
module _ (room : ℕ) (blocks : Blocks) (law : (room == 0) ≡ false → ConformBlocks blocks) where
  opened_block_conforms : (room == 0) ≡ false → (spare : ℕ) (marks : List Mark) → Along block_form marks (opened_block_at blocks spare marks)
  unfolding opened_block_at
  opened_block_conforms free spare marks =
      and_then _ (take_conforms sort.OpenBrace marks) (λ brace rest. and_then _ (law free spare rest) (λ inner behind. then_value _ (take_conforms sort.CloseBrace behind) (λ close left. value)))

  block_conforms : (spare : ℕ) (marks : List Mark) → Along (rule block_rule) marks (block_at room blocks spare marks)
  unfolding block_at
  block_conforms spare marks =
      rule_conforms predictive (chosen_conforms _ _ _ (λ next. limited_conforms _ _ _ predictive (λ past. begins_here marks block_begins next) (λ free. opened_block_conforms free spare marks))
      (λ next. failed_conforms (begins_here marks block_begins next) refl))

  else_block_conforms : (spare : ℕ) (marks : List Mark) → Along given_else_form marks (else_block_at room blocks spare marks)
  unfolding else_block_at
  else_block_conforms spare marks = and_then _ (take_conforms sort.Else marks) (λ word rest. block_conforms spare rest)

  else_conforms : (spare : ℕ) (marks : List Mark) → Along else_form marks (else_at room blocks spare marks)
  unfolding else_at
  else_conforms spare marks = option_conforms _ _ (begins_both (begins_with sort.Else) refl) (λ next. else_block_conforms spare marks) value

  choice_conforms : (at : Place) (test : RawExpr) (body : Body) (marks : List Mark) → Along (both (rule block_rule) else_form) marks (choice_at room blocks at test body marks)
  unfolding choice_at
  choice_conforms at test body marks = and_then _ (block_conforms _ marks) (λ first rest. then_value _ (else_conforms first.spare rest) (λ second behind. value))

  if_conforms : (body : Body) (marks : List Mark) → Along if_form marks (if_at room blocks body marks)
  unfolding if_at
  if_conforms body marks = and_then _ (take_conforms sort.If marks) (λ word rest. and_then _ (expr_conforms rest) (λ test behind. choice_conforms word test body behind))

  while_conforms : (body : Body) (marks : List Mark) → Along while_form marks (while_at room blocks body marks)
  unfolding while_at
  while_conforms body marks =
      and_then _ (take_conforms sort.While marks) (λ word rest. and_then _ (expr_conforms rest) (λ test behind. then_value _ (block_conforms _ behind) (λ inner left. value)))

  -- ---- statements

  stmt_conforms : (body : Body) (marks : List Mark) → Along (rule stmt_rule) marks (stmt_at room blocks body marks)
  unfolding stmt_at
  stmt_conforms body marks =
      rule_conforms predictive (either_conforms _ _ (begins_both (begins_with sort.If) refl) refl (λ next. if_conforms body marks)
      (λ next. either_conforms _ _ (begins_both (begins_with sort.While) refl) refl (λ next. while_conforms body marks) (λ next. simple_iteration_conforms body marks)))

  stmt_iteration_conforms : (body : Body) (marks : List Mark) → next_fits begins_stmt marks ≡ true → Along (rule stmt_rule) marks (stmt_iteration_at room blocks body marks)
  unfolding stmt_iteration_at
  stmt_iteration_conforms body marks next = limited_conforms (body.spare == 0) Statements (stmt_at room blocks body) predictive (λ past. begins_here marks stmt_rule_begins next) (λ within. stmt_conforms body marks)

  stmts_by_conform : ConformBlocks (stmts_by room blocks)
  unfolding stmts_by
  stmts_by_conform spare marks = repeated_conforms _ stmt_rule_begins refl (λ now here next. stmt_iteration_conforms now here next)

-- the statements of blocks conform to the grammar where there may be a block
inner_blocks_conform : (room : ℕ) → (room == 0) ≡ false → ConformBlocks (inner_blocks room)
inner_blocks_conform zero free = cc
inner_blocks_conform (suc room) free = stmts_by_conform room (inner_blocks room) (inner_blocks_conform room)

stmts_conform : (room : ℕ) → ConformBlocks (stmts_by room (inner_blocks room))
stmts_conform room = stmts_by_conform room (inner_blocks room) (inner_blocks_conform room)

pub body_conforms : (marks : List Mark) → Along (many (rule stmt_rule)) marks (body_at marks)
unfolding body_at
body_conforms marks = then_value _ (stmts_conform depth_limit statement_limit marks) (λ body rest. value)
