-- Worked cases of flat code: a body of an `if` with both blocks within a `while`, and an `if` within an `if`.
use Rattle.std.specs.Prelude.{◌≡◌, ℕ, pos, true, List, [], ◌∷◌, None, refl}
use denote.Hole.Carrier.{hidden}
use Rattle.aerie_base.specs.declared.values.Value.TheVariants as value
use Rattle.aerie_base.specs.declared.expressions.Expr.{Expr, Literal}
use Rattle.aerie_base.specs.declared.statements.Stmt.{Stmt, Delay, If, While, Return}
use Rattle.aerie_base.specs.declared.statements.Stmt.TheBlock.{hidden-the_row-Stmt-0, shape-the_row-Stmt-0}
use Rattle.aerie_base.specs.statements.Places.{placed, size, lefts, left}
use Rattle.body_code.specs.FlatCode.{code_of, body_code}
use Rattle.body_code.specs.Denoting.{Tests, chooses, repeats}
use Rattle.body_code.specs.declared.instructions.Instruction.TheVariants.{Do, Test, Jump, End}

abbrev on : Expr
on = Literal (value.Truth true)

abbrev delay : ℕ → Stmt
delay by = Delay (Literal (value.Int (pos by)))

-- ---- while on { delay 1; if on { delay 2; } else { delay 3; delay 4; } delay 5; } delay 6;

abbrev choice : Stmt
choice = If on (delay 2 ∷ []) (delay 3 ∷ delay 4 ∷ [])

abbrev loop : Stmt
loop = While on (delay 1 ∷ choice ∷ delay 5 ∷ [])

abbrev body : List Stmt
body = loop ∷ delay 6 ∷ []

-- The places of the body are 0 to 9, that of its end is 10: the test of the `while` at 0 leads behind it, to 9, that of
-- the `if` at 2 to its second block, at 5, the jump behind its first block at 4 behind it, to 7, and the jump behind the
-- loop's block at 8 back to its test.
pub its_code : body_code body
    ≡ Test on 9 ∷ Do (delay 1) ∷ Test on 5 ∷ Do (delay 2) ∷ Jump 7 ∷ Do (delay 3) ∷ Do (delay 4) ∷ Do (delay 5) ∷ Jump 0
    ∷ Do (delay 6) ∷ End ∷ []
unfolding code_of size hidden-the_row-Stmt-0 shape-the_row-Stmt-0 hidden
its_code = refl

-- the test of the `while` stands for it and for what is behind it
pub the_loop_repeats : Tests (left body) 0 on 9
unfolding left lefts size hidden-the_row-Stmt-0 shape-the_row-Stmt-0 hidden
the_loop_repeats = repeats (delay 1 ∷ choice ∷ delay 5 ∷ []) (placed 9 (delay 6 ∷ [])) refl refl refl

-- the test of the `if` stands for it, for what is behind it in the loop, for the loop again, and for what is behind that
pub the_choice_chooses : Tests (left body) 2 on 5
unfolding left lefts size hidden-the_row-Stmt-0 shape-the_row-Stmt-0 hidden
the_choice_chooses =
    chooses (delay 2 ∷ []) (delay 3 ∷ delay 4 ∷ [])
    (record { at = 7; what = delay 5 } ∷ record { at = 0; what = loop } ∷ record { at = 9; what = delay 6 } ∷ [])
    refl refl refl

-- the same is left at a jump and at the place to which it leads
pub behind_the_first_block : left body 4 ≡ left body 7
unfolding left lefts size hidden-the_row-Stmt-0 shape-the_row-Stmt-0 hidden
behind_the_first_block = refl

pub behind_the_loops_block : left body 8 ≡ left body 0
unfolding left lefts size hidden-the_row-Stmt-0 shape-the_row-Stmt-0 hidden
behind_the_loops_block = refl

-- a statement is left before what is left at the next place
pub in_the_second_block : left body 5 ≡ record { at = 5; what = delay 3 } ∷ left body 6
unfolding left lefts size hidden-the_row-Stmt-0 shape-the_row-Stmt-0 hidden
in_the_second_block = refl

pub at_the_end : left body 10 ≡ []
unfolding left lefts size hidden-the_row-Stmt-0 shape-the_row-Stmt-0 hidden
at_the_end = refl

-- ---- if on { if on { } else { return; } } delay 6;

abbrev inner : Stmt
inner = If on [] (Return None ∷ [])

abbrev nested : List Stmt
nested = If on (inner ∷ []) [] ∷ delay 6 ∷ []

-- behind an empty block stands its jump, and a test without a second block leads behind the `if`
pub the_nested_code : body_code nested
    ≡ Test on 5 ∷ Test on 3 ∷ Jump 4 ∷ Do (Return None) ∷ Jump 5 ∷ Do (delay 6) ∷ End ∷ []
unfolding code_of size hidden-the_row-Stmt-0 shape-the_row-Stmt-0 hidden
the_nested_code = refl

-- ---- the empty body

pub the_empty_code : body_code [] ≡ End ∷ []
the_empty_code = refl
