-- Worked cases of the statements left at each place: a body of an `if` with both blocks within a `while`, and an `if`
-- within an `if`.
use Rattle.std.specs.Prelude.{◌≡◌, ℕ, pos, true, List, [], ◌∷◌, None, refl}
use Rattle.aerie_base.specs.declared.values.Value.TheVariants as value
use Rattle.aerie_base.specs.declared.expressions.Expr.{Expr, Literal}
use Rattle.aerie_base.specs.declared.statements.Stmt.{Stmt, Delay, If, While, Return}
use Rattle.aerie_base.specs.declared.statements.Stmt.TheBlock.{hidden-the_row-Stmt-0, shape-the_row-Stmt-0}
use Rattle.aerie_base.specs.statements.Places.{Placed, size, block_size, count, block_count, lefts, left}
use denote.Hole.Carrier.{hidden}

abbrev on : Expr
on = Literal (value.Truth true)

abbrev delay : ℕ → Stmt
delay by = Delay (Literal (value.Int (pos by)))

abbrev at : ℕ → Stmt → Placed
at place what = record { at = place; what = what }

-- ---- while on { delay 1; if on { delay 2; } else { delay 3; delay 4; } delay 5; } delay 6;
--
-- The `while` has the place 0, `delay 1` 1, the `if` 2, `delay 2` 3, the end of its first block 4, `delay 3` 5,
-- `delay 4` 6, `delay 5` 7, the end of the loop's block 8, `delay 6` 9 and the end of the body 10.

abbrev choice : Stmt
choice = If on (delay 2 ∷ []) (delay 3 ∷ delay 4 ∷ [])

abbrev loop : Stmt
loop = While on (delay 1 ∷ choice ∷ delay 5 ∷ [])

abbrev body : List Stmt
body = loop ∷ delay 6 ∷ []

-- what is left behind the loop's block: the loop again, and what stands behind it
abbrev again : List Placed
again = at 0 loop ∷ at 9 (delay 6) ∷ []

pub it_takes_ten_places : block_size body ≡ 10
unfolding size hidden-the_row-Stmt-0 shape-the_row-Stmt-0 hidden
it_takes_ten_places = refl

pub it_has_eight_statements : block_count body ≡ 8
unfolding count hidden-the_row-Stmt-0 shape-the_row-Stmt-0 hidden
it_has_eight_statements = refl

pub at_the_loop : left body 0 ≡ again
unfolding left lefts size hidden-the_row-Stmt-0 shape-the_row-Stmt-0 hidden
at_the_loop = refl

pub within_the_loop : left body 1 ≡ at 1 (delay 1) ∷ at 2 choice ∷ at 7 (delay 5) ∷ again
unfolding left lefts size hidden-the_row-Stmt-0 shape-the_row-Stmt-0 hidden
within_the_loop = refl

pub at_the_choice : left body 2 ≡ at 2 choice ∷ at 7 (delay 5) ∷ again
unfolding left lefts size hidden-the_row-Stmt-0 shape-the_row-Stmt-0 hidden
at_the_choice = refl

pub in_its_first_block : left body 3 ≡ at 3 (delay 2) ∷ at 7 (delay 5) ∷ again
unfolding left lefts size hidden-the_row-Stmt-0 shape-the_row-Stmt-0 hidden
in_its_first_block = refl

pub behind_its_first_block : left body 4 ≡ at 7 (delay 5) ∷ again
unfolding left lefts size hidden-the_row-Stmt-0 shape-the_row-Stmt-0 hidden
behind_its_first_block = refl

pub in_its_second_block : left body 5 ≡ at 5 (delay 3) ∷ at 6 (delay 4) ∷ at 7 (delay 5) ∷ again
unfolding left lefts size hidden-the_row-Stmt-0 shape-the_row-Stmt-0 hidden
in_its_second_block = refl

pub later_in_its_second_block : left body 6 ≡ at 6 (delay 4) ∷ at 7 (delay 5) ∷ again
unfolding left lefts size hidden-the_row-Stmt-0 shape-the_row-Stmt-0 hidden
later_in_its_second_block = refl

pub behind_the_choice : left body 7 ≡ at 7 (delay 5) ∷ again
unfolding left lefts size hidden-the_row-Stmt-0 shape-the_row-Stmt-0 hidden
behind_the_choice = refl

pub at_the_end_of_the_loop : left body 8 ≡ again
unfolding left lefts size hidden-the_row-Stmt-0 shape-the_row-Stmt-0 hidden
at_the_end_of_the_loop = refl

pub behind_the_loop : left body 9 ≡ at 9 (delay 6) ∷ []
unfolding left lefts size hidden-the_row-Stmt-0 shape-the_row-Stmt-0 hidden
behind_the_loop = refl

pub at_the_end : left body 10 ≡ []
unfolding left lefts size hidden-the_row-Stmt-0 shape-the_row-Stmt-0 hidden
at_the_end = refl

pub past_the_end : left body 11 ≡ []
unfolding left lefts size hidden-the_row-Stmt-0 shape-the_row-Stmt-0 hidden
past_the_end = refl

-- ---- if on { if on { } else { return; } } delay 6;
--
-- The outer `if` has the place 0, the inner one 1, the end of its empty block 2, `return` 3, the end of the outer block
-- 4, and `delay 6` 5.

abbrev inner : Stmt
inner = If on [] (Return None ∷ [])

abbrev nested : List Stmt
nested = If on (inner ∷ []) [] ∷ delay 6 ∷ []

pub within_the_outer_block : left nested 1 ≡ at 1 inner ∷ at 5 (delay 6) ∷ []
unfolding left lefts size hidden-the_row-Stmt-0 shape-the_row-Stmt-0 hidden
within_the_outer_block = refl

pub behind_the_empty_block : left nested 2 ≡ at 5 (delay 6) ∷ []
unfolding left lefts size hidden-the_row-Stmt-0 shape-the_row-Stmt-0 hidden
behind_the_empty_block = refl

pub at_the_inner_second_block : left nested 3 ≡ at 3 (Return None) ∷ at 5 (delay 6) ∷ []
unfolding left lefts size hidden-the_row-Stmt-0 shape-the_row-Stmt-0 hidden
at_the_inner_second_block = refl

pub behind_the_outer_block : left nested 4 ≡ at 5 (delay 6) ∷ []
unfolding left lefts size hidden-the_row-Stmt-0 shape-the_row-Stmt-0 hidden
behind_the_outer_block = refl

pub behind_both : left nested 5 ≡ at 5 (delay 6) ∷ []
unfolding left lefts size hidden-the_row-Stmt-0 shape-the_row-Stmt-0 hidden
behind_both = refl
