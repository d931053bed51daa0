-- A term that is refused ends the sum.
use Rattle.std.proofs.Common.{◌≡◌, ℕ, ◌<◌, List, length, Result, Ok, Err, sym, subst, ◌∙◌}
use Rattle.std.specs.Prelude.{IfOk, IsErrAnd}
use Rattle.readers.specs.Implements.{Implements, Refuses}
use Rattle.readers.specs.Marks.{Mark}
use Rattle.readers.specs.Parsed.{Parsed, parsed, ◌>>=◌, repeated}
use Rattle.readers.specs.declared.refusal.Refusal.{Refusal}
use Rattle.readers.proofs.Going.{going_refused}
use Rattle.model_reader.specs.declared.reading.with_height.WithHeight.{WithHeight}
use Rattle.model_reader.specs.declared.reading.expressions.precedence.Precedence.TheVariants.{Product}
use Rattle.model_reader.specs.reading.Expressions.{Readers, inner_readers, operation_at, is_sum_sign, sum_sign_at, product_at, sum_at, chain_at}
use Rattle.model_reader.proofs.reading.expressions.+expression.Goals as goal

-- the terms behind the first one are refused
sum_refused : (room : ℕ) (inner : Readers) (marks rest behind : List Mark) (left : WithHeight) (refusal : Refusal) → product_at room inner marks ≡ parsed left rest
    → Refuses behind refusal (repeated is_sum_sign (operation_at room sum_sign_at (inner Product)) left rest) → Refuses behind refusal (sum_at room inner marks)
unfolding sum_at chain_at
sum_refused room inner marks rest behind left refusal e h =
    subst (λ (read : Parsed WithHeight). Refuses behind refusal (read >>= λ first. repeated is_sum_sign (operation_at room sum_sign_at (inner Product)) first.0 first.1)) (sym e) h

-- what is returned where a part was refused
returned : (marks behind : List Mark) (result : Result WithHeight Refusal) (refusal : Refusal) (read : Parsed WithHeight) → IsErrAnd result (λ e. e ≡ refusal)
    → Refuses behind refusal read → Implements behind result read × IfOk result (λ _. length behind < length marks)
returned marks behind (Ok whole) refusal read is h = absurd is
returned marks behind (Err e) refusal read is h = (subst (λ (r : Refusal). Refuses behind r read) (sym is) h, tt)

pub sum-returns-in_err-left-2-clause-read : goal.sum-returns-in_err-left-2-clause-read
sum-returns-in_err-left-2-clause-read t c =
    let room = c.args.room in
    let readers = inner_readers room in
    let test = sym c.next_is_one_of.ensures ∙ c.loop-alloc-test.true in
    let refused = going_refused is_sum_sign (operation_at room sum_sign_at (readers Product)) _ _ _ _ _ _ c.loop-alloc.invariant.0 test c.in_err-left-2.ensures.read.0 in
    returned _ _ _ _ _ c.from_residual-in_err-left-2.ensures.1 (sum_refused room readers _ _ _ _ _ c.in_ok-left.ensures.read.0 refused)
