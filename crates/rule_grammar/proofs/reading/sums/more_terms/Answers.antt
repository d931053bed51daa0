-- A term that is refused ends the sum.
use Rattle.std.proofs.Common.{◌≡◌, List, Result, Ok, Err, sym, subst, ◌∙◌}
use Rattle.std.specs.Prelude.{IsErrAnd}
use Rattle.readers.specs.Implements.{MayConsume, Refuses}
use Rattle.readers.specs.Marks.{Mark}
use Rattle.readers.specs.Parsed.{Parsed}
use Rattle.readers.specs.declared.refusal.Refusal.{Refusal}
use Rattle.readers.proofs.Going.{going_refused}
use Rattle.rule_grammar.specs.declared.reading.leveled.LeveledSum.{LeveledSum}
use Rattle.rule_grammar.specs.reading.Sums.{is_sum_sign, next_term_at, more_terms_at}
use Rattle.rule_grammar.proofs.reading.sums.more_terms.Goals as goal

-- what is returned where a term was refused
returned : (marks behind : List Mark) (result : Result LeveledSum Refusal) (refusal : Refusal) (read : Parsed LeveledSum) → IsErrAnd result (λ e. e ≡ refusal)
    → Refuses behind refusal read → MayConsume (λ here. read) marks behind result
returned marks behind (Ok sum) refusal read is h = absurd is
returned marks behind (Err e) refusal read is h = (subst (λ (r : Refusal). Refuses behind r read) (sym is) h, tt)

pub returns-in_err-sum-clause-read : goal.returns-in_err-sum-clause-read
unfolding more_terms_at
returns-in_err-sum-clause-read c =
    let test = sym c.next_is_one_of.ensures ∙ c.loop-alloc-test.true in
    let refused = going_refused is_sum_sign (next_term_at c.args.room) _ _ _ _ _ _ c.loop-alloc.invariant.0 test c.in_err-sum.ensures.read.0 in
    returned _ _ _ _ _ c.from_residual.ensures.1 refused
