-- A file of lemmas: what it proves need not be read to trust a clause.
--
-- What is known of an answer that is this one unless memory ran out.
use Rattle.std.proofs.Common.{◌≡◌, Bool, true, false, Result, Ok, Err, IfOk, subst}
use Rattle.aerie_base.specs.UnlessMemory.{Unless, UnlessMemory}

-- where the test says no, the fact
pub fact_if : (fact : Type 0) (ran_out : Bool) → ran_out ≡ false → Unless ran_out fact → fact
fact_if fact ran_out enough given = subst (λ b. Unless b fact) enough given

-- and the other way round
pub unless_fact : (fact : Type 0) (ran_out : Bool) → fact → Unless ran_out fact
unless_fact fact true given = tt
unless_fact fact false given = given

-- what follows from the fact
pub weaker : (fact other : Type 0) (ran_out : Bool) → (fact → other) → Unless ran_out fact → Unless ran_out other
weaker fact other true follows given = tt
weaker fact other false follows given = follows given

module _ {A E : Type 0} (ran_out : E → Bool) where
  -- what holds of the value that is defined holds of the value that is answered
  pub answered : (P : A → Type 0) (answer result : Result A E) → UnlessMemory ran_out answer result → IfOk answer P → IfOk result P
  answered P answer (Ok value) is holds = subst (λ (known : Result A E). IfOk known P) is holds
  answered P answer (Err error) is holds = tt

  -- an error that says anything else is the answer
  pub refused : (answer : Result A E) (error : E) → ran_out error ≡ false → UnlessMemory ran_out answer (Err error) → answer ≡ Err error
  refused answer error enough is = fact_if (answer ≡ Err error) (ran_out error) enough is

  -- what is equal to an answer is answered
  pub same_answer : (answer result : Result A E) → answer ≡ result → UnlessMemory ran_out answer result
  same_answer answer (Ok value) same = same
  same_answer answer (Err error) same = unless_fact (answer ≡ Err error) (ran_out error) same
