-- Loops over iterations: where a loop stands between two iterations.
use Rattle.std.proofs.Common.{◌≡◌, ℕ, zero, suc, ◌<◌, ◌≤◌, Bool, true, false, List, [], ◌∷◌, length, Result, Ok, Err, refl, sym, ap, ◌∙◌, arith, subst}
use Rattle.std.specs.Prelude.{IsErrAnd}
use Rattle.aerie_text.specs.declared.sorts.Sort.{Sort}
use Rattle.readers.specs.Marks.{Mark}
use Rattle.readers.specs.declared.limits.Limit.{Limit}
use Rattle.readers.specs.declared.refusal.Refusal.{Refusal}
use Rattle.readers.specs.declared.refusal.Refusal.TheVariants.{Syntax, TooMany, OutOfMemory}
use Rattle.readers.specs.Implements.{Refuses, Consumes}
use Rattle.readers.specs.Parsed.{Parsed, parsed, failed, over_limit, ◌>>=◌, next_fits, iterations_at, repeated, is_of, behind_at, separated_at}

module _ {S : Type 0} (test : Mark → Bool) (iteration : S → List Mark → Parsed S) where
  -- With this state and these marks left, so many iterations more, which are as many as marks are left at least, give what the
  -- whole repetition gives.
  pub record Going (start : S) (marks : List Mark) (state : S) (rest : List Mark) : Type 0 where
    pub most : ℕ
    pub enough : length rest ≤ most
    pub no_longer : length rest ≤ length marks
    pub same : iterations_at test iteration most state rest ≡ repeated test iteration start marks

  -- before the first iteration
  pub going_begins : (start : S) (marks : List Mark) → Going start marks start marks
  going_begins start marks = record { most = length marks; enough = omega arith; no_longer = omega arith; same = refl }

  over_at : (most : ℕ) (state : S) (rest : List Mark) → next_fits test rest ≡ false → iterations_at test iteration most state rest ≡ parsed state rest
  over_at zero state rest h = refl
  over_at (suc most) state rest h = rw h refl

  -- over: the next mark begins no iteration
  pub going_over : (start : S) (marks : List Mark) (state : S) (rest : List Mark) → Going start marks state rest → next_fits test rest ≡ false → repeated test iteration start marks ≡ parsed state rest
  going_over start marks state rest g h = sym g.same ∙ over_at g.most state rest h

  -- what a iteration gives, and the iterations behind it
  abbrev pub then_iterations : ℕ → Parsed S → Parsed S
  then_iterations most read = read >>= λ after. iterations_at test iteration most after.0 after.1

  iteration_at : (most : ℕ) (state : S) (rest : List Mark) → next_fits test rest ≡ true → iterations_at test iteration (suc most) state rest ≡ then_iterations most (iteration state rest)
  iteration_at most state rest h = rw h refl

  some_marks : (rest : List Mark) → next_fits test rest ≡ true → 0 < length rest
  some_marks [] h = cc
  some_marks (mark ∷ rest) h = omega arith

  -- in a iteration: so many iterations more are left behind it
  pub record InTurn (start : S) (marks : List Mark) (state : S) (rest : List Mark) : Type 0 where
    pub most : ℕ
    pub enough : length rest ≤ suc most
    pub same : then_iterations most (iteration state rest) ≡ repeated test iteration start marks

  in_turn : (start : S) (marks : List Mark) (state : S) (rest : List Mark) → Going start marks state rest → next_fits test rest ≡ true → InTurn start marks state rest
  in_turn start marks state rest g h = go g.most g.enough g.same
    where
      go : (most : ℕ) → length rest ≤ most → iterations_at test iteration most state rest ≡ repeated test iteration start marks → InTurn start marks state rest
      go zero l e = let some = some_marks rest h in absurd (omega (arith, l, some))
      go (suc most) l e = record { most = most; enough = l; same = sym (iteration_at most state rest h) ∙ e }

  -- behind a iteration that read something
  pub going_on : (start : S) (marks : List Mark) (state : S) (rest : List Mark) (next : S) (behind : List Mark) → Going start marks state rest → next_fits test rest ≡ true
      → iteration state rest ≡ parsed next behind → length behind < length rest → Going start marks next behind
  going_on start marks state rest next behind g h e shorter =
      let i = in_turn start marks state rest g h in
      let l = i.enough in
      let m = g.no_longer in
      record { most = i.most; enough = omega (arith, l, shorter); no_longer = omega (arith, m, shorter); same = ap (then_iterations i.most) (sym e) ∙ i.same }

  -- a iteration stops
  pub going_stops : (start : S) (marks : List Mark) (state : S) (rest left : List Mark) → Going start marks state rest → next_fits test rest ≡ true
      → iteration state rest ≡ failed left → repeated test iteration start marks ≡ failed left
  going_stops start marks state rest left g h e = let i = in_turn start marks state rest g h in sym i.same ∙ ap (then_iterations i.most) e

  -- a iteration passes a limit
  pub going_passes : (start : S) (marks : List Mark) (state : S) (rest : List Mark) (limit : Limit) (left : List Mark) → Going start marks state rest → next_fits test rest ≡ true
      → iteration state rest ≡ over_limit limit left → repeated test iteration start marks ≡ over_limit limit left
  going_passes start marks state rest limit left g h e = let i = in_turn start marks state rest g h in sym i.same ∙ ap (then_iterations i.most) e

  -- a iteration is refused, and so is the repetition
  pub going_refused : (start : S) (marks : List Mark) (state : S) (rest left : List Mark) (refusal : Refusal) → Going start marks state rest → next_fits test rest ≡ true
      → Refuses left refusal (iteration state rest) → Refuses left refusal (repeated test iteration start marks)
  going_refused start marks state rest left Syntax g h e = going_stops start marks state rest left g h e
  going_refused start marks state rest left (TooMany limit) g h e = going_passes start marks state rest limit left g h e
  going_refused start marks state rest left OutOfMemory g h e = tt

  -- what is returned where a iteration was refused
  pub returned_refused : {A : Type 0} (marks behind : List Mark) (result : Result A Refusal) (refusal : Refusal) (read : Parsed A) → IsErrAnd result (λ e. e ≡ refusal)
      → Refuses behind refusal read → Consumes (λ here. read) marks behind result
  returned_refused marks behind (Ok part) refusal read is h = absurd is
  returned_refused marks behind (Err e) refusal read is h = (subst (λ (r : Refusal). Refuses behind r read) (sym is) h, tt)

-- iterations behind the first one are refused, and so are all
pub separated_refused : {S : Type 0} (sort : Sort) (iteration : S → List Mark → Parsed S) (state : S) (marks rest behind : List Mark) (first : S) (refusal : Refusal) → iteration state marks ≡ parsed first rest
    → Refuses behind refusal (repeated (is_of sort) (behind_at sort iteration) first rest) → Refuses behind refusal (separated_at sort iteration state marks)
separated_refused {S = S} sort iteration state marks rest behind first refusal e h =
    subst (λ (read : Parsed S). Refuses behind refusal (read >>= λ after. repeated (is_of sort) (behind_at sort iteration) after.0 after.1)) (sym e) h
