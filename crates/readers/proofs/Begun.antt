-- A reading of a form reads each token with which the form may begin; and one reading after another is a reading.
use Rattle.std.proofs.Common.{◌≡◌, ℕ, zero, suc, Bool, true, false, not, ◌||◌, List, [], ◌∷◌, ◌++◌, IsTrue, refl, arith}
use Rattle.readers.specs.grammar.Forms.{Form, token, rule, nothing, both, either, many, Grammar}
use Rattle.readers.specs.grammar.LazyReadings.{Goes, stop, read, open_rule, pass, in_turn, first_of_two, second_of_two, no_more, once_more, LazyReading}
use Rattle.readers.specs.grammar.Lookahead.{Lookahead, nullable, in_first}
use Rattle.readers.specs.grammar.Predictive.{IsPredictive, shallow, shallow_inside}
use Rattle.readers.proofs.Grammars.Shallow.{and_front, and_back, shallow_all, skipped}

module _ {Rule Sort Token : Type 0} (g : Grammar Rule Sort Token) where
  -- one reading after another
  pub joined : (n : ℕ) (xs : List (Form Rule Sort)) (ts : List Token) (ys : List (Form Rule Sort)) → Goes g n xs ts ys
      → (us : List Token) (zs : List (Form Rule Sort)) → LazyReading g ys us zs → LazyReading g xs (ts ++ us) zs
  joined _ _ _ _ stop us zs h = h
  joined _ _ _ ys (read {n = n} {xs = xs} {ts = ts} f i) us zs h = let j = joined n xs ts ys i us zs h in (suc j.0, read f j.1)
  joined _ _ ts ys (open_rule {n = n} {r = r} {xs = xs} i) us zs h = let j = joined n (g.form r ∷ xs) ts ys i us zs h in (suc j.0, open_rule j.1)
  joined _ _ ts ys (pass {n = n} {xs = xs} i) us zs h = let j = joined n xs ts ys i us zs h in (suc j.0, pass j.1)
  joined _ _ ts ys (in_turn {n = n} {a = a} {b = b} {xs = xs} i) us zs h = let j = joined n (a ∷ b ∷ xs) ts ys i us zs h in (suc j.0, in_turn j.1)
  joined _ _ ts ys (first_of_two {n = n} {a = a} {xs = xs} i) us zs h = let j = joined n (a ∷ xs) ts ys i us zs h in (suc j.0, first_of_two j.1)
  joined _ _ ts ys (second_of_two {n = n} {b = b} {xs = xs} i) us zs h = let j = joined n (b ∷ xs) ts ys i us zs h in (suc j.0, second_of_two j.1)
  joined _ _ ts ys (no_more {n = n} {xs = xs} i) us zs h = let j = joined n xs ts ys i us zs h in (suc j.0, no_more j.1)
  joined _ _ ts ys (once_more {n = n} {a = a} {xs = xs} i) us zs h = let j = joined n (a ∷ many a ∷ xs) ts ys i us zs h in (suc j.0, once_more j.1)

module _ {Rule Sort Token : Type 0} (look : Lookahead Rule Sort Token) (ok : IsPredictive look) where
  abbrev pub Stack : Type 0
  Stack = List (Form Rule Sort)

  -- some reading of the form, whatever stands behind it, reads the token
  abbrev pub TakesUp : Form Rule Sort → Token → Type 0
  TakesUp a k = (xs : Stack) → (left : Stack) × LazyReading look.grammar (a ∷ xs) (k ∷ []) left

  inside_begun : (f : Rule → Bool) (k : Token) → ((r : Rule) → IsTrue (f r) → IsTrue (look.first r k) → TakesUp (rule r) k)
      → (a : Form Rule Sort) → IsTrue (shallow_inside look f a) → IsTrue (in_first look a k) → TakesUp a k
  inside_begun f k h (token t) s b xs = (xs, (1, read b stop))
  inside_begun f k h (rule r) s b xs = h r s b xs
  inside_begun f k h nothing s b xs = cc
  inside_begun f k h (both a c) s b xs = by_first (in_first look a k) refl
      (λ q. let i = inside_begun f k h a (and_front (shallow_inside look f a) _ s) q (c ∷ xs) in (i.0, (suc i.1.0, in_turn i.1.1)))
      (λ e q t. let i = inside_begun f k h c t q xs in let j = skipped look ok a e (c ∷ xs) (k ∷ []) i.0 i.1 in (i.0, (suc j.0, in_turn j.1)))
    where
      by_first : (v : Bool) → in_first look a k ≡ v
          → (IsTrue (in_first look a k) → (left : Stack) × LazyReading look.grammar (both a c ∷ xs) (k ∷ []) left)
          → (IsTrue (nullable look a) → IsTrue (in_first look c k) → IsTrue (shallow_inside look f c) → (left : Stack) × LazyReading look.grammar (both a c ∷ xs) (k ∷ []) left)
          → (left : Stack) × LazyReading look.grammar (both a c ∷ xs) (k ∷ []) left
      by_first true q l r = l q
      by_first false q l r =
          let t : IsTrue (not (nullable look a) || shallow_inside look f c) = and_back (shallow_inside look f a) _ s in
          let bc : IsTrue (in_first look c k) = grind arith in
          let ea : IsTrue (nullable look a) = grind arith in
          r ea bc (grind arith)
  inside_begun f k h (either a c) s b xs = by_first (in_first look a k) refl
      (λ q. let i = inside_begun f k h a (and_front (shallow_inside look f a) _ s) q xs in (i.0, (suc i.1.0, first_of_two i.1.1)))
      (λ q. let i = inside_begun f k h c (and_back (shallow_inside look f a) (shallow_inside look f c) s) q xs in (i.0, (suc i.1.0, second_of_two i.1.1)))
    where
      by_first : (v : Bool) → in_first look a k ≡ v
          → (IsTrue (in_first look a k) → (left : Stack) × LazyReading look.grammar (either a c ∷ xs) (k ∷ []) left)
          → (IsTrue (in_first look c k) → (left : Stack) × LazyReading look.grammar (either a c ∷ xs) (k ∷ []) left)
          → (left : Stack) × LazyReading look.grammar (either a c ∷ xs) (k ∷ []) left
      by_first true q l r = l q
      by_first false q l r = r (grind arith)
  inside_begun f k h (many a) s b xs = let i = inside_begun f k h a s b (many a ∷ xs) in (i.0, (suc i.1.0, once_more i.1.1))

  begun_within : (d : ℕ) (k : Token) (a : Form Rule Sort) → IsTrue (shallow look d a) → IsTrue (in_first look a k) → TakesUp a k
  begun_within zero k a s b = inside_begun (λ r. false) k (λ r f q xs. cc) a s b
  begun_within (suc d) k a s b = inside_begun (λ r. shallow look d (look.grammar.form r)) k (λ r f q xs. let i = begun_within d k (look.grammar.form r) f (ok.rule_first r k q) xs in (i.0, (suc i.1.0, open_rule i.1.1))) a s b

  -- a token with which the form may begin
  pub begun : (k : Token) (a : Form Rule Sort) → IsTrue (in_first look a k) → TakesUp a k
  begun k a b = begun_within look.openings k a (shallow_all look ok look.openings ok.shallow_rule a) b
