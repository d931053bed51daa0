-- The reader opens finitely many rules before each token, and a form that may be empty can be passed.
use Rattle.std.proofs.Common.{◌≡◌, ℕ, zero, suc, Bool, true, false, not, ◌&&◌, ◌||◌, List, [], ◌∷◌, IsTrue, refl, arith}
use Rattle.readers.specs.grammar.Forms.{Form, token, rule, nothing, both, either, many}
use Rattle.readers.specs.grammar.LazyReadings.{open_rule, pass, in_turn, first_of_two, second_of_two, no_more, LazyReading}
use Rattle.readers.specs.grammar.Lookahead.{Lookahead, Ahead, refused, unfinished, when, nullable, in_first, inside, into, next}
use Rattle.readers.specs.grammar.Predictive.{IsPredictive, shallow, shallow_inside}

pub and_front : (a b : Bool) → IsTrue (a && b) → IsTrue a
and_front true b h = refl
and_front false b h = cc

pub and_back : (a b : Bool) → IsTrue (a && b) → IsTrue b
and_back true b h = h
and_back false b h = cc

module _ {Rule Sort Token : Type 0} (look : Lookahead Rule Sort Token) (ok : IsPredictive look) where
  abbrev pub Stack : Type 0
  Stack = List (Form Rule Sort)

  inside_all : (f : Rule → Bool) → ((r : Rule) → IsTrue (f r)) → (a : Form Rule Sort) → IsTrue (shallow_inside look f a)
  inside_all f h (token t) = refl
  inside_all f h (rule r) = h r
  inside_all f h nothing = refl
  inside_all f h (both a b) = let i = inside_all f h a in let j = inside_all f h b in grind arith
  inside_all f h (either a b) = let i = inside_all f h a in let j = inside_all f h b in grind arith
  inside_all f h (many a) = inside_all f h a

  pub shallow_all : (d : ℕ) → ((r : Rule) → IsTrue (shallow look d (rule r))) → (a : Form Rule Sort) → IsTrue (shallow look d a)
  shallow_all zero h a = inside_all (λ r. false) h a
  shallow_all (suc d) h a = inside_all (λ r. shallow look d (look.grammar.form r)) h a

  -- what is left can be read after the form, without a token
  abbrev pub Passes : Form Rule Sort → Type 0
  Passes a = (xs : Stack) (ts : List Token) (zs : Stack) → LazyReading look.grammar xs ts zs → LazyReading look.grammar (a ∷ xs) ts zs

  swapped : (a b : Form Rule Sort) (xs : Stack) (ts : List Token) (zs : Stack) → LazyReading look.grammar (a ∷ b ∷ xs) ts zs → LazyReading look.grammar (both a b ∷ xs) ts zs
  swapped a b xs ts zs h = (suc h.0, in_turn h.1)

  inside_passes : (f : Rule → Bool) → ((r : Rule) → IsTrue (f r) → IsTrue (look.nullable r) → Passes (rule r)) → (a : Form Rule Sort) → IsTrue (shallow_inside look f a) → IsTrue (nullable look a) → Passes a
  inside_passes f h (token t) s e xs ts zs g = cc
  inside_passes f h (rule r) s e xs ts zs g = h r s e xs ts zs g
  inside_passes f h nothing s e xs ts zs g = (suc g.0, pass g.1)
  inside_passes f h (both a b) s e xs ts zs g =
      let q : IsTrue (nullable look a) = and_front (nullable look a) (nullable look b) e in
      let r : IsTrue (nullable look b) = and_back (nullable look a) (nullable look b) e in
      let i : IsTrue (shallow_inside look f a) = grind arith in
      let t : IsTrue (shallow_inside look f b) = grind arith in
      swapped a b xs ts zs (inside_passes f h a i q (b ∷ xs) ts zs (inside_passes f h b t r xs ts zs g))
  inside_passes f h (either a b) s e xs ts zs g = by_first (nullable look a) refl
      (λ q. let i = inside_passes f h a (and_front (shallow_inside look f a) _ s) q xs ts zs g in (suc i.0, first_of_two i.1))
      (λ q. let i = inside_passes f h b (and_back (shallow_inside look f a) (shallow_inside look f b) s) q xs ts zs g in (suc i.0, second_of_two i.1))
    where
      by_first : (v : Bool) → nullable look a ≡ v → (IsTrue (nullable look a) → LazyReading look.grammar (either a b ∷ xs) ts zs) → (IsTrue (nullable look b) → LazyReading look.grammar (either a b ∷ xs) ts zs) → LazyReading look.grammar (either a b ∷ xs) ts zs
      by_first true q l r = l q
      by_first false q l r = r (grind arith)
  inside_passes f h (many a) s e xs ts zs g = (suc g.0, no_more g.1)

  shallow_passes : (d : ℕ) (a : Form Rule Sort) → IsTrue (shallow look d a) → IsTrue (nullable look a) → Passes a
  shallow_passes zero a s e = inside_passes (λ r. false) (λ r f i xs ts zs g. cc) a s e
  shallow_passes (suc d) a s e = inside_passes (λ r. shallow look d (look.grammar.form r)) (λ r f i xs ts zs g. let h = shallow_passes d (look.grammar.form r) f (ok.rule_nullable r i) xs ts zs g in (suc h.0, open_rule h.1)) a s e

  -- a form that may be empty can be passed
  pub skipped : (a : Form Rule Sort) → IsTrue (nullable look a) → Passes a
  skipped a e = shallow_passes look.openings a (shallow_all look.openings ok.shallow_rule a) e

  never_inside : (f : Rule → Bool) (h : Rule → Stack → Token → Ahead Rule Sort) (k : Token) → ((r : Rule) (xs : Stack) → IsTrue (f r) → IsTrue (look.first r k) → h r xs k ≡ unfinished → ⊥)
      → (a : Form Rule Sort) (xs : Stack) → IsTrue (shallow_inside look f a) → IsTrue (in_first look a k) → inside look h a xs k ≡ unfinished → ⊥
  never_inside f h k i (token t) xs s b e = cc
  never_inside f h k i (rule r) xs s b e = i r xs s b e
  never_inside f h k i nothing xs s b e = cc
  never_inside f h k i (both a c) xs s b e = by_first (in_first look a k) refl e
      (λ q u. never_inside f h k i a (c ∷ xs) (and_front (shallow_inside look f a) _ s) q u)
      (λ q t u. never_inside f h k i c xs t q u)
    where
      by_first : (v : Bool) → in_first look a k ≡ v → when v (inside look h a (c ∷ xs) k) (inside look h c xs k) ≡ unfinished
          → (IsTrue (in_first look a k) → inside look h a (c ∷ xs) k ≡ unfinished → ⊥)
          → (IsTrue (in_first look c k) → IsTrue (shallow_inside look f c) → inside look h c xs k ≡ unfinished → ⊥) → ⊥
      by_first true q u l r = l q u
      by_first false q u l r =
          let t : IsTrue (not (nullable look a) || shallow_inside look f c) = and_back (shallow_inside look f a) _ s in
          let bc : IsTrue (in_first look c k) = grind arith in
          let ea : IsTrue (nullable look a) = grind arith in
          r bc (grind arith) u
  never_inside f h k i (either a c) xs s b e = by_first (in_first look a k) refl e
      (λ q u. never_inside f h k i a xs (and_front (shallow_inside look f a) _ s) q u)
      (λ q u. never_inside f h k i c xs (and_back (shallow_inside look f a) (shallow_inside look f c) s) q u)
    where
      by_first : (v : Bool) → in_first look a k ≡ v → when v (inside look h a xs k) (inside look h c xs k) ≡ unfinished
          → (IsTrue (in_first look a k) → inside look h a xs k ≡ unfinished → ⊥) → (IsTrue (in_first look c k) → inside look h c xs k ≡ unfinished → ⊥) → ⊥
      by_first true q u l r = l q u
      by_first false q u l r = r (grind arith) u
  never_inside f h k i (many a) xs s b e = never_inside f h k i a (many a ∷ xs) s b e

  never_into : (d : ℕ) (k : Token) (a : Form Rule Sort) (xs : Stack) → IsTrue (shallow look d a) → IsTrue (in_first look a k) → into look d a xs k ≡ unfinished → ⊥
  never_into zero k a xs s b e = never_inside (λ r. false) _ k (λ r us f q u. cc) a xs s b e
  never_into (suc d) k a xs s b e = never_inside (λ r. shallow look d (look.grammar.form r)) _ k (λ r us f q u. never_into d k (look.grammar.form r) us f (ok.rule_first r k q) u) a xs s b e

  -- the reader never opens too many rules before a token
  pub never : (xs : Stack) (k : Token) → next look look.openings xs k ≡ unfinished → ⊥
  never [] k e = cc
  never (x ∷ xs) k e = by_tests (in_first look x k) refl (nullable look x) e (never xs k)
    where
      by_tests : (v : Bool) → in_first look x k ≡ v → (w : Bool) → when v (into look look.openings x xs k) (when w (next look look.openings xs k) refused) ≡ unfinished → (next look look.openings xs k ≡ unfinished → ⊥) → ⊥
      by_tests true q w u n = never_into look.openings k x xs (shallow_all look.openings ok.shallow_rule x) q u
      by_tests false q true u n = n u
      by_tests false q false u n = cc

  -- ---- one more opening than is needed changes nothing

  alike_inside : (f : Rule → Bool) (h i : Rule → Stack → Token → Ahead Rule Sort) (k : Token) → ((r : Rule) (xs : Stack) → IsTrue (f r) → IsTrue (look.first r k) → h r xs k ≡ i r xs k)
      → (a : Form Rule Sort) (xs : Stack) → IsTrue (shallow_inside look f a) → IsTrue (in_first look a k) → inside look h a xs k ≡ inside look i a xs k
  alike_inside f h i k e (token t) xs s b = refl
  alike_inside f h i k e (rule r) xs s b = e r xs s b
  alike_inside f h i k e nothing xs s b = cc
  alike_inside f h i k e (both a c) xs s b = by_first (in_first look a k) refl
      (λ q. alike_inside f h i k e a (c ∷ xs) (and_front (shallow_inside look f a) _ s) q)
      (λ q t. alike_inside f h i k e c xs t q)
    where
      by_first : (v : Bool) → in_first look a k ≡ v
          → (IsTrue (in_first look a k) → inside look h a (c ∷ xs) k ≡ inside look i a (c ∷ xs) k)
          → (IsTrue (in_first look c k) → IsTrue (shallow_inside look f c) → inside look h c xs k ≡ inside look i c xs k)
          → when v (inside look h a (c ∷ xs) k) (inside look h c xs k) ≡ when v (inside look i a (c ∷ xs) k) (inside look i c xs k)
      by_first true q l r = l q
      by_first false q l r =
          let t : IsTrue (not (nullable look a) || shallow_inside look f c) = and_back (shallow_inside look f a) _ s in
          let bc : IsTrue (in_first look c k) = grind arith in
          let ea : IsTrue (nullable look a) = grind arith in
          r bc (grind arith)
  alike_inside f h i k e (either a c) xs s b = by_first (in_first look a k) refl
      (λ q. alike_inside f h i k e a xs (and_front (shallow_inside look f a) _ s) q)
      (λ q. alike_inside f h i k e c xs (and_back (shallow_inside look f a) (shallow_inside look f c) s) q)
    where
      by_first : (v : Bool) → in_first look a k ≡ v
          → (IsTrue (in_first look a k) → inside look h a xs k ≡ inside look i a xs k)
          → (IsTrue (in_first look c k) → inside look h c xs k ≡ inside look i c xs k)
          → when v (inside look h a xs k) (inside look h c xs k) ≡ when v (inside look i a xs k) (inside look i c xs k)
      by_first true q l r = l q
      by_first false q l r = r (grind arith)
  alike_inside f h i k e (many a) xs s b = alike_inside f h i k e a (many a ∷ xs) s b

  pub same_inside : (d : ℕ) (k : Token) (a : Form Rule Sort) (xs : Stack) → IsTrue (shallow look d a) → IsTrue (in_first look a k) → into look d a xs k ≡ into look (suc d) a xs k
  same_inside zero k a xs s b = alike_inside (λ r. false) _ _ k (λ r us f q. cc) a xs s b
  same_inside (suc d) k a xs s b = alike_inside (λ r. shallow look d (look.grammar.form r)) _ _ k (λ r us f q. same_inside d k (look.grammar.form r) us f (ok.rule_first r k q)) a xs s b
