-- Where the reader stops is where every reading stops.
use Rattle.std.proofs.Common.{◌≡◌, ℕ, zero, suc, ◌<◌, Bool, true, false, List, [], ◌∷◌, ◌++◌, IsTrue, refl, ap, arith, inl, inr, subst}
use Rattle.readers.specs.grammar.Forms.{Form, token, rule, nothing, both, either, many}
use Rattle.readers.specs.grammar.LazyReadings.{Goes, stop, open_rule, pass, in_turn, first_of_two, second_of_two, no_more, once_more, LazyReading}
use Rattle.readers.specs.grammar.Lookahead.{Lookahead, Ahead, refused, unfinished, remains, when, nullable, in_first, inside, into, next, Answer, whole, stops, go_on, all_nullable, at_end, answer}
use Rattle.readers.specs.grammar.Predictive.{IsPredictive, AreDecided}
use Rattle.readers.proofs.Grammars.Starts.{fewer}
use Rattle.readers.proofs.Grammars.Shallow.{skipped, never}
use Rattle.readers.proofs.Grammars.Follows.{next_sound, next_follows, Follows}

module _ {Rule Sort Token : Type 0} (look : Lookahead Rule Sort Token) (ok : IsPredictive look) where
  abbrev pub Stack : Type 0
  Stack = List (Form Rule Sort)

  abbrev pub Reading : Stack → List Token → Stack → Type 0
  Reading = LazyReading look.grammar

  -- ---- what remains is again such that one token ahead decides

  inside_kept : (f : Rule → Stack → Token → Ahead Rule Sort) (k : Token) → ((r : Rule) (xs ys : Stack) → AreDecided look (rule r ∷ xs) → f r xs k ≡ remains ys → AreDecided look ys)
      → (a : Form Rule Sort) (xs ys : Stack) → AreDecided look (a ∷ xs) → inside look f a xs k ≡ remains ys → AreDecided look ys
  inside_kept f k h (token t) xs ys i e = let q : xs ≡ ys = cc in subst (λ (us : Stack). AreDecided look us) q i.1
  inside_kept f k h (rule r) xs ys i e = h r xs ys i e
  inside_kept f k h nothing xs ys i e = cc
  inside_kept f k h (both a c) xs ys i e = go (in_first look a k) e (λ q. inside_kept f k h a (c ∷ xs) ys (i.0.0, (i.0.1, i.1)) q) (λ q. inside_kept f k h c xs ys (i.0.1, i.1) q)
    where
      go : (v : Bool) → when v (inside look f a (c ∷ xs) k) (inside look f c xs k) ≡ remains ys
          → (inside look f a (c ∷ xs) k ≡ remains ys → AreDecided look ys) → (inside look f c xs k ≡ remains ys → AreDecided look ys) → AreDecided look ys
      go true q l r = l q
      go false q l r = r q
  inside_kept f k h (either a c) xs ys i e = go (in_first look a k) e (λ q. inside_kept f k h a xs ys (i.0.0, i.1) q) (λ q. inside_kept f k h c xs ys (i.0.1, i.1) q)
    where
      go : (v : Bool) → when v (inside look f a xs k) (inside look f c xs k) ≡ remains ys
          → (inside look f a xs k ≡ remains ys → AreDecided look ys) → (inside look f c xs k ≡ remains ys → AreDecided look ys) → AreDecided look ys
      go true q l r = l q
      go false q l r = r q
  inside_kept f k h (many a) xs ys i e = inside_kept f k h a (many a ∷ xs) ys (i.0.0, (i.0, i.1)) e

  into_kept : (b : ℕ) (k : Token) (a : Form Rule Sort) (xs ys : Stack) → AreDecided look (a ∷ xs) → into look b a xs k ≡ remains ys → AreDecided look ys
  into_kept zero k a xs ys i e = inside_kept _ k (λ r us vs j q. cc) a xs ys i e
  into_kept (suc b) k a xs ys i e = inside_kept _ k (λ r us vs j q. into_kept b k (look.grammar.form r) us vs (fewer look ok (look.grammar.form r) (look.follow r) _ j.0 (ok.decided r), j.1) q) a xs ys i e

  next_kept : (k : Token) (xs ys : Stack) → AreDecided look xs → next look look.openings xs k ≡ remains ys → AreDecided look ys
  next_kept k [] ys i e = cc
  next_kept k (x ∷ xs) ys i e = go (in_first look x k) (nullable look x) e (λ q. next_kept k xs ys i.1 q)
    where
      go : (v w : Bool) → when v (into look look.openings x xs k) (when w (next look look.openings xs k) refused) ≡ remains ys
          → (next look look.openings xs k ≡ remains ys → AreDecided look ys) → AreDecided look ys
      go true w q f = into_kept look.openings k x xs ys i q
      go false true q f = f q
      go false false q f = cc

  -- ---- the end

  all_skipped : (xs : Stack) → IsTrue (all_nullable look xs) → Reading xs [] []
  all_skipped [] h = (0, stop)
  all_skipped (x ∷ xs) h =
      let p : IsTrue (nullable look x) = grind arith in
      let q : IsTrue (all_nullable look xs) = grind arith in
      skipped look ok x p xs [] [] (all_skipped xs q)

  ends_empty : (b n : ℕ) → n < b → (xs : Stack) → Goes look.grammar n xs [] [] → IsTrue (all_nullable look xs)
  ends_empty zero n h xs g = absurd (omega arith)
  ends_empty (suc b) _ h [] stop = refl
  ends_empty (suc b) n h (token t ∷ xs) g = elim g [ ]
  ends_empty (suc b) _ h (rule r ∷ xs) (open_rule {n = n} g) = let i = ends_empty b n (omega arith) (look.grammar.form r ∷ xs) g in
      let p : IsTrue (nullable look (look.grammar.form r)) = grind arith in let q = ok.nullable_rule r p in grind arith
  ends_empty (suc b) _ h (nothing ∷ xs) (pass {n = n} g) = ends_empty b n (omega arith) xs g
  ends_empty (suc b) _ h (both a c ∷ xs) (in_turn {n = n} g) = let i = ends_empty b n (omega arith) (a ∷ c ∷ xs) g in grind arith
  ends_empty (suc b) _ h (either a c ∷ xs) (first_of_two {n = n} g) = let i = ends_empty b n (omega arith) (a ∷ xs) g in grind arith
  ends_empty (suc b) _ h (either a c ∷ xs) (second_of_two {n = n} g) = let i = ends_empty b n (omega arith) (c ∷ xs) g in grind arith
  ends_empty (suc b) _ h (many a ∷ xs) (no_more {n = n} g) = ends_empty b n (omega arith) xs g
  ends_empty (suc b) _ h (many a ∷ xs) (once_more {n = n} g) = let i = ends_empty b n (omega arith) (a ∷ many a ∷ xs) g in grind arith

  -- ---- the place

  -- no reading goes past the front: not over the next token, or, at the end, not to its own end
  abbrev pub NoFurther : Stack → List Token → List Token → Type 0
  NoFurther xs front [] = Reading xs front [] → ⊥
  NoFurther xs front (k ∷ rest) = (zs : Stack) → Reading xs (front ++ (k ∷ [])) zs → ⊥

  pub record StopsAt (xs : Stack) (ts rest : List Token) : Type 0 where
    pub front : List Token
    pub is : ts ≡ front ++ rest
    pub left : Stack
    pub before : Reading xs front left
    pub no_further : NoFurther xs front rest

  abbrev pub Exact : Stack → List Token → Answer Token → Type 0
  Exact xs ts whole = Reading xs ts []
  Exact xs ts (stops rest) = StopsAt xs ts rest

  at_end_exact : (xs : Stack) (v : Bool) → all_nullable look xs ≡ v → Exact xs [] (at_end v)
  at_end_exact xs true e = all_skipped xs e
  at_end_exact xs false e = record { front = []; is = refl; left = xs; before = (0, stop); no_further = λ g. let i = ends_empty (suc g.0) g.0 (omega arith) xs g.1 in cc }

  -- a reading over the next token goes on from what remains
  through : (xs ys : Stack) (k : Token) (ts : List Token) (zs : Stack) → AreDecided look xs → next look look.openings xs k ≡ remains ys → Reading xs (k ∷ ts) zs → Reading ys ts zs
  through xs ys k ts zs i e g = go (next_follows look ok look.openings k ts zs xs g.0 i g.1)
    where
      go : Follows look ok (next look look.openings xs k) ts zs → Reading ys ts zs
      go (inl u) = cc
      go (inr l) = let h = l.is in let q : l.ys ≡ ys = cc in subst (λ (us : Stack). Reading us ts zs) q l.goes

  after_token : (xs ys : Stack) (k : Token) (ts : List Token) → AreDecided look xs → next look look.openings xs k ≡ remains ys → (a : Answer Token) → Exact ys ts a → Exact xs (k ∷ ts) a
  after_token xs ys k ts i e whole h = next_sound look ok look.openings k ts [] xs ys e h
  after_token xs ys k ts i e (stops []) h = record {
    front = k ∷ h.front;
    is = ap (λ (us : List Token). k ∷ us) h.is;
    left = h.left;
    before = next_sound look ok look.openings k h.front h.left xs ys e h.before;
    no_further = λ g. h.no_further (through xs ys k h.front [] i e g);
  }
  after_token xs ys k ts i e (stops (j ∷ rest)) h = record {
    front = k ∷ h.front;
    is = ap (λ (us : List Token). k ∷ us) h.is;
    left = h.left;
    before = next_sound look ok look.openings k h.front h.left xs ys e h.before;
    no_further = λ zs g. h.no_further zs (through xs ys k (h.front ++ (j ∷ [])) zs i e g);
  }

  refused_here : (xs : Stack) (k : Token) (ts : List Token) → AreDecided look xs → next look look.openings xs k ≡ refused → StopsAt xs (k ∷ ts) (k ∷ ts)
  refused_here xs k ts i e = record { front = []; is = refl; left = xs; before = (0, stop); no_further = λ zs g. go zs (next_follows look ok look.openings k [] zs xs g.0 i g.1) }
    where
      go : (zs : Stack) → Follows look ok (next look look.openings xs k) [] zs → ⊥
      go zs (inl u) = cc
      go zs (inr l) = let h = l.is in cc

  pub exact : (ts : List Token) (xs : Stack) → AreDecided look xs → Exact xs ts (answer look xs ts)
  exact [] xs i = at_end_exact xs (all_nullable look xs) refl
  exact (k ∷ ts) xs i = go (next look look.openings xs k) refl (λ ys j. exact ts ys j)
    where
      go : (a : Ahead Rule Sort) → next look look.openings xs k ≡ a → ((ys : Stack) → AreDecided look ys → Exact ys ts (answer look ys ts))
          → Exact xs (k ∷ ts) (go_on a (λ ys. answer look ys ts) (stops (k ∷ ts)))
      go (remains ys) e f = after_token xs ys k ts i e _ (f ys (next_kept k xs ys i e))
      go refused e f = refused_here xs k ts i e
      go unfinished e f = absurd (never look ok xs k e)
