-- The reader follows every reading.
use Rattle.std.proofs.Common.{◌≡◌, ℕ, zero, suc, Bool, true, false, List, [], ◌∷◌, IsTrue, refl, sym, arith, inl, inr, ◌⊎◌, subst}
use Rattle.readers.specs.grammar.Forms.{Form, token, rule, nothing, both, either, many}
use Rattle.readers.specs.grammar.LazyReadings.{Goes, read, open_rule, in_turn, first_of_two, second_of_two, no_more, once_more, LazyReading}
use Rattle.readers.specs.grammar.Lookahead.{Lookahead, Ahead, refused, unfinished, remains, when, nullable, in_first, list_in_first, inside, into, next}
use Rattle.readers.specs.grammar.Predictive.{IsPredictive, AreDecided}
use Rattle.readers.proofs.Grammars.Starts.{starts, list_starts, fewer}
use Rattle.readers.proofs.Grammars.Shallow.{skipped}

module _ {Rule Sort Token : Type 0} (look : Lookahead Rule Sort Token) (ok : IsPredictive look) where
  abbrev pub Stack : Type 0
  Stack = List (Form Rule Sort)

  abbrev pub Reading : Stack → List Token → Stack → Type 0
  Reading = LazyReading look.grammar

  -- what remains after a token can be read after it; `f` reads a rule
  pub inside_sound : (f : Rule → Stack → Token → Ahead Rule Sort) (k : Token) (ts : List Token) (zs : Stack)
      → ((r : Rule) (xs ys : Stack) → IsTrue (look.first r k) → f r xs k ≡ remains ys → Reading ys ts zs → Reading (rule r ∷ xs) (k ∷ ts) zs)
      → (a : Form Rule Sort) (xs ys : Stack) → IsTrue (in_first look a k) → inside look f a xs k ≡ remains ys → Reading ys ts zs → Reading (a ∷ xs) (k ∷ ts) zs
  inside_sound f k ts zs h (token t) xs ys b e g = let q : xs ≡ ys = cc in (suc g.0, read b (subst (λ (us : Stack). Goes look.grammar g.0 us ts zs) (sym q) g.1))
  inside_sound f k ts zs h (rule r) xs ys b e g = h r xs ys b e g
  inside_sound f k ts zs h nothing xs ys b e g = cc
  inside_sound f k ts zs h (both a c) xs ys b e g = go (in_first look a k) refl e (λ p q. inside_sound f k ts zs h a (c ∷ xs) ys p q g) (λ p q. inside_sound f k ts zs h c xs ys p q g)
    where
      go : (v : Bool) → in_first look a k ≡ v → when v (inside look f a (c ∷ xs) k) (inside look f c xs k) ≡ remains ys
          → (IsTrue (in_first look a k) → inside look f a (c ∷ xs) k ≡ remains ys → Reading (a ∷ c ∷ xs) (k ∷ ts) zs)
          → (IsTrue (in_first look c k) → inside look f c xs k ≡ remains ys → Reading (c ∷ xs) (k ∷ ts) zs)
          → Reading (both a c ∷ xs) (k ∷ ts) zs
      go true p q l r = let s = l p q in (suc s.0, in_turn s.1)
      go false p q l r =
          let bc : IsTrue (in_first look c k) = grind arith in
          let ea : IsTrue (nullable look a) = grind arith in
          let s = skipped look ok a ea (c ∷ xs) (k ∷ ts) zs (r bc q) in (suc s.0, in_turn s.1)
  inside_sound f k ts zs h (either a c) xs ys b e g = go (in_first look a k) refl e (λ p q. inside_sound f k ts zs h a xs ys p q g) (λ p q. inside_sound f k ts zs h c xs ys p q g)
    where
      go : (v : Bool) → in_first look a k ≡ v → when v (inside look f a xs k) (inside look f c xs k) ≡ remains ys
          → (IsTrue (in_first look a k) → inside look f a xs k ≡ remains ys → Reading (a ∷ xs) (k ∷ ts) zs)
          → (IsTrue (in_first look c k) → inside look f c xs k ≡ remains ys → Reading (c ∷ xs) (k ∷ ts) zs)
          → Reading (either a c ∷ xs) (k ∷ ts) zs
      go true p q l r = let s = l p q in (suc s.0, first_of_two s.1)
      go false p q l r = let bc : IsTrue (in_first look c k) = grind arith in let s = r bc q in (suc s.0, second_of_two s.1)
  inside_sound f k ts zs h (many a) xs ys b e g = let s = inside_sound f k ts zs h a (many a ∷ xs) ys b e g in (suc s.0, once_more s.1)

  pub into_sound : (d : ℕ) (k : Token) (ts : List Token) (zs : Stack) (a : Form Rule Sort) (xs ys : Stack) → IsTrue (in_first look a k) → into look d a xs k ≡ remains ys → Reading ys ts zs → Reading (a ∷ xs) (k ∷ ts) zs
  into_sound zero k ts zs a xs ys b e g = inside_sound _ k ts zs (λ r us vs p q s. cc) a xs ys b e g
  into_sound (suc d) k ts zs a xs ys b e g = inside_sound _ k ts zs (λ r us vs p q s. let h = into_sound d k ts zs (look.grammar.form r) us vs (ok.rule_first r k p) q s in (suc h.0, open_rule h.1)) a xs ys b e g

  pub next_sound : (d : ℕ) (k : Token) (ts : List Token) (zs : Stack) (xs ys : Stack) → next look d xs k ≡ remains ys → Reading ys ts zs → Reading xs (k ∷ ts) zs
  next_sound d k ts zs [] ys e g = cc
  next_sound d k ts zs (x ∷ xs) ys e g = go (in_first look x k) refl (nullable look x) refl e (λ q. next_sound d k ts zs xs ys q g)
    where
      go : (v : Bool) → in_first look x k ≡ v → (w : Bool) → nullable look x ≡ w
          → when v (into look d x xs k) (when w (next look d xs k) refused) ≡ remains ys
          → (next look d xs k ≡ remains ys → Reading xs (k ∷ ts) zs) → Reading (x ∷ xs) (k ∷ ts) zs
      go true p w q r f = into_sound d k ts zs x xs ys p r g
      go false p true q r f = skipped look ok x q xs (k ∷ ts) zs (f r)
      go false p false q r f = cc

  -- ---- each reading goes where the reader goes

  pub record Left (found : Ahead Rule Sort) (ts : List Token) (zs : Stack) : Type 0 where
    pub ys : Stack
    pub is : found ≡ remains ys
    pub goes : Reading ys ts zs

  abbrev pub Follows : Ahead Rule Sort → List Token → Stack → Type 0
  Follows found ts zs = (found ≡ unfinished) ⊎ Left found ts zs

  via : (p q : Ahead Rule Sort) (ts : List Token) (zs : Stack) → p ≡ q → Follows q ts zs → Follows p ts zs
  via p q ts zs e h = subst (λ (x : Ahead Rule Sort). Follows x ts zs) (sym e) h

  starts_with : (a : Form Rule Sort) (xs : Stack) (k : Token) (ts : List Token) (zs : Stack) (n : ℕ) → Goes look.grammar n (a ∷ xs) (k ∷ ts) zs → IsTrue (in_first look a k) ⊎ (IsTrue (nullable look a) × Reading xs (k ∷ ts) zs × IsTrue (list_in_first look xs k))
  starts_with a xs k ts zs n g = elim (starts look ok (suc n) n (omega arith) a xs k ts zs g) [
    | inl p ↦ inl p
    | inr q ↦ inr (q.0, (q.1, q.3), list_starts look ok xs k ts zs q.1 q.3)
  ]

  -- `f` reads a rule
  abbrev pub RulesFollow : (Rule → Stack → Token → Ahead Rule Sort) → Token → List Token → Stack → Type 0
  RulesFollow f k ts zs = (r : Rule) (xs : Stack) (n : ℕ) → IsTrue (look.first r k) → AreDecided look (rule r ∷ xs) → Goes look.grammar n (rule r ∷ xs) (k ∷ ts) zs → Follows (f r xs k) ts zs

  pub inside_follows : (f : Rule → Stack → Token → Ahead Rule Sort) (k : Token) (ts : List Token) (zs : Stack) → RulesFollow f k ts zs
      → (a : Form Rule Sort) (xs : Stack) (n : ℕ) → IsTrue (in_first look a k) → AreDecided look (a ∷ xs) → Goes look.grammar n (a ∷ xs) (k ∷ ts) zs → Follows (inside look f a xs k) ts zs
  inside_follows f k ts zs h (token t) xs _ b i (read {n = n} p g) = inr (record { ys = xs; is = refl; goes = (n, g) })
  inside_follows f k ts zs h (rule r) xs n b i g = h r xs n b i g
  inside_follows f k ts zs h nothing xs n b i g = cc
  inside_follows f k ts zs h (both a c) xs _ b i (in_turn {n = n} g) = go (in_first look a k) refl
      (λ p. inside_follows f k ts zs h a (c ∷ xs) n p (i.0.0, (i.0.1, i.1)) g)
      (λ m p s. inside_follows f k ts zs h c xs m p (i.0.1, i.1) s)
      (starts_with a (c ∷ xs) k ts zs n g)
    where
      go : (v : Bool) → in_first look a k ≡ v
          → (IsTrue (in_first look a k) → Follows (inside look f a (c ∷ xs) k) ts zs)
          → ((m : ℕ) → IsTrue (in_first look c k) → Goes look.grammar m (c ∷ xs) (k ∷ ts) zs → Follows (inside look f c xs k) ts zs)
          → IsTrue (in_first look a k) ⊎ (IsTrue (nullable look a) × Reading (c ∷ xs) (k ∷ ts) zs × IsTrue (list_in_first look (c ∷ xs) k))
          → Follows (when v (inside look f a (c ∷ xs) k) (inside look f c xs k)) ts zs
      go true p l r s = l p
      go false p l r (inl s) = cc
      go false p l r (inr s) = let bc : IsTrue (in_first look c k) = grind arith in r s.1.0 bc s.1.1
  inside_follows f k ts zs h (either a c) xs _ b i (first_of_two {n = n} g) = go (in_first look a k) refl
      (λ p. inside_follows f k ts zs h a xs n p (i.0.0, i.1) g)
      (starts_with a xs k ts zs n g)
    where
      go : (v : Bool) → in_first look a k ≡ v
          → (IsTrue (in_first look a k) → Follows (inside look f a xs k) ts zs)
          → IsTrue (in_first look a k) ⊎ (IsTrue (nullable look a) × Reading xs (k ∷ ts) zs × IsTrue (list_in_first look xs k))
          → Follows (when v (inside look f a xs k) (inside look f c xs k)) ts zs
      go true p l s = l p
      go false p l (inl s) = cc
      go false p l (inr s) = let j = i.0.2 k in let s0 = s.0 in let s2 = s.2 in
          let bc : IsTrue (in_first look c k) = grind arith in absurd (grind arith)
  inside_follows f k ts zs h (either a c) xs _ b i (second_of_two {n = n} g) = go (in_first look a k) refl
      (λ p. inside_follows f k ts zs h c xs n p (i.0.1, i.1) g)
      (starts_with c xs k ts zs n g)
    where
      go : (v : Bool) → in_first look a k ≡ v
          → (IsTrue (in_first look c k) → Follows (inside look f c xs k) ts zs)
          → IsTrue (in_first look c k) ⊎ (IsTrue (nullable look c) × Reading xs (k ∷ ts) zs × IsTrue (list_in_first look xs k))
          → Follows (when v (inside look f a xs k) (inside look f c xs k)) ts zs
      go true p l (inl s) = let j = i.0.2 k in absurd (grind arith)
      go true p l (inr s) = let j = i.0.2 k in let s0 = s.0 in let s2 = s.2 in absurd (grind arith)
      go false p l s = l (grind arith)
  inside_follows f k ts zs h (many a) xs _ b i (no_more {n = n} g) =
      let l = list_starts look ok xs k ts zs n g in let j = i.0.2 k in absurd (grind arith)
  inside_follows f k ts zs h (many a) xs _ b i (once_more {n = n} g) = inside_follows f k ts zs h a (many a ∷ xs) n b (i.0.0, (i.0, i.1)) g

  pub into_follows : (d : ℕ) (k : Token) (ts : List Token) (zs : Stack) (a : Form Rule Sort) (xs : Stack) (n : ℕ) → IsTrue (in_first look a k) → AreDecided look (a ∷ xs) → Goes look.grammar n (a ∷ xs) (k ∷ ts) zs → Follows (into look d a xs k) ts zs
  into_follows zero k ts zs a xs n b i g = inside_follows _ k ts zs (λ r us m p j s. inl refl) a xs n b i g
  into_follows (suc d) k ts zs a xs n b i g = inside_follows _ k ts zs (opened d (into_follows d k ts zs)) a xs n b i g
    where
      opened : (d : ℕ) → ((a : Form Rule Sort) (xs : Stack) (n : ℕ) → IsTrue (in_first look a k) → AreDecided look (a ∷ xs) → Goes look.grammar n (a ∷ xs) (k ∷ ts) zs → Follows (into look d a xs k) ts zs)
          → RulesFollow (λ r ys j. into look d (look.grammar.form r) ys j) k ts zs
      opened d ih r us _ p j (open_rule {n = m} s) = ih (look.grammar.form r) us m (ok.rule_first r k p) (fewer look ok (look.grammar.form r) (look.follow r) _ j.0 (ok.decided r), j.1) s

  pub next_follows : (d : ℕ) (k : Token) (ts : List Token) (zs : Stack) (xs : Stack) (n : ℕ) → AreDecided look xs → Goes look.grammar n xs (k ∷ ts) zs → Follows (next look d xs k) ts zs
  next_follows d k ts zs [] n i g = elim g [ ]
  next_follows d k ts zs (x ∷ xs) n i g = go (in_first look x k) refl (starts_with x xs k ts zs n g) (λ m s. next_follows d k ts zs xs m i.1 s)
    where
      go : (v : Bool) → in_first look x k ≡ v
          → IsTrue (in_first look x k) ⊎ (IsTrue (nullable look x) × Reading xs (k ∷ ts) zs × IsTrue (list_in_first look xs k))
          → ((m : ℕ) → Goes look.grammar m xs (k ∷ ts) zs → Follows (next look d xs k) ts zs)
          → Follows (when v (into look d x xs k) (when (nullable look x) (next look d xs k) refused)) ts zs
      go true p s f = into_follows d k ts zs x xs n p i g
      go false p (inl s) f = cc
      go false p (inr s) f = rw s.0 (f s.1.0 s.1.1)
