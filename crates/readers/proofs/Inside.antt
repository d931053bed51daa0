-- What conforms to a rule of a grammar conforms to it inside another grammar too, whatever is to be read there behind it.
use Rattle.std.proofs.Common.{◌≡◌, ℕ, zero, suc, ◌≤◌, Bool, true, false, ◌&&◌, ◌||◌, List, [], ◌∷◌, ◌++◌, length, IsTrue, refl, ap, sym, ◌∙◌, subst, arith, append-nil}
use Rattle.std.proofs.lemmas.List.{length-append}
use Rattle.readers.specs.Conforms.{GoesAlong, Conforms}
use Rattle.readers.specs.Marks.{Mark}
use Rattle.readers.specs.Parsed.{Parsed, parsed, failed, over_limit}
use Rattle.readers.specs.grammar.Embedding.{there, IsInside}
use Rattle.readers.specs.grammar.Forms.{Form, token, rule, nothing, both, either, many}
use Rattle.readers.specs.grammar.LazyReadings.{Goes, stop, read, open_rule, pass, in_turn, first_of_two, second_of_two, no_more, once_more, LazyReading}
use Rattle.readers.specs.grammar.Lookahead.{Lookahead, Ahead, refused, unfinished, remains, when, nullable, in_first, inside, into, next, whole, stops, go_on, all_nullable, at_end, answer}
use Rattle.readers.specs.grammar.Predictive.{IsPredictive}
use Rattle.readers.proofs.Begun.{joined}
use Rattle.readers.proofs.Grammars.Choices.{read_at_once}
use Rattle.readers.proofs.Grammars.Fronts.{into_keeps}
use Rattle.readers.proofs.Grammars.Parsing.{answer_token}
use Rattle.readers.proofs.Grammars.Partly.{behind}
use Rattle.readers.proofs.Grammars.Shallow.{never}
use Rattle.readers.proofs.Grammars.Verdicts.{whole_answered}

-- ---- one grammar alone

module _ {Rule Sort Token : Type 0} (look : Lookahead Rule Sort Token) (ok : IsPredictive look) where
  abbrev pub Stack : Type 0
  Stack = List (Form Rule Sort)

  -- a token with which a form may begin is not refused inside it
  inside_goes : (f : Rule → Stack → Token → Ahead Rule Sort) (k : Token) → ((r : Rule) (xs : Stack) → IsTrue (look.first r k) → f r xs k ≡ refused → ⊥)
      → (a : Form Rule Sort) (xs : Stack) → IsTrue (in_first look a k) → inside look f a xs k ≡ refused → ⊥
  inside_goes f k h (token t) xs b e = cc
  inside_goes f k h (rule r) xs b e = h r xs b e
  inside_goes f k h nothing xs b e = cc
  inside_goes f k h (both a c) xs b e = by_first (in_first look a k) refl b e (λ q u. inside_goes f k h a (c ∷ xs) q u) (λ q u. inside_goes f k h c xs q u)
    where
      second : (w v : Bool) → IsTrue (w && v) → IsTrue v
      second true v t = t
      second false v t = cc

      by_first : (v : Bool) → in_first look a k ≡ v → IsTrue (v || (nullable look a && in_first look c k)) → when v (inside look f a (c ∷ xs) k) (inside look f c xs k) ≡ refused
          → (IsTrue (in_first look a k) → inside look f a (c ∷ xs) k ≡ refused → ⊥) → (IsTrue (in_first look c k) → inside look f c xs k ≡ refused → ⊥) → ⊥
      by_first true q t u l r = l q u
      by_first false q t u l r = r (second (nullable look a) (in_first look c k) t) u
  inside_goes f k h (either a c) xs b e = by_first (in_first look a k) refl b e (λ q u. inside_goes f k h a xs q u) (λ q u. inside_goes f k h c xs q u)
    where
      by_first : (v : Bool) → in_first look a k ≡ v → IsTrue (v || in_first look c k) → when v (inside look f a xs k) (inside look f c xs k) ≡ refused
          → (IsTrue (in_first look a k) → inside look f a xs k ≡ refused → ⊥) → (IsTrue (in_first look c k) → inside look f c xs k ≡ refused → ⊥) → ⊥
      by_first true q t u l r = l q u
      by_first false q t u l r = r t u
  inside_goes f k h (many a) xs b e = inside_goes f k h a (many a ∷ xs) b e

  into_goes : (d : ℕ) (k : Token) (a : Form Rule Sort) (xs : Stack) → IsTrue (in_first look a k) → into look d a xs k ≡ refused → ⊥
  into_goes zero k a xs b e = inside_goes _ k (λ r us q u. cc) a xs b e
  into_goes (suc d) k a xs b e = inside_goes _ k (λ r us q u. into_goes d k (look.grammar.form r) us (ok.rule_first r k q) u) a xs b e

  -- where the token is refused and what is left may be empty, what stands behind goes on
  next_past : (k : Token) (xs us : Stack) → next look look.openings xs k ≡ refused → all_nullable look xs ≡ true → next look look.openings (xs ++ us) k ≡ next look look.openings us k
  next_past k [] us e n = refl
  next_past k (x ∷ xs) us e n = by_tests (in_first look x k) (nullable look x) refl refl e n (next_past k xs us)
    where
      by_tests : (v w : Bool) → in_first look x k ≡ v → nullable look x ≡ w → when v (into look look.openings x xs k) (when w (next look look.openings xs k) refused) ≡ refused → (w && all_nullable look xs) ≡ true
          → (next look look.openings xs k ≡ refused → all_nullable look xs ≡ true → next look look.openings (xs ++ us) k ≡ next look look.openings us k)
          → next look look.openings (x ∷ xs ++ us) k ≡ next look look.openings us k
      by_tests true w b m q t f = absurd (into_goes look.openings k x xs b q)
      by_tests false true b m q t f = rw (b, m) (f q t)
      by_tests false false b m q t f = cc

  -- what remains keeps what stands behind
  next_keeps : (k : Token) (xs ys us : Stack) → next look look.openings xs k ≡ remains ys → next look look.openings (xs ++ us) k ≡ remains (ys ++ us)
  next_keeps k [] ys us e = cc
  next_keeps k (x ∷ xs) ys us e = by_tests (in_first look x k) (nullable look x) refl refl e (next_keeps k xs ys us)
    where
      by_tests : (v w : Bool) → in_first look x k ≡ v → nullable look x ≡ w → when v (into look look.openings x xs k) (when w (next look look.openings xs k) refused) ≡ remains ys
          → (next look look.openings xs k ≡ remains ys → next look look.openings (xs ++ us) k ≡ remains (ys ++ us))
          → next look look.openings (x ∷ xs ++ us) k ≡ remains (ys ++ us)
      by_tests true w b m q f =
          let i = into_keeps look look.openings k x xs [] ys (ap (λ (zs : Stack). into look look.openings x zs k) (append-nil xs) ∙ q) in
          rw b (i.others us ∙ ap (λ (zs : Stack). remains (zs ++ us)) (sym (append-nil i.front) ∙ sym i.is))
      by_tests false true b m q f = rw (b, m) (f q)
      by_tests false false b m q f = cc

  -- reading does not stop before it began
  not_grown : (xs : Stack) (k : Token) (ts : List Token) → answer look xs ts ≡ stops (k ∷ ts) → ⊥
  not_grown xs k ts e =
      let b = behind look xs ts (k ∷ ts) e in
      let l = ap (λ (us : List Token). length us) b.1 ∙ length-append b.0 (k ∷ ts) in
      omega (arith, l)

-- ---- the grammar inside the other one

module _ {Rule Other Sort Kind Token : Type 0} (rule_there : Rule → Other) (token_there : Sort → Form Other Kind) (look : Lookahead Rule Sort Token) (other : Lookahead Other Kind Token) (ok : IsPredictive look) (in_other : IsInside rule_there token_there look other) where
  abbrev pub Forms : Type 0
  Forms = List (Form Rule Sort)

  abbrev pub Others : Type 0
  Others = List (Form Other Kind)

  abbrev pub form_there : Form Rule Sort → Form Other Kind
  form_there a = there rule_there token_there a

  -- the forms, there, and others behind them
  abbrev pub all_there : Forms → Others → Others
  all_there [] zs = zs
  all_there (x ∷ xs) zs = form_there x ∷ all_there xs zs

  nullable_there : (a : Form Rule Sort) → nullable other (form_there a) ≡ nullable look a
  nullable_there (token s) = in_other.token_some s
  nullable_there (rule r) = in_other.empty r
  nullable_there nothing = refl
  nullable_there (both a b) = rw (nullable_there a, nullable_there b) refl
  nullable_there (either a b) = rw (nullable_there a, nullable_there b) refl
  nullable_there (many a) = refl

  first_there : (a : Form Rule Sort) (k : Token) → in_first other (form_there a) k ≡ in_first look a k
  first_there (token s) k = in_other.token_first s k
  first_there (rule r) k = in_other.first r k
  first_there nothing k = refl
  first_there (both a b) k = rw (first_there a k, first_there b k, nullable_there a) refl
  first_there (either a b) k = rw (first_there a k, first_there b k) refl
  first_there (many a) k = first_there a k

  empty_there : (xs : Forms) (zs : Others) → all_nullable other (all_there xs zs) ≡ (all_nullable look xs && all_nullable other zs)
  empty_there [] zs = refl
  empty_there (x ∷ xs) zs = rw (nullable_there x, empty_there xs zs) (and_assoc (nullable look x) (all_nullable look xs) (all_nullable other zs))
    where
      and_assoc : (a b c : Bool) → (a && (b && c)) ≡ ((a && b) && c)
      and_assoc true b c = refl
      and_assoc false b c = refl

  -- ---- one token

  inside_there : (f : Rule → Forms → Token → Ahead Rule Sort) (g : Other → Others → Token → Ahead Other Kind) (k : Token)
      → ((r : Rule) (xs ys : Forms) (zs : Others) → f r xs k ≡ remains ys → g (rule_there r) (all_there xs zs) k ≡ remains (all_there ys zs))
      → (a : Form Rule Sort) (xs ys : Forms) (zs : Others) → inside look f a xs k ≡ remains ys → inside other g (form_there a) (all_there xs zs) k ≡ remains (all_there ys zs)
  inside_there f g k h (token s) xs ys zs e = let q : xs ≡ ys = cc in in_other.token_over s k g (all_there xs zs) ∙ ap (λ (us : Forms). remains (all_there us zs)) q
  inside_there f g k h (rule r) xs ys zs e = h r xs ys zs e
  inside_there f g k h nothing xs ys zs e = cc
  inside_there f g k h (both a c) xs ys zs e = by_first (in_first look a k) refl e (λ q. inside_there f g k h a (c ∷ xs) ys zs q) (λ q. inside_there f g k h c xs ys zs q)
    where
      by_first : (v : Bool) → in_first look a k ≡ v → when v (inside look f a (c ∷ xs) k) (inside look f c xs k) ≡ remains ys
          → (inside look f a (c ∷ xs) k ≡ remains ys → inside other g (form_there a) (form_there c ∷ all_there xs zs) k ≡ remains (all_there ys zs))
          → (inside look f c xs k ≡ remains ys → inside other g (form_there c) (all_there xs zs) k ≡ remains (all_there ys zs))
          → inside other g (form_there (both a c)) (all_there xs zs) k ≡ remains (all_there ys zs)
      by_first true w q l r = rw (first_there a k, w) (l q)
      by_first false w q l r = rw (first_there a k, w) (r q)
  inside_there f g k h (either a c) xs ys zs e = by_first (in_first look a k) refl e (λ q. inside_there f g k h a xs ys zs q) (λ q. inside_there f g k h c xs ys zs q)
    where
      by_first : (v : Bool) → in_first look a k ≡ v → when v (inside look f a xs k) (inside look f c xs k) ≡ remains ys
          → (inside look f a xs k ≡ remains ys → inside other g (form_there a) (all_there xs zs) k ≡ remains (all_there ys zs))
          → (inside look f c xs k ≡ remains ys → inside other g (form_there c) (all_there xs zs) k ≡ remains (all_there ys zs))
          → inside other g (form_there (either a c)) (all_there xs zs) k ≡ remains (all_there ys zs)
      by_first true w q l r = rw (first_there a k, w) (l q)
      by_first false w q l r = rw (first_there a k, w) (r q)
  inside_there f g k h (many a) xs ys zs e = inside_there f g k h a (many a ∷ xs) ys zs e

  into_there : (d e : ℕ) → d ≤ e → (k : Token) (a : Form Rule Sort) (xs ys : Forms) (zs : Others) → into look d a xs k ≡ remains ys → into other e (form_there a) (all_there xs zs) k ≡ remains (all_there ys zs)
  into_there zero zero l k a xs ys zs h = inside_there _ (λ r us j. unfinished) k (λ r us vs ws q. cc) a xs ys zs h
  into_there zero (suc e) l k a xs ys zs h = inside_there _ (λ r us j. into other e (other.grammar.form r) us j) k (λ r us vs ws q. cc) a xs ys zs h
  into_there (suc d) zero l k a xs ys zs h = absurd (omega (arith, l))
  into_there (suc d) (suc e) l k a xs ys zs h =
      inside_there (λ r us j. into look d (look.grammar.form r) us j) (λ r us j. into other e (other.grammar.form r) us j) k
      (λ r us vs ws q. ap (λ (b : Form Other Kind). into other e b (all_there us ws) k) (in_other.form r) ∙ into_there d e (omega (arith, l)) k (look.grammar.form r) us vs ws q)
      a xs ys zs h

  next_there : (k : Token) (xs ys : Forms) (zs : Others) → next look look.openings xs k ≡ remains ys → next other other.openings (all_there xs zs) k ≡ remains (all_there ys zs)
  next_there k [] ys zs e = cc
  next_there k (x ∷ xs) ys zs e = by_tests (in_first look x k) (nullable look x) refl refl e (next_there k xs ys zs)
    where
      by_tests : (v w : Bool) → in_first look x k ≡ v → nullable look x ≡ w → when v (into look look.openings x xs k) (when w (next look look.openings xs k) refused) ≡ remains ys
          → (next look look.openings xs k ≡ remains ys → next other other.openings (all_there xs zs) k ≡ remains (all_there ys zs))
          → next other other.openings (form_there x ∷ all_there xs zs) k ≡ remains (all_there ys zs)
      by_tests true w b m q f = rw (first_there x k, b) (into_there look.openings other.openings in_other.openings k x xs ys zs q)
      by_tests false true b m q f = rw (first_there x k, b, nullable_there x, m) (f q)
      by_tests false false b m q f = cc

  -- where the token is refused, what stands behind goes on if the forms may be empty, and else it is refused there too
  next_behind : (k : Token) (xs : Forms) (zs : Others) → next look look.openings xs k ≡ refused → all_nullable look xs ≡ true → next other other.openings (all_there xs zs) k ≡ next other other.openings zs k
  next_behind k [] zs e n = refl
  next_behind k (x ∷ xs) zs e n = by_tests (in_first look x k) (nullable look x) refl refl e n (next_behind k xs zs)
    where
      by_tests : (v w : Bool) → in_first look x k ≡ v → nullable look x ≡ w → when v (into look look.openings x xs k) (when w (next look look.openings xs k) refused) ≡ refused → (w && all_nullable look xs) ≡ true
          → (next look look.openings xs k ≡ refused → all_nullable look xs ≡ true → next other other.openings (all_there xs zs) k ≡ next other other.openings zs k)
          → next other other.openings (form_there x ∷ all_there xs zs) k ≡ next other other.openings zs k
      by_tests true w b m q t f = absurd (into_goes look ok look.openings k x xs b q)
      by_tests false true b m q t f = rw (first_there x k, b, nullable_there x, m) (f q t)
      by_tests false false b m q t f = cc

  next_refused : (k : Token) (xs : Forms) (zs : Others) → next look look.openings xs k ≡ refused → all_nullable look xs ≡ false → next other other.openings (all_there xs zs) k ≡ refused
  next_refused k [] zs e n = cc
  next_refused k (x ∷ xs) zs e n = by_tests (in_first look x k) (nullable look x) refl refl e n (next_refused k xs zs)
    where
      by_tests : (v w : Bool) → in_first look x k ≡ v → nullable look x ≡ w → when v (into look look.openings x xs k) (when w (next look look.openings xs k) refused) ≡ refused → (w && all_nullable look xs) ≡ false
          → (next look look.openings xs k ≡ refused → all_nullable look xs ≡ false → next other other.openings (all_there xs zs) k ≡ refused)
          → next other other.openings (form_there x ∷ all_there xs zs) k ≡ refused
      by_tests true w b m q t f = absurd (into_goes look ok look.openings k x xs b q)
      by_tests false true b m q t f = rw (first_there x k, b, nullable_there x, m) (f q t)
      by_tests false false b m q t f = rw (first_there x k, b, nullable_there x, m) refl

  -- ---- where reading goes on, and where it stops

  -- forms that read a front whole, and no more of the rest, leave the rest to what stands behind them
  read_there : (front rest : List Token) (xs : Forms) (zs : Others) → answer look xs front ≡ whole → answer look xs (front ++ rest) ≡ answer look [] rest → answer other (all_there xs zs) (front ++ rest) ≡ answer other zs rest
  read_there [] [] xs zs w e = by_empty (all_nullable look xs) refl w
    where
      by_empty : (v : Bool) → all_nullable look xs ≡ v → at_end {Token = Token} v ≡ whole → at_end {Token = Token} (all_nullable other (all_there xs zs)) ≡ at_end (all_nullable other zs)
      by_empty true n q = ap at_end (empty_there xs zs ∙ ap (λ (v : Bool). v && all_nullable other zs) n)
      by_empty false n q = cc
  read_there [] (k ∷ ks) xs zs w e = by_empty (all_nullable look xs) refl w
    where
      by_ahead : all_nullable look xs ≡ true → (n : Ahead Rule Sort) → next look look.openings xs k ≡ n → go_on n (λ ys. answer look ys ks) (stops (k ∷ ks)) ≡ stops (k ∷ ks)
          → answer other (all_there xs zs) (k ∷ ks) ≡ answer other zs (k ∷ ks)
      by_ahead m (remains ys) h q = absurd (not_grown look ok ys k ks q)
      by_ahead m refused h q = ap (λ (n : Ahead Other Kind). go_on n (λ ys. answer other ys ks) (stops (k ∷ ks))) (next_behind k xs zs h m)
      by_ahead m unfinished h q = absurd (never look ok xs k h)

      by_empty : (v : Bool) → all_nullable look xs ≡ v → at_end {Token = Token} v ≡ whole → answer other (all_there xs zs) (k ∷ ks) ≡ answer other zs (k ∷ ks)
      by_empty true m q = by_ahead m (next look look.openings xs k) refl e
      by_empty false m q = cc
  read_there (k ∷ front) rest xs zs w e = by_ahead (next look look.openings xs k) refl w e (λ ys. read_there front rest ys zs)
    where
      by_ahead : (n : Ahead Rule Sort) → next look look.openings xs k ≡ n → go_on n (λ ys. answer look ys front) (stops (k ∷ front)) ≡ whole
          → go_on n (λ ys. answer look ys (front ++ rest)) (stops (k ∷ front ++ rest)) ≡ answer look [] rest
          → ((ys : Forms) → answer look ys front ≡ whole → answer look ys (front ++ rest) ≡ answer look [] rest → answer other (all_there ys zs) (front ++ rest) ≡ answer other zs rest)
          → answer other (all_there xs zs) (k ∷ front ++ rest) ≡ answer other zs rest
      by_ahead (remains ys) h q t f = rw (next_there k xs ys zs h) (f ys q t)
      by_ahead refused h q t f = cc
      by_ahead unfinished h q t f = cc

  module _ (kind : Token → Sort) (fit : (k : Token) → look.grammar.fits (kind k) k ≡ true) where
    -- forms before which reading stops, whatever stands behind them, stop it there too
    stops_there : (ts rest : List Token) (xs : Forms) (zs : Others) → ((us : Forms) → answer look (xs ++ us) ts ≡ stops rest) → answer other (all_there xs zs) ts ≡ stops rest
    stops_there [] rest xs zs h = by_empty (all_nullable look xs) refl (ap (λ (us : Forms). answer look us []) (sym (append-nil xs)) ∙ h [])
      where
        by_empty : (v : Bool) → all_nullable look xs ≡ v → at_end {Token = Token} v ≡ stops rest → at_end {Token = Token} (all_nullable other (all_there xs zs)) ≡ stops rest
        by_empty true n q = cc
        by_empty false n q = ap at_end (empty_there xs zs ∙ ap (λ (v : Bool). v && all_nullable other zs) n) ∙ q
    stops_there (k ∷ ts) rest xs zs h = by_ahead (next look look.openings xs k) refl (λ ys. stops_there ts rest ys zs)
      where
        alone : next look look.openings xs k ≡ refused → stops (k ∷ ts) ≡ stops rest
        alone q = ap (λ (n : Ahead Rule Sort). go_on n (λ ys. answer look ys ts) (stops (k ∷ ts))) (sym q) ∙ ap (λ (us : Forms). answer look us (k ∷ ts)) (sym (append-nil xs)) ∙ h []

        past : next look look.openings xs k ≡ refused → all_nullable look xs ≡ true → answer look [] ts ≡ stops rest
        past q n =
            sym (answer_token look (kind k) [] k ts (fit k))
            ∙ ap (λ (m : Ahead Rule Sort). go_on m (λ ys. answer look ys ts) (stops (k ∷ ts))) (sym (next_past look ok k xs (token (kind k) ∷ []) q n))
            ∙ h (token (kind k) ∷ [])

        by_empty : (v : Bool) → all_nullable look xs ≡ v → next look look.openings xs k ≡ refused → answer other (all_there xs zs) (k ∷ ts) ≡ stops rest
        by_empty true n q = absurd (not_grown look ok [] k ts (past q n ∙ sym (alone q)))
        by_empty false n q = rw (next_refused k xs zs q n) (alone q)

        by_ahead : (n : Ahead Rule Sort) → next look look.openings xs k ≡ n → ((ys : Forms) → ((us : Forms) → answer look (ys ++ us) ts ≡ stops rest) → answer other (all_there ys zs) ts ≡ stops rest)
            → answer other (all_there xs zs) (k ∷ ts) ≡ stops rest
        by_ahead (remains ys) q f =
            rw (next_there k xs ys zs q) (f ys (λ us. ap (λ (n : Ahead Rule Sort). go_on n (λ vs. answer look vs ts) (stops (k ∷ ts))) (sym (next_keeps look ok k xs ys us q)) ∙ h us))
        by_ahead refused q f = by_empty (all_nullable look xs) refl q
        by_ahead unfinished q f = absurd (never look ok xs k q)

  -- ---- readings

  lazily_there : (n : ℕ) (xs : Forms) (ts : List Token) (ys : Forms) → Goes look.grammar n xs ts ys → (zs : Others) → LazyReading other.grammar (all_there xs zs) ts (all_there ys zs)
  lazily_there _ xs _ _ stop zs = (0, stop)
  lazily_there _ _ _ ys (read {n = n} {t = t} {k = k} {xs = xs} {ts = ts} f i) zs =
      let r = in_other.token_read t k f (all_there xs zs) in
      joined other.grammar r.0 (token_there t ∷ all_there xs zs) (k ∷ []) (all_there xs zs) r.1 ts (all_there ys zs) (lazily_there n xs ts ys i zs)
  lazily_there _ _ ts ys (open_rule {n = n} {r = r} {xs = xs} i) zs =
      let j = lazily_there n (look.grammar.form r ∷ xs) ts ys i zs in
      let k : LazyReading other.grammar (other.grammar.form (rule_there r) ∷ all_there xs zs) ts (all_there ys zs) = subst (λ (a : Form Other Kind). LazyReading other.grammar (a ∷ all_there xs zs) ts (all_there ys zs)) (sym (in_other.form r)) j in
      (suc k.0, open_rule k.1)
  lazily_there _ _ ts ys (pass {n = n} {xs = xs} i) zs = let j = lazily_there n xs ts ys i zs in (suc j.0, pass j.1)
  lazily_there _ _ ts ys (in_turn {n = n} {a = a} {b = b} {xs = xs} i) zs = let j = lazily_there n (a ∷ b ∷ xs) ts ys i zs in (suc j.0, in_turn j.1)
  lazily_there _ _ ts ys (first_of_two {n = n} {a = a} {xs = xs} i) zs = let j = lazily_there n (a ∷ xs) ts ys i zs in (suc j.0, first_of_two j.1)
  lazily_there _ _ ts ys (second_of_two {n = n} {b = b} {xs = xs} i) zs = let j = lazily_there n (b ∷ xs) ts ys i zs in (suc j.0, second_of_two j.1)
  lazily_there _ _ ts ys (no_more {n = n} {xs = xs} i) zs = let j = lazily_there n xs ts ys i zs in (suc j.0, no_more j.1)
  lazily_there _ _ ts ys (once_more {n = n} {a = a} {xs = xs} i) zs = let j = lazily_there n (a ∷ many a ∷ xs) ts ys i zs in (suc j.0, once_more j.1)

-- ---- what conforms

module _ {Rule Other Sort Kind : Type 0} (rule_there : Rule → Other) (token_there : Sort → Form Other Kind) (look : Lookahead Rule Sort Mark) (other : Lookahead Other Kind Mark) (ok : IsPredictive look) (in_other : IsInside rule_there token_there look other)
    (kind : Mark → Sort) (fit : (k : Mark) → look.grammar.fits (kind k) k ≡ true) (r : Rule) where
  goes_there : {A : Type 0} (marks : List Mark) (reading : Parsed A) → GoesAlong look (rule r) marks reading → GoesAlong other (rule (rule_there r)) marks reading
  goes_there marks (parsed part rest) c =
      let all = whole_answered look ok r c.front (read_at_once look.grammar r c.front (c.whole [])) in
      record {
        front = c.front;
        is = c.is;
        some = λ e. c.some (sym (in_other.empty r) ∙ e);
        reads = record {
          onward = λ xs. ap (λ (ts : List Mark). answer other (rule (rule_there r) ∷ xs) ts) c.is
              ∙ read_there rule_there token_there look other ok in_other c.front rest (rule r ∷ []) xs all (ap (λ (ts : List Mark). answer look (rule r ∷ []) ts) (sym c.is) ∙ c.reads.onward []);
        };
        whole = λ xs. let g = c.whole [] in lazily_there rule_there token_there look other ok in_other g.0 (rule r ∷ []) c.front [] g.1 xs;
      }
  goes_there marks (failed rest) h = record { here = λ xs. stops_there rule_there token_there look other ok in_other kind fit marks rest (rule r ∷ []) xs h.here }
  goes_there marks (over_limit limit rest) h =
      record {
        front = h.front;
        next = h.next;
        behind = h.behind;
        here = h.here;
        is = h.is;
        part = λ xs. let g = h.part [] in (_, lazily_there rule_there token_there look other ok in_other g.1.0 (rule r ∷ []) (h.front ++ (h.next ∷ [])) g.0 g.1.1 xs);
      }

  -- what conforms to the rule conforms to it inside the other grammar
  pub conforms_there : {A : Type 0} (marks : List Mark) (reading : Parsed A) → Conforms look (rule r) marks reading → Conforms other (rule (rule_there r)) marks reading
  conforms_there marks reading h = record { goes = goes_there marks reading h.goes }
