-- What is read conforms to a grammar: one law for each way in which readings are made of others, so that the law of a rule
-- is one term with the shape of its definition.
use Rattle.std.proofs.Common.{◌≡◌, ℕ, zero, suc, ◌+◌, ◌<◌, ◌≤◌, Bool, true, false, ◌&&◌, ◌||◌, List, [], ◌∷◌, ◌++◌, length, map, IsTrue, refl, sym, ap, ◌∙◌, arith, subst, append_assoc}
use Rattle.std.proofs.lemmas.List.{length-append}
use Rattle.readers.specs.Marks.{Mark}
use Rattle.readers.specs.declared.limits.Limit.{Limit}
use Rattle.aerie_text.specs.Sorts.{number_of}
use Rattle.aerie_text.specs.declared.sorts.Sort.{Sort}
use Rattle.readers.specs.grammar.Forms.{Form, token, rule, nothing, both, either, many, option, separated}
use Rattle.readers.specs.grammar.LazyReadings.{stop, read, open_rule, pass, in_turn, first_of_two, second_of_two, no_more, once_more, LazyReading}
use Rattle.readers.specs.grammar.Lookahead.{Lookahead, nullable, in_first, next_in_first, answer}
use Rattle.readers.specs.grammar.Predictive.{IsPredictive}
use Rattle.readers.specs.grammar.Notation.{one_of}
use Rattle.readers.specs.grammar.Parsing.{Stops}
use Rattle.readers.specs.grammar.Tables.{is_among}
use Rattle.readers.specs.Parsed.{Parsed, parsed, failed, over_limit, ◌>>=◌, next_fits, next_is, is_of, is_one_of, one_of_at, chosen, taken, mark_at, had, has_at, limited, iterations_at, repeated, separated_at}
use Rattle.readers.specs.Conforms.{Covers, ReadsPast, GoesAlong, Conforms}
use Rattle.readers.proofs.Grammars.Parsing.{token_read, token_stops, token_ends, both_read, first_stops, second_stops, answer_first, answer_second, option_read, option_left, answer_iteration, answer_over, answer_rule}
use Rattle.readers.proofs.Begun.{joined, begun}

some_of_both : (a b : Bool) (m n : ℕ) → (a && b) ≡ false → (a ≡ false → 0 < m) → (b ≡ false → 0 < n) → 0 < m + n
some_of_both true true m n e h i = cc
some_of_both true false m n e h i = let l = i refl in omega (arith, l)
some_of_both false b m n e h i = let l = h refl in omega (arith, l)

or_front : (a b : Bool) → (a || b) ≡ false → a ≡ false
or_front true b e = e
or_front false b e = refl

or_back : (a b : Bool) → (a || b) ≡ false → b ≡ false
or_back true b e = cc
or_back false b e = e

or_false : (a b : Bool) → b ≡ false → (a || b) ≡ a
or_false true b e = refl
or_false false b e = e

equal_tests : (a b : Bool) → (IsTrue a → IsTrue b) → (IsTrue b → IsTrue a) → a ≡ b
equal_tests true b h i = sym (h refl)
equal_tests false true h i = i refl
equal_tests false false h i = refl

-- the reading gives a value and leaves these marks
pub record IsValue {A : Type 0} (reading : Parsed A) (rest : List Mark) : Type 0 where
  pub part : A
  pub is : reading ≡ parsed part rest

pub value : {A : Type 0} {part : A} {rest : List Mark} → IsValue (parsed part rest) rest
value {part = part} = record { part = part; is = refl }

module _ {Rule Kind : Type 0} (look : Lookahead Rule Kind Mark) where
  -- ---- a form that goes as another does

  pub record GoesAs (b a : Form Rule Kind) (marks : List Mark) : Type 0 where
    pub answers : (xs : List (Form Rule Kind)) → answer look (b ∷ xs) marks ≡ answer look (a ∷ xs) marks
    pub lifts : (xs : List (Form Rule Kind)) (ts : List Mark) (zs : List (Form Rule Kind)) → LazyReading look.grammar (a ∷ xs) ts zs → LazyReading look.grammar (b ∷ xs) ts zs
    pub some : nullable look b ≡ false → nullable look a ≡ false

  goes_as : {A : Type 0} (b a : Form Rule Kind) (marks : List Mark) (r : Parsed A) → GoesAs b a marks → GoesAlong look a marks r → GoesAlong look b marks r
  goes_as b a marks (parsed part rest) s c = record {
    front = c.front;
    is = c.is;
    some = λ e. c.some (s.some e);
    reads = record { onward = λ xs. s.answers xs ∙ c.reads.onward xs };
    whole = λ xs. s.lifts xs c.front xs (c.whole xs);
  }
  goes_as b a marks (failed rest) s h = record { here = λ xs. s.answers xs ∙ h.here xs }
  goes_as b a marks (over_limit limit rest) s h = record {
    front = h.front;
    next = h.next;
    behind = h.behind;
    here = h.here;
    is = h.is;
    part = λ xs. let i = h.part xs in (i.0, s.lifts xs (h.front ++ (h.next ∷ [])) i.0 i.1);
  }

  -- ---- one form and then another

  behind_covers : {A : Type 0} (a b : Form Rule Kind) (marks middle : List Mark) (r : Parsed A) → Covers look a marks middle → GoesAlong look b middle r → GoesAlong look (both a b) marks r
  behind_covers a b marks middle (parsed part rest) c d = record {
    front = c.front ++ d.front;
    is = c.is ∙ ap (λ (x : List Mark). c.front ++ x) d.is ∙ sym (append_assoc c.front d.front rest);
    some = λ e. rw (length-append c.front d.front) (some_of_both (nullable look a) (nullable look b) (length c.front) (length d.front) e c.some d.some);
    reads = both_read look a b marks middle rest c.reads d.reads;
    whole = λ xs. let i = c.whole (b ∷ xs) in let j = joined look.grammar i.0 (a ∷ b ∷ xs) c.front (b ∷ xs) i.1 d.front xs (d.whole xs) in (suc j.0, in_turn j.1);
  }
  behind_covers a b marks middle (failed rest) c h = second_stops look a b marks middle rest c.reads h
  behind_covers a b marks middle (over_limit limit rest) c h = record {
    front = c.front ++ h.front;
    next = h.next;
    behind = h.behind;
    here = h.here;
    is = c.is ∙ ap (λ (x : List Mark). c.front ++ x) h.is ∙ sym (append_assoc c.front h.front rest);
    part = λ xs. let i = c.whole (b ∷ xs) in let k = h.part xs in
        let j = joined look.grammar i.0 (a ∷ b ∷ xs) c.front (b ∷ xs) i.1 (h.front ++ (h.next ∷ [])) k.0 k.1 in
        (k.0, subst (λ (ts : List Mark). LazyReading look.grammar (both a b ∷ xs) ts k.0) (sym (append_assoc c.front h.front (h.next ∷ []))) (suc j.0, in_turn j.1));
  }

  then_goes : {A B : Type 0} (a b : Form Rule Kind) (marks : List Mark) (r : Parsed A) (f : A × List Mark → Parsed B) → GoesAlong look a marks r
      → ((part : A) (rest : List Mark) → Covers look a marks rest → GoesAlong look b rest (f (part, rest))) → GoesAlong look (both a b) marks (r >>= f)
  then_goes a b marks (parsed part rest) f c i = behind_covers a b marks rest (f (part, rest)) c (i part rest c)
  then_goes a b marks (failed rest) f h i = first_stops look a b marks rest h
  then_goes a b marks (over_limit limit rest) f h i = record {
    front = h.front;
    next = h.next;
    behind = h.behind;
    here = h.here;
    is = h.is;
    part = λ xs. let k = h.part (b ∷ xs) in (k.0, (suc k.1.0, in_turn k.1.1));
  }

  value_goes : {A B : Type 0} (a : Form Rule Kind) (marks : List Mark) (r : Parsed A) (f : A × List Mark → Parsed B) → GoesAlong look a marks r
      → ((part : A) (rest : List Mark) → IsValue (f (part, rest)) rest) → GoesAlong look a marks (r >>= f)
  value_goes a marks (parsed part rest) f c i = let v = i part rest in subst (λ r. GoesAlong look a marks r) (sym v.is) c
  value_goes a marks (failed rest) f h i = h
  value_goes a marks (over_limit limit rest) f h i = h

  -- ---- a token

  token_goes : {A : Type 0} (t : Kind) (sort : Sort) (says : Mark → A) → ((k : Mark) → look.grammar.fits t k ≡ is_of sort k) → (marks : List Mark) → GoesAlong look (token t) marks (mark_at sort says marks)
  token_goes t sort says fit [] = token_ends look t
  token_goes t sort says fit (k ∷ rest) = by_test (is_of sort k) refl
    where
      by_test : (v : Bool) → is_of sort k ≡ v → GoesAlong look (token t) (k ∷ rest) (taken v (says k) (k ∷ rest) rest)
      by_test true e = let f : IsTrue (look.grammar.fits t k) = fit k ∙ e in
          record { front = k ∷ []; is = refl; some = λ e. omega arith; reads = token_read look t k rest f; whole = λ xs. (1, read f stop) }
      by_test false e = token_stops look t k rest (fit k ∙ e)

  has_goes : (t : Kind) (sort : Sort) → ((k : Mark) → look.grammar.fits t k ≡ is_of sort k) → (marks : List Mark) → GoesAlong look (option (token t)) marks (has_at sort marks)
  has_goes t sort fit [] = record { front = []; is = refl; some = λ e. cc; reads = option_left look (token t) [] refl; whole = λ xs. (2, second_of_two (pass stop)) }
  has_goes t sort fit (k ∷ rest) = by_test (is_of sort k) refl
    where
      by_test : (v : Bool) → is_of sort k ≡ v → GoesAlong look (option (token t)) (k ∷ rest) (had v (k ∷ rest) rest)
      by_test true e = let f : IsTrue (look.grammar.fits t k) = fit k ∙ e in
          record { front = k ∷ []; is = refl; some = λ e. omega arith; reads = option_read look (token t) (k ∷ rest) rest f (token_read look t k rest f); whole = λ xs. (2, first_of_two (read f stop)) }
      by_test false e = record { front = []; is = refl; some = λ e. cc; reads = option_left look (token t) (k ∷ rest) (fit k ∙ e); whole = λ xs. (2, second_of_two (pass stop)) }

  -- ---- a choice

  next_begins : (test : Mark → Bool) (a : Form Rule Kind) → ((k : Mark) → test k ≡ in_first look a k) → (marks : List Mark) → next_fits test marks ≡ next_in_first look a marks
  next_begins test a h [] = refl
  next_begins test a h (k ∷ rest) = h k

  -- a form in sequence begins as its first form does, where that is not empty
  begins_first : (a b : Form Rule Kind) → nullable look a ≡ false → (k : Mark) → in_first look a k ≡ in_first look (both a b) k
  begins_first a b e k = rw e (sym (or_false (in_first look a k) false refl))

  as_first : (a b : Form Rule Kind) (marks : List Mark) → IsTrue (next_in_first look a marks) → GoesAs (either a b) a marks
  as_first a b marks h = record {
    answers = λ xs. answer_first look a b xs marks h;
    lifts = λ xs ts zs i. (suc i.0, first_of_two i.1);
    some = or_front (nullable look a) (nullable look b);
  }

  as_second : (a b : Form Rule Kind) (marks : List Mark) → next_in_first look a marks ≡ false → nullable look a ≡ false → GoesAs (either a b) b marks
  as_second a b marks h e = record {
    answers = λ xs. answer_second look a b xs marks h e;
    lifts = λ xs ts zs i. (suc i.0, second_of_two i.1);
    some = or_back (nullable look a) (nullable look b);
  }

  or_true : (e : Bool) → (e || true) ≡ false → ⊥
  or_true true e = cc
  or_true false e = cc

  left_out : (a : Form Rule Kind) (marks : List Mark) → next_in_first look a marks ≡ false → Covers look (option a) marks marks
  left_out a marks h = record { front = []; is = refl; some = λ e. absurd (or_true (nullable look a) e); reads = option_left look a marks h; whole = λ xs. (2, second_of_two (pass stop)) }

  -- ---- iterations

  module _ {S : Type 0} (a : Form Rule Kind) (test : Mark → Bool) (iteration : S → List Mark → Parsed S) (h : (k : Mark) → test k ≡ in_first look a k) (e : nullable look a ≡ false) where
    once_more_covers : (marks middle rest : List Mark) → IsTrue (next_in_first look a marks) → Covers look a marks middle → Covers look (many a) middle rest → Covers look (many a) marks rest
    once_more_covers marks middle rest b c d = record {
      front = c.front ++ d.front;
      is = c.is ∙ ap (λ (x : List Mark). c.front ++ x) d.is ∙ sym (append_assoc c.front d.front rest);
      some = λ f. cc;
      reads = record { onward = λ xs. answer_iteration look a xs marks b ∙ c.reads.onward (many a ∷ xs) ∙ d.reads.onward xs };
      whole = λ xs. let i = c.whole (many a ∷ xs) in let j = joined look.grammar i.0 (a ∷ many a ∷ xs) c.front (many a ∷ xs) i.1 d.front xs (d.whole xs) in (suc j.0, once_more j.1);
    }

    once_more_goes : (marks middle : List Mark) (r : Parsed S) → IsTrue (next_in_first look a marks) → Covers look a marks middle → GoesAlong look (many a) middle r → GoesAlong look (many a) marks r
    once_more_goes marks middle (parsed part rest) b c d = once_more_covers marks middle rest b c d
    once_more_goes marks middle (failed rest) b c i = record { here = λ xs. answer_iteration look a xs marks b ∙ c.reads.onward (many a ∷ xs) ∙ i.here xs }
    once_more_goes marks middle (over_limit limit rest) b c i = record {
      front = c.front ++ i.front;
      next = i.next;
      behind = i.behind;
      here = i.here;
      is = c.is ∙ ap (λ (x : List Mark). c.front ++ x) i.is ∙ sym (append_assoc c.front i.front rest);
      part = λ xs. let w = c.whole (many a ∷ xs) in let k = i.part xs in
          let j = joined look.grammar w.0 (a ∷ many a ∷ xs) c.front (many a ∷ xs) w.1 (i.front ++ (i.next ∷ [])) k.0 k.1 in
          (k.0, subst (λ (ts : List Mark). LazyReading look.grammar (many a ∷ xs) ts k.0) (sym (append_assoc c.front i.front (i.next ∷ []))) (suc j.0, once_more j.1));
    }

    -- a iteration, and the iterations behind it
    iteration_goes : (marks : List Mark) (r : Parsed S) (f : S × List Mark → Parsed S) → IsTrue (next_in_first look a marks) → GoesAlong look a marks r
        → ((part : S) (rest : List Mark) → Covers look a marks rest → GoesAlong look (many a) rest (f (part, rest))) → GoesAlong look (many a) marks (r >>= f)
    iteration_goes marks (parsed part rest) f b c i = once_more_goes marks rest (f (part, rest)) b c (i part rest c)
    iteration_goes marks (failed rest) f b s i = record { here = λ xs. answer_iteration look a xs marks b ∙ s.here (many a ∷ xs) }
    iteration_goes marks (over_limit limit rest) f b s i = record {
      front = s.front;
      next = s.next;
      behind = s.behind;
      here = s.here;
      is = s.is;
      part = λ xs. let k = s.part (many a ∷ xs) in (k.0, (suc k.1.0, once_more k.1.1));
    }

    over_goes : (marks : List Mark) → next_in_first look a marks ≡ false → Covers look (many a) marks marks
    over_goes marks b = record { front = []; is = refl; some = λ f. cc; reads = record { onward = λ xs. answer_over look a xs marks b }; whole = λ xs. (1, no_more stop) }

    shorter : (most : ℕ) (marks rest : List Mark) → length marks ≤ suc most → Covers look a marks rest → length rest ≤ most
    shorter most marks rest l c =
        let n : length marks ≡ length c.front + length rest = ap (λ (x : List Mark). length x) c.is ∙ length-append c.front rest in
        let s = c.some e in
        omega (arith, l, n, s)

    none_left : (marks : List Mark) → length marks ≤ 0 → next_in_first look a marks ≡ false
    none_left [] l = refl
    none_left (k ∷ rest) l = absurd (omega (arith, l))

    iterations_go : ((state : S) (marks : List Mark) → next_fits test marks ≡ true → GoesAlong look a marks (iteration state marks))
        → (most : ℕ) (state : S) (marks : List Mark) → length marks ≤ most → GoesAlong look (many a) marks (iterations_at test iteration most state marks)
    iterations_go i zero state marks l = over_goes marks (none_left marks l)
    iterations_go i (suc most) state marks l = by_test (next_fits test marks) refl
        (λ part rest c. iterations_go i most part rest (shorter most marks rest l c))
      where
        by_test : (v : Bool) → next_fits test marks ≡ v → ((part : S) (rest : List Mark) → Covers look a marks rest → GoesAlong look (many a) rest (iterations_at test iteration most part rest))
            → GoesAlong look (many a) marks (chosen v (λ here. iteration state here >>= λ after. iterations_at test iteration most after.0 after.1) (parsed state) marks)
        by_test false b f = over_goes marks (sym (next_begins test a h marks) ∙ b)
        by_test true b f = iteration_goes marks (iteration state marks) (λ after. iterations_at test iteration most after.0 after.1) (sym (next_begins test a h marks) ∙ b) (i state marks b) f

  -- ---- a rule

  as_rule : IsPredictive look → (r : Rule) (marks : List Mark) → GoesAs (rule r) (look.grammar.form r) marks
  as_rule ok r marks = record {
    answers = λ xs. answer_rule look ok r xs marks;
    lifts = λ xs ts zs i. (suc i.0, open_rule i.1);
    some = λ e. sym (equal_tests (look.nullable r) (nullable look (look.grammar.form r)) (ok.rule_nullable r) (ok.nullable_rule r)) ∙ e;
  }

  -- ---- a limit

  goes_over : IsPredictive look → (a : Form Rule Kind) (marks : List Mark) → IsTrue (next_in_first look a marks) → ReadsPast look a marks marks
  goes_over ok a [] b = cc
  goes_over ok a (k ∷ rest) b = record { front = []; next = k; behind = rest; here = refl; is = refl; part = begun look ok k a b }

  fails : (a : Form Rule Kind) (marks : List Mark) → next_in_first look a marks ≡ false → nullable look a ≡ false → Stops look a marks marks
  fails a [] b e = record { here = λ xs. rw e refl }
  fails a (k ∷ rest) b e = record { here = λ xs. rw (b, e) refl }

-- ---- with which marks a form begins

-- the form begins with the marks that pass the test
pub record Begins {Rule Kind : Type 0} (look : Lookahead Rule Kind Mark) (test : Mark → Bool) (form : Form Rule Kind) : Type 0 where
  pub is : (k : Mark) → test k ≡ in_first look form k

-- the sorts of a table are those of the test
pub in_table : (sorts : List Sort) (k : Mark) → is_one_of sorts k ≡ is_among number_of sorts (number_of k.sort)
in_table [] k = refl
in_table (sort ∷ []) k = sym (or_false (is_of sort k) false refl)
in_table (sort ∷ (other ∷ others)) k = ap (λ (v : Bool). is_of sort k || v) (in_table (other ∷ others) k)

module _ {Rule Kind : Type 0} {look : Lookahead Rule Kind Mark} where
  pub begins_token : {t : Kind} (sort : Sort) → ((k : Mark) → look.grammar.fits t k ≡ is_of sort k) → Begins look (is_of sort) (token t)
  begins_token sort fit = record { is = λ k. sym (fit k) }

  pub begins_rule : {r : Rule} {test : Mark → Bool} → ((k : Mark) → test k ≡ look.first r k) → Begins look test (rule r)
  begins_rule h = record { is = h }

  pub begins_both : {a b : Form Rule Kind} {test : Mark → Bool} → Begins look test a → nullable look a ≡ false → Begins look test (both a b)
  begins_both {a = a} {b = b} h e = record { is = λ k. h.is k ∙ begins_first look a b e k }

  pub begins_either : {a b : Form Rule Kind} {p q : Mark → Bool} → Begins look p a → Begins look q b → Begins look (λ k. p k || q k) (either a b)
  begins_either {a = a} {b = b} {q = q} h i = record { is = λ k. ap (λ (v : Bool). v || q k) (h.is k) ∙ ap (λ (v : Bool). in_first look a k || v) (i.is k) }

  pub begins_many : {a : Form Rule Kind} {test : Mark → Bool} → Begins look test a → Begins look test (many a)
  begins_many h = record { is = h.is }

  -- the next mark passes the test, or it doesn't
  pub begins_here : {a : Form Rule Kind} {test : Mark → Bool} {v : Bool} (marks : List Mark) → Begins look test a → next_fits test marks ≡ v → next_in_first look a marks ≡ v
  begins_here {a = a} {test = test} marks h w = sym (next_begins look test a h.is marks) ∙ w

-- ---- the laws

module _ {Rule Kind : Type 0} {look : Lookahead Rule Kind Mark} where
  -- a token of the sort, and what its mark says
  pub token_conforms : {A : Type 0} {t : Kind} (sort : Sort) (says : Mark → A) → ((k : Mark) → look.grammar.fits t k ≡ is_of sort k) → {marks : List Mark}
      → Conforms look (token t) marks (mark_at sort says marks)
  token_conforms {t = t} sort says fit {marks = marks} = record { goes = token_goes look t sort says fit marks }

  -- an option that is a token of the sort
  pub has_conforms : {t : Kind} (sort : Sort) → ((k : Mark) → look.grammar.fits t k ≡ is_of sort k) → {marks : List Mark} → Conforms look (option (token t)) marks (has_at sort marks)
  has_conforms {t = t} sort fit {marks = marks} = record { goes = has_goes look t sort fit marks }

  -- one part, and then another
  pub and_then : {A B : Type 0} {a b : Form Rule Kind} {marks : List Mark} {r : Parsed A} (f : A × List Mark → Parsed B) → Conforms look a marks r
      → ((part : A) (rest : List Mark) → Conforms look b rest (f (part, rest))) → Conforms look (both a b) marks (r >>= f)
  and_then {a = a} {b = b} {marks = marks} {r = r} f h i = record {
    goes = then_goes look a b marks r f h.goes (λ part rest c. let s = i part rest in s.goes);
  }

  -- the last part, and what is made of it
  pub then_value : {A B : Type 0} {a : Form Rule Kind} {marks : List Mark} {r : Parsed A} (f : A × List Mark → Parsed B) → Conforms look a marks r
      → ((part : A) (rest : List Mark) → IsValue (f (part, rest)) rest) → Conforms look a marks (r >>= f)
  then_value {a = a} {marks = marks} {r = r} f h i = record { goes = value_goes look a marks r f h.goes i }

  -- one of two, by the next mark
  pub either_conforms : {A : Type 0} {a b : Form Rule Kind} {test : Mark → Bool} {marks : List Mark} (p q : List Mark → Parsed A) → Begins look test a → nullable look a ≡ false
      → (next_fits test marks ≡ true → Conforms look a marks (p marks)) → (next_fits test marks ≡ false → Conforms look b marks (q marks))
      → Conforms look (either a b) marks (chosen (next_fits test marks) p q marks)
  either_conforms {A = A} {a = a} {b = b} {test = test} {marks = marks} p q h e i j = record { goes = by_test (next_fits test marks) refl }
    where
      by_test : (v : Bool) → next_fits test marks ≡ v → GoesAlong look (either a b) marks (chosen v p q marks)
      by_test true w = let s = i w in goes_as look (either a b) a marks (p marks) (as_first look a b marks (begins_here marks h w)) s.goes
      by_test false w = let s = j w in goes_as look (either a b) b marks (q marks) (as_second look a b marks (begins_here marks h w) e) s.goes

  -- an option, by the next mark
  pub option_conforms : {A : Type 0} {a : Form Rule Kind} {test : Mark → Bool} {marks : List Mark} (p q : List Mark → Parsed A) → Begins look test a
      → (next_fits test marks ≡ true → Conforms look a marks (p marks)) → IsValue (q marks) marks
      → Conforms look (option a) marks (chosen (next_fits test marks) p q marks)
  option_conforms {A = A} {a = a} {test = test} {marks = marks} p q h i j = record { goes = by_test (next_fits test marks) refl }
    where
      by_test : (v : Bool) → next_fits test marks ≡ v → GoesAlong look (option a) marks (chosen v p q marks)
      by_test true w = let s = i w in goes_as look (option a) a marks (p marks) (as_first look a nothing marks (begins_here marks h w)) s.goes
      by_test false w = subst (λ r. GoesAlong look (option a) marks r) (sym j.is) (left_out look a marks (begins_here marks h w))

  -- one form in either case
  pub chosen_conforms : {A : Type 0} {a : Form Rule Kind} {marks : List Mark} (test : Bool) (p q : List Mark → Parsed A)
      → (test ≡ true → Conforms look a marks (p marks)) → (test ≡ false → Conforms look a marks (q marks)) → Conforms look a marks (chosen test p q marks)
  chosen_conforms true p q i j = i refl
  chosen_conforms false p q i j = j refl

  -- iterations of a form
  pub repeated_conforms : {S : Type 0} {a : Form Rule Kind} {test : Mark → Bool} {iteration : S → List Mark → Parsed S} {marks : List Mark} (state : S) → Begins look test a → nullable look a ≡ false
      → ((now : S) (here : List Mark) → next_fits test here ≡ true → Conforms look a here (iteration now here)) → Conforms look (many a) marks (repeated test iteration state marks)
  repeated_conforms {a = a} {test = test} {iteration = iteration} {marks = marks} state h e i = record {
    goes = iterations_go look a test iteration h.is e (λ now here w. let s = i now here w in s.goes) (length marks) state marks (omega arith);
  }

  -- the form of a rule
  pub rule_conforms : {A : Type 0} {r : Rule} {marks : List Mark} {reading : Parsed A} → IsPredictive look → Conforms look (look.grammar.form r) marks reading → Conforms look (rule r) marks reading
  rule_conforms {r = r} {marks = marks} {reading = reading} ok h = record { goes = goes_as look (rule r) (look.grammar.form r) marks reading (as_rule look ok r marks) h.goes }

  -- a limit is passed where the form begins
  pub over_limit_conforms : {A : Type 0} {a : Form Rule Kind} {marks : List Mark} {limit : Limit} → IsPredictive look → next_in_first look a marks ≡ true → Conforms look {A = A} a marks (over_limit limit marks)
  over_limit_conforms {a = a} {marks = marks} ok b = record { goes = goes_over look ok a marks b }

  -- reading stops where the form neither begins nor may be empty
  pub failed_conforms : {A : Type 0} {a : Form Rule Kind} {marks : List Mark} → next_in_first look a marks ≡ false → nullable look a ≡ false → Conforms look {A = A} a marks (failed marks)
  failed_conforms {a = a} {marks = marks} b e = record { goes = fails look a marks b e }

  -- a part in front of which a limit is judged
  pub limited_conforms : {A : Type 0} {a : Form Rule Kind} {marks : List Mark} (past : Bool) (limit : Limit) (part : List Mark → Parsed A) → IsPredictive look
      → (past ≡ true → next_in_first look a marks ≡ true) → (past ≡ false → Conforms look a marks (part marks)) → Conforms look a marks (limited past limit part marks)
  limited_conforms true limit part ok b i = over_limit_conforms ok (b refl)
  limited_conforms false limit part ok b i = i refl

  -- one part or more, with a token before each further one
  pub separated_conforms : {S : Type 0} {t : Kind} {a : Form Rule Kind} {iteration : S → List Mark → Parsed S} {marks : List Mark} (sort : Sort) (state : S) → ((k : Mark) → look.grammar.fits t k ≡ is_of sort k)
      → ((now : S) (here : List Mark) → Conforms look a here (iteration now here)) → Conforms look (separated (token t) a) marks (separated_at sort iteration state marks)
  separated_conforms {t = t} {a = a} {iteration = iteration} {marks = marks} sort state fit i = and_then _ (i state marks) (λ first rest. repeated_conforms _ (begins_both (begins_token sort fit) refl) refl
      (λ now here w. and_then _ (token_conforms sort (λ k. k.at) fit) (λ mark behind. i now behind)))

-- ---- words and symbols that stand for a value

module _ {Rule : Type 0} {look : Lookahead Rule Sort Mark} (fit : (t : Sort) (k : Mark) → look.grammar.fits t k ≡ is_of t k) where
  -- one of some tokens begins with the marks of their sorts
  pub begins_one_of : (sort : Sort) (others : List Sort) → Begins look (is_one_of (sort ∷ others)) (one_of sort others)
  begins_one_of sort [] = begins_token sort (fit sort)
  begins_one_of sort (other ∷ others) = begins_either (begins_token sort (fit sort)) (begins_one_of other others)

  -- one of some tokens, by the next mark
  pub one_of_conforms : {A : Type 0} (entry : Sort × A) (others : List (Sort × A)) {marks : List Mark}
      → Conforms look (one_of entry.0 (map (λ other. other.0) others)) marks (one_of_at (entry ∷ others) marks)
  one_of_conforms entry [] {marks = marks} =
      let begin : Begins look (is_of entry.0) (token entry.0) = begins_token entry.0 (fit entry.0) in
      chosen_conforms (next_is entry.0 marks) _ _ (λ next. token_conforms entry.0 _ (fit entry.0)) (λ next. failed_conforms (begins_here marks begin next) refl)
  one_of_conforms entry (other ∷ others) {marks = marks} =
      either_conforms _ _ (begins_token entry.0 (fit entry.0)) refl (λ next. token_conforms entry.0 _ (fit entry.0)) (λ next. one_of_conforms other others)
