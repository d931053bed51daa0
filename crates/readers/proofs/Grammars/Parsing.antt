-- What a hand-written reader of a form needs: how reading goes through a token, a rule, a sequence, a choice, an option and
-- a repetition.
use Rattle.std.proofs.Common.{◌≡◌, ℕ, zero, suc, Bool, true, false, ◌&&◌, ◌||◌, List, [], ◌∷◌, IsTrue, refl, ap, sym, ◌∙◌, Result, Ok, Err}
use denote.Bor.{Bor}
use Rattle.readers.specs.grammar.Forms.{Form, token, rule, nothing, both, either, many, option}
use Rattle.readers.specs.grammar.Lookahead.{Lookahead, Ahead, refused, remains, when, nullable, in_first, next_in_first, into, next, stops, go_on, all_nullable, at_end, answer}
use Rattle.readers.specs.grammar.Predictive.{IsPredictive, shallow}
use Rattle.readers.specs.grammar.Parsing.{Reads, Stops, Iterations, Parses}
use Rattle.readers.proofs.Grammars.Shallow.{same_inside}

-- of two tests and what each leads to
pub two_tests : {Rule Sort : Type 0} (ba bb ea eb : Bool) (x y z : Ahead Rule Sort) → when (ba || (ea && bb)) (when ba x y) (when (ea && eb) z refused)
    ≡ when ba x (when ea (when bb y (when eb z refused)) refused)
two_tests true bb ea eb x y z = refl
two_tests false bb false eb x y z = refl
two_tests false true true eb x y z = refl
two_tests false false true eb x y z = refl

and_assoc : (a b c : Bool) → ((a && b) && c) ≡ (a && (b && c))
and_assoc true b c = refl
and_assoc false b c = refl

equal_tests : (a b : Bool) → (IsTrue a → IsTrue b) → (IsTrue b → IsTrue a) → a ≡ b
equal_tests true true h i = refl
equal_tests true false h i = let x : IsTrue false = h refl in cc
equal_tests false true h i = let x : IsTrue false = i refl in cc
equal_tests false false h i = refl

module _ {Rule Sort Token : Type 0} (look : Lookahead Rule Sort Token) where
  abbrev pub Stack : Type 0
  Stack = List (Form Rule Sort)

  -- what is read of two lists is the same where it is the same over the next token
  by_next : (xs ys : Stack) (k : Token) (ts : List Token) → next look look.openings xs k ≡ next look look.openings ys k → answer look xs (k ∷ ts) ≡ answer look ys (k ∷ ts)
  by_next xs ys k ts e = ap (λ (n : Ahead Rule Sort). go_on n (λ zs. answer look zs ts) (stops (k ∷ ts))) e

  into_token : (d : ℕ) (t : Sort) (xs : Stack) (k : Token) → into look d (token t) xs k ≡ remains xs
  into_token zero t xs k = refl
  into_token (suc d) t xs k = refl

  into_both : (d : ℕ) (a b : Form Rule Sort) (xs : Stack) (k : Token) → into look d (both a b) xs k ≡ when (in_first look a k) (into look d a (b ∷ xs) k) (into look d b xs k)
  into_both zero a b xs k = refl
  into_both (suc d) a b xs k = refl

  into_either : (d : ℕ) (a b : Form Rule Sort) (xs : Stack) (k : Token) → into look d (either a b) xs k ≡ when (in_first look a k) (into look d a xs k) (into look d b xs k)
  into_either zero a b xs k = refl
  into_either (suc d) a b xs k = refl

  into_many : (d : ℕ) (a : Form Rule Sort) (xs : Stack) (k : Token) → into look d (many a) xs k ≡ into look d a (many a ∷ xs) k
  into_many zero a xs k = refl
  into_many (suc d) a xs k = refl

  -- ---- a token

  pub answer_token : (t : Sort) (xs : Stack) (k : Token) (ts : List Token) → IsTrue (look.grammar.fits t k) → answer look (token t ∷ xs) (k ∷ ts) ≡ answer look xs ts
  answer_token t xs k ts h = rw (h, into_token look.openings t xs k) refl

  pub token_read : (t : Sort) (k : Token) (ts : List Token) → IsTrue (look.grammar.fits t k) → Reads look (token t) (k ∷ ts) ts
  token_read t k ts h = record { onward = λ xs. answer_token t xs k ts h }

  pub token_stops : (t : Sort) (k : Token) (ts : List Token) → look.grammar.fits t k ≡ false → Stops look (token t) (k ∷ ts) (k ∷ ts)
  token_stops t k ts h = record { here = λ xs. rw h refl }

  pub token_ends : (t : Sort) → Stops look (token t) [] []
  token_ends t = record { here = λ xs. refl }

  -- ---- nothing

  pub nothing_read : (ts : List Token) → Reads look nothing ts ts
  nothing_read [] = record { onward = λ xs. refl }
  nothing_read (k ∷ ts) = record { onward = λ xs. refl }

  -- ---- one form and then another

  pub answer_both : (a b : Form Rule Sort) (xs : Stack) (ts : List Token) → answer look (both a b ∷ xs) ts ≡ answer look (a ∷ b ∷ xs) ts
  answer_both a b xs [] = ap at_end (and_assoc (nullable look a) (nullable look b) (all_nullable look xs))
  answer_both a b xs (k ∷ ts) = by_next (both a b ∷ xs) (a ∷ b ∷ xs) k ts
      (rw (into_both look.openings a b xs k) (two_tests (in_first look a k) (in_first look b k) (nullable look a) (nullable look b) _ _ _))

  pub both_read : (a b : Form Rule Sort) (ts middle rest : List Token) → Reads look a ts middle → Reads look b middle rest → Reads look (both a b) ts rest
  both_read a b ts middle rest h i = record { onward = λ xs. answer_both a b xs ts ∙ h.onward (b ∷ xs) ∙ i.onward xs }

  pub second_stops : (a b : Form Rule Sort) (ts middle rest : List Token) → Reads look a ts middle → Stops look b middle rest → Stops look (both a b) ts rest
  second_stops a b ts middle rest h i = record { here = λ xs. answer_both a b xs ts ∙ h.onward (b ∷ xs) ∙ i.here xs }

  pub first_stops : (a b : Form Rule Sort) (ts rest : List Token) → Stops look a ts rest → Stops look (both a b) ts rest
  first_stops a b ts rest h = record { here = λ xs. answer_both a b xs ts ∙ h.here (b ∷ xs) }

  -- a sequence begins with the tokens with which its first form begins
  pub begins_both : (a b : Form Rule Sort) (ts : List Token) → IsTrue (next_in_first look a ts) → IsTrue (next_in_first look (both a b) ts)
  begins_both a b [] h = h
  begins_both a b (k ∷ ts) h = rw h refl

  -- a sequence whose first form is not empty begins with no other token
  pub begins_not_both : (a b : Form Rule Sort) (ts : List Token) → next_in_first look a ts ≡ false → nullable look a ≡ false → next_in_first look (both a b) ts ≡ false
  begins_not_both a b [] h e = h
  begins_not_both a b (k ∷ ts) h e = rw (h, e) refl

  -- ---- one of two forms

  pub answer_first : (a b : Form Rule Sort) (xs : Stack) (ts : List Token) → IsTrue (next_in_first look a ts) → answer look (either a b ∷ xs) ts ≡ answer look (a ∷ xs) ts
  answer_first a b xs [] h = cc
  answer_first a b xs (k ∷ ts) h = by_next (either a b ∷ xs) (a ∷ xs) k ts (rw (into_either look.openings a b xs k, h) refl)

  pub answer_second : (a b : Form Rule Sort) (xs : Stack) (ts : List Token) → next_in_first look a ts ≡ false → nullable look a ≡ false → answer look (either a b ∷ xs) ts ≡ answer look (b ∷ xs) ts
  answer_second a b xs [] h i = rw i refl
  answer_second a b xs (k ∷ ts) h i = by_next (either a b ∷ xs) (b ∷ xs) k ts (rw (into_either look.openings a b xs k, h, i) refl)

  -- the first form is chosen where it begins with the next token
  pub first_read : (a b : Form Rule Sort) (ts rest : List Token) → IsTrue (next_in_first look a ts) → Reads look a ts rest → Reads look (either a b) ts rest
  first_read a b ts rest h i = record { onward = λ xs. answer_first a b xs ts h ∙ i.onward xs }

  pub first_chosen_stops : (a b : Form Rule Sort) (ts rest : List Token) → IsTrue (next_in_first look a ts) → Stops look a ts rest → Stops look (either a b) ts rest
  first_chosen_stops a b ts rest h i = record { here = λ xs. answer_first a b xs ts h ∙ i.here xs }

  -- the second form is chosen where the first neither begins with the next token nor may be empty
  pub second_read : (a b : Form Rule Sort) (ts rest : List Token) → next_in_first look a ts ≡ false → nullable look a ≡ false → Reads look b ts rest → Reads look (either a b) ts rest
  second_read a b ts rest h e i = record { onward = λ xs. answer_second a b xs ts h e ∙ i.onward xs }

  pub second_chosen_stops : (a b : Form Rule Sort) (ts rest : List Token) → next_in_first look a ts ≡ false → nullable look a ≡ false → Stops look b ts rest → Stops look (either a b) ts rest
  second_chosen_stops a b ts rest h e i = record { here = λ xs. answer_second a b xs ts h e ∙ i.here xs }

  -- ---- an option

  -- the option is taken where it begins with the next token
  pub option_read : (a : Form Rule Sort) (ts rest : List Token) → IsTrue (next_in_first look a ts) → Reads look a ts rest → Reads look (option a) ts rest
  option_read a ts rest h i = first_read a nothing ts rest h i

  pub option_stops : (a : Form Rule Sort) (ts rest : List Token) → IsTrue (next_in_first look a ts) → Stops look a ts rest → Stops look (option a) ts rest
  option_stops a ts rest h i = first_chosen_stops a nothing ts rest h i

  or_true : (e : Bool) → (e || true) ≡ true
  or_true true = refl
  or_true false = refl

  -- the option is left where it does not begin with the next token
  pub option_left : (a : Form Rule Sort) (ts : List Token) → next_in_first look a ts ≡ false → Reads look (option a) ts ts
  option_left a [] h = record { onward = λ xs. rw (or_true (nullable look a)) refl }
  option_left a (k ∷ ts) h = record { onward = λ xs. by_next (option a ∷ xs) xs k ts (rw (h, or_true (nullable look a)) refl) }

  -- ---- a repetition

  pub answer_iteration : (a : Form Rule Sort) (xs : Stack) (ts : List Token) → IsTrue (next_in_first look a ts) → answer look (many a ∷ xs) ts ≡ answer look (a ∷ many a ∷ xs) ts
  answer_iteration a xs [] h = cc
  answer_iteration a xs (k ∷ ts) h = by_next (many a ∷ xs) (a ∷ many a ∷ xs) k ts (rw (into_many look.openings a xs k, h) refl)

  pub answer_over : (a : Form Rule Sort) (xs : Stack) (ts : List Token) → next_in_first look a ts ≡ false → answer look (many a ∷ xs) ts ≡ answer look xs ts
  answer_over a xs [] h = refl
  answer_over a xs (k ∷ ts) h = by_next (many a ∷ xs) xs k ts (rw h refl)

  -- before the first iteration
  pub iterations_begin : (a : Form Rule Sort) (ts : List Token) → Iterations look a ts ts
  iterations_begin a ts = record { onward = λ xs. refl }

  -- one more iteration, where the form begins with the next token
  pub iterations_more : (a : Form Rule Sort) (all ts rest : List Token) → Iterations look a all ts → IsTrue (next_in_first look a ts) → Reads look a ts rest → Iterations look a all rest
  iterations_more a all ts rest t h i = record { onward = λ xs. t.onward xs ∙ answer_iteration a xs ts h ∙ i.onward (many a ∷ xs) }

  -- reading stops in a iteration
  pub iterations_stop : (a : Form Rule Sort) (all ts rest : List Token) → Iterations look a all ts → IsTrue (next_in_first look a ts) → Stops look a ts rest → Stops look (many a) all rest
  iterations_stop a all ts rest t h i = record { here = λ xs. t.onward xs ∙ answer_iteration a xs ts h ∙ i.here (many a ∷ xs) }

  -- the repetition is over where the form does not begin with the next token
  pub iterations_over : (a : Form Rule Sort) (all ts : List Token) → Iterations look a all ts → next_in_first look a ts ≡ false → Reads look (many a) all ts
  iterations_over a all ts t h = record { onward = λ xs. t.onward xs ∙ answer_over a xs ts h }

  -- ---- a rule

  module _ (ok : IsPredictive look) where
    rule_into : (d : ℕ) (r : Rule) (xs : Stack) (k : Token) → IsTrue (shallow look d (rule r)) → IsTrue (look.first r k) → into look d (rule r) xs k ≡ into look d (look.grammar.form r) xs k
    rule_into zero r xs k s b = cc
    rule_into (suc d) r xs k s b = same_inside look ok d k (look.grammar.form r) xs s (ok.rule_first r k b)

    pub answer_rule : (r : Rule) (xs : Stack) (ts : List Token) → answer look (rule r ∷ xs) ts ≡ answer look (look.grammar.form r ∷ xs) ts
    answer_rule r xs [] = ap (λ (e : Bool). at_end (e && all_nullable look xs)) (equal_tests (look.nullable r) (nullable look (look.grammar.form r)) (ok.rule_nullable r) (ok.nullable_rule r))
    answer_rule r xs (k ∷ ts) = by_next (rule r ∷ xs) (look.grammar.form r ∷ xs) k ts
        (by_begins (look.first r k) refl (equal_tests (look.first r k) (in_first look (look.grammar.form r) k) (ok.rule_first r k) (ok.first_rule r k)) (equal_tests (look.nullable r) (nullable look (look.grammar.form r)) (ok.rule_nullable r) (ok.nullable_rule r)))
      where
        by_begins : (v : Bool) → look.first r k ≡ v → look.first r k ≡ in_first look (look.grammar.form r) k → look.nullable r ≡ nullable look (look.grammar.form r)
            → next look look.openings (rule r ∷ xs) k ≡ next look look.openings (look.grammar.form r ∷ xs) k
        by_begins true h e f =
            let i : in_first look (look.grammar.form r) k ≡ true = sym e ∙ h in
            rw (h, i) (rule_into look.openings r xs k (ok.shallow_rule r) h)
        by_begins false h e f =
            let i : in_first look (look.grammar.form r) k ≡ false = sym e ∙ h in
            rw (h, i, f) refl

    pub rule_read : (r : Rule) (ts rest : List Token) → Reads look (look.grammar.form r) ts rest → Reads look (rule r) ts rest
    rule_read r ts rest h = record { onward = λ xs. answer_rule r xs ts ∙ h.onward xs }

    pub rule_stops : (r : Rule) (ts rest : List Token) → Stops look (look.grammar.form r) ts rest → Stops look (rule r) ts rest
    rule_stops r ts rest h = record { here = λ xs. answer_rule r xs ts ∙ h.here xs }

    pub rule_parsed : (r : Rule) (ts : List Token) (result : Result (Bor (List Token)) (Bor (List Token))) → Parses look (look.grammar.form r) ts result → Parses look (rule r) ts result
    rule_parsed r ts (Ok rest) h = rule_read r ts rest.now h
    rule_parsed r ts (Err rest) h = rule_stops r ts rest.now h

  -- ---- the same of what a reader over a slice answers

  pub second_parsed : (a b : Form Rule Sort) (ts middle : List Token) (result : Result (Bor (List Token)) (Bor (List Token))) → Reads look a ts middle → Parses look b middle result → Parses look (both a b) ts result
  second_parsed a b ts middle (Ok rest) h i = both_read a b ts middle rest.now h i
  second_parsed a b ts middle (Err rest) h i = second_stops a b ts middle rest.now h i

  pub first_chosen : (a b : Form Rule Sort) (ts : List Token) (result : Result (Bor (List Token)) (Bor (List Token))) → IsTrue (next_in_first look a ts) → Parses look a ts result → Parses look (either a b) ts result
  first_chosen a b ts (Ok rest) h i = first_read a b ts rest.now h i
  first_chosen a b ts (Err rest) h i = first_chosen_stops a b ts rest.now h i

  pub second_chosen : (a b : Form Rule Sort) (ts : List Token) (result : Result (Bor (List Token)) (Bor (List Token))) → next_in_first look a ts ≡ false → nullable look a ≡ false → Parses look b ts result → Parses look (either a b) ts result
  second_chosen a b ts (Ok rest) h e i = second_read a b ts rest.now h e i
  second_chosen a b ts (Err rest) h e i = second_chosen_stops a b ts rest.now h e i
