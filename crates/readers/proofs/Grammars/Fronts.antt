-- Where tokens are read whole by forms of which the last ends with a token, a reader of one token ahead goes on behind them,
-- whatever stands there, with what is to be read after the forms.
use Rattle.std.proofs.Common.{◌≡◌, ℕ, zero, suc, Bool, true, false, ◌&&◌, List, [], ◌∷◌, ◌++◌, refl, ap, sym, ◌∙◌, subst, inl, inr, ◌⊎◌}
use Rattle.readers.specs.grammar.Forms.{Form, token, rule, nothing, both, either, many}
use Rattle.readers.specs.grammar.Parsing.{Stops}
use Rattle.readers.specs.grammar.Predictive.{IsPredictive}
use Rattle.readers.specs.grammar.Readings.{IsRead}
use Rattle.readers.proofs.Grammars.Parsing.{two_tests, answer_token, answer_rule}
use Rattle.readers.proofs.Grammars.Verdicts.{whole_answered}
use Rattle.readers.specs.grammar.Lookahead.{Lookahead, Ahead, refused, unfinished, remains, when, nullable, in_first, inside, into, next, whole, stops, go_on, all_nullable, at_end, answer}

and_false : (a : Bool) → (a && false) ≡ false
and_false true = refl
and_false false = refl

no_end : {Token : Type 0} (v : Bool) → v ≡ false → at_end {Token = Token} v ≡ whole → ⊥
no_end true n e = cc
no_end false n e = cc

module _ {Rule Sort Token : Type 0} (look : Lookahead Rule Sort Token) where
  abbrev pub Stack : Type 0
  Stack = List (Form Rule Sort)

  -- What remains after a token keeps the forms behind, and it would keep any others in their stead.
  pub record Keeps (ahead : Stack → Ahead Rule Sort) (behind left : Stack) : Type 0 where
    pub front : Stack
    pub is : left ≡ front ++ behind
    pub others : (vs : Stack) → ahead vs ≡ remains (front ++ vs)

  inside_keeps : (f : Rule → Stack → Token → Ahead Rule Sort) (k : Token)
      → ((r : Rule) (xs zs us : Stack) → f r (xs ++ zs) k ≡ remains us → Keeps (λ vs. f r (xs ++ vs) k) zs us)
      → (a : Form Rule Sort) (xs zs us : Stack) → inside look f a (xs ++ zs) k ≡ remains us → Keeps (λ vs. inside look f a (xs ++ vs) k) zs us
  inside_keeps f k h (token t) xs zs us e = record { front = xs; is = cc; others = λ vs. refl }
  inside_keeps f k h (rule r) xs zs us e = h r xs zs us e
  inside_keeps f k h nothing xs zs us e = cc
  inside_keeps f k h (both a c) xs zs us e = by_first (in_first look a k) refl e (λ q. inside_keeps f k h a (c ∷ xs) zs us q) (λ q. inside_keeps f k h c xs zs us q)
    where
      by_first : (v : Bool) → in_first look a k ≡ v → when v (inside look f a (c ∷ xs ++ zs) k) (inside look f c (xs ++ zs) k) ≡ remains us
          → (inside look f a (c ∷ xs ++ zs) k ≡ remains us → Keeps (λ vs. inside look f a (c ∷ xs ++ vs) k) zs us)
          → (inside look f c (xs ++ zs) k ≡ remains us → Keeps (λ vs. inside look f c (xs ++ vs) k) zs us)
          → Keeps (λ vs. inside look f (both a c) (xs ++ vs) k) zs us
      by_first true w q l r = let i = l q in record { front = i.front; is = i.is; others = λ vs. rw w (i.others vs) }
      by_first false w q l r = let i = r q in record { front = i.front; is = i.is; others = λ vs. rw w (i.others vs) }
  inside_keeps f k h (either a c) xs zs us e = by_first (in_first look a k) refl e (λ q. inside_keeps f k h a xs zs us q) (λ q. inside_keeps f k h c xs zs us q)
    where
      by_first : (v : Bool) → in_first look a k ≡ v → when v (inside look f a (xs ++ zs) k) (inside look f c (xs ++ zs) k) ≡ remains us
          → (inside look f a (xs ++ zs) k ≡ remains us → Keeps (λ vs. inside look f a (xs ++ vs) k) zs us)
          → (inside look f c (xs ++ zs) k ≡ remains us → Keeps (λ vs. inside look f c (xs ++ vs) k) zs us)
          → Keeps (λ vs. inside look f (either a c) (xs ++ vs) k) zs us
      by_first true w q l r = let i = l q in record { front = i.front; is = i.is; others = λ vs. rw w (i.others vs) }
      by_first false w q l r = let i = r q in record { front = i.front; is = i.is; others = λ vs. rw w (i.others vs) }
  inside_keeps f k h (many a) xs zs us e = let i = inside_keeps f k h a (many a ∷ xs) zs us e in record { front = i.front; is = i.is; others = i.others }

  pub into_keeps : (d : ℕ) (k : Token) (a : Form Rule Sort) (xs zs us : Stack) → into look d a (xs ++ zs) k ≡ remains us → Keeps (λ vs. into look d a (xs ++ vs) k) zs us
  into_keeps zero k a xs zs us e = let i = inside_keeps (λ r ys j. unfinished) k (λ r ys vs ws q. cc) a xs zs us e in record { front = i.front; is = i.is; others = i.others }
  into_keeps (suc d) k a xs zs us e =
      let i = inside_keeps (λ r ys j. into look d (look.grammar.form r) ys j) k (λ r ys vs ws q. into_keeps d k (look.grammar.form r) ys vs ws q) a xs zs us e in
      record { front = i.front; is = i.is; others = i.others }

  into_both : (d : ℕ) (a b : Form Rule Sort) (xs : Stack) (k : Token) → into look d (both a b) xs k ≡ when (in_first look a k) (into look d a (b ∷ xs) k) (into look d b xs k)
  into_both zero a b xs k = refl
  into_both (suc d) a b xs k = refl

  into_token : (d : ℕ) (t : Sort) (xs : Stack) (k : Token) → into look d (token t) xs k ≡ remains xs
  into_token zero t xs k = refl
  into_token (suc d) t xs k = refl

  next_both : (d : ℕ) (a b : Form Rule Sort) (xs : Stack) (k : Token) → next look d (both a b ∷ xs) k ≡ next look d (a ∷ b ∷ xs) k
  next_both d a b xs k = rw (into_both d a b xs k) (two_tests (in_first look a k) (in_first look b k) (nullable look a) (nullable look b) _ _ _)

  -- the form ends with a token
  abbrev pub ends : Form Rule Sort → Bool
  ends (token t) = true
  ends (rule r) = false
  ends nothing = false
  ends (both a b) = ends b
  ends (either a b) = false
  ends (many a) = false

  ends_some : (e : Form Rule Sort) → ends e ≡ true → nullable look e ≡ false
  ends_some (token t) h = refl
  ends_some (rule r) h = cc
  ends_some nothing h = cc
  ends_some (both a b) h = rw (ends_some b h) (and_false (nullable look a))
  ends_some (either a b) h = cc
  ends_some (many a) h = cc

  -- The last form still stands behind, or what is left of it, which ends with the same token.
  pub record IsWithin (ahead : Stack → Ahead Rule Sort) (left : Stack) : Type 0 where
    pub front : Stack
    pub last : Form Rule Sort
    pub ended : ends last ≡ true
    pub is : left ≡ front ++ last ∷ []
    pub others : (vs : Stack) → ahead vs ≡ remains (front ++ last ∷ vs)

  -- The token that ends the last form has been read, and nothing remains of the forms.
  pub record IsOver (ahead : Stack → Ahead Rule Sort) (left : Stack) : Type 0 where
    pub is : left ≡ []
    pub others : (vs : Stack) → ahead vs ≡ remains vs

  -- one token
  abbrev pub Step : Form Rule Sort → Stack → Token → Stack → Type 0
  Step e ws k us = IsWithin (λ vs. next look look.openings (ws ++ e ∷ vs) k) us ⊎ IsOver (λ vs. next look look.openings (ws ++ e ∷ vs) k) us

  -- the same step of forms with which the next token does the same
  step_as : (e c : Form Rule Sort) (ws xs : Stack) (k : Token) (us : Stack) → ((vs : Stack) → next look look.openings (ws ++ e ∷ vs) k ≡ next look look.openings (xs ++ c ∷ vs) k) → Step c xs k us → Step e ws k us
  step_as e c ws xs k us h (inl i) = inl (record { front = i.front; last = i.last; ended = i.ended; is = i.is; others = λ vs. h vs ∙ i.others vs })
  step_as e c ws xs k us h (inr i) = inr (record { is = i.is; others = λ vs. h vs ∙ i.others vs })

  -- where forms stand before it
  step_behind : (e : Form Rule Sort) (k : Token) → ends e ≡ true → ((us : Stack) → next look look.openings (e ∷ []) k ≡ remains us → Step e [] k us)
      → (ws us : Stack) → next look look.openings (ws ++ e ∷ []) k ≡ remains us → Step e ws k us
  step_behind e k h alone [] us q = alone us q
  step_behind e k h alone (x ∷ ws) us q = by_tests (in_first look x k) (nullable look x) refl refl q (λ i. step_behind e k h alone ws us i)
    where
      by_tests : (v w : Bool) → in_first look x k ≡ v → nullable look x ≡ w
          → when v (into look look.openings x (ws ++ e ∷ []) k) (when w (next look look.openings (ws ++ e ∷ []) k) refused) ≡ remains us
          → (next look look.openings (ws ++ e ∷ []) k ≡ remains us → Step e ws k us) → Step e (x ∷ ws) k us
      by_tests true w b n q f =
          let i = into_keeps look.openings k x ws (e ∷ []) us q in inl (record { front = i.front; last = e; ended = h; is = i.is; others = λ vs. rw b (i.others (e ∷ vs)) })
      by_tests false true b n q f = step_as e e (x ∷ ws) ws k us (λ vs. rw (b, n) refl) (f q)
      by_tests false false b n q f = cc

  step_alone : (e : Form Rule Sort) (k : Token) → ends e ≡ true → (us : Stack) → next look look.openings (e ∷ []) k ≡ remains us → Step e [] k us
  step_alone (token t) k h us e = by_fit (look.grammar.fits t k) refl e
    where
      by_fit : (v : Bool) → look.grammar.fits t k ≡ v → when v (into look look.openings (token t) [] k) refused ≡ remains us → Step (token t) [] k us
      by_fit true w q =
          let i : remains us ≡ remains [] = sym q ∙ into_token look.openings t [] k in
          inr (record { is = cc; others = λ vs. rw w (into_token look.openings t vs k) })
      by_fit false w q = cc
  step_alone (rule r) k h us e = cc
  step_alone nothing k h us e = cc
  step_alone (both a b) k h us e =
      step_as (both a b) b [] (a ∷ []) k us (λ vs. next_both look.openings a b vs k)
      (step_behind b k h (step_alone b k h) (a ∷ []) us (sym (next_both look.openings a b [] k) ∙ e))
  step_alone (either a b) k h us e = cc
  step_alone (many a) k h us e = cc

  not_empty : (e : Form Rule Sort) → ends e ≡ true → (ws : Stack) → all_nullable look (ws ++ e ∷ []) ≡ false
  not_empty e h [] = rw (ends_some e h) refl
  not_empty e h (x ∷ ws) = rw (not_empty e h ws) (and_false (nullable look x))

  nothing_left : (ks : List Token) → answer look [] ks ≡ whole → ks ≡ []
  nothing_left [] e = refl
  nothing_left (k ∷ ks) e = cc

  pub read_in_front : (e : Form Rule Sort) → ends e ≡ true → (ws : Stack) (front : List Token) → answer look (ws ++ e ∷ []) front ≡ whole → (zs : Stack) (behind : List Token)
      → answer look (ws ++ e ∷ zs) (front ++ behind) ≡ answer look zs behind
  read_in_front e h ws [] w zs behind = absurd (no_end (all_nullable look (ws ++ e ∷ [])) (not_empty e h ws) w)
  read_in_front e h ws (k ∷ ks) w zs behind =
      by_ahead (next look look.openings (ws ++ e ∷ []) k) refl w (λ c i ys q. read_in_front c i ys ks q zs behind)
    where
      Behind : Type 0
      Behind = (c : Form Rule Sort) → ends c ≡ true → (ys : Stack) → answer look (ys ++ c ∷ []) ks ≡ whole → answer look (ys ++ c ∷ zs) (ks ++ behind) ≡ answer look zs behind

      onward : (us : Stack) → answer look us ks ≡ whole → Step e ws k us → Behind → answer look (ws ++ e ∷ zs) (k ∷ ks ++ behind) ≡ answer look zs behind
      onward us w (inl i) f = rw (i.others zs) (f i.last i.ended i.front (subst (λ (ys : Stack). answer look ys ks ≡ whole) i.is w))
      onward us w (inr i) f =
          let n : ks ≡ [] = nothing_left ks (subst (λ (ys : Stack). answer look ys ks ≡ whole) i.is w) in
          rw (i.others zs) (ap (λ (ts : List Token). answer look zs (ts ++ behind)) n)

      by_ahead : (a : Ahead Rule Sort) → next look look.openings (ws ++ e ∷ []) k ≡ a → go_on a (λ ys. answer look ys ks) (stops (k ∷ ks)) ≡ whole → Behind
          → answer look (ws ++ e ∷ zs) (k ∷ ks ++ behind) ≡ answer look zs behind
      by_ahead (remains us) q w f = onward us w (step_behind e k h (step_alone e k h) ws us q) f
      by_ahead refused q w f = cc
      by_ahead unfinished q w f = cc

  -- ---- where reading stops

  module _ (kind : Token → Sort) (fit : (k : Token) → look.grammar.fits (kind k) k ≡ true) where
    grown : (k : Token) (ks : List Token) → stops ks ≡ stops (k ∷ ks) → ⊥
    grown k [] e = cc
    grown k (j ∷ ks) e = let q : ks ≡ j ∷ ks = cc in grown j ks (ap (λ (x : List Token). stops x) q)

    -- where each token is read by some form, not whatever is to be read stops at the same place
    goes_on : (behind rest : List Token) → ((zs : Stack) → answer look zs behind ≡ stops rest) → ⊥
    goes_on [] rest h = let e = h [] in cc
    goes_on (k ∷ ks) rest h = by_rest ks (sym (answer_token look (kind k) [] k ks (fit k)) ∙ h (token (kind k) ∷ [])) (h [])
      where
        by_rest : (ts : List Token) → answer look [] ts ≡ stops rest → stops (k ∷ ts) ≡ stops rest → ⊥
        by_rest [] e f = cc
        by_rest (j ∷ ts) e f = grown k (j ∷ ts) (e ∙ sym f)

    -- where reading of a rule stops whatever is to be read behind it, no front of the tokens is read whole
    pub no_front : (ok : IsPredictive look) (start : Rule) → ends (look.grammar.form start) ≡ true → (tokens rest front behind : List Token) → Stops look (rule start) tokens rest → tokens ≡ front ++ behind
        → IsRead look.grammar start front → ⊥
    no_front ok start h tokens rest front behind s e r = goes_on behind rest (λ zs. sym (read zs) ∙ s.here zs)
      where
        all : answer look (look.grammar.form start ∷ []) front ≡ whole
        all = sym (answer_rule look ok start [] front) ∙ whole_answered look ok start front r

        read : (zs : Stack) → answer look (rule start ∷ zs) tokens ≡ answer look zs behind
        read zs =
            answer_rule look ok start zs tokens
            ∙ ap (λ (ts : List Token). answer look (look.grammar.form start ∷ zs) ts) e
            ∙ read_in_front (look.grammar.form start) h [] front all zs behind
