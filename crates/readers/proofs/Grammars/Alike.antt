-- Grammars that read the same tokens: forms with the same expansions, and forms that are given rules of their own.
use Rattle.std.proofs.Common.{◌≡◌, ℕ, zero, suc, ◌<◌, ◌+◌, Bool, true, false, List, [], ◌∷◌, ◌++◌, refl, sym, ap, ◌∙◌, arith, subst, inl, inr, ◌⊎◌, length}
use Rattle.readers.specs.grammar.Forms.{Form, token, rule, nothing, both, either, many, Grammar}
use Rattle.readers.specs.grammar.Expansions.{Symbol, nonterminal}
use Rattle.readers.specs.grammar.Readings.{Reading, over, takes, replaces, IsRefusedAt, IsRefusedAtEnd}
use Rattle.readers.specs.grammar.LazyReadings.{Goes, stop, read, open_rule, pass, in_turn, first_of_two, second_of_two, no_more, once_more, LazyReading}
use Rattle.readers.specs.grammar.Lookahead.{Answer, whole, stops}
use Rattle.readers.specs.grammar.Tells.{Tells}
use Rattle.readers.specs.grammar.Alternatives.{SameExpansions}
use Rattle.readers.specs.grammar.Alike.{AreAlike, rewritten, is_rule, StandsFor, named, inlined, IsNamed}
use Rattle.readers.proofs.Grammars.Choices.{readable_lazily, readable_at_once, read_lazily, read_at_once}

-- ---- forms with the same expansions

module _ {Rule Sort Token : Type 0} (g h : Grammar Rule Sort Token) (same_fits : (t : Sort) (k : Token) → g.fits t k ≡ h.fits t k) (same : (r : Rule) → SameExpansions (g.form r) (h.form r)) where
  across : (us : List (Symbol Rule Sort)) (ts : List Token) (vs : List (Symbol Rule Sort)) → Reading g us ts vs → Reading h us ts vs
  across us _ _ over = over
  across _ _ vs (takes {t = t} {k = k} {us = us} {tokens = ts} f i) = takes (sym (same_fits t k) ∙ f) (across us ts vs i)
  across _ ts vs (replaces {r = r} {expansion = expansion} {us = us} e i) = replaces ((same r).onward expansion e) (across (expansion ++ us) ts vs i)

  across_back : (us : List (Symbol Rule Sort)) (ts : List Token) (vs : List (Symbol Rule Sort)) → Reading h us ts vs → Reading g us ts vs
  across_back us _ _ over = over
  across_back _ _ vs (takes {t = t} {k = k} {us = us} {tokens = ts} f i) = takes (same_fits t k ∙ f) (across_back us ts vs i)
  across_back _ ts vs (replaces {r = r} {expansion = expansion} {us = us} e i) = replaces ((same r).back expansion e) (across_back (expansion ++ us) ts vs i)

  pub alike_forms : (r : Rule) → AreAlike g r h r
  alike_forms r = record {
    readable = λ ts i. record { left = i.left; reading = across (nonterminal r ∷ []) ts i.left i.reading };
    readable_back = λ ts i. record { left = i.left; reading = across_back (nonterminal r ∷ []) ts i.left i.reading };
    read = λ ts i. record { reading = across (nonterminal r ∷ []) ts [] i.reading };
    read_back = λ ts i. record { reading = across_back (nonterminal r ∷ []) ts [] i.reading };
  }

-- ---- forms that are given rules of their own

module _ {Rule Other Sort Token : Type 0} (h : Grammar Other Sort Token) (g : Grammar Rule Sort Token) (means : Other → Form Rule Sort) (ok : IsNamed h g means) where
  abbrev pub all_rewritten : List (Form Other Sort) → List (Form Rule Sort)
  all_rewritten [] = []
  all_rewritten (x ∷ xs) = rewritten means x ∷ all_rewritten xs

  Below : List (Form Rule Sort) → List Token → List (Form Rule Sort) → Type 0
  Below = LazyReading g

  opened_below : (r : Other) (xs : List (Form Rule Sort)) (ts : List Token) (zs : List (Form Rule Sort)) → StandsFor h g means r → LazyReading g (rewritten means (h.form r) ∷ xs) ts zs → LazyReading g (means r ∷ xs) ts zs
  opened_below r xs ts zs (named s e f) i =
      let j : LazyReading g (g.form s ∷ xs) ts zs = subst (λ (x : Form Rule Sort). LazyReading g (x ∷ xs) ts zs) f i in
      subst (λ (x : Form Rule Sort). LazyReading g (x ∷ xs) ts zs) (sym e) (suc j.0, open_rule j.1)
  opened_below r xs ts zs (inlined e f) i = subst (λ (x : Form Rule Sort). LazyReading g (x ∷ xs) ts zs) (sym e) i

  -- what the first grammar reads, the second reads
  below : (n : ℕ) (xs : List (Form Other Sort)) (ts : List Token) (zs : List (Form Other Sort)) → Goes h n xs ts zs → LazyReading g (all_rewritten xs) ts (all_rewritten zs)
  below _ xs _ _ stop = (0, stop)
  below _ _ _ zs (read {n = n} {t = t} {k = k} {xs = xs} {ts = ts} f i) = let j = below n xs ts zs i in (suc j.0, read (sym (ok.same_fits t k) ∙ f) j.1)
  below _ _ ts zs (open_rule {n = n} {r = r} {xs = xs} i) = opened_below r (all_rewritten xs) ts (all_rewritten zs) (ok.stands r) (below n (h.form r ∷ xs) ts zs i)
  below _ _ ts zs (pass {n = n} {xs = xs} i) = let j = below n xs ts zs i in (suc j.0, pass j.1)
  below _ _ ts zs (in_turn {n = n} {a = a} {b = b} {xs = xs} i) = let j = below n (a ∷ b ∷ xs) ts zs i in (suc j.0, in_turn j.1)
  below _ _ ts zs (first_of_two {n = n} {a = a} {xs = xs} i) = let j = below n (a ∷ xs) ts zs i in (suc j.0, first_of_two j.1)
  below _ _ ts zs (second_of_two {n = n} {b = b} {xs = xs} i) = let j = below n (b ∷ xs) ts zs i in (suc j.0, second_of_two j.1)
  below _ _ ts zs (no_more {n = n} {xs = xs} i) = let j = below n xs ts zs i in (suc j.0, no_more j.1)
  below _ _ ts zs (once_more {n = n} {a = a} {xs = xs} i) = let j = below n (a ∷ many a ∷ xs) ts zs i in (suc j.0, once_more j.1)

  -- a reading of the first grammar that leaves what becomes the list
  abbrev pub Above : List (Form Other Sort) → List Token → List (Form Rule Sort) → Type 0
  Above xs ts zs = (ws : List (Form Other Sort)) × LazyReading h xs ts ws × (zs ≡ all_rewritten ws)

  abbrev pub of_rule : Bool → ℕ
  of_rule true = 1
  of_rule false = 0

  -- whether a rule stands first, as a number
  abbrev pub heads : List (Form Other Sort) → ℕ
  heads [] = 0
  heads (x ∷ xs) = of_rule (is_rule x)

  heads_small : (xs : List (Form Other Sort)) → heads xs < 2
  heads_small [] = omega arith
  heads_small (x ∷ xs) = by_test (is_rule x)
    where
      by_test : (v : Bool) → of_rule v < 2
      by_test true = omega arith
      by_test false = omega arith

  -- a rule of the second grammar is opened, or nothing is read
  open_named : (s : Rule) (n : ℕ) (ys : List (Form Rule Sort)) (ts : List Token) (zs : List (Form Rule Sort)) → Goes g n (rule s ∷ ys) ts zs
      → ((ts ≡ []) × (zs ≡ rule s ∷ ys)) ⊎ ((m : ℕ) × (m < n) × Goes g m (g.form s ∷ ys) ts zs)
  open_named s _ ys _ _ stop = inl (refl, refl)
  open_named s _ ys ts zs (open_rule {n = n} i) = inr (n, omega arith, i)

  above_rule : (b n : ℕ) (r : Other) (xs : List (Form Other Sort)) → n + n + 1 < suc b → (ts : List Token) (zs : List (Form Rule Sort)) → StandsFor h g means r → Goes g n (means r ∷ all_rewritten xs) ts zs
      → ((m : ℕ) → m + m + heads (h.form r ∷ xs) < b → Goes g m (rewritten means (h.form r) ∷ all_rewritten xs) ts zs → Above (h.form r ∷ xs) ts zs)
      → Above (rule r ∷ xs) ts zs
  above_rule b n r xs l ts zs (named s e f) i go =
      let j : Goes g n (rule s ∷ all_rewritten xs) ts zs = subst (λ (x : Form Rule Sort). Goes g n (x ∷ all_rewritten xs) ts zs) e i in
      elim (open_named s n (all_rewritten xs) ts zs j) [
        | inl k ↦ (rule r ∷ xs, subst (λ (x : List Token). LazyReading h (rule r ∷ xs) x (rule r ∷ xs)) (sym k.0) (0, stop), k.1 ∙ ap (λ (x : Form Rule Sort). x ∷ all_rewritten xs) (sym e))
        | inr k ↦ (
            let small = heads_small (h.form r ∷ xs) in
            let u = go k.0 (omega (arith, k.1, l, small)) (subst (λ (x : Form Rule Sort). Goes g k.0 (x ∷ all_rewritten xs) ts zs) (sym f) k.2) in
            (u.0, (suc u.1.0, open_rule u.1.1), u.2))
      ]
  above_rule b n r xs l ts zs (inlined e f) i go =
      let j : Goes g n (rewritten means (h.form r) ∷ all_rewritten xs) ts zs = subst (λ (x : Form Rule Sort). Goes g n (x ∷ all_rewritten xs) ts zs) e i in
      let z : heads (h.form r ∷ xs) ≡ 0 = ap of_rule f in
      let u = go n (omega (arith, l, z)) j in
      (u.0, (suc u.1.0, open_rule u.1.1), u.2)

  -- what the second grammar reads, the first reads
  above : (b n : ℕ) (xs : List (Form Other Sort)) → n + n + heads xs < b → (ts : List Token) (zs : List (Form Rule Sort)) → Goes g n (all_rewritten xs) ts zs → Above xs ts zs
  above zero n xs l ts zs i = absurd (omega (arith, l))
  above (suc b) _ [] l _ _ stop = ([], (0, stop), refl)
  above (suc b) _ (token t ∷ xs) l _ _ stop = (token t ∷ xs, (0, stop), refl)
  above (suc b) _ (token t ∷ xs) l _ zs (read {n = n} {k = k} {ts = ts} f i) =
      let small = heads_small xs in
      let j = above b n xs (omega (arith, l, small)) ts zs i in (j.0, (suc j.1.0, read (ok.same_fits t k ∙ f) j.1.1), j.2)
  above (suc b) n (rule r ∷ xs) l ts zs i = above_rule b n r xs l ts zs (ok.stands r) i (λ m s j. above b m (h.form r ∷ xs) s ts zs j)
  above (suc b) _ (nothing ∷ xs) l _ _ stop = (nothing ∷ xs, (0, stop), refl)
  above (suc b) _ (nothing ∷ xs) l ts zs (pass {n = n} i) =
      let small = heads_small xs in
      let j = above b n xs (omega (arith, l, small)) ts zs i in (j.0, (suc j.1.0, pass j.1.1), j.2)
  above (suc b) _ (both a c ∷ xs) l _ _ stop = (both a c ∷ xs, (0, stop), refl)
  above (suc b) _ (both a c ∷ xs) l ts zs (in_turn {n = n} i) =
      let small = heads_small (a ∷ c ∷ xs) in
      let j = above b n (a ∷ c ∷ xs) (omega (arith, l, small)) ts zs i in (j.0, (suc j.1.0, in_turn j.1.1), j.2)
  above (suc b) _ (either a c ∷ xs) l _ _ stop = (either a c ∷ xs, (0, stop), refl)
  above (suc b) _ (either a c ∷ xs) l ts zs (first_of_two {n = n} i) =
      let small = heads_small (a ∷ xs) in
      let j = above b n (a ∷ xs) (omega (arith, l, small)) ts zs i in (j.0, (suc j.1.0, first_of_two j.1.1), j.2)
  above (suc b) _ (either a c ∷ xs) l ts zs (second_of_two {n = n} i) =
      let small = heads_small (c ∷ xs) in
      let j = above b n (c ∷ xs) (omega (arith, l, small)) ts zs i in (j.0, (suc j.1.0, second_of_two j.1.1), j.2)
  above (suc b) _ (many a ∷ xs) l _ _ stop = (many a ∷ xs, (0, stop), refl)
  above (suc b) _ (many a ∷ xs) l ts zs (no_more {n = n} i) =
      let small = heads_small xs in
      let j = above b n xs (omega (arith, l, small)) ts zs i in (j.0, (suc j.1.0, no_more j.1.1), j.2)
  above (suc b) _ (many a ∷ xs) l ts zs (once_more {n = n} i) =
      let small = heads_small (a ∷ many a ∷ xs) in
      let j = above b n (a ∷ many a ∷ xs) (omega (arith, l, small)) ts zs i in (j.0, (suc j.1.0, once_more j.1.1), j.2)

  none_rewritten : (ws : List (Form Other Sort)) → [] ≡ all_rewritten ws → ws ≡ []
  none_rewritten [] e = refl
  none_rewritten (x ∷ xs) e = cc

  goes_up : (r : Other) (s : Rule) → means r ≡ rule s → (ts : List Token) (zs : List (Form Rule Sort)) → LazyReading g (rule s ∷ []) ts zs → Above (rule r ∷ []) ts zs
  goes_up r s e ts zs i = above (suc (i.0 + i.0 + 1)) i.0 (rule r ∷ []) (omega arith) ts zs (subst (λ (x : Form Rule Sort). Goes g i.0 (x ∷ []) ts zs) (sym e) i.1)

  -- a rule of the first grammar reads what the rule reads for which it stands
  pub alike_named : (r : Other) (s : Rule) → means r ≡ rule s → AreAlike h r g s
  alike_named r s e = record {
    readable = λ ts i. let j = readable_lazily h r ts i in let k = below j.1.0 (rule r ∷ []) ts j.0 j.1.1 in
        readable_at_once g s ts (all_rewritten j.0) (subst (λ (x : Form Rule Sort). LazyReading g (x ∷ []) ts (all_rewritten j.0)) e k);
    readable_back = λ ts i. let j = readable_lazily g s ts i in let k = goes_up r s e ts j.0 j.1 in readable_at_once h r ts k.0 k.1;
    read = λ ts i. let j = read_lazily h r ts i in let k = below j.0 (rule r ∷ []) ts [] j.1 in
        read_at_once g s ts (subst (λ (x : Form Rule Sort). LazyReading g (x ∷ []) ts []) e k);
    read_back = λ ts i. let j = read_lazily g s ts i in let k = goes_up r s e ts [] j in
        read_at_once h r ts (subst (λ (w : List (Form Other Sort)). LazyReading h (rule r ∷ []) ts w) (none_rewritten k.0 k.2) k.1);
  }

-- ---- alike grammars refuse the same

module _ {Rule Other Sort Token : Type 0} (g : Grammar Rule Sort Token) (start : Rule) (h : Grammar Other Sort Token) (other : Other) (alike : AreAlike g start h other) where
  pub alike_refused : (tokens : List Token) (place : ℕ) → IsRefusedAt g start tokens place → IsRefusedAt h other tokens place
  alike_refused tokens place i = record { within = i.within; before = alike.readable _ i.before; here = λ j. i.here (alike.readable_back _ j) }

  pub alike_refused_at_end : (tokens : List Token) → IsRefusedAtEnd g start tokens → IsRefusedAtEnd h other tokens
  alike_refused_at_end tokens i = record { before = alike.readable _ i.before; here = λ j. i.here (alike.read_back _ j) }

  pub alike_tells : (tokens : List Token) (a : Answer Token) → Tells g start tokens a → Tells h other tokens a
  alike_tells tokens whole t = alike.read tokens t
  alike_tells tokens (stops []) t = alike_refused_at_end tokens t
  alike_tells tokens (stops (k ∷ rest)) t = record { front = t.front; is = t.is; refused = alike_refused tokens (length t.front) t.refused }

module _ {Rule Other Sort Token : Type 0} (g : Grammar Rule Sort Token) (start : Rule) (h : Grammar Other Sort Token) (other : Other) where
  pub alike_swapped : AreAlike g start h other → AreAlike h other g start
  alike_swapped i = record { readable = i.readable_back; readable_back = i.readable; read = i.read_back; read_back = i.read }

module _ {Rule Other Third Sort Token : Type 0} (g : Grammar Rule Sort Token) (start : Rule) (h : Grammar Other Sort Token) (other : Other) (f : Grammar Third Sort Token) (third : Third) where
  pub alike_chained : AreAlike g start h other → AreAlike h other f third → AreAlike g start f third
  alike_chained i j = record {
    readable = λ ts k. j.readable ts (i.readable ts k);
    readable_back = λ ts k. i.readable_back ts (j.readable_back ts k);
    read = λ ts k. j.read ts (i.read ts k);
    read_back = λ ts k. i.read_back ts (j.read_back ts k);
  }
