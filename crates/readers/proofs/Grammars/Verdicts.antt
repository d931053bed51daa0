-- The reader's answer is right, and each of the three verdicts excludes the others.
use Rattle.std.proofs.Common.{◌≡◌, ℕ, zero, suc, ◌<◌, ◌≤◌, ◌+◌, List, [], ◌∷◌, ◌++◌, take, drop, length, refl, ap, sym, ◌∙◌, arith, subst, append-nil, inl, inr, ◌⊎◌}
use Rattle.std.proofs.Math.Seq.{take-append_seam, take-append-add, take-length, drop-append_seam}
use Rattle.std.proofs.lemmas.List.{take-append-le, take-append-drop, length-append, length-take}
use Rattle.readers.specs.grammar.Forms.{rule, Grammar}
use Rattle.readers.specs.grammar.Expansions.{Symbol, terminal, nonterminal}
use Rattle.readers.specs.grammar.Readings.{Reading, over, takes, replaces, IsReadable, IsRead, IsRefusedAt, IsRefusedAtEnd}
use Rattle.readers.specs.grammar.LazyReadings.{LazyReading}
use Rattle.readers.specs.grammar.Lookahead.{Lookahead, Answer, answer, whole, stops}
use Rattle.readers.specs.grammar.Predictive.{IsPredictive, AreDecided}
use Rattle.readers.specs.grammar.Parsing.{Reads, Stops}
use Rattle.readers.specs.grammar.Tells.{IsRefusedBefore, Tells}
use Rattle.readers.proofs.Grammars.Choices.{readable_lazily, readable_at_once, read_lazily, read_at_once}
use Rattle.readers.proofs.Grammars.Exact.{Exact, exact}

pub order : (i j : ℕ) → (i < j) ⊎ ((i ≡ j) ⊎ (j < i))
order zero zero = inr (inl refl)
order zero (suc j) = inl (omega arith)
order (suc i) zero = inr (inr (omega arith))
order (suc i) (suc j) = elim (order i j) [ inl l ↦ inl (omega (arith, l)) | inr h ↦ elim h [ inl e ↦ inr (inl (omega (arith, e))) | inr l ↦ inr (inr (omega (arith, l))) ] ]

module _ {Rule Sort Token : Type 0} (g : Grammar Rule Sort Token) where
  -- ---- what is read can be read in part

  pub shortened : (us vs : List (Symbol Rule Sort)) (all : List Token) → Reading g us all vs → (ts rest : List Token) → all ≡ ts ++ rest → (left : List (Symbol Rule Sort)) × Reading g us ts left
  shortened us _ _ h [] rest e = (us, over)
  shortened us _ _ over (k ∷ ts) rest e = cc
  shortened _ vs _ (takes {t = t} {k = j} {us = us} {tokens = tokens} f h) (k ∷ ts) rest e =
      let same : j ≡ k = cc in
      let more : tokens ≡ ts ++ rest = cc in
      let i = shortened us vs tokens h ts rest more in
      (i.0, subst (λ (c : Token). Reading g (terminal t ∷ us) (c ∷ ts) i.0) same (takes f i.1))
  shortened _ vs all (replaces {expansion = expansion} {us = us} f h) (k ∷ ts) rest e =
      let i = shortened (expansion ++ us) vs all h (k ∷ ts) rest e in (i.0, replaces f i.1)

  pub readable_shorter : (start : Rule) (tokens : List Token) (i j : ℕ) → i ≤ j → i ≤ length tokens → IsReadable g start (take j tokens) → IsReadable g start (take i tokens)
  readable_shorter start tokens i j h l r =
      let n = length-take j tokens in
      let e : take i tokens ≡ take i (take j tokens) = ap (λ (x : List Token). take i x) (sym (take-append-drop j tokens)) ∙ take-append-le i (take j tokens) (drop j tokens) (omega (arith, n)) in
      let s = shortened _ r.left (take j tokens) r.reading (take i (take j tokens)) (drop i (take j tokens)) (sym (take-append-drop i (take j tokens))) in
      record { left = s.0; reading = subst (λ (x : List Token). Reading g (nonterminal start ∷ []) x s.0) (sym e) s.1 }

  pub readable_part : (start : Rule) (tokens : List Token) (i : ℕ) → i ≤ length tokens → IsReadable g start tokens → IsReadable g start (take i tokens)
  readable_part start tokens i l r = readable_shorter start tokens i (length tokens) l l (subst (λ (x : List Token). IsReadable g start x) (sym (take-length tokens)) r)

  pub read_is_readable : (start : Rule) (tokens : List Token) → IsRead g start tokens → IsReadable g start tokens
  read_is_readable start tokens h = record { left = []; reading = h.reading }

  -- ---- one verdict alone

  not_before : (start : Rule) (tokens : List Token) (i j : ℕ) → i < j → IsRefusedAt g start tokens i → IsRefusedAt g start tokens j → ⊥
  not_before start tokens i j l h k = let w = h.within in h.here (readable_shorter start tokens (i + 1) j (omega arith) (omega (arith, w)) k.before)

  pub refused_once : (start : Rule) (tokens : List Token) (i j : ℕ) → IsRefusedAt g start tokens i → IsRefusedAt g start tokens j → i ≡ j
  refused_once start tokens i j h k = by_order (order i j)
    where
      by_order : (i < j) ⊎ ((i ≡ j) ⊎ (j < i)) → i ≡ j
      by_order (inl l) = absurd (not_before start tokens i j l h k)
      by_order (inr (inl e)) = e
      by_order (inr (inr l)) = absurd (not_before start tokens j i l k h)

  pub refused_not_readable : (start : Rule) (tokens : List Token) (i : ℕ) → IsRefusedAt g start tokens i → IsReadable g start tokens → ⊥
  refused_not_readable start tokens i h r = let w = h.within in h.here (readable_part start tokens (i + 1) (omega (arith, w)) r)

-- ---- the reader's answer

module _ {Rule Sort Token : Type 0} (look : Lookahead Rule Sort Token) (ok : IsPredictive look) (start : Rule) where
  front_before : (front rest : List Token) (k : Token) → take (length front + 1) (front ++ (k ∷ rest)) ≡ front ++ (k ∷ [])
  front_before front rest k = take-append-add front (k ∷ rest) 1

  told : (tokens : List Token) (a : Answer Token) → Exact look ok (rule start ∷ []) tokens a → Tells look.grammar start tokens a
  told tokens whole h = read_at_once look.grammar start tokens h
  told tokens (stops []) h =
      let e : tokens ≡ h.front = h.is ∙ append-nil h.front in
      record {
        before = readable_at_once look.grammar start tokens h.left (subst (λ (x : List Token). LazyReading look.grammar (rule start ∷ []) x h.left) (sym e) h.before);
        here = λ r. h.no_further (subst (λ (x : List Token). LazyReading look.grammar (rule start ∷ []) x []) e (read_lazily look.grammar start tokens r));
      }
  told tokens (stops (k ∷ rest)) h =
      let b : take (length h.front) tokens ≡ h.front = ap (λ (x : List Token). take (length h.front) x) h.is ∙ take-append_seam h.front (k ∷ rest) in
      let c : take (length h.front + 1) tokens ≡ h.front ++ (k ∷ []) = ap (λ (x : List Token). take (length h.front + 1) x) h.is ∙ front_before h.front rest k in
      let l : length tokens ≡ length h.front + length (k ∷ rest) = ap (λ (x : List Token). length x) h.is ∙ length-append h.front (k ∷ rest) in
      record {
        front = h.front;
        is = h.is;
        refused = record {
          within = omega (arith, l);
          before = readable_at_once look.grammar start _ h.left (subst (λ (x : List Token). LazyReading look.grammar (rule start ∷ []) x h.left) (sym b) h.before);
          here = λ r. let z = readable_lazily look.grammar start _ r in h.no_further z.0 (subst (λ (x : List Token). LazyReading look.grammar (rule start ∷ []) x z.0) c z.1);
        };
      }

  start_decided : AreDecided look (rule start ∷ [])
  start_decided = (λ k h. cc, tt)

  -- what the reader answers is so
  pub tells : (tokens : List Token) → Tells look.grammar start tokens (answer look (rule start ∷ []) tokens)
  tells tokens = told tokens _ (exact look ok tokens (rule start ∷ []) start_decided)

  -- a reader of the first rule that comes to the rest of the tokens
  pub all_read : (tokens : List Token) → Reads look (rule start) tokens [] → IsRead look.grammar start tokens
  all_read tokens h = subst (λ (a : Answer Token). Tells look.grammar start tokens a) (h.onward []) (tells tokens)

  pub more_left : (tokens rest : List Token) (k : Token) → Reads look (rule start) tokens (k ∷ rest) → IsRefusedBefore look.grammar start tokens (k ∷ rest)
  more_left tokens rest k h = subst (λ (a : Answer Token). Tells look.grammar start tokens a) (h.onward []) (tells tokens)

  pub stopped : (tokens rest : List Token) → Stops look (rule start) tokens rest → Tells look.grammar start tokens (stops rest)
  stopped tokens rest h = subst (λ (a : Answer Token). Tells look.grammar start tokens a) (h.here []) (tells tokens)

  -- ---- what is so, the reader answers

  pub whole_answered : (tokens : List Token) → IsRead look.grammar start tokens → answer look (rule start ∷ []) tokens ≡ whole
  whole_answered tokens h = by_answer (answer look (rule start ∷ []) tokens) (tells tokens)
    where
      by_answer : (a : Answer Token) → Tells look.grammar start tokens a → a ≡ whole
      by_answer whole t = refl
      by_answer (stops []) t = absurd (t.here h)
      by_answer (stops (k ∷ rest)) t = absurd (refused_not_readable look.grammar start tokens (length t.front) t.refused (read_is_readable look.grammar start tokens h))

  pub end_answered : (tokens : List Token) → IsRefusedAtEnd look.grammar start tokens → answer look (rule start ∷ []) tokens ≡ stops []
  end_answered tokens h = by_answer (answer look (rule start ∷ []) tokens) (tells tokens)
    where
      by_answer : (a : Answer Token) → Tells look.grammar start tokens a → a ≡ stops []
      by_answer whole t = absurd (h.here t)
      by_answer (stops []) t = refl
      by_answer (stops (k ∷ rest)) t = absurd (refused_not_readable look.grammar start tokens (length t.front) t.refused h.before)

  pub token_answered : (tokens : List Token) (place : ℕ) → IsRefusedAt look.grammar start tokens place → answer look (rule start ∷ []) tokens ≡ stops (drop place tokens)
  token_answered tokens place h = by_answer (answer look (rule start ∷ []) tokens) (tells tokens)
    where
      by_answer : (a : Answer Token) → Tells look.grammar start tokens a → a ≡ stops (drop place tokens)
      by_answer whole t = absurd (refused_not_readable look.grammar start tokens place h (read_is_readable look.grammar start tokens t))
      by_answer (stops []) t = absurd (refused_not_readable look.grammar start tokens place h t.before)
      by_answer (stops (k ∷ rest)) t =
          let e : length t.front ≡ place = refused_once look.grammar start tokens (length t.front) place t.refused h in
          ap (λ (x : List Token). stops x) (sym (drop-append_seam t.front (k ∷ rest)) ∙ ap (λ (x : List Token). drop (length t.front) x) (sym t.is) ∙ ap (λ (n : ℕ). drop n tokens) e)
