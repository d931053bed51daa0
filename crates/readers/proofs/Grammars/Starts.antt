-- What a reading reads first.
use Rattle.std.proofs.Common.{ℕ, zero, suc, ◌<◌, Bool, ◌&&◌, ◌||◌, List, [], ◌∷◌, IsTrue, refl, arith, inl, inr, ◌⊎◌}
use Rattle.readers.specs.grammar.Forms.{Form, token, rule, nothing, both, either, many}
use Rattle.readers.specs.grammar.LazyReadings.{Goes, read, open_rule, pass, in_turn, first_of_two, second_of_two, no_more, once_more}
use Rattle.readers.specs.grammar.Lookahead.{Lookahead, nullable, in_first, list_in_first}
use Rattle.readers.specs.grammar.Predictive.{IsPredictive, IsDecided}

or_left : (a b : Bool) → IsTrue a → IsTrue (a || b)
or_left a b h = grind arith

or_right : (a b : Bool) → IsTrue b → IsTrue (a || b)
or_right a b h = grind arith

both_true : (a b : Bool) → IsTrue a → IsTrue b → IsTrue (a && b)
both_true a b h i = grind arith

module _ {Rule Sort Token : Type 0} (look : Lookahead Rule Sort Token) (ok : IsPredictive look) where
  -- what is left for the rest, where the first may be empty
  abbrev pub Skips : ℕ → Form Rule Sort → List (Form Rule Sort) → List Token → List (Form Rule Sort) → Type 0
  Skips n a xs ts zs = IsTrue (nullable look a) × (m : ℕ) × (m < n) × Goes look.grammar m xs ts zs

  abbrev pub Starts : ℕ → Form Rule Sort → List (Form Rule Sort) → Token → List Token → List (Form Rule Sort) → Type 0
  Starts n a xs k ts zs = IsTrue (in_first look a k) ⊎ Skips n a xs (k ∷ ts) zs

  pub starts : (b n : ℕ) → n < b → (a : Form Rule Sort) (xs : List (Form Rule Sort)) (k : Token) (ts : List Token) (zs : List (Form Rule Sort)) → Goes look.grammar n (a ∷ xs) (k ∷ ts) zs → Starts n a xs k ts zs
  starts zero n h a xs k ts zs g = absurd (omega arith)
  starts (suc b) _ h _ xs k ts zs (read f g) = inl f
  starts (suc b) _ h _ xs k ts zs (open_rule {n = n} {r = r} g) = elim (starts b n (omega arith) (look.grammar.form r) xs k ts zs g) [
    | inl p ↦ inl (ok.first_rule r k p)
    | inr q ↦ inr (ok.nullable_rule r q.0, q.1, omega (arith, q.2), q.3)
  ]
  starts (suc b) _ h _ xs k ts zs (pass {n = n} g) = inr (refl, n, omega arith, g)
  starts (suc b) _ h _ xs k ts zs (in_turn {n = n} {a = x} {b = y} g) = elim (starts b n (omega arith) x (y ∷ xs) k ts zs g) [
    | inl p ↦ inl (or_left _ _ p)
    | inr q ↦ elim (starts b q.1 (omega (arith, q.2)) y xs k ts zs q.3) [
      | inl p ↦ inl (or_right (in_first look x k) _ (both_true _ _ q.0 p))
      | inr r ↦ inr (both_true _ _ q.0 r.0, r.1, omega (arith, q.2, r.2), r.3)
    ]
  ]
  starts (suc b) _ h _ xs k ts zs (first_of_two {n = n} {a = x} {b = y} g) = elim (starts b n (omega arith) x xs k ts zs g) [
    | inl p ↦ inl (or_left _ _ p)
    | inr q ↦ inr (or_left _ _ q.0, q.1, omega (arith, q.2), q.3)
  ]
  starts (suc b) _ h _ xs k ts zs (second_of_two {n = n} {a = x} {b = y} g) = elim (starts b n (omega arith) y xs k ts zs g) [
    | inl p ↦ inl (or_right (in_first look x k) _ p)
    | inr q ↦ inr (or_right (nullable look x) _ q.0, q.1, omega (arith, q.2), q.3)
  ]
  starts (suc b) _ h _ xs k ts zs (no_more {n = n} g) = inr (refl, n, omega arith, g)
  starts (suc b) _ h _ xs k ts zs (once_more {n = n} {a = x} g) = elim (starts b n (omega arith) x (many x ∷ xs) k ts zs g) [
    | inl p ↦ inl p
    | inr q ↦ elim (starts b q.1 (omega (arith, q.2)) (many x) xs k ts zs q.3) [
      | inl p ↦ inl p
      | inr r ↦ inr (refl, r.1, omega (arith, q.2, r.2), r.3)
    ]
  ]

  -- a reading of a token begins with it
  pub list_starts : (xs : List (Form Rule Sort)) (k : Token) (ts : List Token) (zs : List (Form Rule Sort)) (n : ℕ) → Goes look.grammar n xs (k ∷ ts) zs → IsTrue (list_in_first look xs k)
  list_starts [] k ts zs n g = elim g [ ]
  list_starts (x ∷ xs) k ts zs n g = elim (starts (suc n) n (omega arith) x xs k ts zs g) [
    | inl h ↦ or_left _ _ h
    | inr q ↦ or_right (in_first look x k) _ (both_true _ _ q.0 (list_starts xs k ts zs q.1 q.3))
  ]

  -- a form that is decided where some tokens may follow is decided where fewer may
  pub fewer : (x : Form Rule Sort) (f g : Token → Bool) → ((k : Token) → IsTrue (g k) → IsTrue (f k)) → IsDecided look x f → IsDecided look x g
  fewer (token t) f g h i = tt
  fewer (rule r) f g h i = λ k q. i k (h k q)
  fewer nothing f g h i = tt
  fewer (both a c) f g h i = (fewer a _ _ (λ k q. let e = h k in grind arith) i.0, fewer c f g h i.1)
  fewer (either a c) f g h i = (fewer a f g h i.0, fewer c f g h i.1, λ k. let q = h k in let r = i.2 k in grind arith)
  fewer (many a) f g h i = (fewer a _ _ (λ k q. let e = h k in grind arith) i.0, i.1, λ k. let q = h k in let r = i.2 k in grind arith)
