-- Readings that make a choice only when it comes up. They read the same tokens as the readings of `Readings`.
use Rattle.std.specs.Prelude.{ℕ, zero, suc, List, [], ◌∷◌, IsTrue}
use Rattle.readers.specs.grammar.Forms.{Form, token, rule, nothing, both, either, many, Grammar}

module _ {Rule Sort Token : Type 0} (g : Grammar Rule Sort Token) where
  -- From the first list of forms, so many steps read the tokens and leave the second list.
  pub data Goes : ℕ → List (Form Rule Sort) → List Token → List (Form Rule Sort) → Type 0 where
    stop : {xs : List (Form Rule Sort)} → Goes zero xs [] xs
    read : {n : ℕ} {t : Sort} {k : Token} {xs zs : List (Form Rule Sort)} {ts : List Token} → IsTrue (g.fits t k) → Goes n xs ts zs → Goes (suc n) (token t ∷ xs) (k ∷ ts) zs
    open_rule : {n : ℕ} {r : Rule} {xs zs : List (Form Rule Sort)} {ts : List Token} → Goes n (g.form r ∷ xs) ts zs → Goes (suc n) (rule r ∷ xs) ts zs
    pass : {n : ℕ} {xs zs : List (Form Rule Sort)} {ts : List Token} → Goes n xs ts zs → Goes (suc n) (nothing ∷ xs) ts zs
    in_turn : {n : ℕ} {a b : Form Rule Sort} {xs zs : List (Form Rule Sort)} {ts : List Token} → Goes n (a ∷ b ∷ xs) ts zs → Goes (suc n) (both a b ∷ xs) ts zs
    first_of_two : {n : ℕ} {a b : Form Rule Sort} {xs zs : List (Form Rule Sort)} {ts : List Token} → Goes n (a ∷ xs) ts zs → Goes (suc n) (either a b ∷ xs) ts zs
    second_of_two : {n : ℕ} {a b : Form Rule Sort} {xs zs : List (Form Rule Sort)} {ts : List Token} → Goes n (b ∷ xs) ts zs → Goes (suc n) (either a b ∷ xs) ts zs
    no_more : {n : ℕ} {a : Form Rule Sort} {xs zs : List (Form Rule Sort)} {ts : List Token} → Goes n xs ts zs → Goes (suc n) (many a ∷ xs) ts zs
    once_more : {n : ℕ} {a : Form Rule Sort} {xs zs : List (Form Rule Sort)} {ts : List Token} → Goes n (a ∷ many a ∷ xs) ts zs → Goes (suc n) (many a ∷ xs) ts zs

  -- some such reading goes from the first list over the tokens to the second list
  abbrev pub LazyReading : List (Form Rule Sort) → List Token → List (Form Rule Sort) → Type 0
  LazyReading xs ts zs = (n : ℕ) × Goes n xs ts zs
