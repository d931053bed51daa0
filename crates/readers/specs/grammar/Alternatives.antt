-- When two forms have the same expansions: it is decided by computation, so that a form can be left-factored.
use Rattle.std.specs.Prelude.{◌≡◌, ℕ, zero, suc, List, [], ◌∷◌, ◌++◌, map}
use Rattle.readers.specs.grammar.Forms.{Form, token, rule, nothing, both, either, many}
use Rattle.readers.specs.grammar.Expansions.{Symbol, IsExpansion}

-- each of the first lists, with each of the second behind it
abbrev pub joined : {A : Type 0} → List (List A) → List (List A) → List (List A)
joined [] yss = []
joined (xs ∷ xss) yss = map (λ ys. xs ++ ys) yss ++ joined xss yss

-- The alternatives of a form, with each choice outside its repetitions made. Each is a list of tokens, rules and repetitions.
abbrev pub alternatives : {Rule Sort : Type 0} → Form Rule Sort → List (List (Form Rule Sort))
alternatives (token t) = (token t ∷ []) ∷ []
alternatives (rule r) = (rule r ∷ []) ∷ []
alternatives nothing = [] ∷ []
alternatives (both a b) = joined (alternatives a) (alternatives b)
alternatives (either a b) = alternatives a ++ alternatives b
alternatives (many a) = (many a ∷ []) ∷ []

-- the element at a place, or nothing behind the list's end
abbrev pub element : {A : Type 0} → ℕ → List A → List A
element i [] = []
element zero (x ∷ xs) = x ∷ []
element (suc i) (x ∷ xs) = element i xs

-- the elements at these places
abbrev pub picked : {A : Type 0} → List ℕ → List A → List A
picked [] xs = []
picked (i ∷ is) xs = element i xs ++ picked is xs

module _ {Rule Sort : Type 0} where
  -- the two forms have the same expansions
  pub record SameExpansions (a b : Form Rule Sort) : Type 0 where
    pub onward : (us : List (Symbol Rule Sort)) → IsExpansion a us → IsExpansion b us
    pub back : (us : List (Symbol Rule Sort)) → IsExpansion b us → IsExpansion a us

  -- The two forms have the same alternatives: each one's are found at these places of the other's. For forms at hand both
  -- equations are by computation, and the forms then have the same expansions.
  pub record SameAlternatives (a b : Form Rule Sort) : Type 0 where
    pub in_second : List ℕ
    pub in_first : List ℕ
    pub onward : picked in_second (alternatives b) ≡ alternatives a
    pub back : picked in_first (alternatives a) ≡ alternatives b
