-- The expansions of a form: what is left of it when each choice is made.
use Rattle.std.specs.Prelude.{List, [], ◌∷◌, ◌++◌}
use Rattle.readers.specs.grammar.Forms.{Form, token, rule, nothing, both, either, many}

-- a thing that a reading has still to read: a token of a sort, or a rule
pub data Symbol (Rule Sort : Type 0) : Type 0 where
  terminal : Sort → Symbol Rule Sort
  nonterminal : Rule → Symbol Rule Sort

-- The symbols are one expansion of the form: each choice is made, each option is taken or left, and each repetition has
-- some number of iterations.
pub data IsExpansion {Rule Sort : Type 0} : Form Rule Sort → List (Symbol Rule Sort) → Type 0 where
  of_token : {t : Sort} → IsExpansion (token t) (terminal t ∷ [])
  of_rule : {r : Rule} → IsExpansion (rule r) (nonterminal r ∷ [])
  of_nothing : IsExpansion nothing []
  of_both : {a b : Form Rule Sort} {us vs : List (Symbol Rule Sort)} → IsExpansion a us → IsExpansion b vs → IsExpansion (both a b) (us ++ vs)
  of_first : {a b : Form Rule Sort} {us : List (Symbol Rule Sort)} → IsExpansion a us → IsExpansion (either a b) us
  of_second : {a b : Form Rule Sort} {us : List (Symbol Rule Sort)} → IsExpansion b us → IsExpansion (either a b) us
  of_no_iteration : {a : Form Rule Sort} → IsExpansion (many a) []
  of_iteration : {a : Form Rule Sort} {us vs : List (Symbol Rule Sort)} → IsExpansion a us → IsExpansion (many a) vs → IsExpansion (many a) (us ++ vs)
