-- A grammar as data: the form of each rule.
use Rattle.std.specs.Prelude.{Bool}

-- What a rule stands for. `Rule` names the rules, `Sort` the sorts of tokens: a token of a sort; a rule; nothing; one form
-- and then another; one of two forms; any number of iterations of a form.
pub data Form (Rule Sort : Type 0) : Type 0 where
  token : Sort → Form Rule Sort
  rule : Rule → Form Rule Sort
  nothing : Form Rule Sort
  both : Form Rule Sort → Form Rule Sort → Form Rule Sort
  either : Form Rule Sort → Form Rule Sort → Form Rule Sort
  many : Form Rule Sort → Form Rule Sort

-- an option: the form, or nothing
abbrev pub option : {Rule Sort : Type 0} → Form Rule Sort → Form Rule Sort
option a = either a nothing

-- a form at least once, with a separator before each further iteration
abbrev pub separated : {Rule Sort : Type 0} → Form Rule Sort → Form Rule Sort → Form Rule Sort
separated separator a = both a (many (both separator a))

-- A grammar: which tokens are of a sort, and the form of each rule.
pub record Grammar (Rule Sort Token : Type 0) : Type 0 where
  pub fits : Sort → Token → Bool
  pub form : Rule → Form Rule Sort
