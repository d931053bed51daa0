-- Forms, written in the order of their tokens.
use Rattle.std.specs.Prelude.{List, [], ◌∷◌}
use Rattle.readers.specs.grammar.Forms.{Form, token, both, either}

infixr 50 ◌then◌
infixr 40 ◌or◌
-- one form and then another
abbrev pub ◌then◌ : {Rule Sort : Type 0} → Form Rule Sort → Form Rule Sort → Form Rule Sort
a then b = both a b

-- one of two forms
abbrev pub ◌or◌ : {Rule Sort : Type 0} → Form Rule Sort → Form Rule Sort → Form Rule Sort
a or b = either a b

-- a token of one of these sorts
abbrev pub one_of : {Rule Sort : Type 0} → Sort → List Sort → Form Rule Sort
one_of sort [] = token sort
one_of sort (other ∷ others) = token sort or one_of other others
