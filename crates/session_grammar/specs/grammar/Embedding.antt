-- The forms of the grammar of models, as forms of the grammar of sessions.
use Rattle.std.specs.Prelude.{List, [], ◌∷◌, ◌++◌, if◌then◌else◌}
use Rattle.aerie_text.specs.Sorts.{same_sort}
use Rattle.aerie_text.specs.declared.sorts.Sort.{Sort}
use Rattle.aerie_text.specs.declared.sorts.Sort.TheVariants as sort
use Rattle.model_reader.specs.grammar.Rules.{Rule as ModelRule}
use Rattle.readers.specs.grammar.Embedding.{there}
use Rattle.readers.specs.grammar.Forms.{Form, nothing}
use Rattle.readers.specs.grammar.Notation.{one_of}
use Rattle.session_grammar.specs.grammar.Rules.{Rule, of_model}
use Rattle.session_grammar.specs.grammar.Terminals.{Terminal, plain, id_number, great_number, no_time, some_time}

-- the terminals of a sort
abbrev pub terminals_of : Sort → List Terminal
terminals_of s =
    if same_sort sort.Number s then id_number ∷ great_number ∷ []
    else if same_sort sort.Time s then no_time ∷ some_time ∷ []
    else plain s ∷ []

-- the terminals of sorts
abbrev pub terminals_of_all : List Sort → List Terminal
terminals_of_all [] = []
terminals_of_all (s ∷ sorts) = terminals_of s ++ terminals_of_all sorts

-- one of these terminals, or nothing where there are none
abbrev pub one_of_all : List Terminal → Form Rule Terminal
one_of_all [] = nothing
one_of_all (terminal ∷ others) = one_of terminal others

-- a token of a sort
abbrev pub of_sort : Sort → Form Rule Terminal
of_sort s = one_of_all (terminals_of s)

-- a form of the grammar of models
abbrev pub in_session : Form ModelRule Sort → Form Rule Terminal
in_session a = there of_model of_sort a
