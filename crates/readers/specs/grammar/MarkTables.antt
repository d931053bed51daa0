-- Grammars over marks: a mark is read as a token of its own sort.
use Rattle.aerie_text.specs.Sorts.{number_of}
use Rattle.aerie_text.specs.declared.sorts.Sort.{Sort}
use Rattle.readers.specs.Marks.{Mark}
use Rattle.readers.specs.Parsed.{is_of}
use Rattle.readers.specs.grammar.Classes.{look_by_class}
use Rattle.readers.specs.grammar.Forms.{Form, Grammar}
use Rattle.readers.specs.grammar.Lookahead.{Lookahead}
use Rattle.readers.specs.grammar.Tables.{Tables, Decide, look_by_number}

module _ {Rule : Type 0} where
  -- the grammar of these forms
  abbrev pub grammar_of : (Rule → Form Rule Sort) → Grammar Rule Sort Mark
  grammar_of form = record { fits = is_of; form = form }

  -- the lookahead of a grammar's tables
  abbrev pub look_of : Tables Rule Sort → Lookahead Rule Sort Mark
  look_of tables = look_by_class (λ mark. number_of mark.sort) (look_by_number number_of tables)

  -- by the tables the next mark decides each choice
  abbrev pub MarksDecide : Tables Rule Sort → Type 0
  MarksDecide tables = Decide number_of tables
