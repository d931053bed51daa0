-- What is read of names conforms to the grammar of models.
use Rattle.std.proofs.Common.{List, ◌∷◌, map, refl}
use Rattle.aerie_text.specs.declared.sorts.Sort.{Sort}
use Rattle.aerie_text.specs.declared.sorts.Sort.TheVariants.{Name}
use Rattle.readers.specs.Conforms.{Conforms}
use Rattle.readers.specs.Marks.{Mark}
use Rattle.readers.specs.Parsed.{Parsed, is_of, is_one_of, take_at, number_at, one_of_at}
use Rattle.readers.specs.grammar.Forms.{Form, token}
use Rattle.readers.specs.grammar.Notation.{one_of}
use Rattle.readers.proofs.Conforming.{Begins, begins_token, begins_one_of, token_conforms, one_of_conforms, then_value, value}
use Rattle.model_reader.specs.grammar.Factored.{look}
use Rattle.model_reader.specs.grammar.Rules.{Rule}
use Rattle.model_reader.specs.reading.Names.{raw_name_at, standing_for, one_standing_for}

-- what is read conforms to the form of the grammar of models
abbrev pub Along : {A : Type 0} → Form Rule Sort → List Mark → Parsed A → Type 0
Along form marks reading = Conforms look form marks reading

-- a token begins with the marks of its sort
pub begins_with : (sort : Sort) → Begins look (is_of sort) (token sort)
begins_with sort = begins_token sort (λ k. refl)

-- one of some tokens begins with the marks of their sorts
pub begins_with_one_of : (sort : Sort) (others : List Sort) → Begins look (is_one_of (sort ∷ others)) (one_of sort others)
begins_with_one_of sort others = begins_one_of (λ t k. refl) sort others

pub take_conforms : (sort : Sort) (marks : List Mark) → Along (token sort) marks (take_at sort marks)
take_conforms sort marks = token_conforms sort _ (λ k. refl)

pub number_conforms : (sort : Sort) (marks : List Mark) → Along (token sort) marks (number_at sort marks)
number_conforms sort marks = token_conforms sort _ (λ k. refl)

-- one of some words or symbols
pub word_conforms : {A : Type 0} (entry : Sort × A) (others : List (Sort × A)) (marks : List Mark) → Along (one_of entry.0 (map (λ other. other.0) others)) marks (one_of_at (entry ∷ others) marks)
word_conforms entry others marks = one_of_conforms (λ t k. refl) entry others

pub one_standing_for_conforms : {A : Type 0} (entry : Sort × A) (others : List (Sort × A)) (marks : List Mark) → Along (one_of entry.0 (map (λ other. other.0) others)) marks (one_standing_for (entry ∷ others) marks)
unfolding one_standing_for
one_standing_for_conforms entry others marks = then_value _ (word_conforms entry others marks) (λ found rest. value)

pub raw_name_conforms : (marks : List Mark) → Along (token Name) marks (raw_name_at marks)
unfolding raw_name_at
raw_name_conforms marks = then_value _ (token_conforms Name _ (λ k. refl)) (λ name rest. value)

pub standing_for_conforms : {A : Type 0} (sort : Sort) (given : A) (marks : List Mark) → Along (token sort) marks (standing_for sort given marks)
unfolding standing_for
standing_for_conforms sort given marks = then_value _ (take_conforms sort marks) (λ word rest. value)
