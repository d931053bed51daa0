-- What is read of names and of words conforms to the grammar of rules.
use Rattle.std.proofs.Common.{List, ◌∷◌, map, refl}
use Rattle.aerie_text.specs.declared.sorts.Sort.{Sort}
use Rattle.aerie_text.specs.declared.sorts.Sort.TheVariants.{Name}
use Rattle.readers.specs.Conforms.{Conforms}
use Rattle.readers.specs.Marks.{Mark}
use Rattle.readers.specs.Parsed.{Parsed, is_of, is_one_of, mark_at, has_at}
use Rattle.readers.specs.grammar.Forms.{Form, token, option}
use Rattle.readers.specs.grammar.Notation.{one_of}
use Rattle.readers.proofs.Conforming.{Begins, begins_token, begins_one_of, token_conforms, has_conforms, one_of_conforms, then_value, value}
use Rattle.model_reader.specs.reading.Names.{raw_name_at, one_standing_for}
use Rattle.rule_grammar.specs.grammar.Factored.{look}
use Rattle.rule_grammar.specs.grammar.Rules.{Rule}

-- what is read conforms to the form of the grammar of rules
abbrev pub Along : {A : Type 0} → Form Rule Sort → List Mark → Parsed A → Type 0
Along form marks reading = Conforms look form marks reading

-- a token begins with the marks of its sort
pub begins_with : (sort : Sort) → Begins look (is_of sort) (token sort)
begins_with sort = begins_token sort (λ k. refl)

-- one of some tokens begins with the marks of their sorts
pub begins_with_one_of : (sort : Sort) (others : List Sort) → Begins look (is_one_of (sort ∷ others)) (one_of sort others)
begins_with_one_of sort others = begins_one_of (λ t k. refl) sort others

pub taken : {A : Type 0} (sort : Sort) (says : Mark → A) {marks : List Mark} → Along (token sort) marks (mark_at sort says marks)
taken sort says = token_conforms sort says (λ k. refl)

pub had : (sort : Sort) {marks : List Mark} → Along (option (token sort)) marks (has_at sort marks)
had sort = has_conforms sort (λ k. refl)

pub one_standing_for_conforms : {A : Type 0} (entry : Sort × A) (others : List (Sort × A)) (marks : List Mark) → Along (one_of entry.0 (map (λ other. other.0) others)) marks (one_standing_for (entry ∷ others) marks)
unfolding one_standing_for
one_standing_for_conforms entry others marks = then_value _ (one_of_conforms (λ t k. refl) entry others) (λ found rest. value)

pub raw_name_conforms : (marks : List Mark) → Along (token Name) marks (raw_name_at marks)
unfolding raw_name_at
raw_name_conforms marks = then_value _ (taken Name _) (λ name rest. value)
