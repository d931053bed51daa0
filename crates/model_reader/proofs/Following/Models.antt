-- What is read of a model conforms to the grammar of models, and so it tells of the readings of the grammar as it is written.
use Rattle.std.proofs.Common.{◌≡◌, ℕ, List, take, refl}
use Rattle.aerie_text.specs.declared.sorts.Sort.TheVariants as sort
use Rattle.readers.specs.Marks.{Mark}
use Rattle.readers.specs.Parsed.{failed}
use Rattle.readers.specs.Verdicts.{Judges}
use Rattle.readers.specs.grammar.Alike.{AreAlike}
use Rattle.readers.specs.grammar.Forms.{rule}
use Rattle.readers.specs.grammar.Readings.{IsRead}
use Rattle.readers.proofs.Conforming.{and_then, then_value, value, rule_conforms}
use Rattle.readers.proofs.Grammars.Alike.{alike_swapped}
use Rattle.readers.proofs.Judged.{judged_as_written, none_in_front}
use Rattle.model_reader.specs.grammar.Factored.{tables, factored}
use Rattle.model_reader.specs.grammar.Rules.{model_rule}
use Rattle.model_reader.specs.grammar.Written.{written}
use Rattle.model_reader.specs.reading.Models.{model_at}
use Rattle.model_reader.proofs.Following.Items.{items_conform}
use Rattle.model_reader.proofs.Following.Names.{Along, take_conforms, raw_name_conforms}
use Rattle.model_reader.proofs.Grammar.Alike.{alike}
use Rattle.model_reader.proofs.Grammar.Predictive.{predictive}

pub model_conforms : (marks : List Mark) → Along (rule model_rule) marks (model_at marks)
unfolding model_at
model_conforms marks =
    rule_conforms predictive (and_then _ (take_conforms sort.Model marks) (λ word rest. and_then _ (raw_name_conforms rest) (λ name behind. and_then _ (take_conforms sort.OpenBrace behind)
    (λ brace from. and_then _ (items_conform from) (λ items left. then_value _ (take_conforms sort.CloseBrace left) (λ close last. value))))))

same : AreAlike factored model_rule written model_rule
same = alike_swapped written model_rule factored model_rule alike

pub model_judged : (marks : List Mark) → Judges written model_rule marks (model_at marks)
model_judged marks = judged_as_written tables predictive model_rule written model_rule same marks (model_at marks) (model_conforms marks)

-- where reading fails no front of the marks is a model
pub no_model_in_front : (marks rest : List Mark) → model_at marks ≡ failed rest → (count : ℕ) → IsRead written model_rule (take count marks) → ⊥
no_model_in_front marks rest failing count read =
    none_in_front tables predictive model_rule written model_rule same refl marks rest (model_at marks) (model_conforms marks) failing count read
