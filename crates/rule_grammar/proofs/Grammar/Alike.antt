-- The grammar of rules as it is written and the factored one read the same tokens, in two steps. First literals are factored.
-- Then the forms of sums, of terms and of literals are put wherever these rules are named, since an atom may begin as a sum
-- does, and a word as a literal; and atoms and words are factored.
use Rattle.std.proofs.Common.{◌≡◌, ℕ, zero, suc, List, [], ◌∷◌, ◌++◌, refl}
use Rattle.aerie_text.specs.declared.sorts.Sort.{Sort}
use Rattle.readers.specs.Marks.{Mark}
use Rattle.readers.specs.Parsed.{is_of}
use Rattle.readers.specs.grammar.Alike.{AreAlike, rewritten, StandsFor, named, inlined}
use Rattle.readers.specs.grammar.Alternatives.{SameExpansions}
use Rattle.readers.specs.grammar.Forms.{Form, rule, Grammar}
use Rattle.readers.proofs.Grammars.Alike.{alike_forms, alike_named, alike_swapped, alike_chained}
use Rattle.readers.proofs.Grammars.Alternatives.{same_form, same_alternatives}
use Rattle.rule_grammar.specs.grammar.Factored.{factored}
use Rattle.rule_grammar.specs.grammar.Rules.{Rule, constraints_rule, goals_rule, sequence_rule, atom_rule, wsum_rule, wterm_rule, word_rule, literal_rule}
use Rattle.rule_grammar.specs.grammar.Written.{written, wterm_form}
use Rattle.rule_grammar.proofs.Grammar.Atoms.{sum, atoms}

-- ---- the first step

-- the factored forms, but for atoms and words
abbrev pub half_form : Rule → Form Rule Sort
half_form atom_rule = written.form atom_rule
half_form word_rule = written.form word_rule
half_form r = factored.form r

abbrev pub half : Grammar Rule Sort Mark
half = record { fits = is_of; form = half_form }

-- so many places, from one on
abbrev pub places : ℕ → ℕ → List ℕ
places from zero = []
places from (suc count) = from ∷ places (suc from) count

first_step : (r : Rule) → SameExpansions (written.form r) (half.form r)
first_step literal_rule =
    same_alternatives (written.form literal_rule) (half.form literal_rule) (record { in_second = 0 ∷ 2 ∷ 1 ∷ places 3 4; in_first = 0 ∷ 2 ∷ 1 ∷ places 3 4; onward = refl; back = refl })
first_step r = same_form (written.form r)

-- ---- the second step

-- a sum, a term and a literal are their forms, each other rule is itself
abbrev pub put_in_rule : Rule → Form Rule Sort
put_in_rule wsum_rule = sum
put_in_rule wterm_rule = wterm_form
put_in_rule literal_rule = factored.form literal_rule
put_in_rule r = rule r

-- a grammar with these forms wherever the rules are named
abbrev pub put_in : Grammar Rule Sort Mark → Grammar Rule Sort Mark
put_in g = record { fits = is_of; form = λ r. rewritten put_in_rule (g.form r) }

half_stands : (r : Rule) → StandsFor half (put_in half) put_in_rule r
half_stands wsum_rule = inlined refl refl
half_stands wterm_rule = inlined refl refl
half_stands literal_rule = inlined refl refl
half_stands constraints_rule = named constraints_rule refl refl
half_stands r = named r refl refl

factored_stands : (r : Rule) → StandsFor factored (put_in factored) put_in_rule r
factored_stands wsum_rule = inlined refl refl
factored_stands wterm_rule = inlined refl refl
factored_stands literal_rule = inlined refl refl
factored_stands constraints_rule = named constraints_rule refl refl
factored_stands r = named r refl refl

second_step : (r : Rule) → SameExpansions ((put_in half).form r) ((put_in factored).form r)
second_step atom_rule = atoms
second_step word_rule =
    same_alternatives ((put_in half).form word_rule) ((put_in factored).form word_rule)
    (record { in_second = places 0 6 ++ (6 ∷ 7 ∷ 8 ∷ []); in_first = places 0 9; onward = refl; back = refl })
second_step r = same_form ((put_in half).form r)

-- from each rule that stands for itself
alike_from : (r : Rule) → put_in_rule r ≡ rule r → AreAlike written r factored r
alike_from r e =
    alike_chained written r half r factored r (alike_forms written half (λ t k. refl) first_step r)
    (alike_chained half r (put_in half) r factored r (alike_named half (put_in half) put_in_rule (record { same_fits = λ t k. refl; stands = half_stands }) r r e)
    (alike_chained (put_in half) r (put_in factored) r factored r (alike_forms (put_in half) (put_in factored) (λ t k. refl) second_step r)
    (alike_swapped factored r (put_in factored) r (alike_named factored (put_in factored) put_in_rule (record { same_fits = λ t k. refl; stands = factored_stands }) r r e))))

pub constraints_alike : AreAlike written constraints_rule factored constraints_rule
constraints_alike = alike_from constraints_rule refl

pub goals_alike : AreAlike written goals_rule factored goals_rule
goals_alike = alike_from goals_rule refl

pub sequences_alike : AreAlike written sequence_rule factored sequence_rule
sequences_alike = alike_from sequence_rule refl
