-- The grammar of sessions as it is written and the factored one read the same tokens, in two steps. First each rule but those of
-- primaries and feeds is factored. Then the forms of reads and of literals are put wherever these rules are named, since a
-- primary may begin as a read does, and a feed as a literal; and those two rules are factored.
use Rattle.std.proofs.Common.{◌≡◌, ℕ, zero, suc, List, [], ◌∷◌, ◌++◌, refl}
use Rattle.model_reader.specs.grammar.Rules.{item_rule, literal_rule, read_rule, stmt_rule, invoke_rule, primary_rule}
use Rattle.readers.specs.Marks.{Mark}
use Rattle.readers.specs.grammar.Alike.{AreAlike, rewritten, StandsFor, named, inlined}
use Rattle.readers.specs.grammar.Alternatives.{SameExpansions}
use Rattle.readers.specs.grammar.Forms.{Form, rule, Grammar}
use Rattle.readers.proofs.Grammars.Alike.{alike_forms, alike_named, alike_swapped, alike_chained}
use Rattle.readers.proofs.Grammars.Alternatives.{same_form, same_alternatives}
use Rattle.session_grammar.specs.grammar.Factored.{factored}
use Rattle.session_grammar.specs.grammar.Rules.{Rule, session_rule, mapping_rule, plan_rule, feed_rule, command_rule, when_rule, of_model}
use Rattle.session_grammar.specs.grammar.Terminals.{Terminal, fits}
use Rattle.session_grammar.specs.grammar.Written.{written}

-- ---- the first step

-- the factored forms, but for primaries and feeds
abbrev pub half_form : Rule → Form Rule Terminal
half_form feed_rule = written.form feed_rule
half_form (of_model primary_rule) = written.form (of_model primary_rule)
half_form r = factored.form r

abbrev pub half : Grammar Rule Terminal Mark
half = record { fits = fits; form = half_form }

-- so many places, from one on
abbrev pub places : ℕ → ℕ → List ℕ
places from zero = []
places from (suc count) = from ∷ places (suc from) count

first_step : (r : Rule) → SameExpansions (written.form r) (half.form r)
first_step (of_model item_rule) =
    same_alternatives (written.form (of_model item_rule)) (half.form (of_model item_rule)) (record { in_second = places 0 14; in_first = places 0 14; onward = refl; back = refl })
first_step (of_model literal_rule) =
    same_alternatives (written.form (of_model literal_rule)) (half.form (of_model literal_rule)) (record { in_second = 0 ∷ 1 ∷ 4 ∷ 5 ∷ 2 ∷ 3 ∷ 6 ∷ 7 ∷ 8 ∷ 9 ∷ 10 ∷ []; in_first = 0 ∷ 1 ∷ 4 ∷ 5 ∷ 2 ∷ 3 ∷ 6 ∷ 7 ∷ 8 ∷ 9 ∷ 10 ∷ []; onward = refl; back = refl })
first_step (of_model stmt_rule) =
    same_alternatives (written.form (of_model stmt_rule)) (half.form (of_model stmt_rule)) (record { in_second = 4 ∷ 3 ∷ places 5 9 ++ (0 ∷ 1 ∷ 2 ∷ 14 ∷ 15 ∷ []); in_first = 11 ∷ 12 ∷ 13 ∷ 1 ∷ 0 ∷ places 2 9 ++ (14 ∷ 15 ∷ []); onward = refl; back = refl })
first_step (of_model invoke_rule) =
    same_alternatives (written.form (of_model invoke_rule)) (half.form (of_model invoke_rule)) (record { in_second = places 0 2; in_first = places 0 2; onward = refl; back = refl })
first_step command_rule =
    same_alternatives (written.form command_rule) (half.form command_rule) (record {
      in_second = 0 ∷ 1 ∷ 2 ∷ 4 ∷ 5 ∷ 7 ∷ 8 ∷ 9 ∷ 10 ∷ 11 ∷ 12 ∷ 6 ∷ 3 ∷ 13 ∷ [];
      in_first = 0 ∷ 1 ∷ 2 ∷ 12 ∷ 3 ∷ 4 ∷ 11 ∷ 5 ∷ 6 ∷ 7 ∷ 8 ∷ 9 ∷ 10 ∷ 13 ∷ [];
      onward = refl;
      back = refl;
    })
first_step session_rule =
    same_alternatives (written.form session_rule) (half.form session_rule) (record { in_second = 0 ∷ []; in_first = 0 ∷ []; onward = refl; back = refl })
first_step mapping_rule =
    same_alternatives (written.form mapping_rule) (half.form mapping_rule) (record { in_second = 0 ∷ []; in_first = 0 ∷ []; onward = refl; back = refl })
first_step plan_rule =
    same_alternatives (written.form plan_rule) (half.form plan_rule) (record { in_second = 0 ∷ []; in_first = 0 ∷ []; onward = refl; back = refl })
first_step when_rule =
    same_alternatives (written.form when_rule) (half.form when_rule) (record { in_second = 5 ∷ 6 ∷ 4 ∷ 0 ∷ 1 ∷ 2 ∷ 3 ∷ []; in_first = 3 ∷ 4 ∷ 5 ∷ 6 ∷ 2 ∷ 0 ∷ 1 ∷ []; onward = refl; back = refl })
first_step r = same_form (written.form r)

-- ---- the second step

-- a read and a literal are their forms, each other rule is itself
abbrev pub put_in_rule : Rule → Form Rule Terminal
put_in_rule (of_model read_rule) = factored.form (of_model read_rule)
put_in_rule (of_model literal_rule) = factored.form (of_model literal_rule)
put_in_rule r = rule r

-- a grammar with these forms wherever the rules are named
abbrev pub put_in : Grammar Rule Terminal Mark → Grammar Rule Terminal Mark
put_in g = record { fits = fits; form = λ r. rewritten put_in_rule (g.form r) }

half_stands : (r : Rule) → StandsFor half (put_in half) put_in_rule r
half_stands (of_model read_rule) = inlined refl refl
half_stands (of_model literal_rule) = inlined refl refl
half_stands session_rule = named session_rule refl refl
half_stands r = named r refl refl

factored_stands : (r : Rule) → StandsFor factored (put_in factored) put_in_rule r
factored_stands (of_model read_rule) = inlined refl refl
factored_stands (of_model literal_rule) = inlined refl refl
factored_stands session_rule = named session_rule refl refl
factored_stands r = named r refl refl

second_step : (r : Rule) → SameExpansions ((put_in half).form r) ((put_in factored).form r)
second_step (of_model primary_rule) =
    same_alternatives ((put_in half).form (of_model primary_rule)) ((put_in factored).form (of_model primary_rule)) (record { in_second = places 0 12; in_first = places 0 12; onward = refl; back = refl })
second_step feed_rule =
    same_alternatives ((put_in half).form feed_rule) ((put_in factored).form feed_rule) (record { in_second = 11 ∷ places 0 11; in_first = places 1 11 ++ 0 ∷ []; onward = refl; back = refl })
second_step r = same_form ((put_in half).form r)

-- from each rule that stands for itself
pub alike_from : (r : Rule) → put_in_rule r ≡ rule r → AreAlike written r factored r
alike_from r e =
    alike_chained written r half r factored r (alike_forms written half (λ t k. refl) first_step r)
    (alike_chained half r (put_in half) r factored r (alike_named half (put_in half) put_in_rule (record { same_fits = λ t k. refl; stands = half_stands }) r r e)
    (alike_chained (put_in half) r (put_in factored) r factored r (alike_forms (put_in half) (put_in factored) (λ t k. refl) second_step r)
    (alike_swapped factored r (put_in factored) r (alike_named factored (put_in factored) put_in_rule (record { same_fits = λ t k. refl; stands = factored_stands }) r r e))))

pub alike : AreAlike written session_rule factored session_rule
alike = alike_from session_rule refl
