-- What is so by the factored grammar of rules is so by the grammar as it is written, and what is read of all marks is judged as
-- its readings say.
use Rattle.std.proofs.Common.{List, [], ◌∷◌, subst}
use Rattle.readers.specs.Conforms.{Conforms}
use Rattle.readers.specs.Marks.{Mark}
use Rattle.readers.specs.Parsed.{Parsed, parsed, failed, over_limit}
use Rattle.readers.specs.Verdicts.{Judges, JudgesAll}
use Rattle.readers.specs.grammar.Alike.{AreAlike}
use Rattle.readers.specs.grammar.Forms.{rule}
use Rattle.readers.specs.grammar.Lookahead.{Answer, answer}
use Rattle.readers.specs.grammar.Tells.{Tells, AnswersAreRight}
use Rattle.readers.proofs.Grammars.Alike.{alike_swapped, alike_tells}
use Rattle.readers.proofs.Grammars.Verdicts.{tells}
use Rattle.readers.proofs.Judged.{alike_judged, conforms_judged}
use Rattle.rule_grammar.proofs.Grammar.Predictive.{predictive}
use Rattle.rule_grammar.specs.grammar.Factored.{look, factored}
use Rattle.rule_grammar.specs.grammar.Rules.{Rule}
use Rattle.rule_grammar.specs.grammar.Written.{written}
use Rattle.rule_grammar.specs.reading.ToTheEnd.{to_the_end}

module _ (start : Rule) (alike : AreAlike written start factored start) where
  as_written : (marks : List Mark) (a : Answer Mark) → Tells factored start marks a → Tells written start marks a
  as_written marks a t = alike_tells factored start written start (alike_swapped written start factored start alike) marks a t

  pub answers_right : AnswersAreRight look start written start
  answers_right marks = as_written marks (answer look (rule start ∷ []) marks) (tells look predictive start marks)

  -- what is read of all marks, where what is read of them conforms to the first rule
  pub judged_to_the_end : {A : Type 0} (marks : List Mark) (reading : Parsed A) → Conforms look (rule start) marks reading → JudgesAll written start marks (to_the_end reading)
  judged_to_the_end {A = A} marks reading h = by_cases reading h
    where
      read_before : (r : Parsed A) → Conforms look (rule start) marks r → Judges written start marks r
      read_before r c = alike_judged factored start written start (alike_swapped written start factored start alike) marks r (conforms_judged look predictive start marks r c)

      by_cases : (r : Parsed A) → Conforms look (rule start) marks r → JudgesAll written start marks (to_the_end r)
      by_cases (parsed rules []) c = let j = answers_right marks in subst (Tells written start marks) (c.goes.reads.onward []) j
      by_cases (parsed rules (mark ∷ rest)) c = let j = answers_right marks in subst (Tells written start marks) (c.goes.reads.onward []) j
      by_cases (failed rest) c = read_before (failed rest) c
      by_cases (over_limit limit rest) c = read_before (over_limit limit rest) c
