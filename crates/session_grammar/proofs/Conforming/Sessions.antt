-- What is read of a session conforms to the grammar of sessions, and so it tells of the readings of the grammar as it is
-- written. That what is read of a model conforms to its rule is handed in: it is a law of model_reader.
use Rattle.std.proofs.Common.{ℕ, List, [], ◌∷◌, length, refl}
use Rattle.aerie_text.specs.declared.sorts.Sort.TheVariants as sort
use Rattle.model_reader.specs.grammar.Rules.{model_rule}
use Rattle.model_reader.specs.reading.Models.{model_at}
use Rattle.readers.specs.Conforms.{GoesAlong}
use Rattle.readers.specs.Marks.{Mark}
use Rattle.readers.specs.Parsed.{Parsed, parsed, failed, over_limit, ◌>>=◌, is_of}
use Rattle.readers.specs.Verdicts.{Judges}
use Rattle.readers.specs.grammar.Alike.{AreAlike}
use Rattle.readers.specs.grammar.Forms.{many, rule}
use Rattle.readers.specs.grammar.Lookahead.{stops}
use Rattle.readers.proofs.Conforming.{and_then, then_value, value, Begins, begins_here, begins_rule, repeated_conforms, rule_conforms}
use Rattle.readers.proofs.Grammars.Alike.{alike_tells, alike_swapped}
use Rattle.readers.proofs.Grammars.Verdicts.{all_read, more_left}
use Rattle.readers.proofs.Judged.{alike_judged, conforms_judged}
use Rattle.readers.proofs.Listing.{one_more_conforms, row_conforms}
use Rattle.session_grammar.specs.SessionAnswers.{JudgesSession}
use Rattle.session_grammar.specs.declared.raw.sessions.RawSession.{RawSession}
use Rattle.session_grammar.specs.grammar.Factored.{look, factored, models_form, sections_form}
use Rattle.session_grammar.specs.grammar.Rules.{client_rule, session_rule, of_model}
use Rattle.session_grammar.specs.grammar.Written.{written}
use Rattle.session_grammar.specs.reading.Sessions.{most_models, most_clients, models_at, clients_at, sections_at, session_within, session_at, whole_of, whole_session_at}
use Rattle.session_grammar.proofs.Conforming.Commands.{client_law}
use Rattle.session_grammar.proofs.Conforming.Directives.{Along}
use Rattle.session_grammar.proofs.Conforming.Mappings.{mappings_law}
use Rattle.session_grammar.proofs.Conforming.Plans.{plan_law, datasets_law}
use Rattle.session_grammar.proofs.Conforming.Sections.{sections_with_law}
use Rattle.session_grammar.proofs.Conforming.Terminals.{in_terminals}
use Rattle.session_grammar.proofs.Grammar.Alike.{alike}
use Rattle.session_grammar.proofs.Grammar.Predictive.{predictive}

clients_law : (marks : List Mark) → Along (many (rule client_rule)) marks (clients_at marks)
unfolding clients_at
clients_law marks = row_conforms predictive (sort.Client ∷ []) (begins_rule (λ k. in_terminals (sort.Client ∷ []) refl k)) refl client_law most_clients marks

sections_law : (count : ℕ) (marks : List Mark) → Along sections_form marks (sections_at count marks)
unfolding sections_at
sections_law count marks =
    and_then _ (sections_with_law sort.Constraints (refl, refl) count marks) (λ constraints rest. and_then _ (sections_with_law sort.Goals (refl, refl) count rest) (λ goals rest.
    then_value _ (sections_with_law sort.Sequence (refl, refl) count rest) (λ sequences rest. value)))

model_begins : Begins look (is_of sort.Model) (rule (of_model model_rule))
model_begins = begins_rule (λ k. in_terminals (sort.Model ∷ []) refl k)

module _ (model_law : (marks : List Mark) → Along (rule (of_model model_rule)) marks (model_at marks)) where
  models_law : (marks : List Mark) → Along models_form marks (models_at marks)
  unfolding models_at
  models_law marks =
      and_then _ (model_law marks) (λ first rest. repeated_conforms (first ∷ []) model_begins refl
      (λ now here next. one_more_conforms predictive model_law most_models now here (begins_here here model_begins next)))

  pub session_law : (count : ℕ) (marks : List Mark) → Along (rule session_rule) marks (session_within count marks)
  unfolding session_within
  session_law count marks =
      rule_conforms predictive (and_then _ (models_law marks) (λ models rest. and_then _ (mappings_law rest) (λ mappings rest. and_then _ (plan_law rest) (λ plan rest.
      and_then _ (datasets_law rest) (λ datasets rest. and_then _ (sections_law count rest) (λ sections rest. then_value _ (clients_law rest) (λ clients rest. value)))))))

  -- ---- the whole text

  same : AreAlike factored session_rule written session_rule
  same = alike_swapped written session_rule factored session_rule alike

  of_read : (marks : List Mark) (reading : Parsed RawSession) → GoesAlong look (rule session_rule) marks reading → Judges written session_rule marks reading
  of_read marks reading goes = alike_judged factored session_rule written session_rule same marks reading (conforms_judged look predictive session_rule marks reading (record { goes = goes }))

  whole_goes : (marks : List Mark) (reading : Parsed RawSession) → GoesAlong look (rule session_rule) marks reading → JudgesSession marks (reading >>= λ read. whole_of read.0 read.1)
  whole_goes marks (parsed raw []) c = same.read marks (all_read look predictive session_rule marks c.reads)
  whole_goes marks (parsed raw (k ∷ rest)) c = alike_tells factored session_rule written session_rule same marks (stops (k ∷ rest)) (more_left look predictive session_rule marks rest k c.reads)
  whole_goes marks (failed rest) h = of_read marks (failed rest) h
  whole_goes marks (over_limit limit rest) h = of_read marks (over_limit limit rest) h

  -- what is read of the whole text tells of the readings of the grammar as it is written
  pub session_judged : (marks : List Mark) → JudgesSession marks (whole_session_at marks)
  session_judged marks = let law = session_law (length marks) marks in whole_goes marks (session_at marks) law.goes
