-- What conforms to a grammar tells of the readings of the grammar.
use Rattle.std.proofs.Common.{◌≡◌, ℕ, true, List, [], ◌∷◌, ◌++◌, take, drop, Result, Ok, Err, refl, sym, subst}
use Rattle.std.proofs.lemmas.Bool.{eq-eqb}
use Rattle.std.proofs.lemmas.List.{take-append-drop}
use Rattle.aerie_text.specs.Sorts.{number_of}
use Rattle.aerie_text.specs.declared.sorts.Sort.{Sort}
use Rattle.readers.specs.Marks.{Mark}
use Rattle.readers.specs.declared.refusal.Refusal.{Refusal}
use Rattle.readers.specs.declared.refusal.Refusal.TheVariants.{Syntax, TooMany, OutOfMemory}
use Rattle.readers.specs.grammar.Forms.{rule, Grammar}
use Rattle.readers.specs.grammar.Lookahead.{Lookahead, stops}
use Rattle.readers.specs.grammar.MarkTables.{look_of, MarksDecide}
use Rattle.readers.specs.grammar.Parsing.{Stops}
use Rattle.readers.specs.grammar.Predictive.{IsPredictive}
use Rattle.readers.specs.grammar.Readings.{IsRead}
use Rattle.readers.specs.grammar.Tables.{Tables, look_by_number}
use Rattle.readers.specs.grammar.Alike.{AreAlike}
use Rattle.readers.specs.Parsed.{Parsed, parsed, failed, over_limit}
use Rattle.readers.specs.Implements.{Implements, Refuses}
use Rattle.readers.specs.Conforms.{GoesAlong, Conforms}
use Rattle.readers.specs.Verdicts.{Judges, Blames, IsVerdict}
use Rattle.readers.proofs.Grammars.Alike.{alike_tells}
use Rattle.readers.proofs.Grammars.Classes.{predictive_by_class}
use Rattle.readers.proofs.Grammars.Fronts.{ends, no_front}
use Rattle.readers.proofs.Grammars.Tables.{predictive_by_tables}
use Rattle.readers.proofs.Grammars.Choices.{readable_at_once, read_at_once}
use Rattle.readers.proofs.Grammars.Verdicts.{stopped as told_stopped}

module _ {Rule Kind : Type 0} (look : Lookahead Rule Kind Mark) (ok : IsPredictive look) (start : Rule) where
  judged : {A : Type 0} (marks : List Mark) (reading : Parsed A) → GoesAlong look (rule start) marks reading → Judges look.grammar start marks reading
  judged marks (parsed part rest) c = record { front = c.front; is = c.is; read = read_at_once look.grammar start c.front (c.whole []) }
  judged marks (failed rest) h = told_stopped look ok start marks rest h
  judged marks (over_limit limit rest) h =
      let p = h.part [] in
      record { front = h.front; next = h.next; behind = h.behind; here = h.here; is = h.is; readable = readable_at_once look.grammar start (h.front ++ (h.next ∷ [])) p.0 p.1 }

  -- what conforms to the first rule is judged as the grammar's readings say
  pub conforms_judged : {A : Type 0} (marks : List Mark) (reading : Parsed A) → Conforms look (rule start) marks reading → Judges look.grammar start marks reading
  conforms_judged marks reading h = judged marks reading h.goes

module _ {Rule Other Kind : Type 0} (g : Grammar Rule Kind Mark) (start : Rule) (h : Grammar Other Kind Mark) (other : Other) where
  -- the same of a grammar that reads the same marks
  pub alike_judged : {A : Type 0} → AreAlike g start h other → (marks : List Mark) (reading : Parsed A) → Judges g start marks reading → Judges h other marks reading
  alike_judged same marks (parsed part rest) j = record { front = j.front; is = j.is; read = same.read j.front j.read }
  alike_judged same marks (failed rest) j = alike_tells g start h other same marks (stops rest) j
  alike_judged same marks (over_limit limit rest) j = record { front = j.front; next = j.next; behind = j.behind; here = j.here; is = j.is; readable = same.readable (j.front ++ (j.next ∷ [])) j.readable }

module _ {Rule Kind : Type 0} (g : Grammar Rule Kind Mark) (start : Rule) where
  blamed : {A : Type 0} (marks rest : List Mark) (refusal : Refusal) (reading : Parsed A) → Refuses rest refusal reading → Judges g start marks reading → Blames g start marks rest refusal
  blamed marks rest Syntax reading e j = subst (λ r. Judges g start marks r) e j
  blamed marks rest (TooMany limit) reading e j = subst (λ r. Judges g start marks r) e j
  blamed marks rest OutOfMemory reading e j = tt

  -- what a reader of the code returned is judged as what is read
  pub given_verdict : {A : Type 0} (marks rest : List Mark) (result : Result A Refusal) (reading : Parsed A) → Implements rest result reading → Judges g start marks reading → IsVerdict g start marks rest result
  given_verdict marks rest (Ok part) reading e j = subst (λ r. Judges g start marks r) e j
  given_verdict marks rest (Err refusal) reading e j = blamed marks rest refusal reading e j

-- ---- a language: the tables of its factored grammar, by which the next mark decides, and the grammar as it is written, which
-- reads the same marks

-- by the tables the next mark decides
pub predictive_of : {Rule : Type 0} (tables : Tables Rule Sort) → MarksDecide tables → IsPredictive (look_of tables)
predictive_of tables h = predictive_by_class (λ mark. number_of mark.sort) (look_by_number number_of tables) (predictive_by_tables number_of tables h)

module _ {Rule Other : Type 0} (tables : Tables Rule Sort) (ok : IsPredictive (look_of tables)) (start : Rule) (written : Grammar Other Sort Mark) (first : Other) (same : AreAlike (look_of tables).grammar start written first) where
  -- what is read tells of the readings of the grammar as it is written
  pub judged_as_written : {A : Type 0} (marks : List Mark) (reading : Parsed A) → Conforms (look_of tables) (rule start) marks reading → Judges written first marks reading
  judged_as_written marks reading h = alike_judged (look_of tables).grammar start written first same marks reading (conforms_judged (look_of tables) ok start marks reading h)

  fails_there : {A : Type 0} (marks rest : List Mark) (reading : Parsed A) → reading ≡ failed rest → GoesAlong (look_of tables) (rule start) marks reading → Stops (look_of tables) (rule start) marks rest
  fails_there marks rest reading e h = subst (λ r. GoesAlong (look_of tables) (rule start) marks r) e h

  -- where reading fails no marks in front are one of the language, if each of its readings ends with a token
  pub none_in_front : {A : Type 0} → ends (look_of tables) (tables.form start) ≡ true → (marks rest : List Mark) (reading : Parsed A) → Conforms (look_of tables) (rule start) marks reading → reading ≡ failed rest
      → (count : ℕ) → IsRead written first (take count marks) → ⊥
  none_in_front ended marks rest reading h e count read =
      no_front (look_of tables) (λ k. k.sort) (λ k. eq-eqb (number_of k.sort) (number_of k.sort) refl) ok start ended marks rest (take count marks) (drop count marks)
      (fails_there marks rest reading e h.goes) (sym (take-append-drop count marks)) (same.read_back (take count marks) read)
