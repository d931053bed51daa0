-- Worked cases of commands.
use Rattle.std.specs.Prelude.{◌≡◌, ℕ, pos, negsuc, ◌-ℤ◌, true, List, [], ◌∷◌, Option, Some, None, refl}
use Rattle.aerie_base.specs.declared.values.Value.{Value}
use Rattle.aerie_base.specs.declared.values.Value.TheVariants.{Int, Truth}
use Rattle.aerie_base.specs.declared.plans.Edge.TheVariants.{Start, End}
use Rattle.aerie_base.specs.declared.expressions.Comparison.TheVariants.{More}
use Rattle.run_data.specs.Spans.{SpanOf}
use Rattle.seq_expand.specs.declared.rules.SendWord.TheVariants as word
use Rattle.seq_expand.specs.declared.rules.SendStep.{SendStep}
use Rattle.seq_expand.specs.declared.rules.Sequencing.{Sequencing}
use Rattle.seq_expand.specs.declared.sequence.Sent.{Sent}
use Rattle.seq_expand.specs.Sending.{sent_by_spans}
use Rattle.seq_expand.specs.Expanding.{sequence_by}

-- a bump by 3 that returns 7, as directive 1 or 2
abbrev bumped : ℕ → ℕ → Option ℕ → Option Value → SpanOf
bumped id start end result = record { path = 0 ∷ id ∷ []; kind = 0; arguments = Int (pos 3) ∷ []; start = start; end = end; result = result }

-- WARM 2 microseconds before the start, SET with the amount at the start, STOP with the result at the end
abbrev warm : SendStep
warm = record { edge = Start; shift = pos 0 -ℤ pos 2; name = 87 ∷ []; words = []; test = None }

abbrev set : SendStep
set = record { edge = Start; shift = pos 0; name = 83 ∷ []; words = word.Parameter 0 ∷ word.Value (Truth true) ∷ []; test = None }

abbrev stop : SendStep
stop = record { edge = End; shift = pos 0; name = 84 ∷ []; words = word.SpanResult ∷ []; test = None }

-- two SETs stand at least 100 microseconds apart
abbrev rules : Sequencing
rules = record { rules = record { kind = 0; steps = warm ∷ set ∷ stop ∷ [] } ∷ []; spacings = (83 ∷ [], 100) ∷ [] }

abbrev sent_at_by : ℕ → ℕ → List ℕ → List Value → Sent
sent_at_by id at name arguments = record { at = pos at; path = 0 ∷ id ∷ []; name = name; arguments = arguments }

pub one_span : sequence_by rules 100 (sent_by_spans rules.rules (bumped 1 5 (Some 15) (Some (Int (pos 7))) ∷ [])) ≡ record {
  commands = sent_at_by 1 3 (87 ∷ []) [] ∷ sent_at_by 1 5 (83 ∷ []) (Int (pos 3) ∷ Truth true ∷ []) ∷ sent_at_by 1 15 (84 ∷ []) (Int (pos 7) ∷ []) ∷ [];
  outside = [];
  close = [];
}
one_span = refl

-- one command before the plan, none at the end of the span that has none, and the second SET too close behind the first
pub two_spans :
    sequence_by rules 100 (sent_by_spans rules.rules (bumped 1 1 (Some 11) (Some (Int (pos 7))) ∷ bumped 2 95 None None ∷ [])) ≡ record {
      commands =
          sent_at_by 1 1 (83 ∷ []) (Int (pos 3) ∷ Truth true ∷ [])
          ∷ sent_at_by 1 11 (84 ∷ []) (Int (pos 7) ∷ [])
          ∷ sent_at_by 2 93 (87 ∷ []) []
          ∷ sent_at_by 2 95 (83 ∷ []) (Int (pos 3) ∷ Truth true ∷ [])
          ∷ [];
      outside = record { at = negsuc 0; path = 0 ∷ 1 ∷ []; name = 87 ∷ []; arguments = [] } ∷ [];
      close = 3 ∷ [];
    }
two_spans = refl

-- a step whose test fails of the span's argument gives nothing
pub failed_test : sent_by_spans (record { kind = 0; steps = record set { test = Some (record { parameter = 0; how = More; with = Int (pos 3) }) } ∷ [] } ∷ [])
    (bumped 1 5 None None ∷ []) ≡ []
failed_test = refl
