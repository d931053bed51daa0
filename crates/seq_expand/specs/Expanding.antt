-- The commands of a run by the rules of a sequence.
use Rattle.std.specs.Prelude.{ℕ, pos, Bool, not, ◌&&◌, List, [], ◌∷◌, if◌then◌else◌}
use Rattle.std.specs.List.{filter}
use Rattle.std.specs.Int.RustNames.{int_lt, int_le}
use Rattle.aerie_base.specs.declared.models.model.Parts.{Parts}
use Rattle.run_data.specs.declared.runs.Run.{Run}
use Rattle.run_data.specs.Spans.{spans_of}
use Rattle.seq_expand.specs.declared.rules.Sequencing.{Sequencing}
use Rattle.seq_expand.specs.declared.sequence.Sent.{Sent}
use Rattle.seq_expand.specs.declared.sequence.Sequence.{Sequence}
use Rattle.seq_expand.specs.Sending.{sent_by_spans}
use Rattle.seq_expand.specs.Closeness.{close_positions}

-- ---- order

-- before the first that is no earlier
abbrev pub put_sent : Sent → List Sent → List Sent
put_sent sent [] = sent ∷ []
put_sent sent (first ∷ rest) = if int_lt first.at sent.at then first ∷ put_sent sent rest else sent ∷ first ∷ rest

-- by time; those of one time in the order in which they stood
abbrev pub by_time : List Sent → List Sent
by_time [] = []
by_time (sent ∷ rest) = put_sent sent (by_time rest)

-- ---- the sequence

-- whether a command's time is one of the plan
abbrev pub is_in_plan : ℕ → Sent → Bool
is_in_plan duration sent = int_le (pos 0) sent.at && int_lt sent.at (pos duration)

abbrev pub commands_within : ℕ → List Sent → List Sent
commands_within duration sent = by_time (filter (is_in_plan duration) sent)

abbrev pub commands_outside : ℕ → List Sent → List Sent
commands_outside duration sent = by_time (filter (λ one. not (is_in_plan duration one)) sent)

abbrev pub sequence_by : Sequencing → ℕ → List Sent → Sequence
sequence_by rules duration sent = record {
  commands = commands_within duration sent;
  outside = commands_outside duration sent;
  close = close_positions rules.spacings (commands_within duration sent);
}

abbrev pub sequence_of : Parts → Sequencing → Run → Sequence
sequence_of model rules run = sequence_by rules run.plan.duration (sent_by_spans rules.rules (spans_of model run))
