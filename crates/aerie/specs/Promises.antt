-- What a call of the program promises, whatever source and sink it is handed.
use Rattle.std.specs.Prelude.{◌≡◌, ◌≤◌, ◌+◌, ◌⊎◌, ℕ, List, Option, IsTrue, true, false}
use Rattle.std.specs.Io.KnownBytes.{IsAtEnd}
use Rattle.aerie_edge.specs.Faults.{Rose}
use Rattle.command_line.specs.declared.invocation.Invocation.{Invocation}
use Rattle.aerie.specs.Input.{HasRead}
use Rattle.aerie.specs.Output.{WritesAll, WritesFront}
use Rattle.aerie.specs.Program.{ProgramAnswer, IsAnswerTo, counted_from, is_answered, is_status, number_of_status, reads_input}

-- a source before and after the call, and how it is seen: what is left in it, how often it was read, how many faults it counted
pub record SourceOf (S : Type 0) : Type 0 where
  pub left : S → Option (List ℕ)
  pub reads : S → ℕ
  pub faults : S → ℕ
  pub before : S
  pub after : S

-- a sink likewise: what was written to it, in which pieces, how many faults it counted
pub record SinkOf (K : Type 0) : Type 0 where
  pub written : K → Option (List ℕ)
  pub pieces : K → Option (List (List ℕ))
  pub faults : K → ℕ
  pub before : K
  pub after : K

abbrev pub HasFailedReading : {S : Type 0} → SourceOf S → Type 0
HasFailedReading source = Rose (source.faults source.before) (source.faults source.after)

abbrev pub HasFailedWriting : {K : Type 0} → SinkOf K → Type 0
HasFailedWriting sink = Rose (sink.faults sink.before) (sink.faults sink.after)

-- what a call with this invocation and this status does with its source and its sink
pub record DoesAsPromised {S K : Type 0} (source : SourceOf S) (sink : SinkOf K) (invocation : Option Invocation) (status : ℕ) : Type 0 where
  -- no other status is answered
  pub statuses : IsTrue (is_status status)
  -- with 0, 2 and 3 the status and all that was written are the answer to the words and to the input
  pub answered : IsTrue (is_answered status) → (answer : ProgramAnswer)
      × ((statements : ℕ) × IsAnswerTo invocation (source.left source.before) (source.left source.after) (counted_from 0 statements) answer)
      × (status ≡ number_of_status answer.status)
      × WritesAll (sink.written sink.before) (sink.written sink.after) (sink.pieces sink.before) (sink.pieces sink.after) answer.text
  -- where no session is performed or judged, nothing is read
  pub unread : reads_input invocation ≡ false → source.after ≡ source.before
  -- with status 0 a source that was read was read to its end
  pub whole : status ≡ 0 → reads_input invocation ≡ true → IsAtEnd (source.left source.after)
  -- a read failed: the source counted it, and nothing was written
  pub read_failed : status ≡ 4 → HasFailedReading source × (sink.after ≡ sink.before)
  -- a write failed: the sink counted it, and exactly a front of the answer was written
  pub write_failed : status ≡ 5 → HasFailedWriting sink × ((answer : ProgramAnswer)
      × ((statements : ℕ) × IsAnswerTo invocation (source.left source.before) (source.left source.after) (counted_from 0 statements) answer)
      × WritesFront (sink.written sink.before) (sink.written sink.after) (sink.pieces sink.before) (sink.pieces sink.after) answer.text)
  -- want of memory: nothing was written
  pub memory : status ≡ 6 → sink.after ≡ sink.before
  -- where no count of faults rose, the answer was given and written, or memory was wanted
  pub complete : ¬ (HasFailedReading source) → ¬ (HasFailedWriting sink) → IsTrue (is_answered status) ⊎ (status ≡ 6)
  -- whatever the status: what is read, in how many reads, and that no count of faults falls
  pub read : (input : List ℕ) × HasRead (source.left source.before) (source.left source.after) input
  pub reads : source.reads source.after ≤ source.reads source.before + 16_777_217
  pub faults : (source.faults source.before ≤ source.faults source.after) × (sink.faults sink.before ≤ sink.faults sink.after)

-- ---- from what a trait tells of its values

abbrev pub source_of : {S : Type 0} → (S → Option (List ℕ)) → (S → ℕ) → (S → ℕ) → S → S → SourceOf S
source_of left reads faults before after = record { left = left; reads = reads; faults = faults; before = before; after = after }

abbrev pub sink_of : {K : Type 0} → (K → Option (List ℕ)) → (K → Option (List (List ℕ))) → (K → ℕ) → K → K → SinkOf K
sink_of written pieces faults before after = record { written = written; pieces = pieces; faults = faults; before = before; after = after }
