-- What the traces of two runs tell of their likeness.
use Rattle.std.specs.Prelude.{◌≡◌, ◌⊎◌, ℕ, Bool, true, false, List, [], length, Option, Some, None, slice_get}
use Rattle.aerie_base.specs.declared.models.model.Parts.{Parts}
use Rattle.aerie_base.specs.declared.plans.Anchor.{Anchor}
use Rattle.aerie_base.specs.declared.plans.Directive.{Directive}
use Rattle.aerie_base.specs.declared.plans.Edge.{Edge}
use Rattle.aerie_base.specs.declared.plans.Edge.TheVariants.{Start, End}
use Rattle.aerie_base.specs.declared.plans.Plan.{Plan}
use Rattle.aerie_base.specs.Paths.{root}
use Rattle.run_data.specs.declared.runs.Instant.{Instant}
use Rattle.run_data.specs.laws.EndedTasks.{is_open_status}
use Rattle.resimulate.specs.AlikeByFrames.{FramesAgree}
use Rattle.resimulate.specs.LastChanges.{SameLastChanges}
use Rattle.resimulate.specs.declared.traces.Trace.{Trace}
use Rattle.run_data.specs.laws.TracedTasks.{timed_instants}
use Rattle.resimulate.specs.Origins.{origin_number, has_root, is_asked}
use Rattle.resimulate.specs.Traces.{TraceList, trace_of, TellSame, TakesIn}
use Rattle.resimulate.specs.UnbegunTasks.{IsInPlan}

-- ---- tasks that differ, by the directive or daemon that they come from

abbrev pub HasSame : Trace → Option Trace → Type 0
HasSame trace None = ⊥
HasSame trace (Some other) = TellSame trace other

-- a trace tells the same as the other of its path, or its root is noted
abbrev pub IsSameOrNoted : TraceList → List ℕ → List ℕ → Trace → Type 0
IsSameOrNoted others roots path trace = HasSame trace (trace_of others path) ⊎ (has_root roots (origin_number path) ≡ true)

abbrev pub NotesDiffering : TraceList → TraceList → List ℕ → Type 0
NotesDiffering traces others roots = (path : List ℕ) (trace : Trace) → trace_of traces path ≡ Some trace → IsSameOrNoted others roots path trace

abbrev pub NotesAt : TraceList → TraceList → ℕ → List ℕ → Type 0
NotesAt traces others at roots = (path : List ℕ) (trace : Trace) → slice_get traces at ≡ Some (path, trace) → IsSameOrNoted others roots path trace

-- roots that are noted stay so
abbrev pub KeepsRoots : List ℕ → List ℕ → Type 0
KeepsRoots before after = (number : ℕ) → has_root before number ≡ true → has_root after number ≡ true

-- no body is open whose root is noted
abbrev pub NoneOpenAmong : TraceList → List ℕ → Type 0
NoneOpenAmong traces roots =
    (path : List ℕ) (trace : Trace) → trace_of traces path ≡ Some trace → is_open_status trace.step.status ≡ true → has_root roots (origin_number path) ≡ false

abbrev pub NotOpenAt : TraceList → ℕ → List ℕ → Type 0
NotOpenAt traces at roots =
    (path : List ℕ) (trace : Trace) → slice_get traces at ≡ Some (path, trace) → is_open_status trace.step.status ≡ true → has_root roots (origin_number path) ≡ false

-- ---- directives without frames

-- an edge of a directive has not come, by its trace
abbrev pub NotComeBy : Option Trace → Edge → Type 0
NotComeBy None edge = Unit {0}
NotComeBy (Some trace) Start = ⊥
NotComeBy (Some trace) End = is_open_status trace.step.status ≡ true

abbrev pub AnchorNotCome : TraceList → Option Anchor → Type 0
AnchorNotCome traces None = Unit {0}
AnchorNotCome traces (Some anchor) = NotComeBy (trace_of traces (root anchor.to)) anchor.edge

-- where the beginning is left out of traces, a directive is not anchored
abbrev pub IsFreeIfParted : Bool → Option Anchor → Type 0
IsFreeIfParted parted anchor = parted ≡ true → anchor ≡ None

-- a directive that has no trace has none in the other run either, stands the same in the other plan, and waits
abbrev pub IsLikeUnbegun : Plan → Bool → TraceList → TraceList → Directive → Type 0
IsLikeUnbegun old_plan parted traces others directive =
    trace_of traces (root directive.id) ≡ None →
    (trace_of others (root directive.id) ≡ None) × IsInPlan old_plan directive × IsFreeIfParted parted directive.anchor
    × AnchorNotCome traces directive.anchor × AnchorNotCome others directive.anchor

abbrev pub AllLikeUnbegun : Plan → Plan → Bool → TraceList → TraceList → Type 0
AllLikeUnbegun plan old_plan parted traces others =
    (directive : Directive) → IsInPlan plan directive → IsLikeUnbegun old_plan parted traces others directive

-- a directive that stands in the other plan too, has no anchor, and is not noted
pub record StandsUnnoted (old_plan : Plan) (roots : List ℕ) (directive : Directive) : Type 0 where
  pub in_plan : IsInPlan old_plan directive
  pub free : directive.anchor ≡ None
  pub unnoted : has_root roots (origin_number (root directive.id)) ≡ false

-- ---- what the first instants leave open

abbrev pub HasTrace : TraceList → List ℕ → Type 0
HasTrace traces path = trace_of traces path ≡ None → ⊥

-- each body that the first instants leave open has a trace of later frames in both runs
abbrev pub AllGoOn : TraceList → TraceList → TraceList → Type 0
AllGoOn before traces others =
    (path : List ℕ) (trace : Trace) → trace_of before path ≡ Some trace → is_open_status trace.step.status ≡ true → HasTrace traces path × HasTrace others path

abbrev pub GoesOnAt : TraceList → TraceList → TraceList → ℕ → Type 0
GoesOnAt before traces others at =
    (path : List ℕ) (trace : Trace) → slice_get before at ≡ Some (path, trace) → is_open_status trace.step.status ≡ true → HasTrace traces path × HasTrace others path

-- so it is with those whose root is noted
pub record OpenOnesGoOn (first : List Instant) (traces others : TraceList) (roots : List ℕ) : Type 0 where
  pub before : TraceList
  pub takes_in : TakesIn (is_asked false roots) (timed_instants first) [] before
  pub go_on : AllGoOn before traces others

-- ---- all of it

-- no body is open whose directive or daemon has a task that differs
pub record NoneOpenNoted (first : List Instant) (traces others : TraceList) (roots : List ℕ) : Type 0 where
  pub here : NoneOpenAmong traces roots
  pub there : NoneOpenAmong others roots
  pub before : OpenOnesGoOn first traces others roots

pub record AreAlikeAboveOpen (first : List Instant) (traces others : TraceList) : Type 0 where
  pub roots : List ℕ
  pub noted : NotesDiffering traces others roots
  pub old_noted : NotesDiffering others traces roots
  pub none_open : NoneOpenNoted first traces others roots

-- what is compared of two plans and of the traces of their runs behind the first instants, which are the same
pub record TracesAgree (plan old_plan : Plan) (first : List Instant) (traces others : TraceList) : Type 0 where
  pub parted : Bool
  pub whole : parted ≡ false → first ≡ []
  pub unbegun : AllLikeUnbegun plan old_plan parted traces others
  pub old_unbegun : AllLikeUnbegun old_plan plan parted others traces
  pub above_open : AreAlikeAboveOpen first traces others

-- what is compared of two runs: their frames, and the last changes of their cells
abbrev pub TellAlike : Parts → Plan → Plan → List Instant → List Instant → Type 0
TellAlike model plan old_plan instants others = FramesAgree plan old_plan instants others × SameLastChanges (length model.cells) instants others
