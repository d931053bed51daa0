-- What frames tell of spans: whose they are, when, from which arguments a body begins, and whether and with what it ends.
use Rattle.std.specs.Prelude.{◌≡◌, ℕ, Bool, true, false, IsTrue, List, [], ◌∷◌, Option, map}
use Rattle.aerie_base.specs.declared.faults.Fault.TheVariants.{Range}
use Rattle.aerie_base.specs.declared.values.Value.{Value}
use Rattle.aerie_base.specs.Paths.{is_path}
use Rattle.run_data.specs.declared.frames.Status.{Status}
use Rattle.run_data.specs.declared.frames.Status.TheVariants.{Done, Faulted}
use Rattle.run_data.specs.Spans.{Timed, is_done, returned}
use Rattle.span_reuse.specs.Roots.{frames_passing}

-- a status that tells no more than whether the body has ended, and what it returned
abbrev pub plain_status : Bool → Option Value → Status
plain_status true result = Done result
plain_status false result = Faulted Range

-- what a status tells of spans
abbrev pub ending_told : Status → Status
ending_told status = plain_status (is_done status) (returned status)

-- a frame that tells no more of spans than this one, and no less
abbrev pub told_of_spans : Timed → Timed
told_of_spans entry = (
  entry.0,
  record {
    path = entry.1.path;
    before = record { kind = entry.1.before.kind; at = 0; locals = entry.1.before.locals };
    reads = [];
    items = [];
    status = ending_told entry.1.status;
    cost = 0;
  },
)

-- the frames of the tasks whose paths pass a test tell the same
abbrev pub TellSameSpans : (List ℕ → Bool) → List Timed → List Timed → Type 0
TellSameSpans test frames others = map told_of_spans (frames_passing test frames) ≡ map told_of_spans (frames_passing test others)

-- the frames are of paths
abbrev pub AreOfPaths : List Timed → Type 0
AreOfPaths [] = Unit {0}
AreOfPaths (entry ∷ rest) = IsTrue (is_path entry.1.path) × AreOfPaths rest
