-- What is found on a run: its spans, a profile for each resource, the violations of each constraint.
use Rattle.std.specs.Prelude.{◌≡◌, List, map}
use Rattle.aerie_base.specs.declared.models.model.Parts.{Parts}
use Rattle.constraints.specs.Violating.{violations_of}
use Rattle.constraints.specs.declared.types.Constraint.{Constraint}
use Rattle.constraints.specs.declared.violation.Violation.{Violation}
use Rattle.profiles.specs.OfRuns.{AreByNumber}
pub use Rattle.profiles.specs.Profiles.{all_profiles}
use Rattle.run_data.specs.declared.runs.Run.{Run}
use Rattle.span_table.specs.SpanLaws.{AreSpansOf}
use Rattle.findings.specs.declared.findings.Findings.{Findings}

-- the violations of all constraints, in the order of these
abbrev pub all_violations : Parts → Run → List Constraint → List (List Violation)
all_violations model run constraints = map (violations_of model run) constraints

-- these are found on a run of a model with constraints
pub record AreFindings (model : Parts) (run : Run) (constraints : List Constraint) (findings : Findings) : Type 0 where
  pub spans : AreSpansOf model run findings.spans
  pub profiles : findings.profiles ≡ all_profiles model run
  pub by_number : AreByNumber model run findings.profiles
  pub violations : findings.violations ≡ all_violations model run constraints
