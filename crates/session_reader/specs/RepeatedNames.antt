-- Names of a session that may stand but once.
use Rattle.std.specs.Prelude.{ℕ, List}
use Rattle.model_reader.specs.declared.raw.names.RawName.{RawName}
use Rattle.diagnostics.specs.declared.diagnostic.Diagnostic.{Diagnostic}
use Rattle.diagnostics.specs.RepeatedNames.{repeated_by}
use Rattle.session_reader.specs.declared.causes.Cause.{Cause}
use Rattle.session_reader.specs.declared.causes.Cause.TheVariants.{Duplicate}

-- names that are those of earlier ones
abbrev pub repeated_diagnostics : List (List ℕ) → List RawName → List (Diagnostic Cause)
repeated_diagnostics = repeated_by (λ (name : RawName). name.name) (λ (name : RawName). name.at) Duplicate
