-- Names that were met earlier, one list of names after another.
use Rattle.std.proofs.Common.{◌≡◌, ℕ, not, List, [], ◌∷◌, ◌++◌, refl, sym, ap, ◌∙◌, append_assoc}
use Rattle.aerie_base.specs.models.Names.{is_name_among}
use Rattle.model_reader.specs.declared.raw.names.RawName.{RawName}
use Rattle.model_check.specs.declared.causes.Cause.TheVariants.{Duplicate}
use Rattle.diagnostics.specs.declared.diagnostic.Diagnostic.{Diagnostic}
use Rattle.model_check.specs.declared.causes.Cause.{Cause}
use Rattle.diagnostics.specs.Diagnostics.{refused_unless}
use Rattle.model_check.specs.ModelDiagnostics.{repeated_diagnostics}
use Rattle.model_check.specs.ModelSymbols.{with_names}
use Rattle.diagnostics.specs.NameLists.{with_name}

pub repeated_of_both : (earlier : List (List ℕ)) (front back : List RawName) →
    repeated_diagnostics earlier (front ++ back) ≡ repeated_diagnostics earlier front ++ repeated_diagnostics (with_names earlier front) back
repeated_of_both earlier [] back = refl
repeated_of_both earlier (name ∷ front) back =
    let here : List (Diagnostic Cause) = refused_unless (not (is_name_among name.name earlier)) Duplicate name.at in
    ap (λ (ds : List (Diagnostic Cause)). here ++ ds) (repeated_of_both (with_name earlier name.name) front back)
    ∙ sym (append_assoc here (repeated_diagnostics (with_name earlier name.name) front) (repeated_diagnostics (with_names (with_name earlier name.name) front) back))
