-- What the cells of the first model begin with, where the plan section says it: what is wrong with that, and the model with it in
-- place.
use Rattle.std.specs.Prelude.{ℕ, ℤ, pos, List, [], ◌∷◌, ◌++◌, Option, Some, None, map, find, option_map, slice_get}
use Rattle.aerie_base.specs.Ranges.{is_rate}
use Rattle.aerie_base.specs.declared.models.CellStart.{CellStart}
use Rattle.aerie_base.specs.declared.models.CellStart.TheVariants as cell
use Rattle.aerie_base.specs.declared.models.EnumType.{EnumType}
use Rattle.aerie_base.specs.declared.models.model.Parts.{Parts}
use Rattle.aerie_base.specs.declared.values.Kind.{Kind}
use Rattle.aerie_base.specs.declared.values.Kind.TheVariants.{Int}
use Rattle.aerie_base.specs.models.Cells.{NamedCells}
use Rattle.aerie_base.specs.models.Names.{same_name}
use Rattle.model_reader.specs.declared.raw.literals.RawLiteralKind.{RawLiteralKind}
use Rattle.model_reader.specs.declared.raw.literals.RawLiteralKind.TheVariants as literal
use Rattle.session_grammar.specs.declared.raw.plans.RawBeginning.{RawBeginning}
use Rattle.session_grammar.specs.declared.raw.plans.RawRate.{RawRate}
use Rattle.session_reader.specs.declared.causes.Cause.TheVariants.{Unknown, WrongType, OutOfRange}
use Rattle.session_reader.specs.declared.causes.Cause.{Cause}
use Rattle.diagnostics.specs.declared.diagnostic.Diagnostic.{Diagnostic}
use Rattle.diagnostics.specs.Diagnostics.{at_place, refused_unless, all_of}
use Rattle.session_reader.specs.Literals.{literal_diagnostics, literal_kind, literal_value}
use Rattle.session_reader.specs.MappingDiagnostics.{same_if_known}
use Rattle.session_reader.specs.RepeatedNames.{repeated_diagnostics}

-- what the cell with a name begins with, where there is such a cell
abbrev pub start_named : NamedCells → List ℕ → Option CellStart
start_named cells name = option_map (λ cell. cell.1) (find (λ cell. same_name cell.0 name) cells)

-- the type of what a cell begins with: a counter and an accumulator begin with a number
abbrev pub start_kind : CellStart → Kind
start_kind (cell.Counter number) = Int
start_kind (cell.Register kind value) = kind
start_kind (cell.Accumulator volume rate) = Int

-- the number of a literal; of another one it is never used
abbrev pub number_of_literal : RawLiteralKind → ℤ
number_of_literal (literal.Number number) = number
number_of_literal (literal.Truth truth) = pos 0
number_of_literal (literal.Variant kind variant) = pos 0

-- ---- what is wrong

-- the value is of the cell's type, and an enumeration and a variant in it are known
abbrev pub first_value_diagnostics : List EnumType → CellStart → RawBeginning → List (Diagnostic Cause)
first_value_diagnostics enums start beginning =
    literal_diagnostics enums beginning.value.what
    ++ refused_unless (same_if_known (literal_kind enums beginning.value.what) (start_kind start)) WrongType beginning.value.at

-- an accumulator alone has a rate, within its range
abbrev pub given_rate_diagnostics : CellStart → Option RawRate → List (Diagnostic Cause)
given_rate_diagnostics start None = []
given_rate_diagnostics (cell.Counter number) (Some rate) = at_place WrongType rate.at
given_rate_diagnostics (cell.Register kind value) (Some rate) = at_place WrongType rate.at
given_rate_diagnostics (cell.Accumulator volume old) (Some rate) =
    refused_unless (is_rate (number_of_literal rate.rate.what)) OutOfRange rate.rate.at

abbrev pub start_diagnostics : List EnumType → RawBeginning → Option CellStart → List (Diagnostic Cause)
start_diagnostics enums beginning None = at_place Unknown beginning.cell.at
start_diagnostics enums beginning (Some start) =
    first_value_diagnostics enums start beginning ++ given_rate_diagnostics start beginning.rate

abbrev pub beginning_diagnostics : Parts → RawBeginning → List (Diagnostic Cause)
beginning_diagnostics model beginning = start_diagnostics model.enums beginning (start_named model.cells beginning.cell.name)

-- each is of a cell of the model, none of one that an earlier one names
abbrev pub beginnings_diagnostics : Parts → List RawBeginning → List (Diagnostic Cause)
beginnings_diagnostics model beginnings =
    repeated_diagnostics [] (map (λ beginning. beginning.cell) beginnings) ++ all_of (beginning_diagnostics model) beginnings

-- of the first model, whose plan the section is
abbrev pub diagnostics_over : List RawBeginning → Option Parts → List (Diagnostic Cause)
diagnostics_over beginnings None = []
diagnostics_over beginnings (Some model) = beginnings_diagnostics model beginnings

abbrev pub plan_diagnostics : List RawBeginning → List Parts → List (Diagnostic Cause)
plan_diagnostics beginnings models = diagnostics_over beginnings (slice_get models 0)

-- ---- what is meant

-- the rate that is given, or else the model's
abbrev pub rate_or : ℤ → Option RawRate → ℤ
rate_or old None = old
rate_or old (Some rate) = number_of_literal rate.rate.what

abbrev pub start_begun : List EnumType → CellStart → RawBeginning → CellStart
start_begun enums (cell.Counter number) beginning = cell.Counter (number_of_literal beginning.value.what)
start_begun enums (cell.Register kind value) beginning = cell.Register kind (literal_value enums beginning.value.what)
start_begun enums (cell.Accumulator volume rate) beginning =
    cell.Accumulator (number_of_literal beginning.value.what) (rate_or rate beginning.rate)

abbrev pub start_or_begun : List EnumType → CellStart → Option RawBeginning → CellStart
start_or_begun enums start None = start
start_or_begun enums start (Some beginning) = start_begun enums start beginning

-- the beginning of the cell with a name, where it has one
abbrev pub beginning_named : List RawBeginning → List ℕ → Option RawBeginning
beginning_named beginnings name = find (λ beginning. same_name beginning.cell.name name) beginnings

-- a cell, which begins as the plan section says, or else as the model does
abbrev pub cell_begun : List EnumType → List RawBeginning → List ℕ × CellStart → List ℕ × CellStart
cell_begun enums beginnings cell = (cell.0, start_or_begun enums cell.1 (beginning_named beginnings cell.0))

-- the model with the beginnings in place
abbrev pub model_begun : List RawBeginning → Parts → Parts
model_begun beginnings model = record model { cells = map (cell_begun model.enums beginnings) model.cells }

-- the models, the first of them with the beginnings in place
abbrev pub models_begun : List RawBeginning → List Parts → List Parts
models_begun beginnings [] = []
models_begun beginnings (model ∷ others) = model_begun beginnings model ∷ others

-- Where something is wrong with the beginnings, the models stay as they are written: what else is refused then goes by these.
abbrev pub begun_if_good : List (Diagnostic Cause) → List RawBeginning → List Parts → List Parts
begun_if_good [] beginnings models = models_begun beginnings models
begun_if_good (wrong ∷ rest) beginnings models = models

-- the models of a session, by what its plan section says of the first one
abbrev pub models_of_plan : List RawBeginning → List Parts → List Parts
models_of_plan beginnings models = begun_if_good (plan_diagnostics beginnings models) beginnings models
