-- Refusals of literals, reads and types stand at places of theirs; and what holds of places in lists.
use Rattle.std.proofs.Common.{ℕ, zero, suc, Bool, true, false, List, [], ◌∷◌, ◌++◌, Option, Some, None, option_map, option_and_then, slice_get}
use Rattle.std.specs.List.{AllByRecursion}
use Rattle.aerie_base.specs.declared.places.Place.{Place}
use Rattle.aerie_base.specs.declared.values.Kind.{Kind}
use Rattle.aerie_base.specs.expressions.Typing.{same_kind}
use Rattle.model_reader.specs.declared.raw.literals.RawLiteralKind.{RawLiteralKind}
use Rattle.model_reader.specs.declared.raw.literals.RawLiteralKind.TheVariants as literal
use Rattle.model_reader.specs.declared.raw.names.RawName.{RawName}
use Rattle.model_reader.specs.declared.raw.reads.RawPart.{RawPart}
use Rattle.model_reader.specs.declared.raw.reads.RawPart.TheVariants.{Whole, Volume, Rate, Conflicted}
use Rattle.model_reader.specs.declared.raw.reads.RawRead.{RawRead}
use Rattle.model_reader.specs.declared.raw.types.RawType.{RawType}
use Rattle.model_reader.specs.declared.raw.types.RawType.TheVariants as type
use Rattle.model_check.specs.declared.causes.Cause.{Cause}
use Rattle.diagnostics.specs.declared.diagnostic.Diagnostic.{Diagnostic}
use Rattle.model_check.specs.declared.scopes.BodyScope.{BodyScope}
use Rattle.model_check.specs.declared.symbols.CellSort.{CellSort}
use Rattle.model_check.specs.declared.symbols.CellSort.TheVariants.{Counter, Register, Accumulator}
use Rattle.model_check.specs.declared.symbols.EnumSymbol.{EnumSymbol}
use Rattle.model_check.specs.declared.symbols.Symbols.{Symbols}
use Rattle.model_check.specs.declared.tables.NameTable.{NameTable}
use Rattle.model_check.specs.CellReads.{FoundLocal, FoundCell, whole_sort, flow_sort, flag_sort, on_cell, part_diagnostics, read_diagnostics}
use Rattle.diagnostics.specs.Diagnostics.{refused_unless}
use Rattle.model_check.specs.Literals.{mismatch, no_variant, variant_diagnostics, literal_diagnostics}
use Rattle.model_check.specs.ModelSymbols.{Enums, known_enum, type_diagnostics}
use Rattle.diagnostics.specs.NameLists.{name_number}
use Rattle.model_check.specs.NameTables.{numbered_value, entry_in}
use Rattle.model_check.specs.RawPlaces.{literal_names, type_places}

-- ---- lists

pub in_front : {A : Type 0} (P : A → Type 0) (xs ys : List A) → AllByRecursion P (xs ++ ys) → AllByRecursion P xs
in_front P [] ys all = tt
in_front P (x ∷ xs) ys all = (all.0, in_front P xs ys all.1)

pub behind : {A : Type 0} (P : A → Type 0) (xs ys : List A) → AllByRecursion P (xs ++ ys) → AllByRecursion P ys
behind P [] ys all = all
behind P (x ∷ xs) ys all = behind P xs ys all.1

pub in_both : {A : Type 0} (P : A → Type 0) (xs ys : List A) → AllByRecursion P xs → AllByRecursion P ys → AllByRecursion P (xs ++ ys)
in_both P [] ys all more = more
in_both P (x ∷ xs) ys all more = (all.0, in_both P xs ys all.1 more)

-- ---- what is found by a name

abbrev pub IfFound : {A : Type 0} → (A → Type 0) → Option (ℕ × A) → Type 0
IfFound Q None = Unit {0}
IfFound Q (Some found) = Q found.1

found_at : {A : Type 0} (Q : A → Type 0) (values : List A) (number called : ℕ) → AllByRecursion Q values → IfFound Q (option_map (λ value. (called, value)) (slice_get values number))
found_at Q [] zero called all = tt
found_at Q [] (suc number) called all = tt
found_at Q (value ∷ values) zero called all = all.0
found_at Q (value ∷ values) (suc number) called all = found_at Q values number called all.1

found_numbered : {A : Type 0} (Q : A → Type 0) (values : List A) (number : Option ℕ) → AllByRecursion Q values → IfFound Q (option_and_then (numbered_value values) number)
found_numbered Q values None all = tt
found_numbered Q values (Some number) all = found_at Q values number number all

pub found_by_name : {A : Type 0} (Q : A → Type 0) (name : List ℕ) (table : NameTable A) → AllByRecursion Q table.values → IfFound Q (entry_in name table)
found_by_name Q name table all = found_numbered Q table.values (name_number name table.names) all

-- ---- refusals, by what holds of the places

module _ (P : Place → Type 0) where
  -- each of these places is one
  abbrev pub Places : List Place → Type 0
  Places = AllByRecursion P

  -- each of these refusals stands at one
  abbrev pub Stand : List (Diagnostic Cause) → Type 0
  Stand = AllByRecursion (λ refusal. P refusal.place)

  pub stand_both : (xs ys : List (Diagnostic Cause)) → Stand xs → Stand ys → Stand (xs ++ ys)
  stand_both xs ys one two = in_both (λ refusal. P refusal.place) xs ys one two

  pub unless : (holds : Bool) (cause : Cause) (at : Place) → P at → Stand (refused_unless holds cause at)
  unless true cause at is = tt
  unless false cause at is = (is, tt)

  pub mismatched : (at : Place) (wanted found : Option Kind) → P at → Stand (mismatch at wanted found)
  mismatched at None found is = tt
  mismatched at (Some wanted) None is = tt
  mismatched at (Some wanted) (Some found) is = unless (same_kind wanted found) _ at is

  -- ---- literals and types

  variant_placed : (variant : RawName) (number : Option ℕ) → P variant.at → Stand (no_variant variant number)
  variant_placed variant None is = (is, tt)
  variant_placed variant (Some number) is = tt

  enum_placed : (kind variant : RawName) (found : Option (ℕ × EnumSymbol)) → P kind.at → P variant.at → Stand (variant_diagnostics kind variant found)
  enum_placed kind variant None one two = (one, tt)
  enum_placed kind variant (Some enum) one two = variant_placed variant (name_number variant.name enum.1.variants) two

  pub literal_placed : (enums : NameTable EnumSymbol) (what : RawLiteralKind) → Places (literal_names what) → Stand (literal_diagnostics enums what)
  literal_placed enums (literal.Number number) all = tt
  literal_placed enums (literal.Truth truth) all = tt
  literal_placed enums (literal.Variant kind variant) all = enum_placed kind variant (entry_in kind.name enums) all.0 all.1.0

  known_placed : (name : RawName) (found : Option (ℕ × EnumSymbol)) → P name.at → Stand (known_enum name found)
  known_placed name None is = (is, tt)
  known_placed name (Some enum) is = tt

  pub type_placed : (enums : Enums) (written : RawType) → Places (type_places written) → Stand (type_diagnostics enums written)
  type_placed enums type.Int all = tt
  type_placed enums type.Truth all = tt
  type_placed enums (type.Named name) all = known_placed name (entry_in name.name enums) all.0

  -- ---- reads

  -- a test of a cell refuses at the place that it is given
  abbrev pub Judges : (Place → CellSort → List (Diagnostic Cause)) → Type 0
  Judges judged = (at : Place) (sort : CellSort) → P at → Stand (judged at sort)

  whole_judges : Judges whole_sort
  whole_judges at Counter is = tt
  whole_judges at (Register kind) is = tt
  whole_judges at Accumulator is = (is, tt)

  pub flow_judges : Judges flow_sort
  flow_judges at Counter is = (is, tt)
  flow_judges at (Register kind) is = (is, tt)
  flow_judges at Accumulator is = tt

  flag_judges : Judges flag_sort
  flag_judges at Counter is = (is, tt)
  flag_judges at (Register kind) is = tt
  flag_judges at Accumulator is = (is, tt)

  pub cell_placed : (judged : Place → CellSort → List (Diagnostic Cause)) → Judges judged → (at : Place) (cell : FoundCell) → P at → Stand (on_cell judged at cell)
  cell_placed judged judges at None is = (is, tt)
  cell_placed judged judges at (Some cell) is = judges at cell.1.sort is

  part_placed : (part : RawPart) (at : Place) (local : FoundLocal) (cell : FoundCell) → P at → Stand (part_diagnostics part at local cell)
  part_placed Whole at (Some local) cell is = tt
  part_placed Whole at None cell is = cell_placed whole_sort whole_judges at cell is
  part_placed Volume at local cell is = cell_placed flow_sort flow_judges at cell is
  part_placed Rate at local cell is = cell_placed flow_sort flow_judges at cell is
  part_placed Conflicted at local cell is = cell_placed flag_sort flag_judges at cell is

  pub read_placed : (symbols : Symbols) (scope : BodyScope) (read : RawRead) → P read.name.at → Stand (read_diagnostics symbols scope read)
  read_placed symbols scope read is = part_placed read.part read.name.at (entry_in read.name.name scope.known) (entry_in read.name.name symbols.cells) is
