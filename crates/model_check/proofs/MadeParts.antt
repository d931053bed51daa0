-- The parts of a model are made declaration by declaration, and what is wrong with it is noted so.
use Rattle.std.proofs.Common.{◌≡◌, List, [], ◌++◌, Option, refl, sym, ap, ◌∙◌}
use Rattle.model_reader.specs.declared.raw.items.RawItem.{RawItem}
use Rattle.model_reader.specs.declared.raw.models.RawModel.{RawModel}
use Rattle.diagnostics.specs.declared.diagnostic.Diagnostic.{Diagnostic}
use Rattle.model_check.specs.declared.causes.Cause.{Cause}
use Rattle.model_check.specs.declared.parts.CheckedParts.{CheckedParts}
use Rattle.model_check.specs.declared.symbols.Symbols.{Symbols}
use Rattle.model_check.specs.CheckedParts.{no_parts, with_checked_item, with_checked_items, checked_parts_by, checked_parts}
use Rattle.model_check.specs.Diagnostics.{number_of_cause, noted, Makes}
use Rattle.model_check.specs.ModelDiagnostics.{repeated_diagnostics, shared_name, resource_name, names_in, item_diagnostics, items_diagnostics, model_diagnostics}
use Rattle.model_check.specs.ModelSymbols.{Enums, enum_symbols_from, cell_symbols_from, type_symbols_from, symbols_of}
use Rattle.model_check.specs.NameTables.{no_entries}
use Rattle.diagnostics.specs.NotedInTurn.{noted_in_turn}
use Rattle.model_check.proofs.PartsInTurn.{parts_in_turn}

pub enums_of_symbols : (items : List RawItem) → (symbols_of items).enums ≡ enum_symbols_from no_entries items
unfolding symbols_of
enums_of_symbols items = refl

-- a declaration adds what its form says
pub as_item : (symbols : Symbols) (item what : RawItem) → item ≡ what → (parts after : CheckedParts) (before found : Option (Diagnostic Cause)) →
    after ≡ with_checked_item symbols parts what → found ≡ noted before (item_diagnostics symbols what) →
    (after ≡ with_checked_item symbols parts item) × (found ≡ noted before (item_diagnostics symbols item))
as_item symbols item what is parts after before found added judged =
    (added ∙ ap (with_checked_item symbols parts) (sym is), judged ∙ ap (λ (x : RawItem). noted before (item_diagnostics symbols x)) (sym is))

abbrev wrong_in : List RawItem → List (Diagnostic Cause)
wrong_in items =
    repeated_diagnostics [] (names_in shared_name items)
    ++ repeated_diagnostics [] (names_in resource_name items)
    ++ items_diagnostics (symbols_of items) items

pub made_parts : (raw : RawModel) (items : List RawItem) → items ≡ raw.items → (symbols : Symbols) → symbols ≡ symbols_of items →
    (before one two after : Option (Diagnostic Cause)) →
    one ≡ noted before (repeated_diagnostics [] (names_in shared_name items)) →
    two ≡ noted one (repeated_diagnostics [] (names_in resource_name items)) →
    (made : CheckedParts) → Makes (with_checked_items symbols no_parts items) (items_diagnostics symbols items) two after made →
    Makes (checked_parts raw) (model_diagnostics raw) before after made
unfolding model_diagnostics
made_parts raw items items_are symbols symbols_are before one two after first second made third = (
  third.0 ∙ (parts_in_turn symbols items ∙ ((λ j. checked_parts_by (symbols_are j) items) ∙ ap (λ (xs : List RawItem). checked_parts_by (symbols_of xs) xs) items_are)),
  noted_in_turn number_of_cause (repeated_diagnostics [] (names_in shared_name items) ++ repeated_diagnostics [] (names_in resource_name items)) (items_diagnostics (symbols_of items) items) before two after
      (noted_in_turn number_of_cause (repeated_diagnostics [] (names_in shared_name items)) (repeated_diagnostics [] (names_in resource_name items)) before one two first second)
      (third.1 ∙ ap (λ (s : Symbols). noted two (items_diagnostics s items)) symbols_are)
      ∙ ap (λ (xs : List RawItem). noted before (wrong_in xs)) items_are,
)

-- what names stand for, made table by table
pub made_symbols : (items : List RawItem) (symbols : Symbols) → symbols.enums ≡ enum_symbols_from no_entries items →
    symbols.cells ≡ cell_symbols_from symbols.enums no_entries items → symbols.types ≡ type_symbols_from symbols.enums no_entries items → symbols ≡ symbols_of items
unfolding symbols_of
made_symbols items symbols enums cells types = λ j. record {
  enums = enums j;
  cells = (cells ∙ ap (λ (e : Enums). cell_symbols_from e no_entries items) enums) j;
  types = (types ∙ ap (λ (e : Enums). type_symbols_from e no_entries items) enums) j;
}
