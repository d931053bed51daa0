-- The locals of a body: which are known where, and what is wrong with the name of a new one.
use Rattle.std.specs.Prelude.{ℕ, ◌+◌, Bool, not, List, [], ◌++◌, Option, Some, None, option_map, nat_lt, length, if◌then◌else◌}
use Rattle.aerie_base.specs.declared.places.Place.{Place}
use Rattle.aerie_base.specs.declared.values.Kind.{Kind}
use Rattle.aerie_base.specs.models.Limits.{local_limit}
use Rattle.aerie_base.specs.models.Names.{is_name_among}
use Rattle.model_reader.specs.declared.raw.names.RawName.{RawName}
use Rattle.model_check.specs.declared.causes.Cause.TheVariants.{Duplicate, TooManyLocals}
use Rattle.diagnostics.specs.declared.diagnostic.Diagnostic.{Diagnostic}
use Rattle.model_check.specs.declared.causes.Cause.{Cause}
use Rattle.model_check.specs.declared.scopes.BodyScope.{BodyScope}
use Rattle.model_check.specs.declared.symbols.CellSymbol.{CellSymbol}
use Rattle.model_check.specs.declared.symbols.EnumSymbol.{EnumSymbol}
use Rattle.model_check.specs.declared.symbols.Symbols.{Symbols}
use Rattle.diagnostics.specs.Diagnostics.{is_place_before, at_place, refused_unless}
use Rattle.diagnostics.specs.NameLists.{with_name}
use Rattle.model_check.specs.NameTables.{no_entries, with_entry, entry_in, first_entries}

-- ---- which locals are known

abbrev pub empty_scope : BodyScope
empty_scope = record { names = []; known = no_entries; count = 0 }

-- the slot behind this one; slots have 16 bits, and stand at the end of their type
abbrev pub next_slot : ℕ → ℕ
next_slot slot = if nat_lt slot 65535 then slot + 1 else slot

-- the scope behind a new local, which takes the next slot
abbrev pub with_new_local : BodyScope → List ℕ → Option Kind → Bool → BodyScope
with_new_local scope name kind is_parameter =
    record {
      names = with_name scope.names name;
      known = with_entry scope.known name (record { slot = scope.count; kind = kind; is_parameter = is_parameter });
      count = next_slot scope.count;
    }

-- the scope behind a block, by the one in front of it and the one at its end: what was new in it is no longer known
abbrev pub block_left : BodyScope → BodyScope → BodyScope
block_left outer inner =
    record { names = inner.names; known = first_entries (length outer.known.names) inner.known; count = inner.count }

-- ---- what is wrong with a new local

-- the later one of two places in the text
abbrev pub later_place : Place → Place → Place
later_place one other = if is_place_before one other then other else one

-- a name that is also that of something else: the later one of the two is refused
abbrev pub clash : Place → Option Place → List (Diagnostic Cause)
clash at None = []
clash at (Some other) = at_place Duplicate (later_place at other)

abbrev pub enum_place : ℕ × EnumSymbol → Place
enum_place enum = enum.1.at

abbrev pub cell_place : ℕ × CellSymbol → Place
cell_place cell = cell.1.at

-- the name of a new local is that of no other local of its body, and of no enumeration and no cell
abbrev pub local_diagnostics : Symbols → BodyScope → RawName → List (Diagnostic Cause)
local_diagnostics symbols scope name =
    refused_unless (not (is_name_among name.name scope.names)) Duplicate name.at
    ++ clash name.at (option_map enum_place (entry_in name.name symbols.enums))
    ++ clash name.at (option_map cell_place (entry_in name.name symbols.cells))

-- a `let` may be one too many
abbrev pub let_diagnostics : Place → BodyScope → List (Diagnostic Cause)
let_diagnostics at scope = refused_unless (nat_lt scope.count local_limit) TooManyLocals at
