-- What a valid model is: names, types, ranges, linear forms and sizes are as they have to be.
use Rattle.std.specs.Prelude.{ℕ, ◌&&◌, Bool, List, ◌++◌, length, map, nat_le}
use Rattle.std.specs.List.{list_all}
use Rattle.aerie_base.specs.declared.models.EnumType.{EnumType}
use Rattle.aerie_base.specs.declared.models.model.Parts.{Parts}
use Rattle.aerie_base.specs.models.Activities.{is_activity, is_daemon}
use Rattle.aerie_base.specs.models.Cells.{is_cell}
use Rattle.aerie_base.specs.models.Limits.{cell_limit, type_limit, enum_limit, variant_limit, resource_limit, daemon_limit}
use Rattle.aerie_base.specs.models.Names.{are_distinct}
use Rattle.aerie_base.specs.models.Resources.{is_resource}
use Rattle.aerie_base.specs.models.Signatures.{signatures_of}

-- ---- names

abbrev pub enum_names : Parts → List (List ℕ)
enum_names model = map (λ enum. enum.name) model.enums

abbrev pub cell_names : Parts → List (List ℕ)
cell_names model = map (λ cell. cell.0) model.cells

abbrev pub activity_names : Parts → List (List ℕ)
activity_names model = map (λ activity. activity.name) model.activities

abbrev pub resource_names : Parts → List (List ℕ)
resource_names model = map (λ resource. resource.0) model.resources

-- enumerations, cells and activity types have different names, and so have resources
unfoldable pub has_good_names : Parts → Bool
has_good_names model =
    are_distinct (enum_names model ++ cell_names model ++ activity_names model)
    && are_distinct (resource_names model)

-- ---- parts

-- an enumeration has 1 to 256 variants of different names
abbrev pub is_enum : EnumType → Bool
is_enum enum = nat_le 1 (length enum.variants) && nat_le (length enum.variants) variant_limit && are_distinct enum.variants

unfoldable pub has_good_enums : Parts → Bool
has_good_enums model = nat_le (length model.enums) enum_limit && list_all is_enum model.enums

unfoldable pub has_good_cells : Parts → Bool
has_good_cells model =
    nat_le (length model.cells) cell_limit && list_all (λ cell. is_cell model.enums cell.1) model.cells

unfoldable pub has_good_resources : Parts → Bool
has_good_resources model =
    nat_le (length model.resources) resource_limit
    && list_all (λ resource. is_resource model.cells resource.1) model.resources

unfoldable pub has_good_activities : Parts → Bool
has_good_activities model =
    nat_le (length model.activities) type_limit
    && list_all (is_activity model.enums model.cells (signatures_of model.activities) (enum_names model ++ cell_names model)) model.activities

unfoldable pub has_good_daemons : Parts → Bool
has_good_daemons model =
    nat_le (length model.daemons) daemon_limit
    && list_all (is_daemon model.enums model.cells (signatures_of model.activities)) model.daemons

-- ---- models

-- whether these parts make a valid model
unfoldable pub valid_model : Parts → Bool
valid_model model =
    has_good_names model
    && has_good_enums model
    && has_good_cells model
    && has_good_resources model
    && has_good_activities model
    && has_good_daemons model
