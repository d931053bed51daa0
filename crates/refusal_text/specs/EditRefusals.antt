-- Why a plan was not edited, taken to another model or merged, and why a text is no dataset, as the value that is printed.
use Rattle.std.specs.Prelude.{ℕ, List, [], ◌∷◌, codes, map}
use Rattle.serde_json.specs.Data.{Data, array, string}
use Rattle.serde_json.specs.View.{items_of}
use Rattle.json_line.specs.Json.{object_of}
use Rattle.plan_edit.specs.declared.errors.EditError.{EditError}
use Rattle.plan_edit.specs.declared.errors.EditError.TheVariants as edit
use Rattle.plan_edit.specs.declared.errors.MigrateError.{MigrateError}
use Rattle.plan_edit.specs.declared.errors.MigrateError.TheVariants as migrate
use Rattle.plan_merge.specs.declared.answers.Conflict.{Conflict}
use Rattle.plan_merge.specs.declared.answers.ConflictKind.{ConflictKind}
use Rattle.plan_merge.specs.declared.answers.ConflictKind.TheVariants.{Both, Removed, Anchor, Cycle}
use Rattle.plan_merge.specs.declared.answers.MergeError.{MergeError}
use Rattle.plan_merge.specs.declared.answers.MergeError.TheVariants as merge
use Rattle.dataset_in.specs.declared.dataset_error.DatasetError.{DatasetError}
use Rattle.dataset_in.specs.declared.dataset_error.DatasetError.TheVariants as dataset
use Rattle.json_line.specs.Numbers.{natural_data}
use Rattle.refusal_text.specs.Named.{named_data, numbered_data}

-- ---- edits

-- the parameter whose argument is bad
abbrev pub bad_argument_data : List ℕ → Data
bad_argument_data parameter =
    object_of ((codes "name", string (codes "BadArgument")) ∷ (codes "parameter", string parameter) ∷ [])

-- the directive that is anchored to one that was to be removed
abbrev pub anchored_data : ℕ → Data
anchored_data by = object_of ((codes "by", natural_data by) ∷ (codes "name", string (codes "Anchored")) ∷ [])

abbrev pub edit_data : EditError → Data
edit_data edit.NoDirective = named_data (codes "NoDirective")
edit_data edit.UnknownType = named_data (codes "UnknownType")
edit_data (edit.BadArgument parameter) = bad_argument_data parameter
edit_data (edit.Invalid number) = numbered_data (codes "Invalid") number
edit_data edit.OutsidePlan = named_data (codes "OutsidePlan")
edit_data edit.TooMany = named_data (codes "TooMany")
edit_data edit.NotAPlan = named_data (codes "NotAPlan")
edit_data edit.OutOfMemory = named_data (codes "OutOfMemory")
edit_data edit.NoAnchor = named_data (codes "NoAnchor")
edit_data edit.Cycle = named_data (codes "Cycle")
edit_data (edit.Anchored by) = anchored_data by

-- ---- plans taken to another model

-- the directive for whose type there is no rule
abbrev pub unmapped_data : ℕ → Data
unmapped_data id = object_of ((codes "id", natural_data id) ∷ (codes "name", string (codes "Unmapped")) ∷ [])

-- the directive whose new type has a `require` that is not true
abbrev pub misfit_data : ℕ → ℕ → Data
misfit_data id number =
    object_of ((codes "id", natural_data id) ∷ (codes "name", string (codes "Misfit")) ∷ (codes "number", natural_data number) ∷ [])

abbrev pub migrate_data : MigrateError → Data
migrate_data (migrate.Unmapped id) = unmapped_data id
migrate_data (migrate.Misfit id number) = misfit_data id number
migrate_data migrate.OutOfMemory = named_data (codes "OutOfMemory")

-- ---- merges

abbrev pub conflict_word : ConflictKind → List ℕ
conflict_word Both = codes "both"
conflict_word Removed = codes "removed"
conflict_word Anchor = codes "anchor"
conflict_word Cycle = codes "cycle"

abbrev pub conflict_data : Conflict → Data
conflict_data conflict =
    object_of ((codes "id", natural_data conflict.id) ∷ (codes "kind", string (conflict_word conflict.kind)) ∷ [])

abbrev pub conflicts_data : List Conflict → Data
conflicts_data conflicts =
    object_of ((codes "conflicts", array (items_of (map conflict_data conflicts))) ∷ (codes "name", string (codes "Conflicts")) ∷ [])

abbrev pub merge_refusal_data : MergeError → Data
merge_refusal_data (merge.Conflicts conflicts) = conflicts_data conflicts
merge_refusal_data merge.TooMany = named_data (codes "TooMany")
merge_refusal_data merge.OutOfMemory = named_data (codes "OutOfMemory")

-- ---- datasets

abbrev pub dataset_refusal_data : DatasetError → Data
dataset_refusal_data dataset.NotADataset = named_data (codes "NotADataset")
dataset_refusal_data dataset.TooMany = named_data (codes "TooMany")
dataset_refusal_data (dataset.BadSegment number) = numbered_data (codes "BadSegment") number
dataset_refusal_data dataset.OutOfMemory = named_data (codes "OutOfMemory")
