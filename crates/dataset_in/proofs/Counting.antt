-- Lists and objects of JSON have as many items and members as the values that they are made of.
use Rattle.std.proofs.Common.{◌≡◌, List, [], ◌∷◌, length, refl, ap, arith, String, Global}
use Rattle.serde_json.specs.Data.{Data}
use Rattle.serde_json.specs.View.{items_of, items_view, members_view}
use Rattle.serde_json.specs.declared.value.Value.{Value}
use Rattle.dataset_in.specs.Datasets.{rows_of, member_count}

pub rows_are_items : (rows : List Data) → rows_of (items_of rows) ≡ rows
rows_are_items [] = refl
rows_are_items (row ∷ rest) = ap (λ rows. row ∷ rows) (rows_are_items rest)

pub as_many_rows : (values : List Value) → length (rows_of (items_view values)) ≡ length values
as_many_rows [] = refl
as_many_rows (value ∷ rest) = grind (arith, as_many_rows rest)

pub as_many_members : (members : List (String Global × Value)) → member_count (members_view members) ≡ length members
as_many_members [] = refl
as_many_members (member ∷ rest) = grind (arith, as_many_members rest)
