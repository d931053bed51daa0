-- In which order the names of an activity type's parameters are by their bytes: the numbers of the parameters so.
use Rattle.std.specs.Prelude.{ℕ, zero, suc, List, [], ◌∷◌, get_or, insert, length, map, Result, Ok, Err, slice_set}
use Rattle.std.specs.Ordering.{match_ordering, nat_cmp}
use Rattle.std.specs.Cmp.Lexicographic.{slice_cmp}
use Rattle.aerie_base.specs.declared.models.Parameter.{Parameter}

-- the names of parameters
abbrev pub names_of_parameters : List Parameter → List (List ℕ)
names_of_parameters parameters = map (λ parameter. parameter.name) parameters

-- the name of a number
abbrev pub name_numbered : List (List ℕ) → ℕ → List ℕ
name_numbered names number = get_or names number []

-- numbers in the order of their names, with one more, which takes the place of one with the same name
abbrev pub put_number : List (List ℕ) → ℕ → List ℕ → List ℕ
put_number names number [] = number ∷ []
put_number names number (other ∷ order) =
    match_ordering (slice_cmp nat_cmp (name_numbered names number) (name_numbered names other)) (number ∷ other ∷ order) (number ∷ order)
    (other ∷ put_number names number order)

-- the numbers below this one in the order of their names
abbrev pub order_up_to : List (List ℕ) → ℕ → List ℕ
order_up_to names zero = []
order_up_to names (suc number) = put_number names number (order_up_to names number)

-- the numbers of all names in their order
abbrev pub order_of : List (List ℕ) → List ℕ
order_of names = order_up_to names (length names)

-- an order with a number more: at the place of one of the same name, or put in where it belongs
abbrev pub with_number : List ℕ → ℕ → Result ℕ ℕ → List ℕ
with_number order number (Ok at) = slice_set order at number
with_number order number (Err at) = insert order at number
