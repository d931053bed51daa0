-- The terminals of the grammar of sessions: the sorts of marks, two of them in halves.
use Rattle.std.specs.Prelude.{ℕ, Bool, nat_eq, if◌then◌else◌}
use Rattle.aerie_text.specs.Sorts.{number_of, same_sort}
use Rattle.aerie_text.specs.declared.sorts.Sort.{Sort}
use Rattle.aerie_text.specs.declared.sorts.Sort.TheVariants as sort
use Rattle.readers.specs.Marks.{Mark}
use Rattle.readers.specs.Within.{is_within}

-- A number is an id, up to 4,294,967,295, or it is greater; a length of time is none, 0, or some. `plain` is any other sort.
pub data Terminal : Type 0 where
  plain : Sort → Terminal
  id_number great_number no_time some_time : Terminal

-- the number of a terminal: those of sorts come first
abbrev pub number_of_terminal : Terminal → ℕ
number_of_terminal (plain s) = number_of s
number_of_terminal id_number = 102
number_of_terminal great_number = 103
number_of_terminal no_time = 104
number_of_terminal some_time = 105

-- the greatest id
abbrev pub id_limit : ℕ
id_limit = 4_294_967_295

-- the number of the terminal that a mark is read as
abbrev pub class_of : Mark → ℕ
class_of mark =
    if same_sort sort.Number mark.sort then (if is_within 0 id_limit mark.number then 102 else 103)
    else if same_sort sort.Time mark.sort then (if is_within 0 0 mark.number then 104 else 105)
    else number_of mark.sort

-- whether a mark is read as the terminal
abbrev pub fits : Terminal → Mark → Bool
fits terminal mark = nat_eq (number_of_terminal terminal) (class_of mark)
