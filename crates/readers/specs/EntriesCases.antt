-- Lists of entries, read by computation. Each mark has its column.
use Rattle.std.specs.Prelude.{◌≡◌, ℕ, pos, List, [], ◌∷◌, Some, None, true, false, codes, refl}
use Rattle.readers.specs.declared.limits.Limit.TheVariants.{Words, Depth, Terms}
use Rattle.readers.specs.Marks.{Mark}
use Rattle.aerie_text.specs.declared.sorts.Sort.{Sort}
use Rattle.aerie_text.specs.declared.sorts.Sort.TheVariants as sort
use Rattle.readers.specs.declared.example.Entry.{Entry}
use Rattle.readers.specs.Parsed.{Parsed, parsed, failed, over_limit}
use Rattle.readers.specs.Entries.{term_at, sign_at, signed_at, more_at, sum_at, given_at, meaning_at, entry_at, one_more_at, item_at, some_items_at, items_at, list_by, too_deep, list_at}

abbrev pub counted : Sort → ℕ → ℕ → Mark
counted sort number column = record { sort = sort; number = pos number; at = record { line = 1; column = column }; word = [] }

abbrev pub mark : Sort → ℕ → Mark
mark sort column = counted sort 0 column

abbrev pub name : ℕ → List ℕ → Mark
name column word = record (mark sort.Name column) { word = word }

-- -2+3]
pub two_terms : sum_at (mark sort.Minus 0 ∷ counted sort.Number 2 1 ∷ mark sort.Plus 2 ∷ counted sort.Number 3 3 ∷ mark sort.CloseBracket 4 ∷ [])
    ≡ parsed (record { negative = true; size = pos 2 } ∷ record { negative = false; size = pos 3 } ∷ []) (mark sort.CloseBracket 4 ∷ [])
unfolding term_at sign_at signed_at more_at sum_at
two_terms = refl

-- 1+2-3 passes the limit at the minus
pub three_terms : sum_at (counted sort.Number 1 0 ∷ mark sort.Plus 1 ∷ counted sort.Number 2 2 ∷ mark sort.Minus 3 ∷ counted sort.Number 3 4 ∷ [])
    ≡ over_limit Terms (mark sort.Minus 3 ∷ counted sort.Number 3 4 ∷ [])
unfolding term_at sign_at signed_at more_at sum_at
three_terms = refl

-- 1+ stops at the end
pub no_second_term : sum_at (counted sort.Number 1 0 ∷ mark sort.Plus 1 ∷ []) ≡ failed []
unfolding term_at sign_at signed_at more_at sum_at
no_second_term = refl

abbrev pub read : List Mark → Parsed (List Entry)
read marks = list_at 1 [] marks

-- [a,[b=1]]
pub nested_list : read (mark sort.OpenBracket 0 ∷ name 1 (codes "a") ∷ mark sort.Comma 2 ∷ mark sort.OpenBracket 3 ∷ name 4 (codes "b") ∷ mark sort.Assign 5
    ∷ counted sort.Number 1 6 ∷ mark sort.CloseBracket 7 ∷ mark sort.CloseBracket 8 ∷ [])
    ≡ parsed (record { name = codes "a"; sum = None } ∷ record { name = codes "b"; sum = Some (record { negative = false; size = pos 1 } ∷ []) } ∷ []) []
unfolding term_at sum_at given_at meaning_at entry_at one_more_at item_at some_items_at items_at list_by too_deep
nested_list = refl

-- [[[ passes the depth at the third bracket
pub too_deep_list : read (mark sort.OpenBracket 0 ∷ mark sort.OpenBracket 1 ∷ mark sort.OpenBracket 2 ∷ []) ≡ over_limit Depth (mark sort.OpenBracket 2 ∷ [])
unfolding item_at some_items_at items_at list_by too_deep
too_deep_list = refl

-- [a,b,c] passes the limit at c, and [a,b,] stops at the bracket
pub third_entry : read (mark sort.OpenBracket 0 ∷ name 1 (codes "a") ∷ mark sort.Comma 2 ∷ name 3 (codes "b") ∷ mark sort.Comma 4 ∷ name 5 (codes "c") ∷ mark sort.CloseBracket 6 ∷ [])
    ≡ over_limit Words (name 5 (codes "c") ∷ mark sort.CloseBracket 6 ∷ [])
unfolding meaning_at entry_at one_more_at item_at some_items_at items_at list_by too_deep
third_entry = refl

pub comma_too_many : read (mark sort.OpenBracket 0 ∷ name 1 (codes "a") ∷ mark sort.Comma 2 ∷ name 3 (codes "b") ∷ mark sort.Comma 4 ∷ mark sort.CloseBracket 5 ∷ [])
    ≡ failed (mark sort.CloseBracket 5 ∷ [])
unfolding meaning_at entry_at one_more_at item_at some_items_at items_at list_by too_deep
comma_too_many = refl
