-- Names of which none is refused differ, and tables of them have each at its place.
use Rattle.std.proofs.Common.{◌≡◌, ℕ, map, Bool, true, false, not, ◌&&◌, ◌||◌, List, [], ◌∷◌, ◌++◌, refl, sym, ap, ◌∙◌, subst, append_assoc, true≢false}
use Rattle.std.proofs.lemmas.List.Sorted.{IsPermutation-refl, IsPermutation-sym, IsPermutation-cons, IsPermutation-middle, IsPermutation-trans}
use Rattle.std.specs.List.{list_all}
use Rattle.std.specs.List.Sorted.{IsPermutation}
use Rattle.aerie_base.specs.models.NameLaws.{among_appended, distinct_appended, distinct_permuted}
use Rattle.aerie_base.specs.models.Names.{is_name_among, are_distinct}
use Rattle.model_reader.specs.declared.raw.items.RawItem.{RawItem}
use Rattle.model_reader.specs.declared.raw.items.RawItem.TheVariants as item
use Rattle.model_reader.specs.declared.raw.names.RawName.{RawName}
use Rattle.model_check.specs.declared.causes.Cause.TheVariants.{Duplicate}
use Rattle.model_check.specs.declared.tables.NameTable.{NameTable}
use Rattle.diagnostics.specs.Diagnostics.{refused_unless}
use Rattle.model_check.specs.ModelDiagnostics.{repeated_diagnostics, shared_name, names_in}
use Rattle.model_check.specs.ModelMeaning.{names_of, parts_of_items}
use Rattle.model_check.specs.ModelSymbols.{with_names}
use Rattle.diagnostics.specs.NameLists.{with_name}
use Rattle.model_check.specs.NameTables.{with_entry}
use Rattle.diagnostics.specs.NotedInTurn.{front_empty, back_empty, holds_if_empty}

pub both_true : (a b : Bool) → (a && b) ≡ true → (a ≡ true) × (b ≡ true)
both_true true b e = (refl, e)
both_true false b e = absurd (true≢false (sym e))

pub not_true : (b : Bool) → not b ≡ true → b ≡ false
not_true true e = absurd (true≢false (sym e))
not_true false e = refl

three_true : (a b c : Bool) → (a && b && c) ≡ true → (a ≡ true) × (b ≡ true) × (c ≡ true)
three_true true true true e = (refl, refl, refl)
three_true true true false e = cc
three_true true false c e = cc
three_true false b c e = cc

neither : (a b : Bool) → not (a || b) ≡ true → (not a ≡ true) × (not b ≡ true)
neither true b e = absurd (true≢false (sym e))
neither false b e = (refl, e)

-- ---- names that differ

-- a name among different ones is not in front of itself
pub not_in_front : (front rest : List (List ℕ)) (name : List ℕ) → are_distinct (front ++ name ∷ rest) ≡ true → is_name_among name front ≡ false
not_in_front front rest name distinct =
    let moved : are_distinct (name ∷ (front ++ rest)) ≡ true = sym (distinct_permuted (front ++ name ∷ rest) (name ∷ (front ++ rest)) (IsPermutation-middle front name rest)) ∙ distinct in
    let apart = (both_true (not (is_name_among name (front ++ rest))) (are_distinct (front ++ rest)) moved).0 in
    not_true (is_name_among name front) (neither (is_name_among name front) (is_name_among name rest) (ap not (sym (among_appended name front rest)) ∙ apart)).0

distinct_with : (names : List (List ℕ)) (name : List ℕ) → are_distinct names ≡ true → not (is_name_among name names) ≡ true → are_distinct (names ++ name ∷ []) ≡ true
distinct_with names name distinct apart =
    distinct_permuted (names ++ name ∷ []) (name ∷ (names ++ [])) (IsPermutation-middle names name [])
    ∙ (λ i. not (is_name_among name (all_of names i)) && are_distinct (all_of names i)) ∙ joined
  where
    all_of : {A : Type 0} (xs : List A) → xs ++ [] ≡ xs
    all_of [] = refl
    all_of (x ∷ xs) = ap (λ (ys : List _). x ∷ ys) (all_of xs)

    joined : (not (is_name_among name names) && are_distinct names) ≡ true
    joined = rw (apart, distinct) refl

new_name : (names : List (List ℕ)) (name : List ℕ) → is_name_among name names ≡ false → with_name names name ≡ names ++ name ∷ []
new_name names name e = rw e refl

pub record AreNew (earlier : List (List ℕ)) (names : List RawName) : Type 0 where
  pub distinct : are_distinct (earlier ++ names_of names) ≡ true
  pub together : with_names earlier names ≡ earlier ++ names_of names

none_more : {A : Type 0} (xs : List A) → xs ≡ xs ++ []
none_more [] = refl
none_more (x ∷ xs) = ap (λ (ys : List _). x ∷ ys) (none_more xs)

-- names of which none is refused behind earlier ones
pub are_new : (earlier : List (List ℕ)) (names : List RawName) → are_distinct earlier ≡ true → repeated_diagnostics earlier names ≡ [] → AreNew earlier names
are_new earlier [] distinct none = record { distinct = ap are_distinct (sym (none_more earlier)) ∙ distinct; together = none_more earlier }
are_new earlier (name ∷ rest) distinct none =
    let apart = holds_if_empty (not (is_name_among name.name earlier)) Duplicate name.at (front_empty (refused_unless (not (is_name_among name.name earlier)) Duplicate name.at) _ none) in
    let is = new_name earlier name.name (not_true (is_name_among name.name earlier) apart) in
    let later = subst (λ (names : List (List ℕ)). repeated_diagnostics names rest ≡ []) is (back_empty (refused_unless (not (is_name_among name.name earlier)) Duplicate name.at) _ none) in
    let more = are_new (earlier ++ name.name ∷ []) rest (distinct_with earlier name.name distinct apart) later in
    let assoc : (earlier ++ name.name ∷ []) ++ names_of rest ≡ earlier ++ name.name ∷ names_of rest = append_assoc earlier (name.name ∷ []) (names_of rest) in
    record { distinct = ap are_distinct (sym assoc) ∙ more.distinct; together = ap (λ (names : List (List ℕ)). with_names names rest) is ∙ more.together ∙ assoc }

-- ---- tables

abbrev pub with_all : {A : Type 0} → NameTable A → List (List ℕ × A) → NameTable A
with_all table [] = table
with_all table (entry ∷ rest) = with_all (with_entry table entry.0 entry.1) rest

pub with_all_appended : {A : Type 0} (table : NameTable A) (xs ys : List (List ℕ × A)) → with_all table (xs ++ ys) ≡ with_all (with_all table xs) ys
with_all_appended table [] ys = refl
with_all_appended table (x ∷ xs) ys = with_all_appended (with_entry table x.0 x.1) xs ys

abbrev pub entry_names : {A : Type 0} → List (List ℕ × A) → List (List ℕ)
entry_names entries = map (λ entry. entry.0) entries

abbrev pub entry_values : {A : Type 0} → List (List ℕ × A) → List A
entry_values entries = map (λ entry. entry.1) entries

new_entry : {A : Type 0} (table : NameTable A) (name : List ℕ) (value : A) → is_name_among name table.names ≡ false → with_entry table name value ≡ record { names = table.names ++ name ∷ []; values = table.values ++ value ∷ [] }
new_entry table name value e = rw e refl

-- different names stand in the table in their order, with their values
pub all_stand : {A : Type 0} (table : NameTable A) (entries : List (List ℕ × A)) → are_distinct (table.names ++ entry_names entries) ≡ true
    → with_all table entries ≡ record { names = table.names ++ entry_names entries; values = table.values ++ entry_values entries }
all_stand table [] distinct = λ i. record { names = none_more table.names i; values = none_more table.values i }
all_stand table (entry ∷ rest) distinct =
    let apart = not_in_front table.names (entry_names rest) entry.0 distinct in
    let assoc : (table.names ++ entry.0 ∷ []) ++ entry_names rest ≡ table.names ++ entry.0 ∷ entry_names rest = append_assoc table.names (entry.0 ∷ []) (entry_names rest) in
    let values : (table.values ++ entry.1 ∷ []) ++ entry_values rest ≡ table.values ++ entry.1 ∷ entry_values rest = append_assoc table.values (entry.1 ∷ []) (entry_values rest) in
    ap (λ (next : NameTable _). with_all next rest) (new_entry table entry.0 entry.1 apart)
    ∙ all_stand (record { names = table.names ++ entry.0 ∷ []; values = table.values ++ entry.1 ∷ [] }) rest (ap are_distinct assoc ∙ distinct)
    ∙ (λ i. record { names = assoc i; values = values i })

-- ---- the names of a model, sort by sort

abbrev pub enum_name : RawItem → List (List ℕ)
enum_name (item.Enum name variants) = name.name ∷ []
enum_name _ = []

abbrev pub cell_name : RawItem → List (List ℕ)
cell_name (item.Counter name start) = name.name ∷ []
cell_name (item.Register name type start) = name.name ∷ []
cell_name (item.Accumulator name volume rate) = name.name ∷ []
cell_name _ = []

abbrev pub type_name : RawItem → List (List ℕ)
type_name (item.Activity name parameters result requires_ body) = name.name ∷ []
type_name _ = []

abbrev pub all_names : List RawItem → List (List ℕ)
all_names items = parts_of_items enum_name items ++ (parts_of_items cell_name items ++ parts_of_items type_name items)

cons_middle : {A : Type 0} (name : A) (xs front rest : List A) → IsPermutation xs (front ++ rest) → IsPermutation (name ∷ xs) (front ++ name ∷ rest)
cons_middle name xs front rest order =
    IsPermutation-trans (name ∷ xs) (name ∷ (front ++ rest)) (front ++ name ∷ rest) (IsPermutation-cons name xs (front ++ rest) order)
    (IsPermutation-sym (front ++ name ∷ rest) (name ∷ (front ++ rest)) (IsPermutation-middle front name rest))

-- the names that have to differ are those of the three sorts, in another order
pub sorted_names : (items : List RawItem) → IsPermutation (names_of (names_in shared_name items)) (all_names items)
sorted_names [] = IsPermutation-refl []
sorted_names (item.Enum name variants ∷ rest) = IsPermutation-cons name.name (names_of (names_in shared_name rest)) (all_names rest) (sorted_names rest)
sorted_names (item.Counter name start ∷ rest) = cons_middle name.name _ (parts_of_items enum_name rest) (parts_of_items cell_name rest ++ parts_of_items type_name rest) (sorted_names rest)
sorted_names (item.Register name type start ∷ rest) = cons_middle name.name _ (parts_of_items enum_name rest) (parts_of_items cell_name rest ++ parts_of_items type_name rest) (sorted_names rest)
sorted_names (item.Accumulator name volume rate ∷ rest) = cons_middle name.name _ (parts_of_items enum_name rest) (parts_of_items cell_name rest ++ parts_of_items type_name rest) (sorted_names rest)
sorted_names (item.Discrete name read ∷ rest) = sorted_names rest
sorted_names (item.Linear name sum ∷ rest) = sorted_names rest
sorted_names (item.Activity name parameters result requires_ body ∷ rest) =
    let front = parts_of_items enum_name rest ++ parts_of_items cell_name rest in
    let assoc = append_assoc (parts_of_items enum_name rest) (parts_of_items cell_name rest) in
    subst (IsPermutation (name.name ∷ names_of (names_in shared_name rest))) (assoc (name.name ∷ parts_of_items type_name rest))
    (cons_middle name.name _ front (parts_of_items type_name rest) (subst (IsPermutation (names_of (names_in shared_name rest))) (sym (assoc (parts_of_items type_name rest))) (sorted_names rest)))
sorted_names (item.Daemon body ∷ rest) = sorted_names rest

pub record AreApart (items : List RawItem) : Type 0 where
  pub all : are_distinct (all_names items) ≡ true
  pub enums : are_distinct (parts_of_items enum_name items) ≡ true
  pub cells : are_distinct (parts_of_items cell_name items) ≡ true
  pub types : are_distinct (parts_of_items type_name items) ≡ true

pub are_apart : (items : List RawItem) → repeated_diagnostics [] (names_in shared_name items) ≡ [] → AreApart items
are_apart items none =
    let enums = parts_of_items enum_name items in
    let cells = parts_of_items cell_name items in
    let types = parts_of_items type_name items in
    let new = are_new [] (names_in shared_name items) refl none in
    let all : are_distinct (all_names items) ≡ true = sym (distinct_permuted (names_of (names_in shared_name items)) (all_names items) (sorted_names items)) ∙ new.distinct in
    let front = three_true (are_distinct enums) (list_all (λ name. not (is_name_among name (cells ++ types))) enums) (are_distinct (cells ++ types)) (sym (distinct_appended enums (cells ++ types)) ∙ all) in
    let middle = three_true (are_distinct cells) (list_all (λ name. not (is_name_among name types)) cells) (are_distinct types) (sym (distinct_appended cells types) ∙ front.2) in
    record { all = all; enums = front.0; cells = middle.0; types = middle.2 }
