-- A plan as JSON: what a text has to be that is loaded. What `show` prints of a plan is of this form.
use Rattle.std.specs.Prelude.{ℕ, ◌+◌, ℤ, pos, negsuc, Bool, true, false, ◌&&◌, List, [], ◌∷◌, codes, length, nat_eq, nat_lt, ◌==◌, Option, Some, None, is_some, option_map, option_and_then, Result, Ok, Err, if◌then◌else◌}
use Rattle.std.specs.List.{position_or_len, before_first, after_first}
use Rattle.serde_json.specs.Data.{Data, Items, no_items, item, Members, no_members, member}
use Rattle.serde_json.specs.Find.{get, as_array, as_bool, as_i64, as_number, as_object, as_str}
use Rattle.serde_json.specs.Read.{read}
use Rattle.aerie_base.specs.Names.{is_name}
use Rattle.aerie_base.specs.Ranges.{checked_number, time_of_signed}
use Rattle.aerie_base.specs.models.Names.{same_name}
use Rattle.aerie_base.specs.declared.arguments.RawValue.{RawValue}
use Rattle.aerie_base.specs.declared.arguments.RawValue.TheVariants as raw
use Rattle.aerie_base.specs.declared.arguments.RawArgument.{RawArgument}
use Rattle.aerie_base.specs.declared.plans.Anchor.{Anchor}
use Rattle.aerie_base.specs.declared.plans.Edge.{Edge}
use Rattle.aerie_base.specs.declared.plans.Edge.TheVariants.{Start, End}
use Rattle.aerie_text.specs.Sorts.{same_sort, word_sort}
use Rattle.aerie_text.specs.declared.sorts.Sort.TheVariants as sort
use Rattle.plan_edit.specs.declared.errors.EditError.{EditError}
use Rattle.plan_edit.specs.declared.errors.EditError.TheVariants.{NotAPlan}
use Rattle.plan_edit.specs.declared.forms.WrittenDirective.{WrittenDirective}

-- what is of the form, or NotAPlan
abbrev pub if_formed : {A : Type 0} → Option A → Result A EditError
if_formed None = Err NotAPlan
if_formed (Some part) = Ok part

-- ---- numbers and names

abbrev pub whole_number : Data → Option ℤ
whole_number value = option_and_then as_i64 (as_number value)

-- a whole number that can be an id
abbrev pub id_of_signed : ℤ → Option ℕ
id_of_signed (pos id) = if nat_lt id 4_294_967_296 then Some id else None
id_of_signed (negsuc less) = None

abbrev pub id_of_json : Data → Option ℕ
id_of_json value = option_and_then id_of_signed (whole_number value)

abbrev pub start_of_json : Data → Option ℕ
start_of_json value = option_and_then time_of_signed (whole_number value)

-- a name that is no reserved word
abbrev pub is_free_name : List ℕ → Bool
is_free_name text = is_name text && same_sort (word_sort text) sort.Name

abbrev pub free_name : List ℕ → Option (List ℕ)
free_name text = if is_free_name text then Some text else None

-- ---- values

abbrev pub is_dot : ℕ → Bool
is_dot byte = byte == 46

-- two names with a dot between them
abbrev pub is_variant_text : List ℕ → Bool
is_variant_text text =
    nat_lt (position_or_len is_dot text) (length text) && (is_free_name (before_first is_dot text) && is_free_name (after_first is_dot text))

abbrev pub variant_of_word : List ℕ → Option RawValue
variant_of_word text = if is_variant_text text then Some (raw.Word text) else None

abbrev pub or_truth : Option Bool → Option RawValue → Option RawValue
or_truth None other = other
or_truth (Some truth) other = Some (raw.Truth truth)

abbrev pub or_text : Option (List ℕ) → Option RawValue → Option RawValue
or_text None other = other
or_text (Some text) other = variant_of_word text

-- a truth, an enumeration's name with a dot and a variant's name, or a whole number within the range
abbrev pub value_of_json : Data → Option RawValue
value_of_json value =
    or_truth (as_bool value) (or_text (as_str value) (option_map raw.Int (option_and_then checked_number (whole_number value))))

-- ---- arguments

abbrev pub one_argument : Option RawValue → List ℕ → Option RawArgument
one_argument None name = None
one_argument (Some value) name = option_map (λ name. record { name = name; value = value }) (free_name name)

abbrev pub put_argument : Option RawArgument → Option (List RawArgument) → Option (List RawArgument)
put_argument None rest = None
put_argument (Some argument) None = None
put_argument (Some argument) (Some rest) = Some (argument ∷ rest)

-- an argument for each member, in the order of the bytes of their keys
abbrev pub arguments_of_members : Members → Option (List RawArgument)
arguments_of_members no_members = Some []
arguments_of_members (member key value rest) = put_argument (one_argument (value_of_json value) key) (arguments_of_members rest)

abbrev pub given_members : Data → Option Members
given_members value = option_and_then as_object (get (codes "arguments") value)

-- ---- anchors

abbrev pub members_in : Members → ℕ
members_in no_members = 0
members_in (member key value rest) = members_in rest + 1

abbrev pub has_so_many : ℕ → Option Members → Bool
has_so_many count None = false
has_so_many count (Some members) = nat_eq (members_in members) count

-- an object with so many members
abbrev pub has_members : ℕ → Data → Bool
has_members count value = has_so_many count (as_object value)

abbrev pub edge_of_word : List ℕ → Option Edge
edge_of_word text = if same_name text (codes "start") then Some Start else if same_name text (codes "end") then Some End else None

abbrev pub edge_of_json : Data → Option Edge
edge_of_json value = option_and_then edge_of_word (option_and_then as_str (get (codes "edge") value))

abbrev pub anchor_members : Data → Option Anchor
anchor_members value =
    option_and_then (λ to. option_map (λ edge. record { to = to; edge = edge }) (edge_of_json value))
    (option_and_then id_of_json (get (codes "to") value))

-- an object with the members `edge` and `to` alone
abbrev pub anchor_of_json : Data → Option Anchor
anchor_of_json value = if has_members 2 value then anchor_members value else None

-- ---- directives

-- what need not be there, but is of its form where it is
abbrev pub if_there : {A : Type 0} → (Data → Option A) → Option Data → Option (Option A)
if_there form None = Some None
if_there form (Some value) = option_map Some (form value)

abbrev pub members_if : Bool → ℕ
members_if true = 1
members_if false = 0

-- how many members a directive has: `start`, `type` and `arguments`, and those of `id` and `anchor` that are there
abbrev pub members_wanted : Data → ℕ
members_wanted value = 3 + members_if (is_some (get (codes "id") value)) + members_if (is_some (get (codes "anchor") value))

-- the id, the anchor and the start of a directive
abbrev pub Timing : Type 0
Timing = Option ℕ × (Option Anchor × ℕ)

abbrev pub timing_of_json : Data → Option Timing
timing_of_json value =
    option_and_then (λ id. option_and_then (λ anchor. option_map (λ start. (id, (anchor, start)))
    (option_and_then start_of_json (get (codes "start") value)))
    (if_there anchor_of_json (get (codes "anchor") value)))
    (if_there id_of_json (get (codes "id") value))

-- the same, where it has no members but its own
abbrev pub checked_timing : Data → Option Timing
checked_timing value = if has_members (members_wanted value) value then timing_of_json value else None

abbrev pub type_text : Data → Option (List ℕ)
type_text value = option_and_then as_str (get (codes "type") value)

abbrev pub type_of_json : Data → Option (List ℕ)
type_of_json value = option_and_then free_name (type_text value)

abbrev pub given_of_json : Data → Option (List RawArgument)
given_of_json value = option_and_then arguments_of_members (given_members value)

abbrev pub directive_of_parts : Option Timing → Option (List ℕ) → Option (List RawArgument) → Option WrittenDirective
directive_of_parts None kind arguments = None
directive_of_parts (Some timing) None arguments = None
directive_of_parts (Some timing) (Some kind) None = None
directive_of_parts (Some timing) (Some kind) (Some arguments) =
    Some (record { id = timing.0; anchor = timing.1.0; start = timing.1.1; kind = kind; arguments = arguments })

abbrev pub directive_of_json : Data → Option WrittenDirective
directive_of_json value = directive_of_parts (checked_timing value) (type_of_json value) (given_of_json value)

abbrev pub put_directive : Option WrittenDirective → Option (List WrittenDirective) → Option (List WrittenDirective)
put_directive None rest = None
put_directive (Some directive) None = None
put_directive (Some directive) (Some rest) = Some (directive ∷ rest)

abbrev pub directives_of_json : List Data → Option (List WrittenDirective)
directives_of_json [] = Some []
directives_of_json (value ∷ rest) = put_directive (directive_of_json value) (directives_of_json rest)

-- ---- plans

abbrev pub values_of_items : Items → List Data
values_of_items no_items = []
values_of_items (item value rest) = value ∷ values_of_items rest

abbrev pub listed_values : Data → Option (List Data)
listed_values value = option_map values_of_items (option_and_then as_array (get (codes "directives") value))

-- an object with the member `directives` alone, a list
abbrev pub plan_of_json : Data → Option (List WrittenDirective)
plan_of_json value =
    if has_members 1 value then option_and_then directives_of_json (listed_values value) else None

-- the directives that a text writes, where it is JSON of this form
abbrev pub plan_text : List ℕ → Option (List WrittenDirective)
plan_text text = option_and_then plan_of_json (read text)
