-- The members of an object of arguments, read as arguments.
use Rattle.std.proofs.Common.{◌≡◌, ℕ, Bool, IsTrue, List, [], ◌∷◌, Option, Some, None, map, option_map, refl, ap, ◌∙◌, if◌then◌else◌}
use Rattle.std.specs.Ordering.{match_ordering, nat_cmp}
use Rattle.std.specs.Cmp.Lexicographic.{slice_cmp}
use Rattle.std.specs.declared.cmp.Ordering.{Ordering}
use Rattle.std.specs.declared.cmp.Ordering.TheVariants.{Less, Equal, Greater}
use Rattle.serde_json.specs.Data.{Data, Members, member, no_members, put}
use Rattle.aerie_base.specs.declared.values.Value.{Value}
use Rattle.aerie_base.specs.declared.arguments.RawValue.{RawValue}
use Rattle.aerie_base.specs.declared.arguments.RawArgument.{RawArgument}
use Rattle.aerie_base.specs.declared.models.EnumType.{EnumType}
use Rattle.aerie_base.specs.declared.models.Parameter.{Parameter}
use Rattle.json_line.specs.Json.{with_fields}
use Rattle.plan_edit.specs.PlanForm.{arguments_of_members, is_free_name, one_argument, put_argument, value_of_json}
use Rattle.plan_edit.specs.ShownPlan.{argument_fields, json_of_value}
use Rattle.report_text.proofs.RawArguments.{put_raw, raw_for, raws_with}

-- an argument beside the value of JSON that it is written as
abbrev pub Entry : Type 0
Entry = RawArgument × Data

abbrev pub raws : List Entry → List RawArgument
raws entries = map (λ entry. entry.0) entries

abbrev pub members_of : List Entry → Members
members_of [] = no_members
members_of (entry ∷ rest) = member entry.0.name entry.1 (members_of rest)

abbrev pub named_so : List ℕ → Entry → Entry
named_so name entry = (record { name = name; value = entry.0.value }, entry.1)

abbrev pub put_entry : Entry → List Entry → List Entry
put_entry entry [] = entry ∷ []
put_entry entry (other ∷ rest) =
    match_ordering (slice_cmp nat_cmp entry.0.name other.0.name) (entry ∷ other ∷ rest) (named_so other.0.name entry ∷ rest) (other ∷ put_entry entry rest)

put_members : (entry : Entry) (entries : List Entry) → put entry.0.name entry.1 (members_of entries) ≡ members_of (put_entry entry entries)
put_members entry [] = refl
put_members entry (other ∷ rest) = go (slice_cmp nat_cmp entry.0.name other.0.name) (put_members entry rest)
  where
    go : (o : Ordering) → put entry.0.name entry.1 (members_of rest) ≡ members_of (put_entry entry rest) →
        match_ordering o (member entry.0.name entry.1 (members_of (other ∷ rest))) (member other.0.name entry.1 (members_of rest))
        (member other.0.name other.1 (put entry.0.name entry.1 (members_of rest)))
        ≡ members_of (match_ordering o (entry ∷ other ∷ rest) (named_so other.0.name entry ∷ rest) (other ∷ put_entry entry rest))
    go Less later = refl
    go Equal later = refl
    go Greater later = ap (member other.0.name other.1) later

put_raws : (entry : Entry) (entries : List Entry) → raws (put_entry entry entries) ≡ put_raw entry.0 (raws entries)
put_raws entry [] = refl
put_raws entry (other ∷ rest) = go (slice_cmp nat_cmp entry.0.name other.0.name) (put_raws entry rest)
  where
    go : (o : Ordering) → raws (put_entry entry rest) ≡ put_raw entry.0 (raws rest) →
        raws (match_ordering o (entry ∷ other ∷ rest) (named_so other.0.name entry ∷ rest) (other ∷ put_entry entry rest))
        ≡ match_ordering o (entry.0 ∷ other.0 ∷ raws rest) (record { name = other.0.name; value = entry.0.value } ∷ raws rest) (other.0 ∷ put_raw entry.0 (raws rest))
    go Less later = refl
    go Equal later = refl
    go Greater later = ap (λ (xs : List RawArgument). other.0 ∷ xs) later

-- ---- read again

-- an argument is read from what it is written as
abbrev pub IsRead : Entry → Type 0
IsRead entry = (value_of_json entry.1 ≡ Some entry.0.value) × IsTrue (is_free_name entry.0.name)

abbrev pub AreRead : List Entry → Type 0
AreRead [] = Unit {0}
AreRead (entry ∷ rest) = IsRead entry × AreRead rest

put_read : (entry : Entry) (entries : List Entry) → IsRead entry → AreRead entries → AreRead (put_entry entry entries)
put_read entry [] is are = (is, tt)
put_read entry (other ∷ rest) is are = go (slice_cmp nat_cmp entry.0.name other.0.name) (put_read entry rest is are.1)
  where
    go : (o : Ordering) → AreRead (put_entry entry rest) → AreRead (match_ordering o (entry ∷ other ∷ rest) (named_so other.0.name entry ∷ rest) (other ∷ put_entry entry rest))
    go Less later = (is, are)
    go Equal later = ((is.0, are.0.1), are.1)
    go Greater later = (are.0, later)

one_read : (entry : Entry) → IsRead entry → one_argument (value_of_json entry.1) entry.0.name ≡ Some entry.0
one_read entry is =
    ap (λ (o : Option RawValue). one_argument o entry.0.name) is.0
    ∙ ap (λ (t : Bool). option_map (λ (name : List ℕ). record { name = name; value = entry.0.value }) (if t then Some entry.0.name else None)) is.1

members_read : (entries : List Entry) → AreRead entries → arguments_of_members (members_of entries) ≡ Some (raws entries)
members_read [] are = refl
members_read (entry ∷ rest) are =
    ap (λ (o : Option RawArgument). put_argument o (arguments_of_members (members_of rest))) (one_read entry are.0)
    ∙ ap (put_argument (Some entry.0)) (members_read rest are.1)

-- ---- arguments of a directive

-- each value is read from what is written of it, and each name is free
abbrev pub AreWritten : List EnumType → List Parameter → List Value → Type 0
AreWritten enums [] values = Unit {0}
AreWritten enums (parameter ∷ rest) [] = Unit {0}
AreWritten enums (parameter ∷ rest) (value ∷ values) =
    IsRead (raw_for enums parameter value, json_of_value enums value) × AreWritten enums rest values

abbrev entries_with : List EnumType → List Entry → List Parameter → List Value → List Entry
entries_with enums front [] values = front
entries_with enums front (parameter ∷ rest) [] = front
entries_with enums front (parameter ∷ rest) (value ∷ values) =
    entries_with enums (put_entry (raw_for enums parameter value, json_of_value enums value) front) rest values

module _ (enums : List EnumType) where
  fields_entered : (front : List Entry) (parameters : List Parameter) (values : List Value) →
      with_fields (members_of front) (argument_fields enums parameters values) ≡ members_of (entries_with enums front parameters values)
  fields_entered front [] [] = refl
  fields_entered front [] (value ∷ values) = refl
  fields_entered front (parameter ∷ rest) [] = refl
  fields_entered front (parameter ∷ rest) (value ∷ values) =
      let entry : Entry = (raw_for enums parameter value, json_of_value enums value) in
      ap (λ (ms : Members). with_fields ms (argument_fields enums rest values)) (put_members entry front)
      ∙ fields_entered (put_entry entry front) rest values

  entered_raws : (front : List Entry) (parameters : List Parameter) (values : List Value) →
      raws (entries_with enums front parameters values) ≡ raws_with enums (raws front) parameters values
  entered_raws front [] values = refl
  entered_raws front (parameter ∷ rest) [] = refl
  entered_raws front (parameter ∷ rest) (value ∷ values) =
      let entry : Entry = (raw_for enums parameter value, json_of_value enums value) in
      entered_raws (put_entry entry front) rest values
      ∙ ap (λ (rs : List RawArgument). raws_with enums rs rest values) (put_raws entry front)

  entered_read : (front : List Entry) (parameters : List Parameter) (values : List Value) → AreRead front → AreWritten enums parameters values →
      AreRead (entries_with enums front parameters values)
  entered_read front [] values are written = are
  entered_read front (parameter ∷ rest) [] are written = are
  entered_read front (parameter ∷ rest) (value ∷ values) are written =
      let entry : Entry = (raw_for enums parameter value, json_of_value enums value) in
      entered_read (put_entry entry front) rest values (put_read entry front written.0 are) written.1

  -- what is written of arguments is read as these
  pub arguments_written : (parameters : List Parameter) (values : List Value) → AreWritten enums parameters values →
      arguments_of_members (with_fields no_members (argument_fields enums parameters values)) ≡ Some (raws_with enums [] parameters values)
  arguments_written parameters values written =
      ap arguments_of_members (fields_entered [] parameters values)
      ∙ members_read (entries_with enums [] parameters values) (entered_read [] parameters values tt written)
      ∙ ap Some (entered_raws [] parameters values)
