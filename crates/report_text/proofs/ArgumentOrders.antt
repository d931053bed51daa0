-- The object of some fields has them in the order of their names.
use Rattle.std.proofs.Common.{◌≡◌, ◌<◌, ◌≤◌, ◌++◌, ◌∷◌, [], ℕ, zero, suc, ap, get_or, length, map, refl, sym, take, ◌∙◌, arith}
use Rattle.std.specs.Prelude.{List}
use Rattle.std.specs.List.{All, AllByRecursion}
use Rattle.std.specs.Ordering.{match_ordering, nat_cmp}
use Rattle.std.specs.Cmp.Lexicographic.{slice_cmp}
use Rattle.std.specs.declared.cmp.Ordering.{Ordering}
use Rattle.std.specs.declared.cmp.Ordering.TheVariants.{Less, Equal, Greater}
use Rattle.std.proofs.lemmas.Map.Lookups.{exact_bytes}
use Rattle.std.proofs.Math.ListN.{get_or-map}
use Rattle.std.proofs.lemmas.List.{length-map}
use Rattle.std.proofs.lemmas.List.Elements.{All-cons}
use Rattle.std.proofs.Math.Seq.{take-length, take-suc}
use Rattle.serde_json.specs.Data.{Data, Members, member, no_members, null, put}
use Rattle.aerie_base.specs.declared.models.EnumType.{EnumType}
use Rattle.aerie_base.specs.declared.models.Parameter.{Parameter}
use Rattle.aerie_base.specs.declared.values.Value.{Value}
use Rattle.json_line.specs.Json.{with_fields}
use Rattle.json_line.specs.Parts.{members_from}
use Rattle.plan_edit.specs.ShownPlan.{argument_fields, json_of_value}
use Rattle.report_text.specs.ArgumentOrder.{name_numbered, order_of, order_up_to, names_of_parameters, put_number}

-- the field of a number
abbrev pub field_numbered : List (List ℕ × Data) → ℕ → List ℕ × Data
field_numbered fields number = get_or fields number ([], null)

abbrev pub names_of : List (List ℕ × Data) → List (List ℕ)
names_of fields = map (λ field. field.0) fields

field_name : (fields : List (List ℕ × Data)) (number : ℕ) → (field_numbered fields number).0 ≡ name_numbered (names_of fields) number
field_name fields number = sym (get_or-map (λ (field : List ℕ × Data). field.0) fields number ([], null))

module _ (fields : List (List ℕ × Data)) where
  abbrev members_in : List ℕ → Members
  members_in order = members_from (map (field_numbered fields) order)

  -- by how the names compare
  put_by : (number other : ℕ) (rest put_there : List ℕ) (o : Ordering) → o ≡ slice_cmp nat_cmp (name_numbered (names_of fields) number) (name_numbered (names_of fields) other)
      → members_in put_there ≡ put (field_numbered fields number).0 (field_numbered fields number).1 (members_in rest)
      → members_in (match_ordering o (number ∷ other ∷ rest) (number ∷ rest) (other ∷ put_there))
      ≡ match_ordering o
      (member (field_numbered fields number).0 (field_numbered fields number).1 (members_in (other ∷ rest)))
      (member (field_numbered fields other).0 (field_numbered fields number).1 (members_in rest))
      (member (field_numbered fields other).0 (field_numbered fields other).1 (put (field_numbered fields number).0 (field_numbered fields number).1 (members_in rest)))
  put_by number other rest put_there Less is later = refl
  put_by number other rest put_there Equal is later =
      ap (λ name. member name (field_numbered fields number).1 (members_in rest))
      (field_name fields number ∙ exact_bytes _ _ (sym is) ∙ sym (field_name fields other))
  put_by number other rest put_there Greater is later = ap (member (field_numbered fields other).0 (field_numbered fields other).1) later

  put_in : (number : ℕ) (order : List ℕ) → members_in (put_number (names_of fields) number order) ≡ put (field_numbered fields number).0 (field_numbered fields number).1 (members_in order)
  put_in number [] = refl
  put_in number (other ∷ rest) =
      put_by number other rest (put_number (names_of fields) number rest) (slice_cmp nat_cmp (name_numbered (names_of fields) number) (name_numbered (names_of fields) other)) refl (put_in number rest)
      ∙ ap (λ (name : List ℕ). by_names name (name_numbered (names_of fields) other)) (sym (field_name fields number))
      ∙ ap (λ (name : List ℕ). by_names (field_numbered fields number).0 name) (sym (field_name fields other))
    where
      by_names : List ℕ → List ℕ → Members
      by_names name beside =
          match_ordering (slice_cmp nat_cmp name beside)
          (member (field_numbered fields number).0 (field_numbered fields number).1 (members_in (other ∷ rest)))
          (member (field_numbered fields other).0 (field_numbered fields number).1 (members_in rest))
          (member (field_numbered fields other).0 (field_numbered fields other).1 (put (field_numbered fields number).0 (field_numbered fields number).1 (members_in rest)))

  with_one_more : (so_far : Members) (before : List (List ℕ × Data)) (field : List ℕ × Data) → with_fields so_far (before ++ field ∷ []) ≡ put field.0 field.1 (with_fields so_far before)
  with_one_more so_far [] field = refl
  with_one_more so_far (first ∷ before) field = with_one_more (put first.0 first.1 so_far) before field

  pub up_to : (count : ℕ) → count ≤ length fields → with_fields no_members (take count fields) ≡ members_in (order_up_to (names_of fields) count)
  up_to zero within = refl
  up_to (suc count) within =
      ap (with_fields no_members) (take-suc fields count ([], null) (omega (arith, within)))
      ∙ with_one_more no_members (take count fields) (field_numbered fields count)
      ∙ ap (put (field_numbered fields count).0 (field_numbered fields count).1) (up_to count (omega (arith, within)))
      ∙ sym (put_in count (order_up_to (names_of fields) count))

-- each number of an order is below the count of the names
module _ (names : List (List ℕ)) (count : ℕ) where
  abbrev Below : List ℕ → Type 0
  Below order = AllByRecursion (λ other. other < count) order

  below_by : (number other : ℕ) (rest put_there : List ℕ) (o : Ordering) → number < count → Below (other ∷ rest) → Below put_there
      → Below (match_ordering o (number ∷ other ∷ rest) (number ∷ rest) (other ∷ put_there))
  below_by number other rest put_there Less below within later = (below, within)
  below_by number other rest put_there Equal below within later = (below, within.1)
  below_by number other rest put_there Greater below within later = (within.0, later)

  also_below : (number : ℕ) (order : List ℕ) → number < count → Below order → Below (put_number names number order)
  also_below number [] below within = (below, tt)
  also_below number (other ∷ rest) below within =
      below_by number other rest (put_number names number rest) (slice_cmp nat_cmp (name_numbered names number) (name_numbered names other)) below within
      (also_below number rest below within.1)

  all_below : (number : ℕ) → number ≤ count → Below (order_up_to names number)
  all_below zero within = tt
  all_below (suc number) within = also_below number (order_up_to names number) (omega (arith, within)) (all_below number (omega (arith, within)))

  each_below : (order : List ℕ) → Below order → All (λ other. other < count) order
  each_below [] below = λ k d within. absurd (omega (arith, within))
  each_below (other ∷ rest) below = All-cons (λ other. other < count) other rest below.0 (each_below rest below.1)

  pub order_below : (number : ℕ) → number ≤ count → All (λ other. other < count) (order_up_to names number)
  order_below number within = each_below (order_up_to names number) (all_below number within)

pub order_within : (parameters : List Parameter) → All (λ number. number < length parameters) (order_of (names_of_parameters parameters))
order_within parameters =
    order_below (names_of_parameters parameters) (length parameters) (length (names_of_parameters parameters)) (omega (arith, length-map parameters (λ (parameter : Parameter). parameter.name)))

-- ---- arguments

-- parameters that have no value give no field
pub given_fields : (enums : List EnumType) (parameters : List Parameter) (values : List Value) →
    argument_fields enums parameters values ≡ argument_fields enums (take (length values) parameters) values
given_fields enums [] [] = refl
given_fields enums [] (value ∷ values) = refl
given_fields enums (parameter ∷ rest) [] = refl
given_fields enums (parameter ∷ rest) (value ∷ values) = ap (λ fields. (parameter.name, json_of_value enums value) ∷ fields) (given_fields enums rest values)

-- where each has a value, the names of the fields are those of the parameters
pub names_given : (enums : List EnumType) (parameters : List Parameter) (values : List Value) → length parameters ≤ length values →
    names_of (argument_fields enums parameters values) ≡ names_of_parameters parameters
names_given enums [] values enough = refl
names_given enums (parameter ∷ rest) [] enough = absurd (omega (arith, enough))
names_given enums (parameter ∷ rest) (value ∷ values) enough = ap (λ names. parameter.name ∷ names) (names_given enums rest values (omega (arith, enough)))

pub field_given : (enums : List EnumType) (parameters : List Parameter) (values : List Value) (number : ℕ) (p : Parameter) (v : Value) →
    length parameters ≤ length values → number < length parameters →
    field_numbered (argument_fields enums parameters values) number ≡ ((get_or parameters number p).name, json_of_value enums (get_or values number v))
field_given enums [] values number p v enough within = absurd (omega (arith, within))
field_given enums (parameter ∷ rest) [] number p v enough within = absurd (omega (arith, enough))
field_given enums (parameter ∷ rest) (value ∷ values) zero p v enough within = refl
field_given enums (parameter ∷ rest) (value ∷ values) (suc number) p v enough within =
    field_given enums rest values number p v (omega (arith, enough)) (omega (arith, within))

-- the object of the arguments has them in the order of their names
pub in_order : (enums : List EnumType) (parameters : List Parameter) (values : List Value) → length parameters ≤ length values →
    with_fields no_members (argument_fields enums parameters values)
    ≡ members_from (map (field_numbered (argument_fields enums parameters values)) (order_of (names_of_parameters parameters)))
in_order enums parameters values enough =
    let fields = argument_fields enums parameters values in
    ap (with_fields no_members) (sym (take-length fields))
    ∙ up_to fields (length fields) (omega arith)
    ∙ ap (λ (count : ℕ). members_from (map (field_numbered fields) (order_up_to (names_of fields) count))) (sym (length-map fields (λ (field : List ℕ × Data). field.0)))
    ∙ ap (λ (names : List (List ℕ)). members_from (map (field_numbered fields) (order_of names))) (names_given enums parameters values enough)
