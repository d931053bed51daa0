-- A plan that is shown is loaded as the same directives under new ids.
use Rattle.std.proofs.Common.{◌≡◌, ℕ, suc, ◌+◌, ◌<◌, ◌≤◌, ◌&&◌, ◌||◌, ◌++◌, Bool, true, false, not, IsTrue, List, [], ◌∷◌, Option, Some, None, Result, Ok, Err, is_none, is_some, length, map, option_map, nat_eq, nat_le, nat_lt, position, slice_get, refl, sym, ap, ◌∙◌, arith, true≢false, lt-ltb, ltb-true, eq-eqb, eqb-true, if◌then◌else◌}
use Rattle.std.specs.Prelude.{unwrap_or}
use Rattle.std.specs.List.{list_any, list_all}
use Rattle.serde_json.specs.Data.{no_members}
use Rattle.aerie_base.specs.Ranges.{time_limit}
use Rattle.aerie_base.specs.declared.values.Value.{Value}
use Rattle.aerie_base.specs.declared.models.EnumType.{EnumType}
use Rattle.aerie_base.specs.declared.models.Activity.{Activity}
use Rattle.aerie_base.specs.declared.models.Parameter.{Parameter}
use Rattle.aerie_base.specs.declared.models.model.Parts.{Parts}
use Rattle.aerie_base.specs.declared.plans.Anchor.{Anchor}
use Rattle.aerie_base.specs.declared.plans.Directive.{Directive}
use Rattle.aerie_base.specs.declared.plans.Plan.{Plan}
use Rattle.aerie_base.specs.models.Activities.{is_activity, is_parameter, is_result, are_parameters, are_requires, parameter_names, activity_setting}
use Rattle.aerie_base.specs.models.Bodies.{is_body}
use Rattle.aerie_base.specs.models.Limits.{enum_limit, parameter_limit, type_limit}
use Rattle.aerie_base.specs.models.NameLaws.{distinct_appended}
use Rattle.aerie_base.specs.models.Names.{are_distinct, is_name_among, same_name}
use Rattle.aerie_base.specs.models.Signatures.{parameter_kinds, signatures_of}
use Rattle.aerie_base.specs.models.ValidModel.{activity_names, cell_names, enum_names, has_good_activities, has_good_enums, has_good_names, is_enum, resource_names, valid_model}
use Rattle.aerie_base.specs.models.ValidParts.{are_good}
use Rattle.aerie_base.specs.models.Values.{is_value_of}
use Rattle.aerie_base.specs.plans.OfModel.{anchored_to, are_values_of, directive_limit, ids_of, is_directive_of, is_there, rise_to, takes, is_dangling, is_none_or}
use Rattle.plan_edit.specs.Answers.{then_made_of, unless_refused, put_in_front}
use Rattle.plan_edit.specs.Editing.{given_at_position, given_of, given_to, if_met, is_outside, unless_unmet}
use Rattle.plan_edit.specs.Loading.{anchor_to_new_id, anchored_to_new_id, is_past_room, is_id_of_one, load_all, load_of_value, load_one, load_placed, load_written, loaded_form, position_in_text, unless_cycle, with_loaded}
use Rattle.plan_edit.specs.PlanForm.{directive_of_json, is_free_name}
use Rattle.plan_edit.specs.Requires.{first_unmet}
use Rattle.json_line.specs.Json.{object_of, with_fields}
use Rattle.plan_edit.specs.ShownPlan.{argument_fields, fields_by_type, json_of_directive, json_of_plan}
use Rattle.plan_edit.specs.declared.arguments.Given.{Given}
use Rattle.plan_edit.specs.declared.errors.EditError.{EditError}
use Rattle.plan_edit.specs.declared.errors.EditError.TheVariants.{OutsidePlan, TooMany, NoAnchor, Cycle}
use Rattle.plan_edit.specs.declared.forms.WrittenDirective.{WrittenDirective}
use Rattle.report_text.specs.LoadedAgain.{CanBeLoaded, has_free_words, is_free_enum, is_free_type, meets_requires, meets_type, loaded_id, to_new_id, under_new_id, with_directives_of}
use Rattle.report_text.proofs.ArgumentMembers.{AreWritten, arguments_written}
use Rattle.report_text.proofs.FirstPositions.{both, first_position, position_of_name, position_is}
use Rattle.report_text.proofs.NewIds.{has_id, new_at, no_cycle, directive_in_text}
use Rattle.report_text.proofs.RawArguments.{AreGiven, arguments_read, raws_with}
use Rattle.report_text.proofs.WrittenDirectives.{AreShown, IsNear, directive_read, plan_read}
use Rattle.report_text.proofs.WrittenValues.{each_is, value_read}

-- ---- a directive as it is written

abbrev written_by : List EnumType → Option Activity → Directive → WrittenDirective
written_by enums None directive = record { id = Some directive.id; anchor = directive.anchor; start = directive.start; kind = []; arguments = [] }
written_by enums (Some activity) directive =
    record { id = Some directive.id; anchor = directive.anchor; start = directive.start; kind = activity.name; arguments = raws_with enums [] activity.parameters directive.arguments }

abbrev written_as : Parts → Directive → WrittenDirective
written_as model directive = written_by model.enums (slice_get model.activities directive.kind) directive

same_id : (model : Parts) (directive : Directive) → (written_as model directive).id ≡ Some directive.id
same_id model directive = go (slice_get model.activities directive.kind)
  where
    go : (o : Option Activity) → (written_by model.enums o directive).id ≡ Some directive.id
    go None = refl
    go (Some activity) = refl

abbrev given_as : ℕ → List Value → Result Given EditError
given_as kind values = Ok (record { kind = kind; arguments = values })

-- ---- the model

front : (a b c d : Bool) → IsTrue (a && b && c && d) → IsTrue a × IsTrue b
front a b c d h = both a b (both (a && b) c (both (a && b && c) d h).0).0

module _ (model : Parts) (valid : IsTrue (valid_model model)) (words : IsTrue (has_free_words model)) where
  free_words : IsTrue (list_all is_free_enum model.enums) × IsTrue (list_all is_free_type model.activities)
  free_words = both (list_all is_free_enum model.enums) (list_all is_free_type model.activities) words

  good_enums : IsTrue (list_all is_enum model.enums)
  unfolding has_good_enums
  good_enums = (both (nat_le (length model.enums) enum_limit) (list_all is_enum model.enums) (are_good model valid).enums).1

  different_types : IsTrue (are_distinct (map (λ activity. activity.name) model.activities))
  unfolding has_good_names
  different_types =
      let all = both (are_distinct (enum_names model ++ cell_names model ++ activity_names model)) (are_distinct (resource_names model)) (are_good model valid).names in
      let apart = sym (distinct_appended (enum_names model ++ cell_names model) (activity_names model)) ∙ all.0 in
      (both (are_distinct (enum_names model ++ cell_names model) && list_all (λ name. not (is_name_among name (activity_names model))) (enum_names model ++ cell_names model)) (are_distinct (activity_names model)) apart).1

  different_parameters : (kind : ℕ) (activity : Activity) → slice_get model.activities kind ≡ Some activity → IsTrue (are_distinct (parameter_names activity))
  unfolding has_good_activities is_activity
  different_parameters kind activity here =
      let taken = enum_names model ++ cell_names model in
      let all = both (nat_le (length model.activities) type_limit) (list_all (is_activity model.enums model.cells (signatures_of model.activities) taken) model.activities) (are_good model valid).activities in
      let is = each_is (is_activity model.enums model.cells (signatures_of model.activities) taken) model.activities kind activity all.1 here in
      let parts = front (are_parameters model.enums taken activity) (are_requires model.enums activity) (is_result model.enums activity.result activity.body)
      (is_body (activity_setting model.enums model.cells (signatures_of model.activities) activity) (parameter_kinds activity) activity.slots activity.body) is in
      let three = both (nat_le (length activity.parameters) parameter_limit && list_all (is_parameter model.enums) activity.parameters && are_distinct (parameter_names activity))
      (list_all (λ name. not (is_name_among name taken)) (parameter_names activity)) parts.0 in
      (both (nat_le (length activity.parameters) parameter_limit && list_all (is_parameter model.enums) activity.parameters) (are_distinct (parameter_names activity)) three.0).1

  -- ---- arguments

  given_all : (parameters : List Parameter) (values : List Value) → IsTrue (are_values_of model.enums (map (λ parameter. parameter.kind) parameters) values) → AreGiven model.enums parameters values
  given_all [] [] are = tt
  given_all [] (value ∷ values) are = absurd (true≢false (sym are))
  given_all (parameter ∷ rest) [] are = absurd (true≢false (sym are))
  given_all (parameter ∷ rest) (value ∷ values) are =
      let parts = both (is_value_of model.enums parameter.kind value) (are_values_of model.enums (map (λ (p : Parameter). p.kind) rest) values) are in
      ((value_read model.enums good_enums free_words.0 parameter.kind value parts.0).1, given_all rest values parts.1)

  written_all : (parameters : List Parameter) (values : List Value) → IsTrue (are_values_of model.enums (map (λ parameter. parameter.kind) parameters) values) →
      IsTrue (list_all (λ parameter. is_free_name parameter.name) parameters) → AreWritten model.enums parameters values
  written_all [] values are free = tt
  written_all (parameter ∷ rest) [] are free = tt
  written_all (parameter ∷ rest) (value ∷ values) are free =
      let parts = both (is_value_of model.enums parameter.kind value) (are_values_of model.enums (map (λ (p : Parameter). p.kind) rest) values) are in
      let names = both (is_free_name parameter.name) (list_all (λ (p : Parameter). is_free_name p.name) rest) free in
      (((value_read model.enums good_enums free_words.0 parameter.kind value parts.0).0, names.0), written_all rest values parts.1 names.1)

  -- ---- one directive

  typed : (found : Option Activity) (arguments : List Value) → IsTrue (takes model.enums found arguments) →
      (activity : Activity) × ((found ≡ Some activity) × IsTrue (are_values_of model.enums (parameter_kinds activity) arguments))
  typed None arguments h = absurd (true≢false (sym h))
  typed (Some activity) arguments h = (activity, (refl, h))

  -- what is known of a directive of a plan
  record IsDirective (shown : Plan) (directive : Directive) : Type 0 where
    activity : Activity
    here : slice_get model.activities directive.kind ≡ Some activity
    values : IsTrue (are_values_of model.enums (parameter_kinds activity) directive.arguments)
    starts : directive.start < shown.duration
    tied : IsTrue (is_there shown.directives (anchored_to directive))

  directive_is : (shown : Plan) (directive : Directive) → IsTrue (is_directive_of model shown directive) → IsDirective shown directive
  directive_is shown directive is =
      let two = both (takes model.enums (slice_get model.activities directive.kind) directive.arguments && nat_lt directive.start shown.duration) (is_there shown.directives (anchored_to directive)) is in
      let one = both (takes model.enums (slice_get model.activities directive.kind) directive.arguments) (nat_lt directive.start shown.duration) two.0 in
      let type = typed (slice_get model.activities directive.kind) directive.arguments one.0 in
      record { activity = type.0; here = type.1.0; values = type.1.1; starts = ltb-true directive.start shown.duration one.1; tied = two.1 }

  shown_is : (shown : Plan) (directive : Directive) → IsDirective shown directive → directive.id < 4_294_967_296 → shown.duration ≤ time_limit → IsNear directive.anchor →
      directive_of_json (json_of_directive model directive) ≡ Some (written_as model directive)
  shown_is shown directive is small lasts near =
      let activity = is.activity in
      let free = both (is_free_name activity.name) (list_all (λ (p : Parameter). is_free_name p.name) activity.parameters) (each_is is_free_type model.activities directive.kind activity free_words.1 is.here) in
      let starts = is.starts in
      ap (λ (found : Option Activity). directive_of_json (object_of (fields_by_type model.enums found directive))) is.here
      ∙ directive_read (with_fields no_members (argument_fields model.enums activity.parameters directive.arguments)) (raws_with model.enums [] activity.parameters directive.arguments)
      directive.id directive.start activity.name directive.anchor small (omega (arith, starts, lasts)) near free.0
      (arguments_written model.enums activity.parameters directive.arguments (written_all activity.parameters directive.arguments is.values free.1))
      ∙ ap (λ (found : Option Activity). Some (written_by model.enums found directive)) (sym is.here)

  given_is : (shown : Plan) (directive : Directive) → IsDirective shown directive → IsTrue (meets_requires model directive) →
      given_of model (written_as model directive).kind (written_as model directive).arguments ≡ Ok (record { kind = directive.kind; arguments = directive.arguments })
  given_is shown directive is meets =
      let activity = is.activity in
      let raws = raws_with model.enums [] activity.parameters directive.arguments in
      let met = sym (ap (meets_type directive) is.here) ∙ meets in
      ap (λ (found : Option Activity). given_of model (written_by model.enums found directive).kind (written_by model.enums found directive).arguments) is.here
      ∙ ap (given_at_position model raws)
      (position_is (λ (other : Activity). same_name other.name activity.name) model.activities
      ∙ position_of_name (λ (other : Activity). other.name) model.activities directive.kind activity different_types is.here)
      ∙ ap (given_to model directive.kind raws) is.here
      ∙ ap (λ (r : Result (List Value) EditError). then_made_of (given_as directive.kind) (then_made_of (if_met activity) r))
      (arguments_read model.enums activity.parameters directive.arguments (given_all activity.parameters directive.arguments is.values) (different_parameters directive.kind activity is.here))
      ∙ met_is (first_unmet 0 directive.arguments activity.requires_) met
    where
      met_is : (unmet : Option ℕ) → IsTrue (is_none unmet) →
          then_made_of (given_as directive.kind) (unless_unmet unmet directive.arguments) ≡ given_as directive.kind directive.arguments
      met_is None h = refl
      met_is (Some number) h = absurd (true≢false (sym h))

-- ---- the whole plan

abbrev loaded_as : Plan → ℕ → Directive → Directive
loaded_as target number directive =
    record { id = target.next_id + number; start = directive.start; anchor = directive.anchor; kind = directive.kind; arguments = directive.arguments }

abbrev loaded_from : Plan → ℕ → List Directive → List Directive
loaded_from target number [] = []
loaded_from target number (directive ∷ rest) = loaded_as target number directive ∷ loaded_from target (number + 1) rest

not_false : (a : Bool) → a ≡ true → not a ≡ false
not_false a h = ap not h

module _ (model : Parts) (valid : IsTrue (valid_model model)) (shown target : Plan) (can : CanBeLoaded model shown target) where
  abbrev all : List WrittenDirective
  all = map (written_as model) shown.directives

  rises : IsTrue (rise_to shown.next_id 0 (ids_of shown.directives))
  rises = can.plan.ids

  text_position : (id : ℕ) → position_in_text all id ≡ position (has_id id) shown.directives
  text_position id = directive_in_text (written_as model) (same_id model) shown.next_id shown.directives id rises

  -- a directive that stands is found
  found_there : (directives : List Directive) (id : ℕ) → IsTrue (list_any (nat_eq id) (ids_of directives)) → is_some (first_position (has_id id) directives) ≡ true
  found_there [] id there = absurd (true≢false (sym there))
  found_there (directive ∷ rest) id there = go (nat_eq directive.id id) (nat_eq id directive.id) refl refl there (found_there rest id)
    where
      some_on : (o : Option ℕ) → is_some (option_map suc o) ≡ is_some o
      some_on None = refl
      some_on (Some n) = refl

      go : (t u : Bool) → nat_eq directive.id id ≡ t → nat_eq id directive.id ≡ u → IsTrue (u || list_any (nat_eq id) (ids_of rest)) →
          (IsTrue (list_any (nat_eq id) (ids_of rest)) → is_some (first_position (has_id id) rest) ≡ true) → is_some (if t then Some 0 else option_map suc (first_position (has_id id) rest)) ≡ true
      go true u e f h later = refl
      go false true e f h later = absurd (true≢false (sym (eq-eqb directive.id id (sym (eqb-true id directive.id f))) ∙ e))
      go false false e f h later = some_on (first_position (has_id id) rest) ∙ later h

  tied_is : (anchor : Option Anchor) → IsTrue (is_there shown.directives (option_map (λ anchor. anchor.to) anchor)) → is_none_or (is_id_of_one all) (option_map (λ anchor. anchor.to) anchor) ≡ true
  tied_is None there = refl
  tied_is (Some anchor) there =
      ap is_some (text_position anchor.to ∙ position_is (has_id anchor.to) shown.directives) ∙ found_there shown.directives anchor.to there

  has_room : (number : ℕ) → number < length shown.directives → is_past_room target number ≡ false
  has_room number less =
      let few = can.plan.count in
      let room = can.room in
      ap (λ (t : Bool). not t || not (nat_lt (target.next_id + number) 4_294_967_295)) (lt-ltb number directive_limit (omega (arith, less, few)))
      ∙ ap not (lt-ltb (target.next_id + number) 4_294_967_295 (omega (arith, less, room)))

  one_loaded : (number : ℕ) (directive : Directive) → number < length shown.directives → IsTrue (is_directive_of model shown directive) → IsTrue (meets_requires model directive) →
      load_one model target all number (written_as model directive) ≡ Ok (loaded_as target number directive)
  one_loaded number directive less of meets =
      let is = directive_is model valid can.words shown directive of in
      let starts = is.starts in
      let lasts = can.lasts in
      ap (then_made_of (load_placed target all (written_as model directive) number)) (given_is model valid can.words shown directive is meets)
      ∙ ap (λ (found : Option Activity). load_placed target all (written_by model.enums found directive) number (record { kind = directive.kind; arguments = directive.arguments })) is.here
      ∙ placed (is_outside target directive.start) (is_past_room target number) (is_dangling (is_id_of_one all) directive.anchor)
      (not_false (nat_lt directive.start target.duration) (lt-ltb directive.start target.duration (omega (arith, starts, lasts))))
      (has_room number less) (not_false (is_none_or (is_id_of_one all) (option_map (λ anchor. anchor.to) directive.anchor)) (tied_is directive.anchor is.tied))
    where
      placed : (outside past loose : Bool) → outside ≡ false → past ≡ false → loose ≡ false →
          unless_refused ((outside, OutsidePlan) ∷ (past, TooMany) ∷ (loose, NoAnchor) ∷ []) (Ok (loaded_as target number directive)) ≡ Ok (loaded_as target number directive)
      placed outside past loose o p l =
          ap (λ (t : Bool). unless_refused ((t, OutsidePlan) ∷ (past, TooMany) ∷ (loose, NoAnchor) ∷ []) (Ok (loaded_as target number directive))) o
          ∙ ap (λ (t : Bool). unless_refused ((t, TooMany) ∷ (loose, NoAnchor) ∷ []) (Ok (loaded_as target number directive))) p
          ∙ ap (λ (t : Bool). unless_refused ((t, NoAnchor) ∷ []) (Ok (loaded_as target number directive))) l

  all_loaded : (number : ℕ) (directives : List Directive) → number + length directives ≤ length shown.directives → IsTrue (list_all (is_directive_of model shown) directives) → IsTrue (list_all (meets_requires model) directives) →
      load_all model target all number (map (written_as model) directives) ≡ Ok (loaded_from target number directives)
  all_loaded number [] within of meets = refl
  all_loaded number (directive ∷ rest) within of meets =
      let of_parts = both (is_directive_of model shown directive) (list_all (is_directive_of model shown) rest) of in
      let met_parts = both (meets_requires model directive) (list_all (meets_requires model) rest) meets in
      ap (λ (r : Result Directive EditError). put_in_front r (load_all model target all (number + 1) (map (written_as model) rest))) (one_loaded number directive (first_within number (length rest) (length shown.directives) within) of_parts.0 met_parts.0)
      ∙ ap (put_in_front (Ok (loaded_as target number directive))) (all_loaded (number + 1) rest (rest_within number (length rest) (length shown.directives) within) of_parts.1 met_parts.1)
    where
      first_within : (n more count : ℕ) → n + suc more ≤ count → n < count
      first_within n more count h = omega (arith, h)

      rest_within : (n more count : ℕ) → n + suc more ≤ count → n + 1 + more ≤ count
      rest_within n more count h = omega (arith, h)

  anchors_to_new_ids : (anchor : Option Anchor) → option_map (anchor_to_new_id target.next_id all) anchor ≡ option_map (to_new_id target.next_id shown.directives) anchor
  anchors_to_new_ids None = refl
  anchors_to_new_ids (Some anchor) = ap (λ (place : Option ℕ). Some (record anchor { to = target.next_id + unwrap_or place 0 })) (text_position anchor.to)

  all_to_new_ids : (number : ℕ) (directives : List Directive) → ((k : ℕ) → slice_get shown.directives (number + k) ≡ slice_get directives k) →
      map (anchored_to_new_id target.next_id all) (loaded_from target number directives) ≡ map (under_new_id target.next_id shown.directives) directives
  all_to_new_ids number [] stand = refl
  all_to_new_ids number (directive ∷ rest) stand =
      let here : slice_get shown.directives number ≡ Some directive = ap (slice_get shown.directives) (no_more number) ∙ stand 0 in
      let id = sym (new_at target.next_id shown.next_id shown.directives rises number directive here) in
      ap (λ (n : ℕ). record directive { id = n; anchor = option_map (anchor_to_new_id target.next_id all) directive.anchor } ∷ map (anchored_to_new_id target.next_id all) (loaded_from target (number + 1) rest)) id
      ∙ ap (λ (anchor : Option Anchor). record directive { id = loaded_id target.next_id shown.directives directive.id; anchor = anchor } ∷ map (anchored_to_new_id target.next_id all) (loaded_from target (number + 1) rest)) (anchors_to_new_ids directive.anchor)
      ∙ ap (λ (later : List Directive). under_new_id target.next_id shown.directives directive ∷ later) (all_to_new_ids (number + 1) rest (λ k. ap (slice_get shown.directives) (one_on number k) ∙ stand (suc k)))
    where
      no_more : (n : ℕ) → n ≡ n + 0
      no_more n = omega arith

      one_on : (n k : ℕ) → n + 1 + k ≡ n + suc k
      one_on n k = omega arith

  tied_all : (directives : List Directive) → IsTrue (list_all (is_directive_of model shown) directives) → IsTrue (list_all (λ directive. is_there shown.directives (anchored_to directive)) directives)
  tied_all [] of = refl
  tied_all (directive ∷ rest) of =
      let parts = both (is_directive_of model shown directive) (list_all (is_directive_of model shown) rest) of in
      let tied = (directive_is model valid can.words shown directive parts.0).tied in
      ap (λ (t : Bool). t && list_all (λ (d : Directive). is_there shown.directives (anchored_to d)) rest) tied ∙ tied_all rest parts.1

  near_all : (next before : ℕ) (directives : List Directive) → IsTrue (rise_to next before (ids_of directives)) → (id : ℕ) → IsTrue (list_any (nat_eq id) (ids_of directives)) → id < next
  near_all next before [] rise id there = absurd (true≢false (sym there))
  near_all next before (directive ∷ rest) rise id there =
      let parts = both (nat_lt before directive.id) (rise_to next directive.id (ids_of rest)) rise in
      go (nat_eq id directive.id) refl there (last next directive.id (ids_of rest) parts.1) (near_all next directive.id rest parts.1 id)
    where
      last : (next before : ℕ) (ids : List ℕ) → IsTrue (rise_to next before ids) → before < next
      last next before [] h = ltb-true before next h
      last next before (id ∷ ids) h =
          let two = both (nat_lt before id) (rise_to next id ids) h in
          let later = last next id ids two.1 in
          let less = ltb-true before id two.0 in
          omega (arith, later, less)

      go : (t : Bool) → nat_eq id directive.id ≡ t → IsTrue (t || list_any (nat_eq id) (ids_of rest)) → directive.id < next → (IsTrue (list_any (nat_eq id) (ids_of rest)) → id < next) → id < next
      go true e h less later = let same = eqb-true id directive.id e in omega (arith, same, less)
      go false e h less later = later h

  near_is : (anchor : Option Anchor) → IsTrue (is_there shown.directives (option_map (λ anchor. anchor.to) anchor)) → IsNear anchor
  near_is None there = tt
  near_is (Some anchor) there =
      let less = near_all shown.next_id 0 shown.directives rises anchor.to there in
      let most = can.ids in
      omega (arith, less, most)

  all_shown : (before : ℕ) (directives : List Directive) → IsTrue (rise_to shown.next_id before (ids_of directives)) → IsTrue (list_all (is_directive_of model shown) directives) → AreShown model (written_as model) directives
  all_shown before [] rise of = tt
  all_shown before (directive ∷ rest) rise of =
      let ids = both (nat_lt before directive.id) (rise_to shown.next_id directive.id (ids_of rest)) rise in
      let parts = both (is_directive_of model shown directive) (list_all (is_directive_of model shown) rest) of in
      let is = directive_is model valid can.words shown directive parts.0 in
      let less = near_all shown.next_id before (directive ∷ rest) rise directive.id (here directive.id (nat_eq directive.id directive.id) (list_any (nat_eq directive.id) (ids_of rest)) (eq-eqb directive.id directive.id refl)) in
      let most = can.ids in
      (shown_is model valid can.words shown directive is (omega (arith, less, most)) can.times (near_is directive.anchor is.tied), all_shown directive.id rest ids.1 parts.1)
    where
      here : (id : ℕ) (a b : Bool) → a ≡ true → IsTrue (a || b)
      here id a b h = ap (λ (t : Bool). t || b) h

  count_from_0 : (count : ℕ) → 0 + count ≤ count
  count_from_0 count = omega arith

  from_0 : (k : ℕ) → 0 + k ≡ k
  from_0 k = omega arith

  abbrev all_under_new_ids : List Directive
  all_under_new_ids = map (under_new_id target.next_id shown.directives) shown.directives

  written_loaded : load_written model target all ≡ Ok all_under_new_ids
  written_loaded =
      ap (then_made_of (λ directives. unless_cycle (map (anchored_to_new_id target.next_id all) directives))) (all_loaded 0 shown.directives (count_from_0 (length shown.directives)) can.plan.directives can.met)
      ∙ ap unless_cycle (all_to_new_ids 0 shown.directives (λ k. ap (slice_get shown.directives) (from_0 k)))
      ∙ ap (λ (t : Bool). if t then Err Cycle else Ok all_under_new_ids) (no_cycle target.next_id shown.next_id shown.directives rises (tied_all shown.directives can.plan.directives) can.plan.anchors)

  -- what is shown is loaded: the same directives under new ids
  pub shown_loads : load_of_value model target (json_of_plan model shown) ≡ Ok (with_directives_of shown target)
  shown_loads =
      ap (loaded_form model target) (plan_read model (written_as model) shown (all_shown 0 shown.directives rises can.plan.directives))
      ∙ ap (then_made_of (λ directives. Ok (with_loaded target directives))) written_loaded
