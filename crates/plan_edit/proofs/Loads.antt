-- What is loaded is a plan of the model.
use Rattle.std.proofs.Common.{◌≡◌, ℕ, zero, suc, ◌+◌, ◌^◌, ◌<◌, ◌≤◌, ◌&&◌, ◌||◌, not, Bool, true, false, IsTrue, List, [], ◌∷◌, ◌++◌, append_assoc, drop, get_or, Option, Some, None, is_some, option_map, unwrap_or, Result, Ok, Err, length, map, slice_get, nat_eq, nat_lt, refl, sym, ap, subst, ◌∙◌, true≢false, ltb-true, lt-ltb, eq-eqb, arith, if◌then◌else◌}
use Rattle.std.specs.List.{list_any, list_all}
use Rattle.std.specs.Result.{IfOk, OnOk}
use Rattle.aerie_base.specs.declared.models.model.Parts.{Parts}
use Rattle.aerie_base.specs.declared.plans.Anchor.{Anchor}
use Rattle.aerie_base.specs.declared.plans.Directive.{Directive}
use Rattle.aerie_base.specs.declared.plans.Plan.{Plan}
use Rattle.aerie_base.specs.models.ValidModel.{valid_model}
use Rattle.aerie_base.specs.plans.OfModel.{directive_limit, rise_to, ids_of, takes, anchored_to, is_there, is_directive_of, IsPlanOf, Rise, is_none_or, is_dangling}
use Rattle.aerie_base.specs.plans.RisingIds.{and_too, both, or_first}
use Rattle.plan_edit.specs.declared.errors.EditError.{EditError}
use Rattle.plan_edit.specs.declared.errors.EditError.TheVariants.{Cycle}
use Rattle.plan_edit.specs.declared.forms.WrittenDirective.{WrittenDirective}
use Rattle.plan_edit.specs.Answers.{IsMade, put_in_front}
use Rattle.plan_edit.specs.Editing.{given_of, is_outside}
use Rattle.plan_edit.specs.Loading.{position_in_text, is_past_room, is_id_of_one, loaded_directive, load_placed, load_one, load_all, anchor_to_new_id, anchored_to_new_id, has_cycle, unless_cycle, load_written, with_loaded}
use Rattle.plan_edit.proofs.Additions.{none_of_three, denied, neither, given_good}
use Rattle.plan_edit.proofs.Changes.{ids_same}
use Rattle.plan_edit.proofs.Fillings.{cut}
pub use Rattle.plan_edit.proofs.InTurn.{joined_on, joined_none, joined_more}
use Rattle.plan_edit.proofs.Given.{part_of}
use Rattle.plan_edit.proofs.Positions.{position_within}
use Rattle.plan_edit.proofs.Rounds.{no_cycle}

longer_by_one : (all : List Directive) (one : Directive) → length all + 1 ≡ length (all ++ one ∷ [])
longer_by_one [] one = refl
longer_by_one (first ∷ rest) one = let more = longer_by_one rest one in omega (arith, more)

module _ (model : Parts) (plan : Plan) (all : List WrittenDirective) where
  -- a directive more, with the number of those before it
  pub one_loaded_on : (directives : List Directive) (some : List WrittenDirective) (at : ℕ) (written : WrittenDirective) (made : Directive) → at < length some → written ≡ get_or some at written →
      load_one model plan all (length directives) written ≡ Ok made →
      joined_on directives (load_all model plan all (length directives) (drop at some))
      ≡ joined_on (directives ++ made ∷ []) (load_all model plan all (length (directives ++ made ∷ [])) (drop (at + 1) some))
  one_loaded_on directives some at written made within is h =
      ap (λ (left : List WrittenDirective). joined_on directives (load_all model plan all (length directives) left)) (cut some at written within is)
      ∙ ap (λ (m : Result Directive EditError). joined_on directives (put_in_front m (load_all model plan all (length directives + 1) (drop (at + 1) some)))) h
      ∙ joined_more directives made (load_all model plan all (length directives + 1) (drop (at + 1) some))
      ∙ ap (λ (n : ℕ). joined_on (directives ++ made ∷ []) (load_all model plan all n (drop (at + 1) some))) (longer_by_one directives made)

  pub load_stops : (directives : List Directive) (some : List WrittenDirective) (at : ℕ) (written : WrittenDirective) (refusal : EditError) → at < length some → written ≡ get_or some at written →
      load_one model plan all (length directives) written ≡ Err refusal → joined_on directives (load_all model plan all (length directives) (drop at some)) ≡ Err refusal
  load_stops directives some at written refusal within is h =
      ap (λ (left : List WrittenDirective). joined_on directives (load_all model plan all (length directives) left)) (cut some at written within is)
      ∙ ap (λ (m : Result Directive EditError). joined_on directives (put_in_front m (load_all model plan all (length directives + 1) (drop (at + 1) some)))) h

kept : (tied : Bool) → not tied ≡ false → tied ≡ true
kept = denied

module _ (model : Parts) (valid : IsTrue (valid_model model)) (plan : Plan) (all : List WrittenDirective) where
  -- what is known of a directive as it is loaded
  abbrev good_so_far : Directive → Bool
  good_so_far directive =
      takes model.enums (slice_get model.activities directive.kind) directive.arguments && nat_lt directive.start plan.duration && is_none_or (is_id_of_one all) (anchored_to directive)

  record IsLoaded (number : ℕ) (directive : Directive) : Type 0 where
    id : directive.id ≡ plan.next_id + number
    good : IsTrue (good_so_far directive)
    room : number < directive_limit
    next : plan.next_id + number < 4_294_967_295

  one_loaded : (number : ℕ) (written : WrittenDirective) (directive : Directive) → load_one model plan all number written ≡ Ok directive → IsLoaded number directive
  one_loaded number written directive h =
      let part = part_of (load_placed plan all written number) (given_of model written.kind written.arguments) directive h in
      let none = none_of_three (is_outside plan written.start) (is_past_room plan number) (is_dangling (is_id_of_one all) written.anchor) _ _ _ (Ok (loaded_directive plan written number part.0)) directive part.1.1 in
      let room = neither (nat_lt number directive_limit) (nat_lt (plan.next_id + number) 4_294_967_295) none.1.0 in
      let same : loaded_directive plan written number part.0 ≡ directive = cc none.1.1.1 in
      subst (IsLoaded number) same (record {
        id = refl;
        good = and_too (takes model.enums (slice_get model.activities part.0.kind) part.0.arguments && nat_lt written.start plan.duration) (is_none_or (is_id_of_one all) (option_map (λ anchor. anchor.to) written.anchor))
            (and_too (takes model.enums (slice_get model.activities part.0.kind) part.0.arguments) (nat_lt written.start plan.duration)
            (given_good model valid written.kind written.arguments part.0 part.1.0) (denied (nat_lt written.start plan.duration) none.0))
            (kept (is_none_or (is_id_of_one all) (option_map (λ anchor. anchor.to) written.anchor)) none.1.1.0);
        room = ltb-true number directive_limit room.0;
        next = ltb-true (plan.next_id + number) 4_294_967_295 room.1;
      })

  -- what is known of directives that are loaded from a number on
  pub record AreLoaded (number : ℕ) (directives : List Directive) : Type 0 where
    pub good : IsTrue (list_all good_so_far directives)
    pub room : 0 < length directives → number + length directives ≤ directive_limit
    pub next : 0 < length directives → plan.next_id + (number + length directives) ≤ 4_294_967_295
    pub rise : (before : ℕ) → before < plan.next_id + number → IsTrue (rise_to (plan.next_id + (number + length directives)) before (ids_of directives))
    pub there : (position : ℕ) → position < length directives → list_any (nat_eq (plan.next_id + (number + position))) (ids_of directives) ≡ true

  or_last : (a b : Bool) → b ≡ true → (a || b) ≡ true
  or_last true b h = refl
  or_last false b h = h

  no_more : (number : ℕ) → AreLoaded number []
  no_more number = record {
    good = refl;
    room = λ some. absurd (omega (arith, some));
    next = λ some. absurd (omega (arith, some));
    rise = λ before less. lt-ltb before (plan.next_id + (number + 0)) (omega (arith, less));
    there = λ position less. absurd (omega (arith, less));
  }

  one_more : (number : ℕ) (first : Directive) (rest : List Directive) → IsLoaded number first → AreLoaded (number + 1) rest → AreLoaded number (first ∷ rest)
  one_more number first rest one others = record {
    good = and_too (good_so_far first) (list_all good_so_far rest) one.good others.good;
    room = λ some. more_room number (length rest) directive_limit one.room others.room;
    next = λ some. more_next plan.next_id number (length rest) one.next others.next;
    rise = λ before less. and_too (nat_lt before first.id) (rise_to (plan.next_id + (number + suc (length rest))) first.id (ids_of rest))
        (lt-ltb before first.id (subst (λ (n : ℕ). before < n) (sym one.id) less))
        (subst (λ (n : ℕ). IsTrue (rise_to n first.id (ids_of rest))) (end plan.next_id number (length rest)) (others.rise first.id (above plan.next_id number first.id one.id)));
    there = found;
  }
    where
      more_room : (number count limit : ℕ) → number < limit → (0 < count → number + 1 + count ≤ limit) → number + suc count ≤ limit
      more_room number zero limit less others = omega (arith, less)
      more_room number (suc count) limit less others = let h = others (omega arith) in omega (arith, h)

      more_next : (first number count : ℕ) → first + number < 4_294_967_295 → (0 < count → first + (number + 1 + count) ≤ 4_294_967_295) → first + (number + suc count) ≤ 4_294_967_295
      more_next first number zero less others = omega (arith, less)
      more_next first number (suc count) less others = let h = others (omega arith) in omega (arith, h)

      end : (first number count : ℕ) → first + (number + 1 + count) ≡ first + (number + suc count)
      end first number count = omega arith

      above : (first number id : ℕ) → id ≡ first + number → id < first + (number + 1)
      above first number id is = omega (arith, is)

      at_first : (next number id : ℕ) → id ≡ next + number → next + (number + 0) ≡ id
      at_first next number id is = omega (arith, is)

      further : (next number position : ℕ) → next + (number + suc position) ≡ next + (number + 1 + position)
      further next number position = omega arith

      found : (position : ℕ) → position < suc (length rest) → (nat_eq (plan.next_id + (number + position)) first.id || list_any (nat_eq (plan.next_id + (number + position))) (ids_of rest)) ≡ true
      found zero less =
          or_first (nat_eq (plan.next_id + (number + 0)) first.id) (list_any (nat_eq (plan.next_id + (number + 0))) (ids_of rest)) (eq-eqb (plan.next_id + (number + 0)) first.id (at_first plan.next_id number first.id one.id))
      found (suc position) less =
          or_last (nat_eq (plan.next_id + (number + suc position)) first.id) (list_any (nat_eq (plan.next_id + (number + suc position))) (ids_of rest))
          (ap (λ (n : ℕ). list_any (nat_eq n) (ids_of rest)) (further plan.next_id number position) ∙ others.there position (omega (arith, less)))

  pub all_loaded : (number : ℕ) (written : List WrittenDirective) (directives : List Directive) → load_all model plan all number written ≡ Ok directives → AreLoaded number directives × (length directives ≡ length written)
  all_loaded number [] directives h =
      let same : [] ≡ directives = cc in
      subst (λ (ds : List Directive). AreLoaded number ds × (length ds ≡ 0)) same (no_more number, refl)
  all_loaded number (first ∷ rest) directives h =
      go (load_one model plan all number first) refl (load_all model plan all (number + 1) rest) refl (all_loaded (number + 1) rest) h
    where
      go : (one : Result Directive EditError) → load_one model plan all number first ≡ one → (others : Result (List Directive) EditError) → load_all model plan all (number + 1) rest ≡ others →
          ((ds : List Directive) → load_all model plan all (number + 1) rest ≡ Ok ds → AreLoaded (number + 1) ds × (length ds ≡ length rest)) →
          put_in_front one others ≡ Ok directives → AreLoaded number directives × (length directives ≡ suc (length rest))
      go (Err refusal) e others f more h = absurd (cc)
      go (Ok made) e (Err refusal) f more h = absurd (cc)
      go (Ok made) e (Ok last) f more h =
          let same : made ∷ last ≡ directives = cc in
          let rest_are = more last f in
          subst (λ (ds : List Directive). AreLoaded number ds × (length ds ≡ suc (length rest))) same
          (one_more number made last (one_loaded number first made e) rest_are.0, ap suc rest_are.1)

  -- ---- anchors to the new ids

  length_same : (directives : List Directive) → length (map (anchored_to_new_id plan.next_id all) directives) ≡ length directives
  length_same [] = refl
  length_same (first ∷ rest) = ap suc (length_same rest)

  tied_there : (directives : List Directive) → ((position : ℕ) → position < length all → list_any (nat_eq (plan.next_id + position)) (ids_of directives) ≡ true) → (anchor : Option Anchor) → IsTrue (is_none_or (is_id_of_one all) (option_map (λ anchor. anchor.to) anchor)) →
      IsTrue (is_there directives (option_map (λ anchor. anchor.to) (option_map (anchor_to_new_id plan.next_id all) anchor)))
  tied_there directives there None tied = refl
  tied_there directives there (Some anchor) tied = go (position_in_text all anchor.to) refl tied
    where
      go : (position : Option ℕ) → position_in_text all anchor.to ≡ position → is_some position ≡ true → list_any (nat_eq (plan.next_id + unwrap_or position 0)) (ids_of directives) ≡ true
      go None is some = absurd (true≢false (sym some))
      go (Some position) is some = there position (position_within all anchor.to position is)

  few : (count : ℕ) → (0 < count → 0 + count ≤ directive_limit) → count ≤ directive_limit
  few zero h = omega arith
  few (suc count) h = let k = h (omega arith) in omega (arith, k)

  -- what is loaded, before it is looked at for cycles
  module _ (directives : List Directive) (loaded : load_all model plan all 0 all ≡ Ok directives) where
    -- there is an id for each, and one more for the next
    pub ids_suffice : 0 < length directives → plan.next_id + length all < 4_294_967_296
    ids_suffice some =
        let are = all_loaded 0 all directives loaded in
        let sum = are.0.next some in
        omega (arith, sum, are.1)

    pub as_few : length (map (anchored_to_new_id plan.next_id all) directives) < 2 ^ 32
    as_few =
        let are = all_loaded 0 all directives loaded in
        let count = few (length directives) are.0.room in
        omega (arith, count, length_same directives)

    pub new_ids_rise : 1 ≤ plan.next_id → Rise (map (anchored_to_new_id plan.next_id all) directives)
    new_ids_rise some =
        let are = all_loaded 0 all directives loaded in
        let ids = ids_same (anchored_to_new_id plan.next_id all) (λ d. refl) directives in
        (plan.next_id + (0 + length directives), subst (λ (is : List ℕ). IsTrue (rise_to (plan.next_id + (0 + length directives)) 0 is)) (sym ids) (are.0.rise 0 (omega (arith, some))))

  module _ (of : IsPlanOf model plan) (directives : List Directive) (loaded : load_all model plan all 0 all ≡ Ok directives) (none : has_cycle (map (anchored_to_new_id plan.next_id all) directives) ≡ false) where
    abbrev anchored : List Directive
    anchored = map (anchored_to_new_id plan.next_id all) directives

    ids : ids_of (map (anchored_to_new_id plan.next_id all) directives) ≡ ids_of directives
    ids = ids_same (anchored_to_new_id plan.next_id all) (λ d. refl) directives

    are : AreLoaded 0 directives
    are = (all_loaded 0 all directives loaded).0

    count : length directives ≡ length all
    count = (all_loaded 0 all directives loaded).1

    there : (position : ℕ) → position < length all → list_any (nat_eq (plan.next_id + position)) (ids_of (map (anchored_to_new_id plan.next_id all) directives)) ≡ true
    there position less =
        ap (list_any (nat_eq (plan.next_id + position))) ids ∙ ap (λ (n : ℕ). list_any (nat_eq n) (ids_of directives)) (at plan.next_id position)
        ∙ are.there position (omega (arith, less, count))
      where
        at : (next position : ℕ) → next + position ≡ next + (0 + position)
        at next position = omega arith

    all_good : (some : List Directive) → IsTrue (list_all good_so_far some) → IsTrue (list_all (is_directive_of model (with_loaded plan (map (anchored_to_new_id plan.next_id all) directives))) (map (anchored_to_new_id plan.next_id all) some))
    all_good [] good = refl
    all_good (first ∷ rest) good =
        let parts = both (good_so_far first) (list_all good_so_far rest) good in
        let own = both (takes model.enums (slice_get model.activities first.kind) first.arguments && nat_lt first.start plan.duration) (is_none_or (is_id_of_one all) (anchored_to first)) parts.0 in
        and_too (is_directive_of model (with_loaded plan (map (anchored_to_new_id plan.next_id all) directives)) (anchored_to_new_id plan.next_id all first))
        (list_all (is_directive_of model (with_loaded plan (map (anchored_to_new_id plan.next_id all) directives))) (map (anchored_to_new_id plan.next_id all) rest))
        (and_too (takes model.enums (slice_get model.activities first.kind) first.arguments && nat_lt first.start plan.duration)
        (is_there (map (anchored_to_new_id plan.next_id all) directives) (anchored_to (anchored_to_new_id plan.next_id all first))) own.0
        (tied_there (map (anchored_to_new_id plan.next_id all) directives) there first.anchor own.1))
        (all_good rest parts.1)

    pub loaded_plan : IsPlanOf model (with_loaded plan (map (anchored_to_new_id plan.next_id all) directives))
    loaded_plan = record {
      duration = of.duration;
      count = let few_are = few (length directives) are.room in omega (arith, few_are, length_same directives);
      next_id = omega (arith, of.next_id);
      ids = subst (λ (is : List ℕ). IsTrue (rise_to (plan.next_id + length (map (anchored_to_new_id plan.next_id all) directives)) 0 is)) (sym ids)
          (subst (λ (n : ℕ). IsTrue (rise_to n 0 (ids_of directives))) (end plan.next_id (length directives) (length (map (anchored_to_new_id plan.next_id all) directives)) (length_same directives))
          (are.rise 0 (omega (arith, of.next_id))));
      directives = all_good directives are.good;
      anchors = no_cycle (map (anchored_to_new_id plan.next_id all) directives) none;
    }
      where
        end : (next count same : ℕ) → same ≡ count → next + (0 + count) ≡ next + same
        end next count same is = omega (arith, is)

  unless_none : (has : Bool) (directives made : List Directive) → (if has then Err Cycle else Ok directives) ≡ Ok made → (has ≡ false) × (directives ≡ made)
  unless_none true directives made h = absurd (cc)
  unless_none false directives made h = (refl, cc)

  -- ---- the directives that are written, as a whole

  module _ (of : IsPlanOf model plan) (made : List Directive) (loaded : load_written model plan all ≡ Ok made) where
    pub written_plan : IsPlanOf model (with_loaded plan made)
    written_plan =
        let part = part_of (λ directives. unless_cycle (map (anchored_to_new_id plan.next_id all) directives)) (load_all model plan all 0 all) made loaded in
        let anchored = unless_none (has_cycle (map (anchored_to_new_id plan.next_id all) part.0)) (map (anchored_to_new_id plan.next_id all) part.0) made part.1.1 in
        subst (λ (ds : List Directive). IsPlanOf model (with_loaded plan ds)) anchored.1 (loaded_plan of part.0 part.1.0 anchored.0)

    pub written_fit : 0 < length made → plan.next_id + length made ≤ 4_294_967_295
    written_fit some =
        let part = part_of (λ directives. unless_cycle (map (anchored_to_new_id plan.next_id all) directives)) (load_all model plan all 0 all) made loaded in
        let anchored = unless_none (has_cycle (map (anchored_to_new_id plan.next_id all) part.0)) (map (anchored_to_new_id plan.next_id all) part.0) made part.1.1 in
        let are = all_loaded 0 all part.0 part.1.0 in
        let same = ap length anchored.1 in
        let many = length_same part.0 in
        let sum = are.0.next (omega (arith, some, same, many)) in
        omega (arith, sum, same, many)

module _ (model : Parts) (plan : Plan) (of : IsPlanOf model plan) (all : List WrittenDirective) where
  pub made_plan : (result : Result (List Directive) EditError) → IsMade (load_written model plan all) result → OnOk result (IsTrue (valid_model model)) →
      IfOk result (λ directives. IsPlanOf model (with_loaded plan directives))
  made_plan (Ok directives) made valid = written_plan model valid plan all of directives made
  made_plan (Err refusal) made valid = tt

  pub made_fit : (result : Result (List Directive) EditError) → IsMade (load_written model plan all) result → OnOk result (IsTrue (valid_model model)) →
      IfOk result (λ directives. 0 < length directives → plan.next_id + length directives ≤ 4_294_967_295)
  made_fit (Ok directives) made valid = written_fit model valid plan all of directives made
  made_fit (Err refusal) made valid = tt
