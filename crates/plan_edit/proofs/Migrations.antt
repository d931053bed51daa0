-- What a plan becomes in another model is a plan of that model.
use Rattle.std.proofs.Common.{◌≡◌, ℕ, zero, suc, pos, ◌+◌, ◌<◌, ◌&&◌, Bool, true, false, IsTrue, List, [], ◌∷◌, ◌++◌, append_assoc, Option, Some, None, option_map, Result, Ok, Err, length, map, drop, get_or, slice_get, slice_index_or, nat_eq, nat_lt, refl, sym, ap, subst, ◌∙◌, true≢false, eqb-true, eq-eqb, lt-ltb, arith, if◌then◌else◌}
use Rattle.std.proofs.lemmas.Option.{none-some, same_Some, get_or_from_slice_get}
use Rattle.std.specs.List.{list_all}
use Rattle.std.specs.Cmp.Lexicographic.{pointwise}
use Rattle.aerie_base.specs.declared.values.Kind.{Kind}
use Rattle.aerie_base.specs.declared.values.Kind.TheVariants as kind
use Rattle.aerie_base.specs.declared.values.Value.{Value}
use Rattle.aerie_base.specs.declared.values.Value.TheVariants.{Int, Truth, Variant}
use Rattle.aerie_base.specs.declared.models.EnumType.{EnumType}
use Rattle.aerie_base.specs.declared.models.Parameter.{Parameter}
use Rattle.aerie_base.specs.declared.models.Activity.{Activity}
use Rattle.aerie_base.specs.declared.models.model.Parts.{Parts}
use Rattle.aerie_base.specs.declared.plans.Anchor.{Anchor}
use Rattle.aerie_base.specs.declared.plans.Directive.{Directive}
use Rattle.aerie_base.specs.declared.plans.Plan.{Plan}
use Rattle.aerie_base.specs.models.Names.{same_name}
use Rattle.aerie_base.specs.models.Signatures.{parameter_kinds}
use Rattle.aerie_base.specs.models.Values.{is_value_of, variant_count, variants_of}
use Rattle.aerie_base.specs.plans.OfModel.{are_values_of, takes, anchored_to, is_there, is_directive_of, IsPlanOf}
use Rattle.aerie_base.specs.plans.RisingIds.{and_too, both}
use Rattle.std.proofs.lemmas.List.{length-map}
use Rattle.plan_edit.specs.declared.errors.MigrateError.{MigrateError}
use Rattle.plan_edit.specs.declared.mappings.Feed.{Feed}
use Rattle.plan_edit.specs.declared.mappings.Feed.TheVariants.{Old, Fixed}
use Rattle.plan_edit.specs.declared.mappings.TypeRule.{TypeRule}
use Rattle.plan_edit.specs.declared.mappings.Mapping.{Mapping}
use Rattle.plan_edit.specs.Mappings.{same_variants, may_feed, feeds_from, is_feed, are_feeds, is_rule_for, is_type_rule, IsMappingOf}
use Rattle.plan_edit.specs.Migrating.{retyped, mapped_argument, mapped_arguments, rule_of, retyped_directive, unless_misfit, requires_of, parameter_kinds_of, ruled, by_rule, migrated, all_migrated, with_migrated, migrate_of, is_feed_within}
use Rattle.plan_edit.specs.Answers.{put_in_front}
use Rattle.plan_edit.specs.Requires.{first_unmet}
use Rattle.plan_edit.proofs.Changes.{changed_plan, leads_same}
use Rattle.plan_edit.proofs.Fillings.{cut}
pub use Rattle.plan_edit.proofs.InTurn.{joined_on, joined_none, joined_more}
use Rattle.plan_edit.proofs.Trails.{acyclic_still}

-- ---- one behind another

module _ (new : Parts) (mapping : Mapping) where
  pub one_on : (all : List Directive) (directives : List Directive) (at : ℕ) (directive made : Directive) → at < length directives → directive ≡ get_or directives at directive →
      migrated new mapping directive ≡ Ok made →
      joined_on all (all_migrated new mapping (drop at directives)) ≡ joined_on (all ++ made ∷ []) (all_migrated new mapping (drop (at + 1) directives))
  one_on all directives at directive made within is h =
      ap (λ (left : List Directive). joined_on all (all_migrated new mapping left)) (cut directives at directive within is)
      ∙ ap (λ (m : Result Directive MigrateError). joined_on all (put_in_front m (all_migrated new mapping (drop (at + 1) directives)))) h
      ∙ joined_more all made (all_migrated new mapping (drop (at + 1) directives))

  pub stops_here : (all : List Directive) (directives : List Directive) (at : ℕ) (directive : Directive) (refusal : MigrateError) → at < length directives → directive ≡ get_or directives at directive →
      migrated new mapping directive ≡ Err refusal → joined_on all (all_migrated new mapping (drop at directives)) ≡ Err refusal
  stops_here all directives at directive refusal within is h =
      ap (λ (left : List Directive). joined_on all (all_migrated new mapping left)) (cut directives at directive within is)
      ∙ ap (λ (m : Result Directive MigrateError). joined_on all (put_in_front m (all_migrated new mapping (drop (at + 1) directives)))) h

-- ---- the rule for a type

pub rule_is : (old new : Parts) (rules : List TypeRule) (kind : ℕ) (rule : TypeRule) → IsTrue (list_all (is_type_rule old new) rules) → rule_of rules kind ≡ Some rule →
    IsTrue (is_type_rule old new rule) × (rule.old ≡ kind)
rule_is old new [] kind rule good h = absurd (none-some rule h)
rule_is old new (first ∷ rest) kind rule good h =
    let parts = both (is_type_rule old new first) (list_all (is_type_rule old new) rest) good in
    go (nat_eq first.old kind) refl parts.0 (rule_is old new rest kind rule parts.1) h
  where
    go : (t : Bool) → nat_eq first.old kind ≡ t → IsTrue (is_type_rule old new first) → (rule_of rest kind ≡ Some rule → IsTrue (is_type_rule old new rule) × (rule.old ≡ kind)) →
        (if t then Some first else rule_of rest kind) ≡ Some rule → IsTrue (is_type_rule old new rule) × (rule.old ≡ kind)
    go true e one others h = subst (λ (r : TypeRule). IsTrue (is_type_rule old new r) × (r.old ≡ kind)) (same_Some first rule h) (one, eqb-true first.old kind e)
    go false e one others h = others h

-- ---- what the parameters get

same_length : (names others : List (List ℕ)) → pointwise same_name names others ≡ true → length names ≡ length others
same_length [] [] h = refl
same_length [] (other ∷ others) h = absurd (true≢false (sym h))
same_length (name ∷ names) [] h = absurd (true≢false (sym h))
same_length (name ∷ names) (other ∷ others) h = ap suc (same_length names others (both (same_name name other) (pointwise same_name names others) h).1)

module _ (old new : List EnumType) where
  as_many_variants : (from to : Option EnumType) → same_variants from to ≡ true → variants_of from ≡ variants_of to
  as_many_variants None to h = absurd (true≢false (sym h))
  as_many_variants (Some from) None h = absurd (true≢false (sym h))
  as_many_variants (Some from) (Some to) h = same_length from.variants to.variants h

  wrong : {P : Type 0} (a b : Bool) → a ≡ false → IsTrue (a && b) → P
  wrong true b e h = absurd (true≢false e)
  wrong false b e h = absurd (true≢false (sym h))

  -- a value of the one type is a value of the other
  feed_value_good : (from to : Kind) (value : Value) → IsTrue (may_feed old new from to) → IsTrue (is_value_of old from value) → IsTrue (is_value_of new to (retyped to value))
  feed_value_good kind.Int kind.Int (Int number) may good = good
  feed_value_good kind.Int kind.Int (Truth truth) may good = absurd (true≢false (sym good))
  feed_value_good kind.Int kind.Int (Variant of number) may good = absurd (true≢false (sym good))
  feed_value_good kind.Int kind.Truth value may good = absurd (true≢false (sym may))
  feed_value_good kind.Int (kind.Enum to) value may good = absurd (true≢false (sym may))
  feed_value_good kind.Truth kind.Int value may good = absurd (true≢false (sym may))
  feed_value_good kind.Truth kind.Truth (Int number) may good = absurd (true≢false (sym good))
  feed_value_good kind.Truth kind.Truth (Truth truth) may good = refl
  feed_value_good kind.Truth kind.Truth (Variant of number) may good = absurd (true≢false (sym good))
  feed_value_good kind.Truth (kind.Enum to) value may good = absurd (true≢false (sym may))
  feed_value_good (kind.Enum from) kind.Int value may good = absurd (true≢false (sym may))
  feed_value_good (kind.Enum from) kind.Truth value may good = absurd (true≢false (sym may))
  feed_value_good (kind.Enum from) (kind.Enum to) (Int number) may good = absurd (true≢false (sym good))
  feed_value_good (kind.Enum from) (kind.Enum to) (Truth truth) may good = absurd (true≢false (sym good))
  feed_value_good (kind.Enum from) (kind.Enum to) (Variant of number) may good =
      let parts = both (nat_eq of from) (nat_lt number (variant_count old of)) good in
      let same : variant_count old of ≡ variant_count new to = ap (variant_count old) (eqb-true of from parts.0) ∙ as_many_variants (slice_get old from) (slice_get new to) may in
      and_too (nat_eq to to) (nat_lt number (variant_count new to)) (eq-eqb to to refl) (subst (λ (count : ℕ). IsTrue (nat_lt number count)) same parts.1)

  -- the argument at the position of a parameter is of its type
  value_at : (kinds : List Kind) (values : List Value) (position : ℕ) (kind : Kind) (other : Value) → IsTrue (are_values_of old kinds values) → slice_get kinds position ≡ Some kind →
      IsTrue (is_value_of old kind (slice_index_or values position other)) × (position < length values)
  value_at [] values position kind other good here = absurd (none-some kind here)
  value_at (first ∷ kinds) [] position kind other good here = absurd (true≢false (sym good))
  value_at (first ∷ kinds) (value ∷ values) zero kind other good here =
      let parts = both (is_value_of old first value) (are_values_of old kinds values) good in
      (subst (λ (k : Kind). IsTrue (is_value_of old k value)) (same_Some first kind here) parts.0, omega arith)
  value_at (first ∷ kinds) (value ∷ values) (suc position) kind other good here =
      let parts = both (is_value_of old first value) (are_values_of old kinds values) good in
      let one = value_at kinds values position kind other parts.1 here in
      (one.0, omega (arith, one.1))

  module _ (from : List Kind) (arguments : List Value) (good : IsTrue (are_values_of old from arguments)) where
    one_mapped : (to : Kind) (feed : Feed) → IsTrue (is_feed old new from to feed) → IsTrue (is_value_of new to (mapped_argument arguments to feed)) × IsTrue (is_feed_within (length arguments) feed)
    one_mapped to (Fixed value) is = (is, refl)
    one_mapped to (Old position) is = go (slice_get from position) refl is
      where
        go : (found : Option Kind) → slice_get from position ≡ found → IsTrue (feeds_from old new found to) → IsTrue (is_value_of new to (mapped_argument arguments to (Old position))) × IsTrue (is_feed_within (length arguments) (Old position))
        go None here is = absurd (true≢false (sym is))
        go (Some kind) here is =
            let one = value_at from arguments position kind (Int (pos 0)) good here in
            (feed_value_good kind to (slice_index_or arguments position (Int (pos 0))) is one.0, lt-ltb position (length arguments) one.1)

    pub all_good : (to : List Kind) (feeds : List Feed) → IsTrue (are_feeds old new from to feeds) → IsTrue (are_values_of new to (mapped_arguments arguments to feeds))
    all_good [] [] are = refl
    all_good [] (feed ∷ feeds) are = refl
    all_good (kind ∷ kinds) [] are = absurd (true≢false (sym are))
    all_good (kind ∷ kinds) (feed ∷ feeds) are =
        let parts = both (is_feed old new from kind feed) (are_feeds old new from kinds feeds) are in
        and_too (is_value_of new kind (mapped_argument arguments kind feed)) (are_values_of new kinds (mapped_arguments arguments kinds feeds)) (one_mapped kind feed parts.0).0 (all_good kinds feeds parts.1)

    pub all_within : (to : List Kind) (feeds : List Feed) → IsTrue (are_feeds old new from to feeds) → IsTrue (list_all (is_feed_within (length arguments)) feeds)
    all_within to [] are = refl
    all_within [] (feed ∷ feeds) are = absurd (true≢false (sym are))
    all_within (kind ∷ kinds) (feed ∷ feeds) are =
        let parts = both (is_feed old new from kind feed) (are_feeds old new from kinds feeds) are in
        and_too (is_feed_within (length arguments) feed) (list_all (is_feed_within (length arguments)) feeds) (one_mapped kind feed parts.0).1 (all_within kinds feeds parts.1)

  pub as_many_feeds : (from to : List Kind) (feeds : List Feed) → IsTrue (are_feeds old new from to feeds) → length feeds ≡ length to
  as_many_feeds from [] [] are = refl
  as_many_feeds from [] (feed ∷ feeds) are = absurd (true≢false (sym are))
  as_many_feeds from (kind ∷ kinds) [] are = absurd (true≢false (sym are))
  as_many_feeds from (kind ∷ kinds) (feed ∷ feeds) are = ap suc (as_many_feeds from kinds feeds (both (is_feed old new from kind feed) (are_feeds old new from kinds feeds) are).1)

-- ---- a rule, with the types that it is of

pub record AreRuled (old new : Parts) (rule : TypeRule) (arguments : List Value) : Type 0 where
  pub from : Activity
  pub to : Activity
  pub there : slice_get new.activities rule.new ≡ Some to
  pub feeds : IsTrue (are_feeds old.enums new.enums (parameter_kinds from) (parameter_kinds to) rule.feeds)
  pub good : IsTrue (are_values_of old.enums (parameter_kinds from) arguments)

pub are_ruled : (old new : Parts) (rule : TypeRule) (arguments : List Value) → IsTrue (is_type_rule old new rule) → IsTrue (takes old.enums (slice_get old.activities rule.old) arguments) → AreRuled old new rule arguments
are_ruled old new rule arguments is good = go (slice_get old.activities rule.old) (slice_get new.activities rule.new) refl is good
  where
    go : (from to : Option Activity) → slice_get new.activities rule.new ≡ to → IsTrue (is_rule_for old new rule.feeds from to) → IsTrue (takes old.enums from arguments) → AreRuled old new rule arguments
    go None to here is good = absurd (true≢false (sym is))
    go (Some from) None here is good = absurd (true≢false (sym is))
    go (Some from) (Some to) here is good = record { from = from; to = to; there = here; feeds = is; good = good }

-- what is known of a rule whose new type was read
pub record IsReady (new : Parts) (rule : TypeRule) (arguments : List Value) (activity : Activity) : Type 0 where
  pub count : length rule.feeds ≡ length activity.parameters
  pub within : IsTrue (list_all (is_feed_within (length arguments)) rule.feeds)
  pub good : IsTrue (are_values_of new.enums (parameter_kinds activity) (mapped_arguments arguments (parameter_kinds activity) rule.feeds))

pub is_ready : (old new : Parts) (rule : TypeRule) (kind : ℕ) (arguments : List Value) (activity : Activity) → IsTrue (is_type_rule old new rule) → rule.old ≡ kind →
    IsTrue (takes old.enums (slice_get old.activities kind) arguments) → slice_get new.activities rule.new ≡ Some activity → IsReady new rule arguments activity
is_ready old new rule kind arguments activity is of taken here =
    let all = are_ruled old new rule arguments is (subst (λ (k : ℕ). IsTrue (takes old.enums (slice_get old.activities k) arguments)) (sym of) taken) in
    subst (IsReady new rule arguments) (same_Some all.to activity (sym all.there ∙ here)) (record {
      count = as_many_feeds old.enums new.enums (parameter_kinds all.from) (parameter_kinds all.to) rule.feeds all.feeds ∙ length-map all.to.parameters (λ (parameter : Parameter). parameter.kind);
      within = all_within old.enums new.enums (parameter_kinds all.from) arguments all.good (parameter_kinds all.to) rule.feeds all.feeds;
      good = all_good old.enums new.enums (parameter_kinds all.from) arguments all.good (parameter_kinds all.to) rule.feeds all.feeds;
    })

-- the new type that was read
pub ready_there : (old new : Parts) (rule : TypeRule) (kind : ℕ) (arguments : List Value) (items : List Activity) (at : ℕ) (activity : Activity) → IsTrue (is_type_rule old new rule) → rule.old ≡ kind →
    IsTrue (takes old.enums (slice_get old.activities kind) arguments) → items ≡ new.activities → at ≡ rule.new → activity ≡ get_or items at activity → slice_get new.activities rule.new ≡ Some activity
ready_there old new rule kind arguments items at activity is of taken same position here =
    let all = are_ruled old new rule arguments is (subst (λ (k : ℕ). IsTrue (takes old.enums (slice_get old.activities k) arguments)) (sym of) taken) in
    all.there ∙ ap Some (sym (here ∙ ap (λ (xs : List Activity). get_or xs at activity) same ∙ ap (λ (n : ℕ). get_or new.activities n activity) position
    ∙ get_or_from_slice_get new.activities rule.new all.to activity all.there))

-- what a rule makes, by the values that were made
pub by_values : (new : Parts) (directive : Directive) (rule : TypeRule) (activity : Activity) (values : List Value) → slice_get new.activities rule.new ≡ Some activity →
    values ≡ mapped_arguments directive.arguments (parameter_kinds activity) rule.feeds →
    by_rule new directive (Some rule) ≡ unless_misfit directive.id (first_unmet 0 values activity.requires_) (retyped_directive directive rule.new values)
by_values new directive rule activity values here are =
    ap (λ (found : Option Activity). ruled directive rule.new found (mapped_arguments directive.arguments (parameter_kinds_of found) rule.feeds)) here
    ∙ ap (λ (vs : List Value). unless_misfit directive.id (first_unmet 0 vs activity.requires_) (retyped_directive directive rule.new vs)) (sym are)

-- ---- what directives become

abbrev made_or : Directive → Result Directive MigrateError → Directive
made_or directive (Ok made) = made
made_or directive (Err refusal) = directive

module _ (new : Parts) (mapping : Mapping) where
  -- what a directive becomes, or itself
  abbrev become : Directive → Directive
  become directive = made_or directive (migrated new mapping directive)

  kept : (directive : Directive) → ((become directive).id ≡ directive.id) × (((become directive).start ≡ directive.start) × ((become directive).anchor ≡ directive.anchor))
  kept directive = go (rule_of mapping.rules directive.kind)
    where
      met : (kind : ℕ) (values : List Value) (unmet : Option ℕ) →
          ((made_or directive (unless_misfit directive.id unmet (retyped_directive directive kind values))).id ≡ directive.id)
          × (((made_or directive (unless_misfit directive.id unmet (retyped_directive directive kind values))).start ≡ directive.start)
          × ((made_or directive (unless_misfit directive.id unmet (retyped_directive directive kind values))).anchor ≡ directive.anchor))
      met kind values None = (refl, (refl, refl))
      met kind values (Some number) = (refl, (refl, refl))

      go : (rule : Option TypeRule) → ((made_or directive (by_rule new directive rule)).id ≡ directive.id)
          × (((made_or directive (by_rule new directive rule)).start ≡ directive.start) × ((made_or directive (by_rule new directive rule)).anchor ≡ directive.anchor))
      go None = (refl, (refl, refl))
      go (Some rule) =
          met rule.new (mapped_arguments directive.arguments (parameter_kinds_of (slice_get new.activities rule.new)) rule.feeds)
          (requires_of (slice_get new.activities rule.new) (mapped_arguments directive.arguments (parameter_kinds_of (slice_get new.activities rule.new)) rule.feeds))

  all_become : (directives all : List Directive) → all_migrated new mapping directives ≡ Ok all → all ≡ map become directives
  all_become [] all h = cc
  all_become (first ∷ rest) all h = go (migrated new mapping first) (all_migrated new mapping rest) refl (all_become rest) h
    where
      go : (one : Result Directive MigrateError) (others : Result (List Directive) MigrateError) → all_migrated new mapping rest ≡ others →
          ((more : List Directive) → all_migrated new mapping rest ≡ Ok more → more ≡ map become rest) → put_in_front one others ≡ Ok all → all ≡ made_or first one ∷ map become rest
      go (Err refusal) others is more h = absurd (cc)
      go (Ok made) (Err refusal) is more h = absurd (cc)
      go (Ok made) (Ok last) is more h =
          let same : made ∷ last ≡ all = cc in
          sym same ∙ ap (λ (ds : List Directive). made ∷ ds) (more last is)

  each_becomes : (directives all : List Directive) → all_migrated new mapping directives ≡ Ok all → (at : ℕ) (directive : Directive) → slice_get directives at ≡ Some directive →
      migrated new mapping directive ≡ Ok (become directive)
  each_becomes [] all h at directive here = absurd (none-some directive here)
  each_becomes (first ∷ rest) all h at directive here = go (migrated new mapping first) refl (all_migrated new mapping rest) refl (each_becomes rest) h at here
    where
      go : (one : Result Directive MigrateError) → migrated new mapping first ≡ one → (others : Result (List Directive) MigrateError) → all_migrated new mapping rest ≡ others →
          ((more : List Directive) → all_migrated new mapping rest ≡ Ok more → (at : ℕ) (d : Directive) → slice_get rest at ≡ Some d → migrated new mapping d ≡ Ok (become d)) →
          put_in_front one others ≡ Ok all → (at : ℕ) → slice_get (first ∷ rest) at ≡ Some directive → migrated new mapping directive ≡ Ok (become directive)
      go (Err refusal) e others is more h at here = absurd (cc)
      go (Ok made) e (Err refusal) is more h at here = absurd (cc)
      go (Ok made) e (Ok last) is more h zero here =
          subst (λ (d : Directive). migrated new mapping d ≡ Ok (become d)) (same_Some first directive here) (e ∙ ap (λ (m : Result Directive MigrateError). Ok (made_or first m)) (sym e))
      go (Ok made) e (Ok last) is more h (suc at) here = more last is at directive here

module _ (old new : Parts) (mapping : Mapping) (good : IsMappingOf old new mapping) where
  takes_new : (directive made : Directive) → migrated new mapping directive ≡ Ok made → IsTrue (takes old.enums (slice_get old.activities directive.kind) directive.arguments) →
      IsTrue (takes new.enums (slice_get new.activities made.kind) made.arguments)
  takes_new directive made h taken = go (rule_of mapping.rules directive.kind) refl h
    where
      go : (rule : Option TypeRule) → rule_of mapping.rules directive.kind ≡ rule → by_rule new directive rule ≡ Ok made → IsTrue (takes new.enums (slice_get new.activities made.kind) made.arguments)
      go None is h = absurd (cc)
      go (Some rule) is h =
          let one = rule_is old new mapping.rules directive.kind rule good is in
          let both_are = are_ruled old new rule directive.arguments one.0 (subst (λ (k : ℕ). IsTrue (takes old.enums (slice_get old.activities k) directive.arguments)) (sym one.1) taken) in
          subst (λ (d : Directive). IsTrue (takes new.enums (slice_get new.activities d.kind) d.arguments))
          (met_so (requires_of (slice_get new.activities rule.new) (mapped_arguments directive.arguments (parameter_kinds_of (slice_get new.activities rule.new)) rule.feeds)) h)
          (subst (λ (found : Option Activity). IsTrue (takes new.enums found (mapped_arguments directive.arguments (parameter_kinds_of found) rule.feeds))) (sym both_are.there)
          (all_good old.enums new.enums (parameter_kinds both_are.from) directive.arguments both_are.good (parameter_kinds both_are.to) rule.feeds both_are.feeds))
        where
          met_so : (unmet : Option ℕ) →
              unless_misfit directive.id unmet (retyped_directive directive rule.new (mapped_arguments directive.arguments (parameter_kinds_of (slice_get new.activities rule.new)) rule.feeds)) ≡ Ok made →
              retyped_directive directive rule.new (mapped_arguments directive.arguments (parameter_kinds_of (slice_get new.activities rule.new)) rule.feeds) ≡ made
          met_so None h = cc
          met_so (Some number) h = absurd (cc)

  -- ---- what `migrate` does

  module _ (plan : Plan) (of : IsPlanOf old plan) (all : List Directive) (made : all_migrated new mapping plan.directives ≡ Ok all) where
    pub migrated_so : migrate_of new mapping plan ≡ Ok (record plan { model = mapping.to; directives = all })
    migrated_so = ap (with_migrated plan mapping.to) made

    each_good : (at : ℕ) (d : Directive) → slice_get plan.directives at ≡ Some d → IsTrue (is_directive_of old plan d) → IsTrue (is_directive_of new plan (become new mapping d))
    each_good at d here is =
        let parts = both (takes old.enums (slice_get old.activities d.kind) d.arguments && nat_lt d.start plan.duration) (is_there plan.directives (anchored_to d)) is in
        let own = both (takes old.enums (slice_get old.activities d.kind) d.arguments) (nat_lt d.start plan.duration) parts.0 in
        let e = become new mapping d in
        let keeps = kept new mapping d in
        and_too (takes new.enums (slice_get new.activities e.kind) e.arguments && nat_lt e.start plan.duration) (is_there plan.directives (anchored_to e))
        (and_too (takes new.enums (slice_get new.activities e.kind) e.arguments) (nat_lt e.start plan.duration)
        (takes_new d e (each_becomes new mapping plan.directives all made at d here) own.0)
        (subst (λ (start : ℕ). IsTrue (nat_lt start plan.duration)) (sym keeps.1.0) own.1))
        (subst (λ (anchor : Option Anchor). IsTrue (is_there plan.directives (option_map (λ anchor. anchor.to) anchor))) (sym keeps.1.1) parts.1)

    pub migrated_plan : IsPlanOf new (record plan { model = mapping.to; directives = all })
    migrated_plan =
        subst (λ (ds : List Directive). IsPlanOf new (record plan { model = mapping.to; directives = ds })) (sym (all_become new mapping plan.directives all made))
        (changed_plan old new mapping.to plan of (become new mapping) (λ d. (kept new mapping d).0) each_good
        (acyclic_still (map (become new mapping) plan.directives) plan.directives
        (λ from to h. sym (leads_same (become new mapping) (λ d. (kept new mapping d).0) (λ d. (kept new mapping d).1.1) plan.directives from) ∙ h) of.anchors))
