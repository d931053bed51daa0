-- Merged into a target that changed nothing, the source's directives are those of the merged plan.
use Rattle.std.proofs.Common.{◌≡◌, ◌↔◌, ℕ, zero, suc, ◌+◌, ◌*◌, ◌||◌, ◌⊎◌, inl, inr, not, Bool, true, false, List, [], Option, Some, None, Ok, Err, option_map, option_and_then, is_some, map, slice_get, length, refl, sym, ap, subst, ◌∙◌, true≢false, if◌then◌else◌, arith}
use Rattle.std.proofs.lemmas.Option.{none-some, same_Some}
use Rattle.aerie_base.specs.declared.values.Value.{Value}
use Rattle.aerie_base.specs.declared.plans.Anchor.{Anchor}
use Rattle.aerie_base.specs.declared.plans.Directive.{Directive}
use Rattle.aerie_base.specs.declared.plans.Plan.{Plan}
use Rattle.aerie_base.specs.plans.OfModel.{ids_of, with_id, is_there, anchored_to, followed}
use Rattle.aerie_base.specs.plans.RisingIds.{found_by_id}
use Rattle.aerie_base.specs.plans.FoundById.{among, id_found}
use Rattle.plan_merge.specs.CycleLaws.{far_round, rounds, within_true}
use Rattle.plan_merge.specs.declared.answers.ConflictKind.TheVariants.{Anchor as Dangling, Both, Cycle, Removed}
use Rattle.plan_merge.specs.declared.answers.MergeError.TheVariants.{TooMany}
use Rattle.plan_merge.specs.Renaming.{has, new_id, with_new_id, renamed, renamed_if_new, is_new, added, first_new}
use Rattle.plan_merge.specs.Table.{same, row, IsSame}
use Rattle.plan_merge.specs.Merging.{becomes, source_with, clash_of, clashes, what_is_left, left_by, left_of_target, merged, conflicts_of, conflict_where, has_dangling_anchor, is_on_cycle, returns_within, unless, is_too_many, made, made_or_conflicts, merge_of, next_after}
use Rattle.plan_merge.specs.Plans.{AreMergeable}
use Rattle.plan_merge.specs.SourceOnly.{IsAmong, GivesTheSource}
use Rattle.plan_merge.proofs.Rising.{kept_id, merged_rise}
use Rattle.plan_merge.proofs.Same.{decides_same}
use Rattle.plan_merge.proofs.Nothing.{gives_none, each_passes, same_as_itself}
use Rattle.plan_merge.specs.MemberLaws.{id_among, in_map, from_map, in_some, from_some, in_front, in_back, from_either}

-- directives of one id and equal parts are equal
equal : (d x : Directive) → x.id ≡ d.id → IsSame x d → d ≡ x
equal d x id parts =
    ap (λ (i : ℕ). the i d.start d.anchor d.kind d.arguments) (sym id)
    ∙ ap (λ (s : ℕ). the x.id s d.anchor d.kind d.arguments) (sym parts.1.1.0)
    ∙ ap (λ (a : Option Anchor). the x.id x.start a d.kind d.arguments) (sym parts.1.1.1)
    ∙ ap (λ (k : ℕ). the x.id x.start x.anchor k d.arguments) (sym parts.0)
    ∙ ap (λ (values : List Value). the x.id x.start x.anchor x.kind values) (sym parts.1.0)
  where
    the : ℕ → ℕ → Option Anchor → ℕ → List Value → Directive
    the i s a k values = record { id = i; start = s; anchor = a; kind = k; arguments = values }

module _ (base source : Plan) (order : AreMergeable base source base) where
  abbrev new : ℕ → ℕ
  new = new_id base.directives (first_new base base) source.directives

  abbrev result : List Directive
  result = merged base source base

  -- ---- there is no clash

  row_source : (d x : Directive) → x.id ≡ d.id → row d (Some x) (Some d) ≡ Ok (Some x)
  row_source d x id = go (same x d) refl (same d d) (same_as_itself d)
    where
      go : (t : Bool) → same x d ≡ t → (u : Bool) → u ≡ true → (if (t || t) then Ok (Some d) else if u then Ok (Some x) else Err Both) ≡ Ok (Some x)
      go true is u self = ap (λ (z : Directive). Ok (Some z)) (equal d x id ((decides_same x d).0 is))
      go false is true self = refl
      go false is false self = absurd (true≢false (sym self))

  -- what becomes of a directive of the base is what the source has
  becomes_source : (d : Directive) → with_id base.directives d.id ≡ Some d → becomes base source base d ≡ Ok (source_with base source base d.id)
  becomes_source d here = ap (row d (source_with base source base d.id)) here ∙ go (with_id source.directives d.id) refl
    where
      go : (o : Option Directive) → with_id source.directives d.id ≡ o → row d (option_map (renamed base source base) o) (Some d) ≡ Ok (option_map (renamed base source base) o)
      go None none = ap (λ (t : Bool). if t then Ok None else Err Removed) (same_as_itself d)
      go (Some x) is =
          let id = id_found source.directives d.id x is in
          row_source d (renamed base source base x) (kept_id base.directives (first_new base base) source.directives x.id (ap (has base.directives) id ∙ ap is_some here) ∙ id)

  no_clash : clashes base source base ≡ []
  no_clash = gives_none (λ (d : Directive). clash_of d.id (becomes base source base d)) base.directives
      (λ at d here. ap (clash_of d.id) (becomes_source d (found_by_id base.next_id 0 base.directives at d order.base.ids here)))

  -- ---- the merged directives are the source's

  left_is : (at : ℕ) (d : Directive) → slice_get base.directives at ≡ Some d → left_by base source base d (with_id base.directives d.id) ≡ source_with base source base d.id
  left_is at d here =
      let there = found_by_id base.next_id 0 base.directives at d order.base.ids here in
      ap (left_by base source base d) there ∙ ap what_is_left (becomes_source d there)

  comes : (at : ℕ) (x : Directive) → slice_get source.directives at ≡ Some x → IsAmong result (renamed base source base x)
  comes at x here = go (with_id base.directives x.id) refl
    where
      go : (o : Option Directive) → with_id base.directives x.id ≡ o → IsAmong result (renamed base source base x)
      go None none =
          in_back (left_of_target base source base) (added base source base) (renamed base source base x)
          (in_some (renamed_if_new base source base) source.directives at x (renamed base source base x) here
          (ap (λ (o : Option Directive). if not (is_some o) then Some (renamed base source base x) else None) none))
      go (Some d) is =
          let one = id_among base.directives x.id d is in
          let id = id_found base.directives x.id d is in
          let gives = left_is one.0 d one.1 ∙ ap (source_with base source base) id ∙ ap (option_map (renamed base source base)) (found_by_id source.next_id 0 source.directives at x order.source.ids here) in
          let there = in_some (λ (d : Directive). left_by base source base d (with_id base.directives d.id)) base.directives one.0 d (renamed base source base x) one.1 gives in
          (there.0, in_front (left_of_target base source base) (added base source base) there.0 (renamed base source base x) there.1)

  -- it is a directive of the source, renamed
  abbrev IsOfSource : Directive → Type 0
  IsOfSource m = (x : Directive) × (IsAmong source.directives x × (renamed base source base x ≡ m))

  origin : (at : ℕ) (m : Directive) → slice_get result at ≡ Some m → IsOfSource m
  origin at m here = go (from_either (left_of_target base source base) (added base source base) at m here)
    where
      of_source : (id : ℕ) (o : Option Directive) → with_id source.directives id ≡ o → option_map (renamed base source base) o ≡ Some m → IsOfSource m
      of_source id None none h = absurd (none-some m h)
      of_source id (Some x) is h = (x, (id_among source.directives id x is, same_Some (renamed base source base x) m h))

      of_new : (x : Directive) (t : Bool) → (if t then Some (renamed base source base x) else None) ≡ Some m → renamed base source base x ≡ m
      of_new x true h = same_Some (renamed base source base x) m h
      of_new x false h = absurd (none-some m h)

      go : IsAmong (left_of_target base source base) m ⊎ IsAmong (added base source base) m → IsOfSource m
      go (inl one) =
          let of = from_some (λ (d : Directive). left_by base source base d (with_id base.directives d.id)) base.directives one.0 m one.1 in
          of_source of.1.0.id (with_id source.directives of.1.0.id) refl (sym (left_is of.0 of.1.0 of.1.1.0) ∙ of.1.1.1)
      go (inr one) =
          let of = from_some (renamed_if_new base source base) source.directives one.0 m one.1 in
          (of.1.0, ((of.0, of.1.1.0), of_new of.1.0 (is_new base of.1.0) of.1.1.1))

  -- ---- anchors

  -- a directive of the source is found among the merged ones by its new id
  found : (at : ℕ) (x : Directive) → slice_get source.directives at ≡ Some x → with_id result (new x.id) ≡ Some (renamed base source base x)
  found at x here =
      let one = comes at x here in
      found_by_id (next_after base base (length (added base source base))) 0 result one.0 (renamed base source base x) (merged_rise base source base order.target.ids order.source.ids) one.1

  -- the directive of the source to which one is anchored
  anchored : (at : ℕ) (x : Directive) (a : Anchor) → slice_get source.directives at ≡ Some x → x.anchor ≡ Some a →
      (y : Directive) × (IsAmong source.directives y × (y.id ≡ a.to))
  anchored at x a here is = go (with_id source.directives a.to) refl
    where
      there : has source.directives a.to ≡ true
      there =
          among source.directives a.to
          ∙ sym (ap (λ (o : Option Anchor). is_there source.directives (option_map (λ (anchor : Anchor). anchor.to) o)) is)
          ∙ each_passes (λ (d : Directive). is_there source.directives (anchored_to d)) source.directives order.source.anchors at x here

      go : (o : Option Directive) → with_id source.directives a.to ≡ o → (y : Directive) × (IsAmong source.directives y × (y.id ≡ a.to))
      go None none = absurd (true≢false (sym there ∙ ap is_some none))
      go (Some y) found_it = (y, (id_among source.directives a.to y found_it, id_found source.directives a.to y found_it))

  keeps_anchor : (at : ℕ) (x : Directive) → slice_get source.directives at ≡ Some x → is_there result (anchored_to (renamed base source base x)) ≡ true
  keeps_anchor at x here = go x.anchor refl
    where
      go : (a : Option Anchor) → x.anchor ≡ a → is_there result (option_map (λ (anchor : Anchor). anchor.to) (option_map (with_new_id new) a)) ≡ true
      go None is = refl
      go (Some a) is =
          let one = anchored at x a here is in
          sym (among result (new a.to))
          ∙ ap is_some (ap (λ (i : ℕ). with_id result (new i)) (sym one.1.1) ∙ found one.1.0.0 one.0 one.1.0.1)

  none_dangles : conflicts_of Dangling (has_dangling_anchor result) result ≡ []
  none_dangles = gives_none (λ (m : Directive). conflict_where Dangling m.id (has_dangling_anchor result m)) result
      (λ at m here. ap (λ (t : Bool). conflict_where Dangling m.id (not t)) (each m (origin at m here)))
    where
      each : (m : Directive) → IsOfSource m → is_there result (anchored_to m) ≡ true
      each m of = ap (λ (m : Directive). is_there result (anchored_to m)) (sym of.1.1) ∙ keeps_anchor of.1.0.0 of.0 of.1.0.1

  -- anchors lead among the merged directives as they do among the source's
  follows : (steps at : ℕ) (x : Directive) → slice_get source.directives at ≡ Some x → followed result steps (new x.id) ≡ option_map new (followed source.directives steps x.id)
  follows zero at x here = refl
  follows (suc steps) at x here =
      ap (λ (o : Option Directive). option_and_then (followed result steps) (option_and_then anchored_to o)) (found at x here)
      ∙ go (follows steps) x.anchor refl
      ∙ sym (ap (λ (o : Option Directive). option_map new (option_and_then (followed source.directives steps) (option_and_then anchored_to o)))
      (found_by_id source.next_id 0 source.directives at x order.source.ids here))
    where
      go : ((at : ℕ) (y : Directive) → slice_get source.directives at ≡ Some y → followed result steps (new y.id) ≡ option_map new (followed source.directives steps y.id)) →
          (a : Option Anchor) → x.anchor ≡ a →
          option_and_then (followed result steps) (option_map (λ (anchor : Anchor). anchor.to) (option_map (with_new_id new) a)) ≡
          option_map new (option_and_then (followed source.directives steps) (option_map (λ (anchor : Anchor). anchor.to) a))
      go others None is = refl
      go others (Some a) is =
          let one = anchored at x a here is in
          ap (λ (i : ℕ). followed result steps (new i)) (sym one.1.1) ∙ others one.1.0.0 one.0 one.1.0.1
          ∙ ap (λ (i : ℕ). option_map new (followed source.directives steps i)) one.1.1

  -- round a cycle, anchors of the source would lead further than there are directives
  never_returns : (at : ℕ) (x : Directive) → slice_get source.directives at ≡ Some x → (steps : ℕ) → followed result (suc steps) (new x.id) ≡ Some (new x.id) → ⊥
  never_returns at x here steps round =
      go (followed source.directives (suc (length source.directives) * suc steps) x.id) refl
      (sym (follows (suc (length source.directives) * suc steps) at x here) ∙ rounds result steps (new x.id) (suc (length source.directives)) round)
    where
      split : (m n : ℕ) → m + m * n ≡ m * suc n
      split m n = grind arith

      go : (o : Option ℕ) → followed source.directives (suc (length source.directives) * suc steps) x.id ≡ o → option_map new o ≡ Some (new x.id) → ⊥
      go None far h = none-some (new x.id) h
      go (Some id) far h =
          let back = far_round source.directives (suc (length source.directives) * steps) x.id id
          (ap (λ (n : ℕ). followed source.directives n x.id) (split (suc (length source.directives)) steps) ∙ far) in
          order.source.acyclic id back.0 back.1.1

  no_cycle : conflicts_of Cycle (is_on_cycle result) result ≡ []
  no_cycle = gives_none (λ (m : Directive). conflict_where Cycle m.id (is_on_cycle result m)) result
      (λ at m here. ap (conflict_where Cycle m.id) (each m (origin at m here)))
    where
      of_new : (x : Directive) → IsAmong source.directives x → (t : Bool) → returns_within result (new x.id) (length result) ≡ t → returns_within result (new x.id) (length result) ≡ false
      of_new x one true h = let round = within_true result (new x.id) (length result) h in absurd (never_returns one.0 x one.1 round.0 round.1)
      of_new x one false h = h

      each : (m : Directive) → IsOfSource m → returns_within result m.id (length result) ≡ false
      each m of =
          ap (λ (m : Directive). returns_within result m.id (length result)) (sym of.1.1)
          ∙ of_new of.0 of.1.0 (returns_within result (new of.0.id) (length result)) refl

  -- ---- the answer

  exactly : (m : Directive) → IsAmong result m ↔ IsAmong (map (renamed base source base) source.directives) m
  exactly m = (there, back)
    where
      there : IsAmong result m → IsAmong (map (renamed base source base) source.directives) m
      there one =
          let of = origin one.0 m one.1 in
          (of.1.0.0, in_map (renamed base source base) source.directives of.1.0.0 of.0 of.1.0.1 ∙ ap Some of.1.1)

      back : IsAmong (map (renamed base source base) source.directives) m → IsAmong result m
      back one =
          let of = from_map (renamed base source base) source.directives one.0 m one.1 in
          subst (IsAmong result) of.1.1 (comes one.0 of.0 of.1.0)

  pub given : GivesTheSource base source base (merge_of base source base)
  given = subst (GivesTheSource base source base) (sym answer) (of_made (is_too_many (length result) next))
    where
      next : ℕ
      next = next_after base base (length (added base source base))

      answer : merge_of base source base ≡ made base next result (added base source base)
      answer =
          ap (λ cs. unless cs (made_or_conflicts base next result (added base source base))) no_clash
          ∙ ap (λ cs. unless cs (unless (conflicts_of Cycle (is_on_cycle result) result) (made base next result (added base source base)))) none_dangles
          ∙ ap (λ cs. unless cs (made base next result (added base source base))) no_cycle

      of_made : (t : Bool) → GivesTheSource base source base
          (if t then Err TooMany else Ok (record { plan = record base { next_id = next; directives = result }; added = ids_of (added base source base) }))
      of_made true = tt
      of_made false = exactly
