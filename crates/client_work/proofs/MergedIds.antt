-- No id of the target is used again by a merge.
use Rattle.std.proofs.Common.{◌≡◌, ◌⊎◌, inl, inr, ℕ, zero, suc, ◌≤◌, Bool, true, false, not, ◌||◌, List, [], ◌∷◌, filter_map, is_some, length, nat_eq, nat_lt, option_map, Option, Some, None, Result, Ok, Err, refl, sym, ap, ◌∙◌, arith, subst, eqb-true, true≢false, if◌then◌else◌}
use Rattle.std.specs.List.{cons_option}
use Rattle.std.proofs.lemmas.Bool.{eq-eqb, ltb-false}
use Rattle.std.proofs.lemmas.Option.{none-some, same_Some}
use Rattle.aerie_base.specs.declared.plans.Directive.{Directive}
use Rattle.aerie_base.specs.declared.plans.Plan.{Plan}
use Rattle.aerie_base.specs.plans.OfModel.{ids_of, with_id}
use Rattle.run_data.specs.laws.Orders.{EachOf}
use Rattle.plan_merge.specs.declared.answers.Conflict.{Conflict}
use Rattle.plan_merge.specs.declared.answers.ConflictKind.TheVariants.{Anchor, Both, Cycle, Removed}
use Rattle.plan_merge.specs.declared.answers.Merged.{Merged}
use Rattle.plan_merge.specs.declared.answers.MergeError.{MergeError}
use Rattle.plan_merge.specs.declared.answers.MergeError.TheVariants.{TooMany}
use Rattle.plan_merge.specs.Merging.{clashes, conflicts_of, has_dangling_anchor, is_on_cycle, is_too_many, left_by, left_of_target, made, made_or_conflicts, merge_of, merged, next_after, source_with, unless, what_is_left}
use Rattle.plan_merge.specs.Renaming.{added, first_new, has, new_id, renamed, renamed_if_new}
use Rattle.plan_merge.specs.Table.{row, same}
use Rattle.client_work.specs.Meanings.{are_of_one_model, merged_plan, plan_if_merged}
use Rattle.client_work.proofs.EditedIds.{GoesOn, IsAmong, among_both, ids_both, least_among}

-- ---- a directive by its id

found_id : (directives : List Directive) (id : ℕ) (found : Directive) → with_id directives id ≡ Some found → (found.id ≡ id) × IsAmong (ids_of directives) id
found_id [] id found e = absurd (none-some found e)
found_id (first ∷ rest) id found e = by (nat_eq first.id id) refl e (found_id rest id found)
  where
    by : (here : Bool) → nat_eq first.id id ≡ here → (if here then Some first else with_id rest id) ≡ Some found →
        (with_id rest id ≡ Some found → (found.id ≡ id) × IsAmong (ids_of rest) id) → (found.id ≡ id) × ((first.id ≡ id) ⊎ IsAmong (ids_of rest) id)
    by true same e others = let is = eqb-true first.id id same in (ap (λ (d : Directive). d.id) (sym (same_Some first found e)) ∙ is, inl is)
    by false same e others = let other = others e in (other.0, inr other.1)

-- ---- the ids that the source's directives get

-- one of the base's directives keeps its id
kept_id : (base : List Directive) (next : ℕ) (source : List Directive) (id : ℕ) → has base id ≡ true → new_id base next source id ≡ id
kept_id base next [] id there = refl
kept_id base next (first ∷ rest) id there =
    by (nat_eq first.id id) (kept_id base (if has base first.id then next else suc next) rest id there)
  where
    by : (here : Bool) → new_id base (if has base first.id then next else suc next) rest id ≡ id →
        (if here then (if has base id then id else next) else new_id base (if has base first.id then next else suc next) rest id) ≡ id
    by true others = ap (λ (t : Bool). if t then id else next) there
    by false others = others

-- a new one gets one of the new ids
fresh_id : (base : List Directive) (next least : ℕ) (source : List Directive) (id : ℕ) → least ≤ next → has base id ≡ false → IsAmong (ids_of source) id → least ≤ new_id base next source id
fresh_id base next least [] id above new is = absurd is
fresh_id base next least (first ∷ rest) id above new is =
    by (nat_eq first.id id) refl is
    (fresh_id base (if has base first.id then next else suc next) least rest id (later (has base first.id)) new)
  where
    later : (known : Bool) → least ≤ (if known then next else suc next)
    later true = above
    later false = omega (arith, above)

    by : (here : Bool) → nat_eq first.id id ≡ here → (first.id ≡ id) ⊎ IsAmong (ids_of rest) id →
        (IsAmong (ids_of rest) id → least ≤ new_id base (if has base first.id then next else suc next) rest id) →
        least ≤ (if here then (if has base id then id else next) else new_id base (if has base first.id then next else suc next) rest id)
    by true same among others = subst (λ (t : Bool). least ≤ (if t then id else next)) (sym new) above
    by false same (inl is) others = absurd (true≢false (sym (eq-eqb first.id id is) ∙ same))
    by false same (inr is) others = others is

module _ (base source target : Plan) where
  -- the first new id is not below the target's next id
  first_above : target.next_id ≤ first_new base target
  first_above = by (nat_lt base.next_id target.next_id) refl
    where
      by : (less : Bool) → nat_lt base.next_id target.next_id ≡ less → target.next_id ≤ (if less then target.next_id else base.next_id)
      by true e = omega arith
      by false e = ltb-false base.next_id target.next_id e

  -- ---- what is added

  added_above : (rest : List Directive) → ((id : ℕ) → IsAmong (ids_of rest) id → IsAmong (ids_of source.directives) id) →
      EachOf (λ (directive : Directive). target.next_id ≤ directive.id) (filter_map (renamed_if_new base source target) rest)
  added_above [] within = tt
  added_above (directive ∷ rest) within =
      by (has base.directives directive.id) refl (added_above rest (λ id is. within id (inr is)))
    where
      by : (known : Bool) → has base.directives directive.id ≡ known →
          EachOf (λ (directive : Directive). target.next_id ≤ directive.id) (filter_map (renamed_if_new base source target) rest) →
          EachOf (λ (directive : Directive). target.next_id ≤ directive.id)
          (cons_option (if not known then Some (renamed base source target directive) else None) (filter_map (renamed_if_new base source target) rest))
      by true e others = others
      by false e others = (fresh_id base.directives (first_new base target) target.next_id source.directives directive.id first_above e (within directive.id (inl refl)), others)

  -- ---- what is left

  abbrev IsLeft : Option Directive → Type 0
  IsLeft None = Unit {0}
  IsLeft (Some directive) = IsAmong (ids_of target.directives) directive.id

  -- it has the id of one of the target's
  row_left : (of_base : Directive) (of_source of_target : Option Directive) → source_with base source target of_base.id ≡ of_source → with_id target.directives of_base.id ≡ of_target →
      has base.directives of_base.id ≡ true → IsLeft (what_is_left (row of_base of_source of_target))
  row_left of_base None None s t known = tt
  row_left of_base None (Some other) s t known = by (same other of_base)
    where
      by : (alike : Bool) → IsLeft (what_is_left (if alike then Ok None else Err Removed))
      by true = tt
      by false = tt
  row_left of_base (Some one) None s t known = by (same one of_base)
    where
      by : (alike : Bool) → IsLeft (what_is_left (if alike then Ok None else Err Removed))
      by true = tt
      by false = tt
  row_left of_base (Some one) (Some other) s t known = by (same one of_base || same one other) (same other of_base)
    where
      there : (other.id ≡ of_base.id) × IsAmong (ids_of target.directives) of_base.id
      there = found_id target.directives of_base.id other t

      own : one.id ≡ of_base.id
      own = from (with_id source.directives of_base.id) refl s
        where
          from : (found : Option Directive) → with_id source.directives of_base.id ≡ found → option_map (renamed base source target) found ≡ Some one → one.id ≡ of_base.id
          from None f e = absurd (none-some one e)
          from (Some plain) f e =
              ap (λ (d : Directive). d.id) (sym (same_Some (renamed base source target plain) one e))
              ∙ ap (new_id base.directives (first_new base target) source.directives) (found_id source.directives of_base.id plain f).0
              ∙ kept_id base.directives (first_new base target) source.directives of_base.id known

      by : (taken untouched : Bool) → IsLeft (what_is_left (if taken then Ok (Some other) else if untouched then Ok (Some one) else Err Both))
      by true untouched = subst (IsAmong (ids_of target.directives)) (sym there.0) there.1
      by false true = subst (IsAmong (ids_of target.directives)) (sym own) there.1
      by false false = tt

  one_left : (directive : Directive) → IsAmong (ids_of target.directives) directive.id → IsLeft (left_by base source target directive (with_id base.directives directive.id))
  one_left directive is = by (with_id base.directives directive.id) refl
    where
      by : (found : Option Directive) → with_id base.directives directive.id ≡ found → IsLeft (left_by base source target directive found)
      by None f = is
      by (Some of_base) f =
          let same_id = (found_id base.directives directive.id of_base f).0 in
          row_left of_base (source_with base source target of_base.id) (with_id target.directives of_base.id) refl refl
          (ap (λ (id : ℕ). is_some (with_id base.directives id)) same_id ∙ ap is_some f)

  abbrev left_one : Directive → Option Directive
  left_one directive = left_by base source target directive (with_id base.directives directive.id)

  all_left : (rest : List Directive) → ((id : ℕ) → IsAmong (ids_of rest) id → IsAmong (ids_of target.directives) id) →
      (id : ℕ) → IsAmong (ids_of (filter_map left_one rest)) id → IsAmong (ids_of target.directives) id
  all_left [] within id is = absurd is
  all_left (directive ∷ rest) within id is =
      by (left_one directive) (one_left directive (within directive.id (inl refl))) is (all_left rest (λ other is. within other (inr is)) id)
    where
      by : (left : Option Directive) → IsLeft left → IsAmong (ids_of (cons_option left (filter_map left_one rest))) id →
          (IsAmong (ids_of (filter_map left_one rest)) id → IsAmong (ids_of target.directives) id) → IsAmong (ids_of target.directives) id
      by None there is others = others is
      by (Some one) there (inl same) others = subst (IsAmong (ids_of target.directives)) same there
      by (Some one) there (inr is) others = others is

  -- ---- the merged plan

  merged_ids : (id : ℕ) → IsAmong (ids_of (merged base source target)) id → IsAmong (ids_of target.directives) id ⊎ (target.next_id ≤ id)
  merged_ids id is =
      by (among_both (ids_of (left_of_target base source target)) (ids_of (added base source target)) id
      (subst (λ (ids : List ℕ). IsAmong ids id) (ids_both (left_of_target base source target) (added base source target)) is))
    where
      by : IsAmong (ids_of (left_of_target base source target)) id ⊎ IsAmong (ids_of (added base source target)) id → IsAmong (ids_of target.directives) id ⊎ (target.next_id ≤ id)
      by (inl old) = inl (all_left target.directives (λ other is. is) id old)
      by (inr new) = inr (least_among target.next_id (added base source target) id (added_above source.directives (λ other is. is)) new)

  -- where there is a merged plan, it goes on from the target
  abbrev GoesOnIf : Option Plan → Type 0
  GoesOnIf None = Unit {0}
  GoesOnIf (Some plan) = GoesOn target plan

  next_above : (count : ℕ) → target.next_id ≤ next_after base target count
  next_above zero = omega arith
  next_above (suc more) = let above = first_above in omega (arith, above)

  made_goes : (next_id : ℕ) → target.next_id ≤ next_id → GoesOnIf (plan_if_merged (made target next_id (merged base source target) (added base source target)))
  made_goes next_id above = by (is_too_many (length (merged base source target)) next_id)
    where
      by : (many : Bool) → GoesOnIf (plan_if_merged (if many then Err TooMany
          else Ok (record { plan = record target { next_id = next_id; directives = merged base source target }; added = ids_of (added base source target) })))
      by true = tt
      by false = record { next_id = above; ids = merged_ids }

  unless_goes : (conflicts : List Conflict) (answer : Result Merged MergeError) → GoesOnIf (plan_if_merged answer) → GoesOnIf (plan_if_merged (unless conflicts answer))
  unless_goes [] answer goes = goes
  unless_goes (conflict ∷ rest) answer goes = tt

  made_or_goes : (next_id : ℕ) → target.next_id ≤ next_id → GoesOnIf (plan_if_merged (made_or_conflicts target next_id (merged base source target) (added base source target)))
  made_or_goes next_id above =
      let directives = merged base source target in
      let answer = made target next_id directives (added base source target) in
      unless_goes (conflicts_of Anchor (has_dangling_anchor directives) directives) (unless (conflicts_of Cycle (is_on_cycle directives) directives) answer)
      (unless_goes (conflicts_of Cycle (is_on_cycle directives) directives) answer (made_goes next_id above))

  merge_goes : GoesOnIf (merged_plan base source target)
  merge_goes = by (are_of_one_model base source target)
    where
      by : (one : Bool) → GoesOnIf (if one then plan_if_merged (merge_of base source target) else None)
      by false = tt
      by true =
          let next = next_after base target (length (added base source target)) in
          unless_goes (clashes base source target) (made_or_conflicts target next (merged base source target) (added base source target))
          (made_or_goes next (next_above (length (added base source target))))

  pub merged_goes : (plan : Plan) → merged_plan base source target ≡ Some plan → GoesOn target plan
  merged_goes plan e = subst GoesOnIf e merge_goes
