-- The directives that differ join, one after another.
use Rattle.std.proofs.Common.{◌≡◌, ◌⊎◌, inl, inr, ℕ, ◌+◌, ◌<◌, nat_lt, Bool, true, false, IsTrue, List, [], ◌∷◌, length, drop, get_or, refl, sym, ap, ◌∙◌, subst, arith, if◌then◌else◌}
use Rattle.std.proofs.lemmas.Bool.Decides.{nat_tests}
use Rattle.std.proofs.lemmas.List.{drop_more}
use Rattle.aerie_base.specs.Paths.{root}
use Rattle.aerie_base.specs.declared.models.model.Parts.{Parts}
use Rattle.aerie_base.specs.declared.plans.Directive.{Directive}
use Rattle.aerie_base.specs.plans.OfModel.{rise_to, ids_of, Rise}
use Rattle.run_data.specs.Tasks.{Table, with_task, with_directives}
use Rattle.run_data.specs.laws.Orders.{EachOf}
use Rattle.run_data.specs.laws.PathsUnder.{both_true}
use Rattle.parting.specs.Exchanges.{differing_directives}
use Rattle.live_tasks.specs.declared.tasks.LiveTasks.{LiveTasks}
use Rattle.live_tasks.specs.Exchanging.{HasNoAnchor}
use Rattle.live_tasks.specs.Joining.{AreUnderWay, IsJoinedBy}
use Rattle.live_tasks.specs.PlannedTasks.{directive_task, HasNoTask}
use Rattle.live_tasks.specs.Slots.{HasSlot}

this_and_rest : {X : Type 0} (items : List X) (index : ℕ) (item : X) → index < length items → item ≡ get_or items index item → drop index items ≡ item ∷ drop (index + 1) items
this_and_rest items index item less is = drop_more items index item less ∙ ap (λ x. x ∷ drop (index + 1) items) (sym is)

same_root : (id other : ℕ) → root id ≡ root other → id ≡ other
same_root id other e = cc

-- of the directives up to an index those that differ have joined, and none of those that are left
pub record HaveJoined (differs : ℕ → Bool) (model : Parts) (directives : List Directive) (index : ℕ) (first tasks : LiveTasks) : Type 0 where
  pub last : ℕ
  pub next_id : ℕ
  pub rise : IsTrue (rise_to next_id last (ids_of (drop index directives)))
  pub alone : EachOf (HasNoAnchor differs) (drop index directives)
  pub none : (id : ℕ) → last < id → differs id ≡ true → HasNoTask tasks (root id)
  pub joined : (table : Table) → AreUnderWay table first → (now : Table) × AreUnderWay now tasks
      × (with_directives model (differing_directives differs (drop index directives)) now ≡ with_directives model (differing_directives differs directives) table)

pub none_joined : (differs : ℕ → Bool) (model : Parts) (directives : List Directive) (first : LiveTasks) → Rise directives → EachOf (HasNoAnchor differs) directives →
    ((id : ℕ) → differs id ≡ true → HasNoTask first (root id)) → HaveJoined differs model directives 0 first first
none_joined differs model directives first rise alone none = record {
  last = 0;
  next_id = rise.0;
  rise = rise.1;
  alone = alone;
  none = λ id less e. none id e;
  joined = λ table is. (table, is, refl);
}

module _ (differs : ℕ → Bool) (model : Parts) (directives : List Directive) (index : ℕ) (first before : LiveTasks) (directive : Directive) (less : index < length directives)
    (is : directive ≡ get_or directives index directive) (has : HaveJoined differs model directives index first before) where
  here : drop index directives ≡ directive ∷ drop (index + 1) directives
  here = this_and_rest directives index directive less is

  alone_both : EachOf (HasNoAnchor differs) (directive ∷ drop (index + 1) directives)
  alone_both = subst (EachOf (HasNoAnchor differs)) here has.alone

  pub stands_alone : HasNoAnchor differs directive
  stands_alone = alone_both.0

  both : (nat_lt has.last directive.id ≡ true) × (rise_to has.next_id directive.id (ids_of (drop (index + 1) directives)) ≡ true)
  both = both_true (nat_lt has.last directive.id) (rise_to has.next_id directive.id (ids_of (drop (index + 1) directives))) (ap (λ l. rise_to has.next_id has.last (ids_of l)) (sym here) ∙ has.rise)

  higher : has.last < directive.id
  higher = let b = both.0 in let l = has.last in let d = directive.id in grind (arith, nat_tests)

  abbrev rest_of : Bool → List Directive
  rest_of b = if b then directive ∷ differing_directives differs (drop (index + 1) directives) else differing_directives differs (drop (index + 1) directives)

  split : (b : Bool) → differs directive.id ≡ b → differing_directives differs (drop index directives) ≡ rest_of b
  split b e = ap (differing_directives differs) here ∙ ap rest_of e

  with_it : (after : LiveTasks) → differs directive.id ≡ true → IsJoinedBy (root directive.id) (directive_task model directive) before after → HaveJoined differs model directives (index + 1) first after
  with_it after e joins = record {
    last = directive.id;
    next_id = has.next_id;
    rise = both.1;
    alone = alone_both.1;
    none = λ id above d found. none id above d (joins.more (root id) found);
    joined = λ table its.
        let so_far = has.joined table its in (
          with_task so_far.0 (root directive.id) (directive_task model directive),
          joins.joined so_far.0 so_far.1 (has.none directive.id higher e),
          ap (λ l. with_directives model l so_far.0) (sym (split true e)) ∙ so_far.2,
        );
  }
    where
      none : (id : ℕ) → directive.id < id → differs id ≡ true → (root id ≡ root directive.id) ⊎ HasSlot before.tables.slots.slots (root id) → ⊥
      none id above d (inl f) = let k = same_root id directive.id f in omega (arith, k, above)
      none id above d (inr found) = has.none id (let h = higher in omega (arith, h, above)) d found

  without_it : differs directive.id ≡ false → HaveJoined differs model directives (index + 1) first before
  without_it e = record {
    last = directive.id;
    next_id = has.next_id;
    rise = both.1;
    alone = alone_both.1;
    none = λ id above d found. has.none id (let h = higher in omega (arith, h, above)) d found;
    joined = λ table its.
        let so_far = has.joined table its in (so_far.0, so_far.1, ap (λ l. with_directives model l so_far.0) (sym (split false e)) ∙ so_far.2);
  }

  pub next_joined : (after : LiveTasks) → (differs directive.id ≡ true → IsJoinedBy (root directive.id) (directive_task model directive) before after) → (differs directive.id ≡ false → after ≡ before) →
      HaveJoined differs model directives (index + 1) first after
  next_joined after joins same = by (differs directive.id) refl
    where
      by : (b : Bool) → differs directive.id ≡ b → HaveJoined differs model directives (index + 1) first after
      by true e = with_it after e (joins e)
      by false e = subst (λ (tasks : LiveTasks). HaveJoined differs model directives (index + 1) first tasks) (sym (same e)) (without_it e)

pub all_joined : (differs : ℕ → Bool) (model : Parts) (directives : List Directive) (index : ℕ) (first tasks : LiveTasks) → drop index directives ≡ [] → HaveJoined differs model directives index first tasks →
    (table : Table) → AreUnderWay table first → AreUnderWay (with_directives model (differing_directives differs directives) table) tasks
all_joined differs model directives index first tasks end has table is =
    let so_far = has.joined table is in
    subst (λ t. AreUnderWay t tasks) (sym (ap (λ l. with_directives model (differing_directives differs l) so_far.0) end) ∙ so_far.2) so_far.1
