-- All planned tasks, and that they are in step at the start of a plan.
use Rattle.std.proofs.Common.{◌≡◌, ◌⊎◌, inl, inr, ℕ, zero, suc, ◌+◌, ◌<◌, ◌≤◌, ◌&&◌, nat_eq, nat_lt, not, true, false, IsTrue, List, [], ◌∷◌, length, drop, get_or, Option, Some, None, refl, sym, ap, ◌∙◌, subst, arith}
use Rattle.std.proofs.lemmas.Bool.{false≢true}
use Rattle.std.proofs.lemmas.Bool.Decides.{nat_tests}
use Rattle.std.proofs.lemmas.List.{drop_more}
use Rattle.std.proofs.lemmas.List.Sorted.{Contains-permutation}
use Rattle.std.specs.List.{Contains}
use Rattle.std.specs.List.Sorted.{IsPermutation}
use Rattle.aerie_base.specs.Paths.{root, daemon_root, is_prefix}
use Rattle.aerie_base.specs.declared.models.Daemon.{Daemon}
use Rattle.aerie_base.specs.declared.models.model.Parts.{Parts}
use Rattle.aerie_base.specs.declared.plans.Anchor.{Anchor}
use Rattle.aerie_base.specs.declared.plans.Directive.{Directive}
use Rattle.aerie_base.specs.declared.plans.Edge.TheVariants.{End}
use Rattle.aerie_base.specs.models.ValidModel.{valid_model, has_good_daemons}
use Rattle.aerie_base.specs.models.ValidParts.{are_good}
use Rattle.aerie_base.specs.plans.OfModel.{rise_to, ids_of, Rise}
use Rattle.run_data.specs.Endings.{is_open, has_begun, has_ended}
use Rattle.run_data.specs.TaskStates.{activity_begun, daemon_begun}
use Rattle.run_data.specs.Tasks.{TaskPhase, anchored, calling, delayed, planned, Task, Table, task_at, with_task, with_directives, with_daemons, on_each, rested, rested_phase}
use Rattle.run_data.specs.declared.tasks.TaskState.{TaskState}
use Rattle.run_data.specs.laws.EndedTaskLaws.{ended_by_open_bodies, open_some}
use Rattle.run_data.specs.laws.GoingOn.{IsQuiet, AllQuiet}
use Rattle.run_data.specs.laws.LiveAfterFrames.{quiet_at}
use Rattle.run_data.specs.laws.OpenTasks.{rested_open}
use Rattle.run_data.specs.laws.PathsUnder.{both_true, same_number}
use Rattle.run_data.specs.laws.QuietTasks.{ended_each}
use Rattle.run_data.specs.laws.TableParts.{each_at, changed_at}
use Rattle.live_tasks.specs.declared.followers.Follower.{Follower}
use Rattle.live_tasks.specs.declared.slots.Slot.{Slot}
use Rattle.live_tasks.specs.declared.tasks.LiveTasks.{LiveTasks}
use Rattle.live_tasks.specs.Endings.{AreLive}
use Rattle.live_tasks.specs.Followers.{Follows, AreById}
use Rattle.live_tasks.specs.LeastTimes.{IsUpToTime}
use Rattle.live_tasks.specs.ListedSlots.{ListsAll, ListsExactly}
use Rattle.live_tasks.specs.PlannedTasks.{directive_task, daemon_task, IsPlannedBy, ArePlanned, HasNoTask, Plans}
use Rattle.live_tasks.specs.Slots.{Slots, slot_at, under, child_in, IsRoot, StandsUnder, IsForest, HasSlot}
use Rattle.live_tasks.specs.InStep.{table_in, IsInStep}
use Rattle.live_tasks.proofs.Counts.{none_count}
use Rattle.live_tasks.proofs.Resting.{one_table}

this_and_rest : {X : Type 0} (items : List X) (index : ℕ) (item : X) → index < length items → item ≡ get_or items index item → drop index items ≡ item ∷ drop (index + 1) items
this_and_rest items index item less is = drop_more items index item less ∙ ap (λ x. x ∷ drop (index + 1) items) (sym is)

-- ---- none

pub none_there : (tasks : LiveTasks) → tasks.tables.slots.slots ≡ [] → (path : List ℕ) → HasNoTask tasks path
none_there tasks empty path has = let e : None ≡ Some has.slot = sym (ap (λ s. slot_at s has.number) empty) ∙ has.there in cc

pub none_planned : (tasks : LiveTasks) → tasks.tables.slots.slots ≡ [] → ListsExactly tasks.tables → ArePlanned [] tasks
none_planned tasks empty listed = record {
  distinct = λ n m s t at again same. absurd (none n s at);
  are = record { order = tt; tasks = λ n s at. absurd (none n s at); each = λ path task at. absurd (nothing path task at) };
  unbegun = λ n s at. absurd (none n s at);
  follow = λ n s at to edge start state e. absurd (none n s at);
  listed = listed.all;
}
  where
    none : (n : ℕ) (s : Slot) → slot_at tasks.tables.slots.slots n ≡ Some s → ⊥
    none n s at = let e : None ≡ Some s = sym (ap (λ s. slot_at s n) empty) ∙ at in cc

    nothing : (path : List ℕ) (task : Task) → task_at [] path ≡ Some task → ⊥
    nothing path task e = cc

-- ---- daemons

root_is_none : (id number : ℕ) → root id ≡ daemon_root number → ⊥
root_is_none id number e = let k : zero ≡ suc zero = cc in cc

same_daemon : (number other : ℕ) → daemon_root number ≡ daemon_root other → number ≡ other
same_daemon number other e = cc

same_root : (id other : ℕ) → root id ≡ root other → id ≡ other
same_root id other e = cc

-- the daemons up to an index are planned
pub record HaveDaemons (daemons : List Daemon) (index : ℕ) (first tasks : LiveTasks) : Type 0 where
  pub none_later : (number : ℕ) → index ≤ number → HasNoTask tasks (daemon_root number)
  pub none_root : (id : ℕ) → HasNoTask tasks (root id)
  pub planned_ : (table : Table) → ArePlanned table first → (now : Table) × ArePlanned now tasks × (with_daemons index (drop index daemons) now ≡ with_daemons 0 daemons table)

pub no_daemons : (daemons : List Daemon) (first : LiveTasks) → ((path : List ℕ) → HasNoTask first path) → HaveDaemons daemons 0 first first
no_daemons daemons first none = record {
  none_later = λ number most. none (daemon_root number);
  none_root = λ id. none (root id);
  planned_ = λ table is. (table, is, refl);
}

pub one_daemon : (daemons : List Daemon) (index : ℕ) (first before after : LiveTasks) (daemon : Daemon) → index < length daemons → daemon ≡ get_or daemons index daemon →
    HaveDaemons daemons index first before → Plans (daemon_root index) (daemon_task index daemon) before after → HaveDaemons daemons (index + 1) first after
one_daemon daemons index first before after daemon less is has plans = record {
  none_later = λ number most found. later number most (plans.more (daemon_root number) found);
  none_root = λ id found. none id (plans.more (root id) found);
  planned_ = λ table its.
      let so_far = has.planned_ table its in (
        with_task so_far.0 (daemon_root index) (daemon_task index daemon),
        plans.planned_ so_far.0 so_far.1 (has.none_later index (omega arith)),
        ap (λ l. with_daemons index l so_far.0) (sym (this_and_rest daemons index daemon less is)) ∙ so_far.2,
      );
}
  where
    later : (number : ℕ) → index + 1 ≤ number → (daemon_root number ≡ daemon_root index) ⊎ HasSlot before.tables.slots.slots (daemon_root number) → ⊥
    later number most (inl e) = let k = same_daemon number index e in omega (arith, k, most)
    later number most (inr found) = has.none_later number (omega (arith, most)) found

    none : (id : ℕ) → (root id ≡ daemon_root index) ⊎ HasSlot before.tables.slots.slots (root id) → ⊥
    none id (inl e) = root_is_none id index e
    none id (inr found) = has.none_root id found

pub all_daemons : (daemons : List Daemon) (index : ℕ) (first tasks : LiveTasks) → drop index daemons ≡ [] → HaveDaemons daemons index first tasks → (table : Table) → ArePlanned table first →
    ArePlanned (with_daemons 0 daemons table) tasks
all_daemons daemons index first tasks end has table is =
    let so_far = has.planned_ table is in
    subst (λ t. ArePlanned t tasks) (sym (ap (λ l. with_daemons index l so_far.0) end) ∙ so_far.2) so_far.1

-- a valid model has at most 64 daemons
pub few_daemons : (model : Parts) → IsTrue (valid_model model) → length model.daemons ≤ 64
unfolding has_good_daemons
few_daemons model valid =
    let good = are_good model valid in
    let daemons = good.daemons in
    grind (arith, nat_tests)

-- ---- directives

-- the directives up to an index are planned, and none of those that are left
pub record HaveDirectives (model : Parts) (directives : List Directive) (index : ℕ) (first tasks : LiveTasks) : Type 0 where
  pub last : ℕ
  pub next_id : ℕ
  pub rise : IsTrue (rise_to next_id last (ids_of (drop index directives)))
  pub none : (id : ℕ) → last < id → HasNoTask tasks (root id)
  pub planned_ : (table : Table) → ArePlanned table first → (now : Table) × ArePlanned now tasks × (with_directives model (drop index directives) now ≡ with_directives model directives table)

pub no_directives : (model : Parts) (directives : List Directive) (first : LiveTasks) → Rise directives → ((id : ℕ) → HasNoTask first (root id)) → HaveDirectives model directives 0 first first
no_directives model directives first rise none = record {
  last = 0;
  next_id = rise.0;
  rise = rise.1;
  none = λ id less. none id;
  planned_ = λ table is. (table, is, refl);
}

pub one_directive : (model : Parts) (directives : List Directive) (index : ℕ) (first before after : LiveTasks) (directive : Directive) → index < length directives → directive ≡ get_or directives index directive →
    HaveDirectives model directives index first before → Plans (root directive.id) (directive_task model directive) before after → HaveDirectives model directives (index + 1) first after
one_directive model directives index first before after directive less is has plans = record {
  last = directive.id;
  next_id = has.next_id;
  rise = both.1;
  none = λ id above found. none id above (plans.more (root id) found);
  planned_ = λ table its.
      let so_far = has.planned_ table its in (
        with_task so_far.0 (root directive.id) (directive_task model directive),
        plans.planned_ so_far.0 so_far.1 (has.none directive.id higher),
        ap (λ l. with_directives model l so_far.0) (sym here) ∙ so_far.2,
      );
}
  where
    here : drop index directives ≡ directive ∷ drop (index + 1) directives
    here = this_and_rest directives index directive less is

    both : (nat_lt has.last directive.id ≡ true) × (rise_to has.next_id directive.id (ids_of (drop (index + 1) directives)) ≡ true)
    both = both_true (nat_lt has.last directive.id) (rise_to has.next_id directive.id (ids_of (drop (index + 1) directives))) (ap (λ l. rise_to has.next_id has.last (ids_of l)) (sym here) ∙ has.rise)

    higher : has.last < directive.id
    higher = let b = both.0 in let l = has.last in let d = directive.id in grind (arith, nat_tests)

    none : (id : ℕ) → directive.id < id → (root id ≡ root directive.id) ⊎ HasSlot before.tables.slots.slots (root id) → ⊥
    none id above (inl e) = let k = same_root id directive.id e in omega (arith, k, above)
    none id above (inr found) = has.none id (let h = higher in omega (arith, h, above)) found

pub all_directives : (model : Parts) (directives : List Directive) (index : ℕ) (first tasks : LiveTasks) → drop index directives ≡ [] → HaveDirectives model directives index first tasks → (table : Table) →
    ArePlanned table first → ArePlanned (with_directives model directives table) tasks
all_directives model directives index first tasks end has table is =
    let so_far = has.planned_ table is in
    subst (λ t. ArePlanned t tasks) (sym (ap (λ l. with_directives model l so_far.0) end) ∙ so_far.2) so_far.1

pub directive_is : (model : Parts) (directive : Directive) (state : TaskState) (task : Task) → state ≡ activity_begun model directive.kind directive.arguments →
    task ≡ record { phase = planned directive.anchor directive.start state; made = 0; begun = false } → task ≡ directive_task model directive
directive_is model directive state task begun is = is ∙ (λ i. record { phase = planned directive.anchor directive.start (begun i); made = 0; begun = false })

pub daemon_is : (number : ℕ) (daemon : Daemon) (state : TaskState) (task : Task) → state ≡ daemon_begun number daemon →
    task ≡ record { phase = delayed 0 state; made = 0; begun = false } → task ≡ daemon_task number daemon
daemon_is number daemon state task begun is = is ∙ (λ i. record { phase = delayed 0 (begun i); made = 0; begun = false })

-- ---- followers in order

contains_follower : (number to : ℕ) (followers : List Follower) → Follows number to followers → Contains followers (record { to = to; number = number })
contains_follower number to [] never = absurd never
contains_follower number to (first ∷ rest) (inl e) = (0, omega arith, (λ i. record { to = e.0 i; number = e.1 i }))
contains_follower number to (first ∷ rest) (inr among) = let found = contains_follower number to rest among in (suc found.0, (let l = found.1 in omega (arith, l)), found.2)

follower_contained : (number to : ℕ) (followers : List Follower) → Contains followers (record { to = to; number = number }) → Follows number to followers
follower_contained number to [] has = absurd (let l = has.1 in omega (arith, l))
follower_contained number to (first ∷ rest) (zero, less, e) = inl (ap (λ (f : Follower). f.to) e, ap (λ (f : Follower). f.number) e)
follower_contained number to (first ∷ rest) (suc place, less, e) = inr (follower_contained number to rest (place, omega (arith, less), e))

pub follows_permuted : (number to : ℕ) (followers sorted : List Follower) → IsPermutation followers sorted → Follows number to followers → Follows number to sorted
follows_permuted number to followers sorted same follows =
    follower_contained number to sorted (Contains-permutation followers sorted (record { to = to; number = number }) same (contains_follower number to followers follows))

pub planned_sorted : (table : Table) (before after : LiveTasks) → after.tables.slots.slots ≡ before.tables.slots.slots → IsPermutation before.followers.items after.followers.items → ListsAll after.tables →
    ArePlanned table before → ArePlanned table after
planned_sorted table before after same sorted listed is = record {
  distinct = λ n m s t at again e. is.distinct n m s t (back n s at) (back m t again) e;
  are = record {
    order = is.are.order;
    tasks = λ n s at. is.are.tasks n s (back n s at);
    each = λ path task at. let has = is.are.each path task at in record { number = has.number; slot = has.slot; there = ap (λ x. slot_at x has.number) same ∙ has.there; is = has.is };
  };
  unbegun = λ n s at. is.unbegun n s (back n s at);
  follow = λ n s at to edge start state e. follows_permuted n to before.followers.items after.followers.items sorted (is.follow n s (back n s at) to edge start state e);
  listed = listed;
}
  where
    back : (n : ℕ) (s : Slot) → slot_at after.tables.slots.slots n ≡ Some s → slot_at before.tables.slots.slots n ≡ Some s
    back n s at = sym (ap (λ x. slot_at x n) same) ∙ at

-- ---- in step

pub not_before_start : (start : ℕ) → start ≡ 0 → (time : Option ℕ) → IsUpToTime start time
not_before_start start is None = tt
not_before_start start is (Some time) = omega (arith, is)

module _ (table : Table) (tasks : LiveTasks) (is : ArePlanned table tasks) (quiet : AllQuiet (on_each (rested 0) table) (on_each (rested 0) table)) where
  abbrev slots : Slots
  slots = tasks.tables.slots.slots

  forest : IsForest slots
  forest = record {
    distinct = is.distinct;
    stands = λ n s at. let u = is.unbegun n s at in subst (StandsUnder slots s.path s.own) (sym u.parent) u.path;
    counts = λ n s at. (is.unbegun n s at).below ∙ sym (none_count n slots (λ m. none n m (slot_at slots m) refl));
  }
    where
      none : (n m : ℕ) (found : Option Slot) → slot_at slots m ≡ found → child_in n (slot_at slots m) ≡ 0
      none n m None e = ap (child_in n) e
      none n m (Some s) e = ap (child_in n) e ∙ ap (under n) (is.unbegun m s e).parent

  by_anchor_calls : (anchor : Option Anchor) (phase : TaskPhase) → IsPlannedBy anchor phase → (child : ℕ) (into : Option ℕ) (state : TaskState) → phase ≡ calling child into state → ⊥
  by_anchor_calls None phase its child into state e = let f : delayed its.0 its.1 ≡ calling child into state = sym its.2 ∙ e in cc
  by_anchor_calls (Some anchor) phase its child into state e = let f : anchored anchor.to anchor.edge its.0 its.1 ≡ calling child into state = sym its.2 ∙ e in cc

  by_anchor_open : (anchor : Option Anchor) (phase : TaskPhase) → IsPlannedBy anchor phase → is_open phase ≡ true
  by_anchor_open None phase its = ap is_open its.2
  by_anchor_open (Some anchor) phase its = ap is_open its.2

  none_begun : (path : List ℕ) → has_begun (task_at table path) ≡ false
  none_begun path = by (task_at table path) refl
    where
      by : (found : Option Task) → task_at table path ≡ found → has_begun (task_at table path) ≡ false
      by None e = ap has_begun e
      by (Some task) e =
          let has = is.are.each path task e in
          let f : Some has.slot.task ≡ Some task = sym (is.are.tasks has.number has.slot has.there) ∙ ap (task_at table) has.is ∙ e in
          let g : has.slot.task ≡ task = cc in
          ap has_begun e ∙ ap (λ (t : Task). t.begun) (sym g) ∙ (is.unbegun has.number has.slot has.there).begun

  under_root : (to : ℕ) (path : List ℕ) → IsRoot path → is_prefix (root to) path ≡ true → path ≡ root to
  under_root to path (inl directive) up =
      let k : is_prefix (root to) (root directive.0) ≡ true = ap (is_prefix (root to)) (sym directive.1) ∙ up in
      let both = both_true (nat_eq to directive.0) true k in
      directive.1 ∙ ap root (sym (same_number to directive.0 both.0))
  under_root to path (inr daemon) up = absurd (false≢true (ap (is_prefix (root to)) (sym daemon.1) ∙ up))

  not_ended : (to start : ℕ) (state : TaskState) (n : ℕ) (s : Slot) → slot_at slots n ≡ Some s → s.task.phase ≡ anchored to End start state → has_ended table (root to) ≡ false
  not_ended to start state n s at e =
      let at_path : task_at (on_each (rested 0) table) s.path ≡ Some (rested 0 s.path s.task) = each_at (rested 0) table s.path ∙ ap (changed_at (rested 0) s.path) (is.are.tasks n s at) in
      let its : IsQuiet (on_each (rested 0) table) s.path (rested_phase 0 s.task.phase) = quiet_at (on_each (rested 0) table) (on_each (rested 0) table) s.path (rested 0 s.path s.task) quiet at_path in
      let come : IsQuiet (on_each (rested 0) table) s.path (anchored to End start state) = subst (IsQuiet (on_each (rested 0) table) s.path) (ap (rested_phase 0) e) its in
      sym (ended_each (rested 0) (λ p t. rested_open 0 t.phase) (λ p t. refl) table (root to)) ∙ come

  root_there : (to : ℕ) → has_ended table (root to) ≡ false → HasSlot slots (root to)
  root_there to live_ =
      let any = (ended_by_open_bodies table (root to) is.are.order).0 live_ in
      let v = open_some any.0 (task_at table any.0) any.1 in
      let has = is.are.each any.0 v.0 v.1 in
      let path_is : any.0 ≡ root to = under_root to any.0 (subst IsRoot has.is (is.unbegun has.number has.slot has.there).path) any.2 in
      record { number = has.number; slot = has.slot; there = has.there; is = has.is ∙ path_is }

  pub planned_live : AreLive table slots
  planned_live = record {
    forest = forest;
    are = is.are;
    calls = λ n s at child into state e. let p = (is.unbegun n s at).phase in absurd (by_anchor_calls p.0 s.task.phase p.1 child into state e);
    follows = λ n s at to start state e. root_there to (not_ended to start state n s at e);
    starts = λ n s at to start state e. none_begun (root to);
    settled = λ n s at. let p = (is.unbegun n s at).phase in λ i. not (by_anchor_open p.0 s.task.phase p.1 i) && nat_eq s.live_below 0;
  }

  pub planned_table : table_in tasks ≡ table
  planned_table = one_table slots table planned_live

  pub planned_in_step : AreById tasks.followers.items → ListsExactly tasks.tables → IsInStep tasks
  planned_in_step by_id listed = record {
    live_ = subst (λ t. AreLive t slots) (sym planned_table) planned_live;
    followers_ = record { by_id = by_id; all = is.follow };
    listed = listed;
  }
