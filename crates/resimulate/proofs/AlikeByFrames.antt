-- Where the frames of two runs agree the same tasks are live in both.
use Rattle.std.proofs.Common.{◌≡◌, ◌⊎◌, inl, inr, ℕ, zero, suc, ◌<◌, ◌≤◌, nat_eq, nat_lt, Bool, true, false, ◌&&◌, ◌||◌, List, [], ◌∷◌, ◌++◌, length, Option, Some, None, option_map, slice_get, refl, sym, ap, ◌∙◌, subst, IsTrue, append_assoc, arith}
use Rattle.std.proofs.lemmas.Bool.{ltb-true}
use Rattle.std.proofs.lemmas.List.{append-nil}
use Rattle.std.specs.Prelude.{◌↔◌}
use Rattle.std.specs.List.{list_all, list_any}
use Rattle.aerie_base.specs.declared.models.model.Parts.{Parts}
use Rattle.aerie_base.specs.declared.plans.Anchor.{Anchor}
use Rattle.aerie_base.specs.declared.plans.Directive.{Directive}
use Rattle.aerie_base.specs.declared.plans.Edge.{Edge}
use Rattle.aerie_base.specs.declared.plans.Edge.TheVariants.{Start, End}
use Rattle.aerie_base.specs.declared.plans.Plan.{Plan}
use Rattle.aerie_base.specs.models.ValidModel.{valid_model}
use Rattle.aerie_base.specs.Paths.{root, is_prefix, AnyUnder}
use Rattle.aerie_base.specs.plans.OfModel.{IsPlanOf, rise_to, ids_of, is_directive_of, is_there, anchored_to, takes}
use Rattle.run_data.specs.declared.runs.Instant.{Instant}
use Rattle.run_data.specs.declared.tasks.TaskState.{TaskState}
use Rattle.run_data.specs.Endings.{is_open, has_ended, has_begun, has_come}
use Rattle.run_data.specs.Fresh.{SimulationState, instant_at, IsReached}
use Rattle.run_data.specs.TaskStates.{activity_begun}
use Rattle.run_data.specs.Tasks.{TaskPhase, anchored, planned, Task, task_at}
use Rattle.run_data.specs.Transitions.{more}
use Rattle.run_data.specs.laws.EndedTasks.{open_is, EndedByOpenBodies}
use Rattle.run_data.specs.laws.LiveParts.{LiveByPaths}
use Rattle.run_data.specs.laws.PathsUnder.{both_true, same_number, under_itself}
use Rattle.run_data.specs.laws.ReachedStates.{ReachedIsOfModel, ComesFrom, directive, daemon, maker}
use Rattle.run_data.specs.laws.SettledInstants.{IsSettled}
use Rattle.run_data.specs.laws.TracedTasks.{timed_batches, timed_instants, frames_so_far, traced, IsTraced, TasksAreTraced}
use Rattle.run_data.specs.laws.UnbegunDirectives.{WaitsAsPlanned, HasNotBegun, UnbegunAreAsPlanned}
use Rattle.resimulate.specs.AlikeByFrames.{instants_with, task_by, IsOpenInEither, HasNotCome, WaitsInBoth, FramesAgree, FramesTellAlike}
use Rattle.resimulate.specs.UnbegunTasks.{IsInPlan, WaitsForAnchor, IsUnbegunDirective, UnbegunAreDirectives}

-- ---- the frames with those of the last instant

instants_append : (first rest : List Instant) → timed_instants (first ++ rest) ≡ timed_instants first ++ timed_instants rest
instants_append [] rest = refl
instants_append (one ∷ others) rest =
    ap (λ l. timed_batches one.time one.batches ++ l) (instants_append others rest) ∙ sym (append_assoc (timed_batches one.time one.batches) (timed_instants others) (timed_instants rest))

frames_with : (at : SimulationState) → timed_instants (instants_with at) ≡ frames_so_far at
frames_with at = instants_append at.instants (instant_at at ∷ []) ∙ ap (λ l. timed_instants at.instants ++ l) (append-nil (timed_batches at.time at.batches))

-- ---- directives of a plan

pub all_at : {A : Type 0} (test : A → Bool) (all : List A) (place : ℕ) (one : A) → list_all test all ≡ true → slice_get all place ≡ Some one → test one ≡ true
all_at test [] place one h e = absurd (cc)
all_at test (first ∷ rest) zero one h e = (let same : first ≡ one = cc in ap test (sym same) ∙ (both_true (test first) (list_all test rest) h).0)
all_at test (first ∷ rest) (suc place) one h e = all_at test rest place one (both_true (test first) (list_all test rest) h).1 e

above_before : (next_id before : ℕ) (all : List Directive) (place : ℕ) (one : Directive) → rise_to next_id before (ids_of all) ≡ true → slice_get all place ≡ Some one → before < one.id
above_before next_id before [] place one rise e = absurd (cc)
above_before next_id before (first ∷ rest) zero one rise e =
    let same : first ≡ one = cc in
    subst (λ (d : Directive). before < d.id) same (ltb-true before first.id (both_true (nat_lt before first.id) (rise_to next_id first.id (ids_of rest)) rise).0)
above_before next_id before (first ∷ rest) (suc place) one rise e =
    let fit = both_true (nat_lt before first.id) (rise_to next_id first.id (ids_of rest)) rise in
    let here = ltb-true before first.id fit.0 in
    let further = above_before next_id first.id rest place one fit.1 e in
    omega (arith, here, further)

-- a directive is told by its id
pub one_of_id : (next_id before : ℕ) (all : List Directive) (place other : ℕ) (one two : Directive) → rise_to next_id before (ids_of all) ≡ true → slice_get all place ≡ Some one → slice_get all other ≡ Some two →
    one.id ≡ two.id → one ≡ two
one_of_id next_id before [] place other one two rise e f same = absurd (cc)
one_of_id next_id before (first ∷ rest) zero zero one two rise e f same = cc
one_of_id next_id before (first ∷ rest) zero (suc other) one two rise e f same =
    let here : first.id ≡ one.id = ap (λ (o : Option Directive). id_in o) e in
    let further = above_before next_id first.id rest other two (both_true (nat_lt before first.id) (rise_to next_id first.id (ids_of rest)) rise).1 f in
    absurd (omega (arith, here, further, same))
  where
    id_in : Option Directive → ℕ
    id_in None = 0
    id_in (Some d) = d.id
one_of_id next_id before (first ∷ rest) (suc place) zero one two rise e f same =
    let here : first.id ≡ two.id = ap (λ (o : Option Directive). id_in o) f in
    let further = above_before next_id first.id rest place one (both_true (nat_lt before first.id) (rise_to next_id first.id (ids_of rest)) rise).1 e in
    absurd (omega (arith, here, further, same))
  where
    id_in : Option Directive → ℕ
    id_in None = 0
    id_in (Some d) = d.id
one_of_id next_id before (first ∷ rest) (suc place) (suc other) one two rise e f same =
    one_of_id next_id first.id rest place other one two (both_true (nat_lt before first.id) (rise_to next_id first.id (ids_of rest)) rise).1 e f same

find_id : (all : List Directive) (id : ℕ) → list_any (nat_eq id) (ids_of all) ≡ true → (one : Directive) × ((place : ℕ) × (slice_get all place ≡ Some one)) × (one.id ≡ id)
find_id [] id h = absurd (cc)
find_id (first ∷ rest) id h = by (nat_eq id first.id) refl h (find_id rest id)
  where
    by : (b : Bool) → nat_eq id first.id ≡ b → (b || list_any (nat_eq id) (ids_of rest)) ≡ true →
        (list_any (nat_eq id) (ids_of rest) ≡ true → (one : Directive) × ((place : ℕ) × (slice_get rest place ≡ Some one)) × (one.id ≡ id)) →
        (one : Directive) × ((place : ℕ) × (slice_get (first ∷ rest) place ≡ Some one)) × (one.id ≡ id)
    by true e f further = (first, (0, refl), sym (same_number id first.id e))
    by false e f further = let found = further f in (found.0, (suc found.1.0, found.1.1), found.2)

-- the directive to which one of the plan is anchored is of the plan
anchor_there : (model : Parts) (plan : Plan) → IsPlanOf model plan → (one : Directive) → IsInPlan plan one → (anchor : Anchor) → one.anchor ≡ Some anchor →
    (target : Directive) × IsInPlan plan target × (target.id ≡ anchor.to)
anchor_there model plan is one in_plan anchor e =
    let fit = all_at (is_directive_of model plan) plan.directives in_plan.0 one is.directives in_plan.1 in
    let there = (both_true (takes model.enums (slice_get model.activities one.kind) one.arguments && nat_lt one.start plan.duration) (is_there plan.directives (anchored_to one)) fit).1 in
    find_id plan.directives anchor.to (ap (λ (o : Option Anchor). is_there plan.directives (option_map (λ a. a.to) o)) (sym e) ∙ there)

-- ---- paths

not_empty : (path : List ℕ) (number : ℕ) → path ++ number ∷ [] ≡ [] → ⊥
not_empty [] number e = absurd (cc)
not_empty (first ∷ rest) number e = absurd (cc)

abbrev IsShort : List ℕ → Type 0
IsShort [] = Unit {0}
IsShort (kind ∷ []) = Unit {0}
IsShort (kind ∷ id ∷ children) = ⊥

-- above a directive's own path there are only short ones
above_root : (path : List ℕ) (id : ℕ) → is_prefix path (root id) ≡ true → (path ≡ root id) ⊎ IsShort path
above_root [] id h = inr tt
above_root (kind ∷ []) id h = inr tt
above_root (kind ∷ other ∷ []) id h =
    let first = both_true (nat_eq kind 0) _ h in
    let second = both_true (nat_eq other id) _ first.1 in
    inl (λ i. same_number kind 0 first.0 i ∷ same_number other id second.0 i ∷ [])
above_root (kind ∷ other ∷ child ∷ rest) id h =
    let first = both_true (nat_eq kind 0) _ h in
    let second = both_true (nat_eq other id) _ first.1 in
    let clash : false ≡ true = second.1 in absurd (cc)

-- ---- one run

-- a directive's anchor, if it has one, has not come by the frames
abbrev Waits : List Instant → Option Anchor → Type 0
Waits instants None = Unit {0}
Waits instants (Some anchor) = HasNotCome instants anchor.to anchor.edge

-- what is known of a settled state of a simulation
record Side (model : Parts) (plan : Plan) (bound : ℕ) (at : SimulationState) : Type 0 where
  is_plan : IsPlanOf model plan
  makers : (path : List ℕ) (task : Task) → task_at at.table path ≡ Some task → ComesFrom at.table path
  traced_at : (path : List ℕ) → IsTraced (task_by (instants_with at) path) (task_at at.table path)
  unbegun : (path : List ℕ) (task : Task) → task_at at.table path ≡ Some task → task.begun ≡ false → IsUnbegunDirective model plan at.table path task.phase
  planned_at : (one : Directive) → IsInPlan plan one → task_by (instants_with at) (root one.id) ≡ None → HasNotBegun model plan bound at one
  by_open : (path : List ℕ) → (has_ended at.table path ≡ false) ↔ AnyUnder path (λ other. IsTrue (open_is (task_at at.table other)))

module _ (model : Parts) (plan : Plan) (bound : ℕ) (at : SimulationState) (side : Side model plan bound at) where
  abbrev by_frames : List ℕ → Option Task
  by_frames path = task_by (instants_with at) path

  some_at : (path : List ℕ) (task : Task) → by_frames path ≡ Some task → task_at at.table path ≡ Some task
  some_at path task e = subst (λ o. IsTraced o (task_at at.table path)) e (side.traced_at path)

  unbegun_at : (path : List ℕ) → by_frames path ≡ None → (task : Task) → task_at at.table path ≡ Some task → task.begun ≡ false
  unbegun_at path e task there = (subst (λ o. IsTraced o (task_at at.table path)) e (side.traced_at path) task there).0

  open_at : (path : List ℕ) → open_is (by_frames path) ≡ true → open_is (task_at at.table path) ≡ true
  open_at path h = by (by_frames path) refl h
    where
      by : (found : Option Task) → by_frames path ≡ found → open_is found ≡ true → open_is (task_at at.table path) ≡ true
      by None e f = absurd (cc)
      by (Some task) e f = ap open_is (some_at path task e) ∙ f

  -- ---- short paths

  none_empty : (task : Task) → task_at at.table [] ≡ Some task → ⊥
  none_empty task there = by (side.makers [] task there)
    where
      by : ComesFrom at.table [] → ⊥
      by (directive id e) = absurd (cc)
      by (daemon number e) = absurd (cc)
      by (maker parent number other e above less) = not_empty parent number (sym e)

  none_one : (kind : ℕ) (task : Task) → task_at at.table (kind ∷ []) ≡ Some task → ⊥
  none_one kind task there = by (side.makers (kind ∷ []) task there)
    where
      tail : List ℕ → List ℕ
      tail [] = []
      tail (first ∷ rest) = rest

      by : ComesFrom at.table (kind ∷ []) → ⊥
      by (directive id e) = let clash : [] ≡ id ∷ [] = ap tail e in absurd (cc)
      by (daemon number e) = let clash : [] ≡ number ∷ [] = ap tail e in absurd (cc)
      by (maker [] number other e above less) = none_empty other above
      by (maker (first ∷ rest) number other e above less) = not_empty rest number (sym (ap tail e))

  short_none : (path : List ℕ) → IsShort path → task_at at.table path ≡ None
  short_none path short = by path short (task_at at.table path) refl
    where
      by : (path : List ℕ) → IsShort path → (found : Option Task) → task_at at.table path ≡ found → task_at at.table path ≡ None
      by path short None e = e
      by [] short (Some task) e = absurd (none_empty task e)
      by (kind ∷ []) short (Some task) e = absurd (none_one kind task e)
      by (kind ∷ id ∷ children) short (Some task) e = absurd short

  -- ---- anchors that have not come

  open_as_planned : (anchor : Option Anchor) (from : ℕ) (state : TaskState) (phase : TaskPhase) → WaitsAsPlanned model plan bound at anchor from state phase → is_open phase ≡ true
  open_as_planned None from state phase e = ap is_open e
  open_as_planned (Some anchor) from state phase (inl e) = ap is_open e.0
  open_as_planned (Some anchor) from state phase (inr h) = ap is_open h.2

  open_directive : (one : Directive) → IsInPlan plan one → by_frames (root one.id) ≡ None → open_is (task_at at.table (root one.id)) ≡ true
  open_directive one in_plan none =
      let not_begun = side.planned_at one in_plan none in
      ap open_is not_begun.there ∙ open_as_planned one.anchor one.start _ not_begun.task.phase not_begun.phase

  not_ended : (to : ℕ) → open_is (task_at at.table (root to)) ≡ true → has_ended at.table (root to) ≡ false
  not_ended to is_open_there = (side.by_open (root to)).1 (root to, is_open_there, under_itself (root to))

  not_come : (to : ℕ) (edge : Edge) → ((target : Directive) × IsInPlan plan target × (target.id ≡ to)) → HasNotCome (instants_with at) to edge → has_come at.table to edge ≡ false
  not_come to Start target none = by (task_at at.table (root to)) refl
    where
      by : (found : Option Task) → task_at at.table (root to) ≡ found → has_begun (task_at at.table (root to)) ≡ false
      by None e = ap has_begun e
      by (Some task) e = ap has_begun e ∙ unbegun_at (root to) none task e
  not_come to End target (inl none) =
      not_ended to (ap (λ id. open_is (task_at at.table (root id))) (sym target.2) ∙ open_directive target.0 target.1 (ap (λ id. by_frames (root id)) target.2 ∙ none))
  not_come to End target (inr open_) = not_ended to (open_at (root to) open_)

  -- ---- a directive that has not begun and whose anchor has not come is as it was planned

  abbrev planned_task : Directive → Task
  planned_task one = record { phase = planned one.anchor one.start (activity_begun model one.kind one.arguments); made = 0; begun = false }

  as_planned : (one : Directive) → IsInPlan plan one → by_frames (root one.id) ≡ None → Waits (instants_with at) one.anchor → task_at at.table (root one.id) ≡ Some (planned_task one)
  as_planned one in_plan none waits = not_begun.there ∙ (λ i. Some (record { phase = phase i; made = not_begun.made i; begun = not_begun.begun i }))
    where
      not_begun : HasNotBegun model plan bound at one
      not_begun = side.planned_at one in_plan none

      state : TaskState
      state = activity_begun model one.kind one.arguments

      waits_for : WaitsForAnchor model at.table one not_begun.task.phase
      waits_for =
          let found = side.unbegun (root one.id) not_begun.task not_begun.there not_begun.begun in
          let ids : found.directive.id ≡ one.id = ap second (sym found.is) in
          let same = one_of_id plan.next_id 0 plan.directives found.in_plan.0 in_plan.0 found.directive one side.is_plan.ids found.in_plan.1 in_plan.1 ids in
          subst (λ (d : Directive). WaitsForAnchor model at.table d not_begun.task.phase) same found.waits
        where
          second : List ℕ → ℕ
          second [] = 0
          second (first ∷ []) = 0
          second (first ∷ other ∷ rest) = other

      by : (anchor : Option Anchor) → one.anchor ≡ anchor → Waits (instants_with at) anchor → WaitsAsPlanned model plan bound at anchor one.start state not_begun.task.phase →
          not_begun.task.phase ≡ planned anchor one.start state
      by None e still e_phase = e_phase
      by (Some anchor) e still (inl h) = h.0
      by (Some anchor) e still (inr h) = go (waits_for anchor e)
        where
          go : (not_begun.task.phase ≡ anchored anchor.to anchor.edge one.start state) ⊎ (has_come at.table anchor.to anchor.edge ≡ true) → not_begun.task.phase ≡ planned (Some anchor) one.start state
          go (inl phase) = phase
          go (inr come) =
              let clash : true ≡ false = sym come ∙ not_come anchor.to anchor.edge (anchor_there model plan side.is_plan one in_plan anchor e) still in absurd (cc)

      phase : not_begun.task.phase ≡ planned one.anchor one.start state
      phase = by one.anchor refl waits not_begun.phase

-- ---- both runs

waits_here : (instants others : List Instant) (anchor : Option Anchor) → WaitsInBoth instants others anchor → Waits instants anchor
waits_here instants others None h = tt
waits_here instants others (Some anchor) h = h.0

waits_there : (instants others : List Instant) (anchor : Option Anchor) → WaitsInBoth instants others anchor → Waits others anchor
waits_there instants others None h = tt
waits_there instants others (Some anchor) h = h.1

swapped : (plan old_plan : Plan) (instants others : List Instant) → FramesAgree plan old_plan instants others → FramesAgree old_plan plan others instants
swapped plan old_plan instants others agree = record {
  above_open = λ path other long above open_. sym (agree.above_open path other long above (by other open_));
  unbegun = agree.old_unbegun;
  old_unbegun = agree.unbegun;
}
  where
    by : (other : List ℕ) → IsOpenInEither others instants other → IsOpenInEither instants others other
    by other (inl h) = inr h
    by other (inr h) = inl h

module _ (model : Parts) (plan old_plan : Plan) (bound old_bound : ℕ) (at other : SimulationState) (side : Side model plan bound at) (old_side : Side model old_plan old_bound other)
    (agree : FramesAgree plan old_plan (instants_with at) (instants_with other)) where
  abbrev Same : List ℕ → Type 0
  Same path = task_at at.table path ≡ task_at other.table path

  same_directive : (one : Directive) → IsInPlan plan one → IsInPlan old_plan one → task_by (instants_with at) (root one.id) ≡ None → task_by (instants_with other) (root one.id) ≡ None →
      Waits (instants_with at) one.anchor → Waits (instants_with other) one.anchor → Same (root one.id)
  same_directive one in_plan in_old none old_none waits old_waits =
      as_planned model plan bound at side one in_plan none waits ∙ sym (as_planned model old_plan old_bound other old_side one in_old old_none old_waits)

  same_unbegun : (path : List ℕ) → task_by (instants_with at) path ≡ None → task_by (instants_with other) path ≡ None → Same path
  same_unbegun path none old_none = by (task_at at.table path) (task_at other.table path) refl refl
    where
      by : (here there : Option Task) → task_at at.table path ≡ here → task_at other.table path ≡ there → Same path
      by None None e f = e ∙ sym f
      by (Some task) there e f =
          let found = side.unbegun path task e (unbegun_at model plan bound at side path none task e) in
          let both = agree.unbegun found.directive found.in_plan (ap (task_by (instants_with at)) (sym found.is) ∙ none) in
          subst Same (sym found.is)
          (same_directive found.directive found.in_plan both.1 (ap (task_by (instants_with at)) (sym found.is) ∙ none) both.0
          (waits_here (instants_with at) (instants_with other) found.directive.anchor both.2) (waits_there (instants_with at) (instants_with other) found.directive.anchor both.2))
      by None (Some task) e f =
          let found = old_side.unbegun path task f (unbegun_at model old_plan old_bound other old_side path old_none task f) in
          let both = agree.old_unbegun found.directive found.in_plan (ap (task_by (instants_with other)) (sym found.is) ∙ old_none) in
          subst Same (sym found.is)
          (same_directive found.directive both.1 found.in_plan both.0 (ap (task_by (instants_with other)) (sym found.is) ∙ old_none)
          (waits_there (instants_with other) (instants_with at) found.directive.anchor both.2) (waits_here (instants_with other) (instants_with at) found.directive.anchor both.2))

  same_task : (path : List ℕ) → task_by (instants_with at) path ≡ task_by (instants_with other) path → Same path
  same_task path same = by (task_by (instants_with at) path) refl
    where
      by : (found : Option Task) → task_by (instants_with at) path ≡ found → Same path
      by None e = same_unbegun path e (sym same ∙ e)
      by (Some task) e = some_at model plan bound at side path task e ∙ sym (some_at model old_plan old_bound other old_side path task (sym same ∙ e))

  -- above an open body
  same_above_long : (path : List ℕ) → 2 ≤ length path → AnyUnder path (λ one. IsTrue (open_is (task_at at.table one))) → Same path
  same_above_long path long any = by (task_by (instants_with at) any.0) refl
    where
      below : List ℕ
      below = any.0

      by_directive : (task : Task) → task_at at.table below ≡ Some task → task_by (instants_with at) below ≡ None → Same path
      by_directive task there none =
          let found = side.unbegun below task there (unbegun_at model plan bound at side below none task there) in
          go found (above_root path found.directive.id (subst (λ p. is_prefix path p ≡ true) found.is any.2))
        where
          go : (found : IsUnbegunDirective model plan at.table below task.phase) → (path ≡ root found.directive.id) ⊎ IsShort path → Same path
          go found (inl e) =
              let here : task_by (instants_with at) (root found.directive.id) ≡ None = ap (task_by (instants_with at)) (sym found.is) ∙ none in
              let both = agree.unbegun found.directive found.in_plan here in
              same_unbegun path (ap (task_by (instants_with at)) e ∙ here) (ap (task_by (instants_with other)) e ∙ both.0)
          go found (inr short) = short_none model plan bound at side path short ∙ sym (short_none model old_plan old_bound other old_side path short)

      by : (found : Option Task) → task_by (instants_with at) below ≡ found → Same path
      by (Some task) e =
          let open_here : open_is (task_by (instants_with at) below) ≡ true = ap open_is e ∙ sym (ap open_is (some_at model plan bound at side below task e)) ∙ any.1 in
          same_task path (agree.above_open path below long any.2 (inl open_here))
      by None e = there (task_at at.table below) refl
        where
          there : (found : Option Task) → task_at at.table below ≡ found → Same path
          there None f = let clash : false ≡ true = sym (ap open_is f) ∙ any.1 in absurd (cc)
          there (Some task) f = by_directive task f e

  same_above : (path : List ℕ) → AnyUnder path (λ one. IsTrue (open_is (task_at at.table one))) → Same path
  same_above [] any = short_none model plan bound at side [] tt ∙ sym (short_none model old_plan old_bound other old_side [] tt)
  same_above (kind ∷ []) any = short_none model plan bound at side (kind ∷ []) tt ∙ sym (short_none model old_plan old_bound other old_side (kind ∷ []) tt)
  same_above (kind ∷ id ∷ children) any = same_above_long (kind ∷ id ∷ children) (omega arith) any

module _ (of_model : ReachedIsOfModel) (tasks_traced : TasksAreTraced) (planned_are : UnbegunAreAsPlanned) (directives_are : UnbegunAreDirectives) (by_open : EndedByOpenBodies) (by_paths : LiveByPaths) where
  side_of : (model : Parts) (plan : Plan) (bound : ℕ) (at : SimulationState) → IsTrue (valid_model model) → IsPlanOf model plan → IsReached model plan bound (more at) → IsSettled at →
      Side model plan bound at
  side_of model plan bound at valid is reached settled = record {
    is_plan = is;
    makers = (of_model model plan bound at valid is reached).table.makers;
    traced_at = λ path. subst (λ frames. IsTraced (traced path frames None) (task_at at.table path)) (sym (frames_with at)) (tasks_traced model plan bound at reached settled path);
    unbegun = directives_are model plan bound at valid is reached settled;
    planned_at = λ one in_plan none.
        planned_are model plan bound at is reached settled in_plan.0 one in_plan.1 (ap (λ frames. traced (root one.id) frames None) (sym (frames_with at)) ∙ none);
    by_open = λ path. by_open at.table path (of_model model plan bound at valid is reached).table.order;
  }

  pub frames_tell_alike : FramesTellAlike
  frames_tell_alike model plan old_plan bound old_bound at other both settled old_settled agree =
      by_paths at.table other.table (of_model model plan bound at both.valid both.is_plan both.reached).table.order
      (of_model model old_plan old_bound other both.valid both.old_is_plan both.old_reached).table.order by
    where
      side : Side model plan bound at
      side = side_of model plan bound at both.valid both.is_plan both.reached settled

      old_side : Side model old_plan old_bound other
      old_side = side_of model old_plan old_bound other both.valid both.old_is_plan both.old_reached old_settled

      by : (path : List ℕ) → (has_ended at.table path ≡ false) ⊎ (has_ended other.table path ≡ false) → task_at at.table path ≡ task_at other.table path
      by path (inl lives) = same_above model plan old_plan bound old_bound at other side old_side agree path ((side.by_open path).0 lives)
      by path (inr lives) =
          sym (same_above model old_plan plan old_bound bound other at old_side side (swapped plan old_plan (instants_with at) (instants_with other) agree) path ((old_side.by_open path).0 lives))
