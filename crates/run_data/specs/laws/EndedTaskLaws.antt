-- A file of lemmas: what it proves need not be read to trust a clause.
--
-- Endings by open bodies, along paths, and by frames.
use Rattle.std.proofs.Common.{◌≡◌, ℕ, zero, suc, ◌+◌, Bool, true, false, cond, not, ◌&&◌, ◌||◌, List, [], ◌∷◌, Option, Some, None, refl, sym, ap, ◌∙◌, arith, subst, nat_eq, nat_abs}
use Rattle.std.proofs.lemmas.Bool.Decides.{nat_tests}
use Rattle.std.specs.declared.cmp.Ordering.{Ordering}
use Rattle.std.specs.declared.cmp.Ordering.TheVariants.{Less, Equal, Greater}
use Rattle.std.specs.Ordering.{is_eq}
use Rattle.std.specs.BTreeMap.{is_at}
use Rattle.std.specs.List.{slice_get}
use Rattle.aerie_base.specs.Paths.{path_cmp, is_prefix}
use Rattle.run_data.specs.declared.frames.Status.{Status}
use Rattle.run_data.specs.declared.frames.Status.TheVariants as status
use Rattle.run_data.specs.Endings.{is_open, has_ended}
use Rattle.run_data.specs.Tasks.{Task, Table, task_at, with_task, after_frame, task_after, phase_after, after_delay, children_made, children_in}
use Rattle.run_data.specs.laws.EndedTasks.{open_is, EndedByOpenBodies, EndedByNumber, EndedBelow, NewlyEnded, is_open_status, OverUnder, first, later, EndedByFrames}
use Rattle.run_data.specs.laws.NumberedTasks.{sorted_tasks, Distinct}
use Rattle.run_data.specs.laws.OrderedTables.{IsOrderedTable}
use Rattle.run_data.specs.NumberLaws.{none_at, at_number, first_apart, distinct_rest, in_order_itself, distinct_of}
use Rattle.run_data.specs.TableLaws.{at_with, is_same, path_itself, order_with}

-- ---- by open bodies

module _ (path : List ℕ) where
  abbrev pub stays : List ℕ × Task → Bool
  stays entry = not (is_prefix path entry.0) || not (is_open entry.1.phase)

  both_swap : (a b c : Bool) → (a && (b && c)) ≡ (b && (a && c))
  both_swap true b c = refl
  both_swap false true c = refl
  both_swap false false c = refl

  ended_with : (table : Table) (p : List ℕ) (a : Task) → task_at table p ≡ None → has_ended (with_task table p a) path ≡ (stays (p, a) && has_ended table path)
  ended_with [] p a none = refl
  ended_with (entry ∷ rest) p a none = by (path_cmp p entry.0) refl none (ended_with rest p a)
    where
      by : (order : Ordering) → path_cmp p entry.0 ≡ order → cond (is_eq order) (Some entry.1) (task_at rest p) ≡ None →
          (task_at rest p ≡ None → has_ended (with_task rest p a) path ≡ (stays (p, a) && has_ended rest path)) →
          has_ended (with_task (entry ∷ rest) p a) path ≡ (stays (p, a) && has_ended (entry ∷ rest) path)
      by Less e n further = rw e refl
      by Equal e n further = absurd (cc)
      by Greater e n further = rw (e, further n) (both_swap (stays entry) (stays (p, a)) (has_ended rest path))

  pub ended_in_order : (tasks : Table) → Distinct tasks → has_ended (sorted_tasks tasks) path ≡ has_ended tasks path
  ended_in_order [] distinct = refl
  ended_in_order (entry ∷ rest) distinct =
      ended_with (sorted_tasks rest) entry.0 entry.1 (none_at rest entry.0 (first_apart entry rest distinct))
      ∙ ap (λ b. stays entry && b) (ended_in_order rest (distinct_rest entry rest distinct))

  pub record OpenPlace (tasks : Table) : Type 0 where
    pub at : ℕ
    pub whose : List ℕ
    pub task : Task
    pub here : slice_get tasks at ≡ Some (whose, task)
    pub under : is_prefix path whose ≡ true
    pub open_ : is_open task.phase ≡ true

  pub open_place : (tasks : Table) → has_ended tasks path ≡ false → OpenPlace tasks
  open_place [] h = absurd (cc)
  open_place (entry ∷ rest) h = by (is_prefix path entry.0) (is_open entry.1.phase) refl refl h (open_place rest)
    where
      later : OpenPlace rest → OpenPlace (entry ∷ rest)
      later o = record { at = suc o.at; whose = o.whose; task = o.task; here = o.here; under = o.under; open_ = o.open_ }

      by : (a b : Bool) → is_prefix path entry.0 ≡ a → is_open entry.1.phase ≡ b → ((not a || not b) && has_ended rest path) ≡ false → (has_ended rest path ≡ false → OpenPlace rest) → OpenPlace (entry ∷ rest)
      by true true x y h further = record { at = 0; whose = entry.0; task = entry.1; here = refl; under = x; open_ = y }
      by true false x y h further = later (further h)
      by false b x y h further = later (further h)

  pub open_stops : (q : List ℕ) (v : Task) → is_prefix path q ≡ true → is_open v.phase ≡ true → (table : Table) → task_at table q ≡ Some v → has_ended table path ≡ false
  open_stops q v under open_ [] h = absurd (cc)
  open_stops q v under open_ (entry ∷ rest) h = by (is_at (path_cmp q) entry.0) refl h (open_stops q v under open_ rest)
    where
      none : (b : Bool) → (b && false) ≡ false
      none true = refl
      none false = refl

      by : (b : Bool) → is_at (path_cmp q) entry.0 ≡ b → cond b (Some entry.1) (task_at rest q) ≡ Some v → (task_at rest q ≡ Some v → has_ended rest path ≡ false) → has_ended (entry ∷ rest) path ≡ false
      by true e h further = let k : entry.1 ≡ v = cc in rw (← is_same q entry.0 e, k, under, open_) refl
      by false e h further = rw (further h) (none (stays entry))

  pub open_some : (o : Option Task) → open_is o ≡ true → (v : Task) × (o ≡ Some v) × (is_open v.phase ≡ true)
  open_some None h = absurd (cc)
  open_some (Some v) h = (v, refl, h)

pub ended_by_number : EndedByNumber
ended_by_number tasks path distinct = ended_in_order path tasks distinct

-- each task of a table in order stands at its path
pub stands_at : (table : Table) (number : ℕ) (path : List ℕ) (task : Task) → IsOrderedTable table → slice_get table number ≡ Some (path, task) → task_at table path ≡ Some task
stands_at table number path task order at =
    sym (ap (λ t. task_at t path) (in_order_itself table order)) ∙ at_number table number path task (distinct_of table order) at

pub ended_by_open_bodies : EndedByOpenBodies
ended_by_open_bodies table path order = (
  λ before. (let o = open_place path table before in (o.whose, ap open_is (stands_at table o.at o.whose o.task order o.here) ∙ o.open_, o.under)),
  λ any. (let v = open_some path (task_at table any.0) any.1 in open_stops path any.0 v.0 any.2 v.2 table v.1),
)

-- ---- what ends with a task

pub newly_ended : NewlyEnded
newly_ended tasks path new whose distinct before after = by (is_at (path_cmp o.whose) path) refl
  where
    o : OpenPlace whose tasks
    o = open_place whose tasks (sym (ended_in_order whose tasks distinct) ∙ before)

    stands : task_at (sorted_tasks tasks) o.whose ≡ Some o.task
    stands = at_number tasks o.at o.whose o.task distinct o.here

    closed : is_prefix whose path ≡ true → (b : Bool) → is_open new.phase ≡ b → b ≡ false
    closed under false e = refl
    closed under true e =
        let here : task_at (with_task (sorted_tasks tasks) path new) path ≡ Some new =
        at_with (sorted_tasks tasks) path path new ∙ ap (λ r. cond (is_eq r) (Some new) (task_at (sorted_tasks tasks) path)) (path_itself path) in
        let k = open_stops whose path new under e (with_task (sorted_tasks tasks) path new) here in absurd (cc)

    by : (b : Bool) → is_at (path_cmp o.whose) path ≡ b → (is_prefix whose path ≡ true) × (is_open new.phase ≡ false)
    by true e =
        let under : is_prefix whose path ≡ true = subst (λ p. is_prefix whose p ≡ true) (is_same o.whose path e) o.under in
        (under, closed under (is_open new.phase) refl)
    by false e =
        let there : task_at (with_task (sorted_tasks tasks) path new) o.whose ≡ Some o.task =
        at_with (sorted_tasks tasks) path o.whose new ∙ ap (λ b. cond b (Some new) (task_at (sorted_tasks tasks) o.whose)) e ∙ stands in
        let k = open_stops whose o.whose o.task o.under o.open_ (with_task (sorted_tasks tasks) path new) there in absurd (cc)

-- ---- what is under an ended path

pub under_through : (p q r : List ℕ) → is_prefix p q ≡ true → is_prefix q r ≡ true → is_prefix p r ≡ true
under_through [] q r x y = refl
under_through (a ∷ p) [] r x y = absurd (cc)
under_through (a ∷ p) (b ∷ q) [] x y = absurd (cc)
under_through (a ∷ p) (b ∷ q) (c ∷ r) x y = by (nat_eq a b) (nat_eq b c) refl refl x y (under_through p q r)
  where
    by : (m n : Bool) → nat_eq a b ≡ m → nat_eq b c ≡ n → (m && is_prefix p q) ≡ true → (n && is_prefix q r) ≡ true → (is_prefix p q ≡ true → is_prefix q r ≡ true → is_prefix p r ≡ true) → (nat_eq a c && is_prefix p r) ≡ true
    by true true e f x y further = let k : nat_eq a c ≡ true = grind (arith, nat_tests) in rw k (further x y)
    by true false e f x y further = absurd (cc)
    by false n e f x y further = absurd (cc)

pub ended_below : EndedBelow
ended_below [] path other under ended = refl
ended_below (entry ∷ rest) path other under ended =
    by (is_prefix other entry.0) (is_open entry.1.phase) (is_prefix path entry.0) refl refl refl ended (ended_below rest path other under)
  where
    by : (a b c : Bool) → is_prefix other entry.0 ≡ a → is_open entry.1.phase ≡ b → is_prefix path entry.0 ≡ c → ((not c || not b) && has_ended rest path) ≡ true →
        (has_ended rest path ≡ true → has_ended rest other ≡ true) → ((not a || not b) && has_ended rest other) ≡ true
    by true true true x y z e further = absurd (cc)
    by true true false x y z e further = let k = under_through path other entry.0 under x in absurd (cc)
    by true false true x y z e further = further e
    by true false false x y z e further = further e
    by false b true x y z e further = further (rest_is (not b) e)
      where
        rest_is : (m : Bool) → ((false || m) && has_ended rest path) ≡ true → has_ended rest path ≡ true
        rest_is true e = e
        rest_is false e = absurd (cc)
    by false b false x y z e further = further e

-- ---- frames

pub status_open : (now made : ℕ) (how : Status) → is_open (phase_after now made how) ≡ is_open_status how
status_open now made (status.Delayed by next) = go (nat_abs by)
  where
    go : (n : ℕ) → is_open (after_delay now n next) ≡ true
    go zero = refl
    go (suc n) = refl
status_open now made (status.Waiting condition next) = refl
status_open now made (status.Calling into next) = refl
status_open now made (status.Done result) = refl
status_open now made (status.Faulted fault) = refl

pub ended_by_frames : EndedByFrames
ended_by_frames now [] table path order before after = absurd (cc)
ended_by_frames now (frame ∷ rest) table path order before after =
    by (has_ended (after_frame now frame table) path) refl
    (λ b. ended_by_frames now rest (after_frame now frame table) path (order_with table frame.path new order) b after)
  where
    made : ℕ
    made = children_made (task_at table frame.path) + children_in frame.items

    new : Task
    new = task_after now frame.status made

    by : (b : Bool) → has_ended (after_frame now frame table) path ≡ b → (has_ended (after_frame now frame table) path ≡ false → OverUnder path rest) → OverUnder path (frame ∷ rest)
    by false e further = later (further e)
    by true e further =
        let same = in_order_itself table order in
        let k = newly_ended table frame.path new path (distinct_of table order) (ap (λ t. has_ended t path) same ∙ before) (ap (λ t. has_ended (with_task t frame.path new) path) same ∙ e) in
        first k.0 (sym (status_open now made frame.status) ∙ k.1)
