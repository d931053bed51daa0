-- A file of lemmas: what it proves need not be read to trust a clause.
--
-- Tables with the same live part, after the same frames.
use Rattle.std.proofs.Common.{◌≡◌, ◌⊎◌, inl, inr, ℕ, zero, suc, ◌+◌, ◌-◌, nat_abs, nat_eq, Bool, true, false, cond, ◌&&◌, List, [], ◌∷◌, Option, Some, refl, sym, ap, ◌∙◌, subst, IsTrue}
use Rattle.std.proofs.lemmas.Bool.{false≢true}
use Rattle.std.specs.BTreeMap.{is_at}
use Rattle.aerie_base.specs.declared.plans.Edge.{Edge}
use Rattle.aerie_base.specs.Paths.{child_path, path_cmp, is_prefix}
use Rattle.run_data.specs.declared.tasks.TaskState.{TaskState}
use Rattle.run_data.specs.TaskFrames.{Frame}
use Rattle.run_data.specs.declared.frames.Status.{Status}
use Rattle.run_data.specs.declared.frames.Status.TheVariants as status
use Rattle.run_data.specs.Endings.{has_ended}
use Rattle.run_data.specs.Tasks.{anchored, calling, Task, Table, task_at, with_task, after_delay, phase_after, task_after, after_frame, after_frames, children_made, children_in}
use Rattle.run_data.specs.laws.BatchFrames.{AnyFrame, Among, HasPath}
use Rattle.run_data.specs.laws.EndedTasks.{open_is}
use Rattle.run_data.specs.laws.GoingOn.{IsQuiet, AllQuiet}
use Rattle.run_data.specs.laws.Orders.{EachOf}
use Rattle.run_data.specs.laws.OrderedTables.{IsOrderedTable}
use Rattle.run_data.specs.laws.EndedTaskLaws.{ended_by_open_bodies, open_some}
use Rattle.run_data.specs.laws.PathsUnder.{both_true, same_number}
use Rattle.run_data.specs.laws.FramesByPath.{new_at}
use Rattle.run_data.specs.TableLaws.{order_with, at_with, is_same}
use Rattle.run_data.specs.laws.LiveParts.{LiveByPaths}
use Rattle.run_data.specs.laws.LivePartLaws.{SameLive, open_live, live_of}

-- ---- tables that agree on some paths, and on which bodies are open

pub record AgreeAt (K : List ℕ → Type 0) (table other : Table) : Type 0 where
  pub tasks : (path : List ℕ) → K path → task_at table path ≡ task_at other path
  pub opens : (path : List ℕ) → open_is (task_at table path) ≡ open_is (task_at other path)

open_one : (here : Bool) (new : Task) (first second : Option Task) → open_is first ≡ open_is second → open_is (cond here (Some new) first) ≡ open_is (cond here (Some new) second)
open_one true new first second e = refl
open_one false new first second e = e

agree_put : (K : List ℕ → Type 0) (table other : Table) (path : List ℕ) (new : Task) → AgreeAt K table other → AgreeAt K (with_task table path new) (with_task other path new)
agree_put K table other path new agree = record {
  tasks = λ p k. at_with table path p new ∙ ap (cond (is_at (path_cmp p) path) (Some new)) (agree.tasks p k) ∙ sym (at_with other path p new);
  opens = λ p.
      ap open_is (at_with table path p new) ∙ open_one (is_at (path_cmp p) path) new (task_at table p) (task_at other p) (agree.opens p)
      ∙ sym (ap open_is (at_with other path p new));
}

pub agree_frames : (K : List ℕ → Type 0) (now : ℕ) (frames : List Frame) (table other : Table) → ((path : List ℕ) → HasPath path frames → K path) → AgreeAt K table other →
    AgreeAt K (after_frames now frames table) (after_frames now frames other)
agree_frames K now [] table other has agree = agree
agree_frames K now (frame ∷ rest) table other has agree =
    agree_frames K now rest (after_frame now frame table) (after_frame now frame other) (λ path h. has path (inr h))
    (subst (λ (o : Option Task). AgreeAt K (after_frame now frame table) (with_task other frame.path (task_after now frame.status (children_made o + children_in frame.items))))
    (agree.tasks frame.path (has frame.path (inl refl))) (agree_put K table other frame.path (new_at now table frame) agree))

-- what has ended goes by the open bodies
ended_one_way : (table other : Table) → IsOrderedTable table → IsOrderedTable other → ((path : List ℕ) → open_is (task_at table path) ≡ open_is (task_at other path)) → (path : List ℕ) →
    has_ended table path ≡ false → has_ended other path ≡ false
ended_one_way table other order second opens path e =
    let any = (ended_by_open_bodies table path order).0 e in
    (ended_by_open_bodies other path second).1 (any.0, sym (opens any.0) ∙ any.1, any.2)

pub ended_same : (table other : Table) → IsOrderedTable table → IsOrderedTable other → ((path : List ℕ) → open_is (task_at table path) ≡ open_is (task_at other path)) → (path : List ℕ) →
    has_ended table path ≡ has_ended other path
ended_same table other order second opens path =
    by (has_ended table path) (has_ended other path) refl refl (ended_one_way table other order second opens path) (ended_one_way other table second order (λ p. sym (opens p)) path)
  where
    by : (a b : Bool) → has_ended table path ≡ a → has_ended other path ≡ b → (has_ended table path ≡ false → has_ended other path ≡ false) → (has_ended other path ≡ false → has_ended table path ≡ false) → a ≡ b
    by true true e f there again = refl
    by false false e f there again = refl
    by true false e f there again = sym e ∙ again f
    by false true e f there again = sym (there e) ∙ f

-- ---- open bodies of tables with the same live part

module _ (table other : Table) (order : IsOrderedTable table) (second : IsOrderedTable other) (same : SameLive table other) where
  opens_ended : (path : List ℕ) → open_is (task_at table path) ≡ true → has_ended table path ≡ false
  opens_ended path e = let v = open_some path (task_at table path) e in open_live table order path v.0 v.1 v.2

  opens_ended_other : (path : List ℕ) → open_is (task_at other path) ≡ true → has_ended table path ≡ false
  opens_ended_other path e = let v = open_some path (task_at other path) e in same.ended path ∙ open_live other second path v.0 v.1 v.2

  pub opens_same : (path : List ℕ) → open_is (task_at table path) ≡ open_is (task_at other path)
  opens_same path = by (open_is (task_at table path)) (open_is (task_at other path)) refl refl
    where
      by : (a b : Bool) → open_is (task_at table path) ≡ a → open_is (task_at other path) ≡ b → a ≡ b
      by true b e f = sym e ∙ ap open_is (same.tasks path (opens_ended path e)) ∙ f
      by false true e f = sym e ∙ ap open_is (same.tasks path (opens_ended_other path f)) ∙ f
      by false false e f = refl

-- ---- paths of frames and above them

pub prefix_child : (path whose : List ℕ) (number : ℕ) → is_prefix path (child_path whose number) ≡ true → (path ≡ child_path whose number) ⊎ (is_prefix path whose ≡ true)
prefix_child [] whose number e = inr refl
prefix_child (first ∷ path) [] number e = by path (both_true (nat_eq first number) (is_prefix path []) e)
  where
    by : (path : List ℕ) → (nat_eq first number ≡ true) × (is_prefix path [] ≡ true) → (first ∷ path ≡ number ∷ []) ⊎ (is_prefix (first ∷ path) [] ≡ true)
    by [] fit = inl (ap (λ n. n ∷ []) (same_number first number fit.0))
    by (second ∷ path) fit = absurd (false≢true fit.1)
prefix_child (first ∷ path) (again ∷ whose) number e = by (both_true (nat_eq first again) (is_prefix path (child_path whose number)) e) (prefix_child path whose number)
  where
    by : (nat_eq first again ≡ true) × (is_prefix path (child_path whose number) ≡ true) →
        (is_prefix path (child_path whose number) ≡ true → (path ≡ child_path whose number) ⊎ (is_prefix path whose ≡ true)) →
        (first ∷ path ≡ again ∷ child_path whose number) ⊎ ((nat_eq first again && is_prefix path whose) ≡ true)
    by fit further = go (further fit.1)
      where
        go : (path ≡ child_path whose number) ⊎ (is_prefix path whose ≡ true) → (first ∷ path ≡ again ∷ child_path whose number) ⊎ ((nat_eq first again && is_prefix path whose) ≡ true)
        go (inl h) = inl (λ i. same_number first again fit.0 i ∷ h i)
        go (inr h) = inr (λ i. fit.0 i && h i)

pub each_of_among : (P : Frame → Type 0) (frames : List Frame) (frame : Frame) → EachOf P frames → Among frame frames → P frame
each_of_among P [] frame each among = absurd among
each_of_among P (first ∷ rest) frame each (inl e) = subst P e each.0
each_of_among P (first ∷ rest) frame each (inr among) = each_of_among P rest frame each.1 among

-- a path is above a frame's or its own
abbrev pub Under : List Frame → List ℕ → Type 0
Under frames path = AnyFrame (λ frame. is_prefix path frame.path ≡ true) frames

pub any_frame : (P : Frame → Type 0) (frames : List Frame) → AnyFrame P frames → (frame : Frame) × Among frame frames × P frame
any_frame P [] h = absurd h
any_frame P (frame ∷ rest) (inl h) = (frame, inl refl, h)
any_frame P (frame ∷ rest) (inr h) = let found = any_frame P rest h in (found.0, inr found.1, found.2)

-- what is live after frames was so before or is above one of them
put_live : (table : Table) (path whose : List ℕ) (new : Task) → IsOrderedTable table → has_ended (with_task table path new) whose ≡ false → (has_ended table whose ≡ false) ⊎ (is_prefix whose path ≡ true)
put_live table path whose new order e = by any.0 any.1 any.2 (is_at (path_cmp any.0) path) refl
  where
    any : (other : List ℕ) × IsTrue (open_is (task_at (with_task table path new) other)) × IsTrue (is_prefix whose other)
    any = (ended_by_open_bodies (with_task table path new) whose (order_with table path new order)).0 e

    by : (other : List ℕ) → IsTrue (open_is (task_at (with_task table path new) other)) → IsTrue (is_prefix whose other) → (here : Bool) → is_at (path_cmp other) path ≡ here →
        (has_ended table whose ≡ false) ⊎ (is_prefix whose path ≡ true)
    by other open_ under true f = inr (subst (λ p. is_prefix whose p ≡ true) (is_same other path f) under)
    by other open_ under false f =
        inl ((ended_by_open_bodies table whose order).1
        (other, ap open_is (sym (at_with table path other new ∙ ap (λ b. cond b (Some new) (task_at table other)) f)) ∙ open_, under))

pub live_before : (now : ℕ) (frames : List Frame) (table : Table) (path : List ℕ) → IsOrderedTable table → has_ended (after_frames now frames table) path ≡ false →
    (has_ended table path ≡ false) ⊎ Under frames path
live_before now [] table path order e = inl e
live_before now (frame ∷ rest) table path order e =
    by (live_before now rest (after_frame now frame table) path (order_with table frame.path (new_at now table frame) order) e)
  where
    go : (has_ended table path ≡ false) ⊎ (is_prefix path frame.path ≡ true) → (has_ended table path ≡ false) ⊎ Under (frame ∷ rest) path
    go (inl h) = inl h
    go (inr h) = inr (inl h)

    by : (has_ended (after_frame now frame table) path ≡ false) ⊎ Under rest path → (has_ended table path ≡ false) ⊎ Under (frame ∷ rest) path
    by (inl h) = go (put_live table frame.path path (new_at now table frame) order h)
    by (inr h) = inr (inr h)

-- ---- a task that is quiet

pub quiet_at : (table others : Table) (path : List ℕ) (task : Task) → AllQuiet table others → task_at others path ≡ Some task → IsQuiet table path task.phase
quiet_at table [] path task all e = absurd (cc)
quiet_at table (entry ∷ rest) path task all e = by (is_at (path_cmp path) entry.0) refl e (quiet_at table rest path task all.1)
  where
    by : (here : Bool) → is_at (path_cmp path) entry.0 ≡ here → cond here (Some entry.1) (task_at rest path) ≡ Some task → (task_at rest path ≡ Some task → IsQuiet table path task.phase) → IsQuiet table path task.phase
    by true f e further =
        let t : entry.1 ≡ task = cc in
        subst (λ p. IsQuiet table p task.phase) (sym (is_same path entry.0 f)) (subst (λ (one : Task). IsQuiet table entry.0 one.phase) t all.0)
    by false f e further = further e

-- ---- what a frame leaves is not anchored, and calls where it says so

delay_calls : (now by : ℕ) (state : TaskState) (child : ℕ) (into : Option ℕ) (next : TaskState) → after_delay now by state ≡ calling child into next → ⊥
delay_calls now zero state child into next e = cc
delay_calls now (suc less) state child into next e = cc

delay_anchors : (now by : ℕ) (state : TaskState) (to : ℕ) (edge : Edge) (start : ℕ) (next : TaskState) → after_delay now by state ≡ anchored to edge start next → ⊥
delay_anchors now zero state to edge start next e = cc
delay_anchors now (suc less) state to edge start next e = cc

pub calls_by : (now made : ℕ) (how : Status) (child : ℕ) (into : Option ℕ) (state : TaskState) → phase_after now made how ≡ calling child into state → (how ≡ status.Calling into state) × (child ≡ made - 1)
calls_by now made (status.Delayed by next) child into state e = absurd (delay_calls now (nat_abs by) next child into state e)
calls_by now made (status.Waiting condition next) child into state e = absurd (cc)
calls_by now made (status.Calling slot next) child into state e = (cc, cc)
calls_by now made (status.Done result) child into state e = absurd (cc)
calls_by now made (status.Faulted fault) child into state e = absurd (cc)

pub anchors_never : (now made : ℕ) (how : Status) (to : ℕ) (edge : Edge) (start : ℕ) (state : TaskState) → phase_after now made how ≡ anchored to edge start state → ⊥
anchors_never now made (status.Delayed by next) to edge start state e = delay_anchors now (nat_abs by) next to edge start state e
anchors_never now made (status.Waiting condition next) to edge start state e = cc
anchors_never now made (status.Calling slot next) to edge start state e = cc
anchors_never now made (status.Done result) to edge start state e = cc
anchors_never now made (status.Faulted fault) to edge start state e = cc

-- ---- the same live part, path by path

pub live_by_paths : LiveByPaths
live_by_paths table other order second tasks =
    live_of table other order second (record {
      ended = ended_same table other order second opens;
      tasks = λ path e. tasks path (inl e);
    })
  where
    open_in : (path : List ℕ) (of : Table) → IsOrderedTable of → open_is (task_at of path) ≡ true → has_ended of path ≡ false
    open_in path of in_order e = let v = open_some path (task_at of path) e in open_live of in_order path v.0 v.1 v.2

    opens : (path : List ℕ) → open_is (task_at table path) ≡ open_is (task_at other path)
    opens path = by (open_is (task_at table path)) (open_is (task_at other path)) refl refl
      where
        by : (a b : Bool) → open_is (task_at table path) ≡ a → open_is (task_at other path) ≡ b → a ≡ b
        by true b e f = sym e ∙ ap open_is (tasks path (inl (open_in path table order e))) ∙ f
        by false true e f = sym e ∙ ap open_is (tasks path (inr (open_in path other second f))) ∙ f
        by false false e f = refl
