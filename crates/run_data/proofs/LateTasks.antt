-- What others do where some directives rest.
use Rattle.std.proofs.Common.{◌≡◌, ◌⊎◌, inl, inr, ℕ, zero, suc, ◌+◌, ◌<◌, ◌≤◌, nat_eq, nat_lt, Bool, true, false, cond, not, ◌&&◌, ◌||◌, List, [], ◌∷◌, length, Option, Some, None, refl, sym, ap, ◌∙◌, subst, if◌then◌else◌, slice_get, arith}
use Rattle.std.proofs.lemmas.Bool.{false≢true, ltb-true, ltb-false}
use Rattle.std.proofs.lemmas.List.{length-append}
use Rattle.std.specs.Prelude.{min}
use Rattle.std.specs.BTreeMap.{is_at}
use Rattle.aerie_base.specs.declared.models.model.Parts.{Parts}
use Rattle.aerie_base.specs.declared.plans.Edge.{Edge}
use Rattle.aerie_base.specs.declared.plans.Edge.TheVariants.{Start, End}
use Rattle.aerie_base.specs.Paths.{root, child_path, path_cmp, is_prefix}
use Rattle.aerie_base.specs.TimeOrder.{earlier}
use Rattle.effect_cells.specs.declared.effects.CellState.{CellState}
use Rattle.run_data.specs.declared.tasks.TaskState.{TaskState}
use Rattle.run_data.specs.TaskFrames.{Frame}
use Rattle.run_data.specs.Endings.{is_open, has_ended, has_begun, has_come, back, due_phase, gone_on, after_batch}
use Rattle.run_data.specs.Fresh.{due_time, least_due, below}
use Rattle.run_data.specs.Tasks.{TaskPhase, anchored, ready, delayed, waiting, calling, over, Task, Table, task_at, with_task, ready_jobs, after_delay, task_after, after_frame, after_frames, children_made, children_in}
use Rattle.run_data.specs.laws.BatchFrames.{Among, HasPath, OfReady, OfChild, AreFramesOf}
use Rattle.run_data.specs.laws.EndedTasks.{OverUnder, first, later}
use Rattle.run_data.specs.laws.GoingOn.{IsQuiet, AllQuiet}
use Rattle.run_data.specs.laws.OrderedTables.{IsOrderedTable}
use Rattle.run_data.specs.laws.ReachedStates.{ComesFrom, directive, daemon, maker, IsTableOf}
use Rattle.run_data.specs.laws.ReadyTasks.{is_ready_phase}
use Rattle.std.proofs.Math.Nat.{min-le_left, min-le_right, le-min}
use Rattle.run_data.specs.laws.EndedTaskLaws.{stands_at, ended_by_frames}
use Rattle.run_data.specs.laws.PathsUnder.{both_true, same_number}
use Rattle.run_data.specs.laws.FramesByPath.{either_path, frame_of_path, new_at, at_no_frame, at_one_frame}
use Rattle.run_data.specs.TableLaws.{at_with, is_same, order_with}
use Rattle.run_data.specs.laws.LateDifferences.{is_of_differing, is_common, common_tasks}
use Rattle.run_data.specs.laws.LiveParts.{part}
use Rattle.run_data.specs.laws.TableParts.{order_part, part_at, part_none, ended_part, ready_part, same_tables, each_at, changed_at}
use Rattle.run_data.specs.laws.LiveAfterFrames.{each_of_among, quiet_at, anchors_never}

min_first : (a b : ℕ) → a ≤ b → min a b ≡ a
min_first a b h = let k = min-le_left a b in let least : a ≤ min a b = le-min (omega arith) h in omega arith

min_second : (a b : ℕ) → b ≤ a → min a b ≡ b
min_second a b h = let k = min-le_right a b in let least : b ≤ min a b = le-min h (omega arith) in omega arith

-- ---- a task put among others

module _ (keep : List ℕ → Bool) where
  pub kept_with : (table : Table) (path : List ℕ) (task : Task) → keep path ≡ true → IsOrderedTable table → part keep (with_task table path task) ≡ with_task (part keep table) path task
  kept_with table path task kept order =
      same_tables (part keep (with_task table path task)) (with_task (part keep table) path task) (order_part keep (with_task table path task) (order_with table path task order))
      (order_with (part keep table) path task (order_part keep table order)) (λ other. by other (keep other) (is_at (path_cmp other) path) refl refl)
    where
      by : (other : List ℕ) (here same : Bool) → keep other ≡ here → is_at (path_cmp other) path ≡ same → task_at (part keep (with_task table path task)) other ≡ task_at (with_task (part keep table) path task) other
      by other true same e f =
          part_at keep (with_task table path task) other e ∙ at_with table path other task ∙ ap (cond (is_at (path_cmp other) path) (Some task)) (sym (part_at keep table other e))
          ∙ sym (at_with (part keep table) path other task)
      by other false true e f = let clash : true ≡ false = sym kept ∙ ap keep (sym (is_same other path f)) ∙ e in absurd (cc)
      by other false false e f =
          part_none keep (with_task table path task) other e ∙ sym (part_none keep table other e)
          ∙ sym (at_with (part keep table) path other task ∙ ap (λ b. cond b (Some task) (task_at (part keep table) other)) f)

  pub out_with : (table : Table) (path : List ℕ) (task : Task) → keep path ≡ false → IsOrderedTable table → part keep (with_task table path task) ≡ part keep table
  out_with table path task out order =
      same_tables (part keep (with_task table path task)) (part keep table) (order_part keep (with_task table path task) (order_with table path task order)) (order_part keep table order)
      (λ other. by other (keep other) (is_at (path_cmp other) path) refl refl)
    where
      by : (other : List ℕ) (here same : Bool) → keep other ≡ here → is_at (path_cmp other) path ≡ same → task_at (part keep (with_task table path task)) other ≡ task_at (part keep table) other
      by other true true e f = let clash : true ≡ false = sym e ∙ ap keep (is_same other path f) ∙ out in absurd (cc)
      by other true false e f =
          part_at keep (with_task table path task) other e ∙ at_with table path other task ∙ ap (λ b. cond b (Some task) (task_at table other)) f ∙ sym (part_at keep table other e)
      by other false same e f = part_none keep (with_task table path task) other e ∙ sym (part_none keep table other e)

  kept_frames : (now : ℕ) (frames : List Frame) (table : Table) → ((path : List ℕ) → HasPath path frames → keep path ≡ true) → IsOrderedTable table →
      part keep (after_frames now frames table) ≡ after_frames now frames (part keep table)
  kept_frames now [] table has order = refl
  kept_frames now (frame ∷ rest) table has order =
      kept_frames now rest (after_frame now frame table) (λ path h. has path (inr h)) (order_with table frame.path (new_at now table frame) order)
      ∙ ap (after_frames now rest)
      (kept_with table frame.path (new_at now table frame) (has frame.path (inl refl)) order
      ∙ ap (λ o. with_task (part keep table) frame.path (task_after now frame.status (children_made o + children_in frame.items))) (sym (part_at keep table frame.path (has frame.path (inl refl)))))

-- ---- paths

pub longer_of : (differs : ℕ → Bool) (path : List ℕ) (number : ℕ) → 2 ≤ length path → is_of_differing differs (child_path path number) ≡ is_of_differing differs path
longer_of differs [] number long = absurd (omega arith)
longer_of differs (kind ∷ []) number long = absurd (omega arith)
longer_of differs (kind ∷ id ∷ children) number long = refl

pub prefix_of : (differs : ℕ → Bool) (path other : List ℕ) → 2 ≤ length path → is_prefix path other ≡ true → is_of_differing differs path ≡ is_of_differing differs other
prefix_of differs [] other long under = absurd (omega arith)
prefix_of differs (kind ∷ []) other long under = absurd (omega arith)
prefix_of differs (kind ∷ id ∷ children) [] long under = absurd (false≢true under)
prefix_of differs (kind ∷ id ∷ children) (front ∷ []) long under = absurd (false≢true (both_true (nat_eq kind front) (is_prefix (id ∷ children) []) under).1)
prefix_of differs (kind ∷ id ∷ children) (front ∷ second ∷ rest) long under =
    let a = both_true (nat_eq kind front) (is_prefix (id ∷ children) (second ∷ rest)) under in
    let b = both_true (nat_eq id second) (is_prefix children rest) a.1 in
    λ i. nat_eq (same_number kind front a.0 i) 0 && differs (same_number id second b.0 i)

-- each task of a table of the model is a directive's, a daemon's or under one
pub long_path : (table : Table) → ((path : List ℕ) (task : Task) → task_at table path ≡ Some task → ComesFrom table path) → (most : ℕ) (path : List ℕ) (task : Task) → length path < most → task_at table path ≡ Some task → 2 ≤ length path
long_path table makers zero path task short there = absurd (omega arith)
long_path table makers (suc most) path task short there = by (makers path task there) (λ above one less stands. long_path table makers most above one less stands)
  where
    by : ComesFrom table path → ((above : List ℕ) (one : Task) → length above < most → task_at table above ≡ Some one → 2 ≤ length above) → 2 ≤ length path
    by (directive id e) further = omega (arith, ap length e)
    by (daemon number e) further = omega (arith, ap length e)
    by (maker parent number one e there below) further =
        let long : length path ≡ length parent + 1 = ap length e ∙ length-append parent (number ∷ []) in
        let above = further parent one (omega (arith, long, short)) there in omega (arith, long, above)

pub stands_long : (model : Parts) (table : Table) → IsTableOf model table → (path : List ℕ) (task : Task) → task_at table path ≡ Some task → 2 ≤ length path
stands_long model table is path task there = long_path table is.makers (length path + 1) path task (omega arith) there

-- the frames of a batch
pub frame_long : (model : Parts) (table : Table) → IsTableOf model table → (frames : List Frame) → AreFramesOf table frames → (most : ℕ) (frame : Frame) → length frame.path < most → Among frame frames → 2 ≤ length frame.path
frame_long model table is frames are zero frame short among = absurd (omega arith)
frame_long model table is frames are (suc most) frame short among =
    by (each_of_among (λ one. OfReady table one ⊎ OfChild table frames one) frames frame are.origin among) (λ one less there. frame_long model table is frames are most one less there)
  where
    by : OfReady table frame ⊎ OfChild table frames frame → ((one : Frame) → length one.path < most → Among one frames → 2 ≤ length one.path) → 2 ≤ length frame.path
    by (inl from) further = stands_long model table is frame.path from.task from.there
    by (inr from) further =
        let long : length frame.path ≡ length from.maker.path + 1 = ap length from.is ∙ length-append from.maker.path ((children_made (task_at table from.maker.path) + from.number) ∷ []) in
        let above = further from.maker (omega (arith, long, short)) from.among in omega (arith, long, above)

-- ---- directives that rest

-- until a time, or while an edge has not come of which something is known
abbrev pub Rests : (ℕ → Edge → ℕ → Type 0) → ℕ → TaskPhase → Type 0
Rests Late until (delayed end_ state) = until ≤ end_
Rests Late until (anchored to edge start state) = Late to edge start
Rests Late until (ready state) = ⊥
Rests Late until (waiting condition state) = ⊥
Rests Late until (calling child into state) = ⊥
Rests Late until (over result) = ⊥

pub record Resting (Late : ℕ → Edge → ℕ → Type 0) (until : ℕ) (task : Task) : Type 0 where
  pub begun : task.begun ≡ false
  pub phase : Rests Late until task.phase

module _ (differs : ℕ → Bool) (Late : ℕ → Edge → ℕ → Type 0) (until : ℕ) where
  pub record AllRest (table : Table) : Type 0 where
    pub rest : (path : List ℕ) (task : Task) → task_at table path ≡ Some task → is_of_differing differs path ≡ true → Resting Late until task

  out_is : (b : Bool) → not b ≡ false → b ≡ true
  out_is true e = refl
  out_is false e = absurd (cc)

  at_out : (table : Table) → IsOrderedTable table → AllRest table → (number : ℕ) (path : List ℕ) (task : Task) → slice_get table number ≡ Some (path, task) → is_common differs path ≡ false → Resting Late until task
  at_out table order all number path task at out = all.rest path task (stands_at table number path task order at) (out_is (is_of_differing differs path) out)

  rests_not_ready : (phase : TaskPhase) → Rests Late until phase → is_ready_phase phase ≡ false
  rests_not_ready (delayed end_ state) h = refl
  rests_not_ready (anchored to edge start state) h = refl
  rests_not_ready (ready state) h = absurd h
  rests_not_ready (waiting condition state) h = absurd h
  rests_not_ready (calling child into state) h = absurd h
  rests_not_ready (over result) h = absurd h

  pub ready_others : (cells : List CellState) (table : Table) → IsOrderedTable table → AllRest table → ready_jobs cells (common_tasks differs table) ≡ ready_jobs cells table
  ready_others cells table order all =
      ready_part (is_common differs) cells table (λ number path task at out. rests_not_ready task.phase (at_out table order all number path task at out).phase)

  -- ---- the least due time

  below_least : (a : ℕ) → until ≤ a → below until (Some a) ≡ None
  below_least a h = by (nat_lt a until) refl
    where
      by : (less : Bool) → nat_lt a until ≡ less → ◌≡◌ {A = Option ℕ} (if less then Some a else None) None
      by true e = let k = ltb-true a until e in absurd (omega arith)
      by false e = refl

  rests_not_below : (now horizon : ℕ) (cells : List CellState) (phase : TaskPhase) → Rests Late until phase → below until (due_time now horizon cells phase) ≡ None
  rests_not_below now horizon cells (delayed end_ state) h = below_least end_ h
  rests_not_below now horizon cells (anchored to edge start state) h = refl
  rests_not_below now horizon cells (ready state) h = absurd h
  rests_not_below now horizon cells (waiting condition state) h = absurd h
  rests_not_below now horizon cells (calling child into state) h = absurd h
  rests_not_below now horizon cells (over result) h = absurd h

  below_earlier : (one other : Option ℕ) → below until (earlier one other) ≡ earlier (below until one) (below until other)
  below_earlier None other = refl
  below_earlier (Some a) None = by (nat_lt a until)
    where
      by : (less : Bool) → ◌≡◌ {A = Option ℕ} (if less then Some a else None) (earlier (if less then Some a else None) None)
      by true = refl
      by false = refl
  below_earlier (Some a) (Some b) = by (nat_lt a until) (nat_lt b until) (nat_lt (min a b) until) refl refl refl
    where
      by : (x y z : Bool) → nat_lt a until ≡ x → nat_lt b until ≡ y → nat_lt (min a b) until ≡ z →
          ◌≡◌ {A = Option ℕ} (if z then Some (min a b) else None) (earlier (if x then Some a else None) (if y then Some b else None))
      by true true true e f g = refl
      by true true false e f g = let k = ltb-true a until e in let l = ltb-true b until f in let m = ltb-false (min a b) until g in absurd (min_case a b until k m)
        where
          min_case : (a b c : ℕ) → a < c → (c ≤ min a b) → ⊥
          min_case a b c less more = let k = min-le_left a b in omega arith
      by true false true e f g =
          let k = ltb-true a until e in let l = ltb-false b until f in
          let same : min a b ≡ a = min_first a b (omega arith) in ap Some same
      by true false false e f g = let k = ltb-true a until e in let m = ltb-false (min a b) until g in let n = min-le_left a b in absurd (omega arith)
      by false true true e f g =
          let k = ltb-false a until e in let l = ltb-true b until f in
          let same : min a b ≡ b = min_second a b (omega arith) in ap Some same
      by false true false e f g = let k = ltb-true b until f in let m = ltb-false (min a b) until g in let n = min-le_right a b in absurd (omega arith)
      by false false true e f g =
          let k = ltb-false a until e in let l = ltb-false b until f in let m = ltb-true (min a b) until g in
          let least : until ≤ min a b = le-min k l in absurd (omega arith)
      by false false false e f g = refl

  due_left : (now horizon : ℕ) (cells : List CellState) (table : Table) →
      ((number : ℕ) (path : List ℕ) (task : Task) → slice_get table number ≡ Some (path, task) → is_common differs path ≡ false → below until (due_time now horizon cells task.phase) ≡ None) →
      below until (least_due now horizon cells (common_tasks differs table)) ≡ below until (least_due now horizon cells table)
  due_left now horizon cells [] out = refl
  due_left now horizon cells (entry ∷ rest) out = by (is_common differs entry.0) refl (due_left now horizon cells rest (λ number path task at. out (suc number) path task at))
    where
      due : Option ℕ
      due = due_time now horizon cells entry.1.phase

      by : (kept : Bool) → is_common differs entry.0 ≡ kept →
          below until (least_due now horizon cells (common_tasks differs rest)) ≡ below until (least_due now horizon cells rest) →
          below until (least_due now horizon cells (if kept then entry ∷ common_tasks differs rest else common_tasks differs rest)) ≡ below until (earlier due (least_due now horizon cells rest))
      by true e further =
          below_earlier due (least_due now horizon cells (common_tasks differs rest)) ∙ ap (earlier (below until due)) further ∙ sym (below_earlier due (least_due now horizon cells rest))
      by false e further =
          further ∙ ap (λ o. earlier o (below until (least_due now horizon cells rest))) (sym (out 0 entry.0 entry.1 refl e)) ∙ sym (below_earlier due (least_due now horizon cells rest))

  pub due_others : (now horizon : ℕ) (cells : List CellState) (table : Table) → IsOrderedTable table → AllRest table →
      below until (least_due now horizon cells (common_tasks differs table)) ≡ below until (least_due now horizon cells table)
  due_others now horizon cells table order all =
      due_left now horizon cells table (λ number path task at out. rests_not_below now horizon cells task.phase (at_out table order all number path task at out).phase)

-- what has ended of others is told by them alone
pub ended_others : (differs : ℕ → Bool) (table : Table) (path : List ℕ) → 2 ≤ length path → is_of_differing differs path ≡ false → has_ended (common_tasks differs table) path ≡ has_ended table path
ended_others differs table path long out =
    ended_part (is_common differs) path table (λ number other task at left. by other task (is_prefix path other) refl left)
  where
    by : (other : List ℕ) (task : Task) (under : Bool) → is_prefix path other ≡ under → is_common differs other ≡ false → (not (is_prefix path other) || not (is_open task.phase)) ≡ true
    by other task true e left =
        let same : is_of_differing differs path ≡ is_of_differing differs other = prefix_of differs path other long e in
        let k : true ≡ false = sym (ap not (sym same ∙ out)) ∙ left in absurd (cc)
    by other task false e left = ap (λ b. not b || not (is_open task.phase)) e

-- ---- the frames of a batch

module _ (differs : ℕ → Bool) (Late : ℕ → Edge → ℕ → Type 0) (until : ℕ) (model : Parts) (now : ℕ) (frames : List Frame) (table : Table) (is : IsTableOf model table)
    (all : AllRest differs Late until table) (quiet : AllQuiet table table) (are : AreFramesOf table frames) where
  abbrev pub whole : Table
  whole = after_frames now frames table

  frame_other : (most : ℕ) (frame : Frame) → length frame.path < most → Among frame frames → is_of_differing differs frame.path ≡ false
  frame_other zero frame short among = absurd (omega arith)
  frame_other (suc most) frame short among =
      by (each_of_among (λ one. OfReady table one ⊎ OfChild table frames one) frames frame are.origin among) (λ one less there. frame_other most one less there)
    where
      ready_rests : (phase : TaskPhase) (state : TaskState) → phase ≡ ready state → Rests Late until phase → ⊥
      ready_rests phase state e h = subst (Rests Late until) e h

      none : (b : Bool) → (b ≡ true → ⊥) → b ≡ false
      none true h = absurd (h refl)
      none false h = refl

      by : OfReady table frame ⊎ OfChild table frames frame → ((one : Frame) → length one.path < most → Among one frames → is_of_differing differs one.path ≡ false) → is_of_differing differs frame.path ≡ false
      by (inl from) further =
          none (is_of_differing differs frame.path) (λ e. ready_rests from.task.phase frame.before from.phase (all.rest frame.path from.task from.there e).phase)
      by (inr from) further =
          let n = children_made (task_at table from.maker.path) + from.number in
          let long : length frame.path ≡ length from.maker.path + 1 = ap length from.is ∙ length-append from.maker.path (n ∷ []) in
          let enough = frame_long model table is frames are (length from.maker.path + 1) from.maker (omega arith) from.among in
          ap (is_of_differing differs) from.is ∙ longer_of differs from.maker.path n enough ∙ further from.maker (omega (arith, long, short)) from.among

  path_other : (path : List ℕ) → HasPath path frames → is_of_differing differs path ≡ false
  path_other path has =
      let found = frame_of_path path frames has in
      ap (is_of_differing differs) (sym found.2) ∙ frame_other (length found.0.path + 1) found.0 (omega arith) found.1

  unframed : (path : List ℕ) → is_of_differing differs path ≡ true → HasPath path frames → ⊥
  unframed path e has = false≢true (sym (path_other path has) ∙ e)

  pub whole_others : common_tasks differs whole ≡ after_frames now frames (common_tasks differs table)
  whole_others = kept_frames (is_common differs) now frames table (λ path has. ap not (path_other path has)) is.order

  over_never : (path : List ℕ) → 2 ≤ length path → is_of_differing differs path ≡ true → (some : List Frame) → ((frame : Frame) → Among frame some → is_of_differing differs frame.path ≡ false) → OverUnder path some → ⊥
  over_never path long e [] none over_ = elim over_ [ ]
  over_never path long e (frame ∷ rest) none (first under closed) = false≢true (sym (none frame (inl refl)) ∙ sym (prefix_of differs path frame.path long under) ∙ e)
  over_never path long e (frame ∷ rest) none (later more) = over_never path long e rest (λ one among. none one (inr among)) more

  -- an edge of one of those directives that had not come does not come
  pub not_come : (to : ℕ) (edge : Edge) → differs to ≡ true → has_come table to edge ≡ false → has_come whole to edge ≡ false
  not_come to Start e before = ap has_begun (at_no_frame now frames table (root to) (unframed (root to) e)) ∙ before
  not_come to End e before = by (has_ended whole (root to)) refl
    where
      by : (b : Bool) → has_ended whole (root to) ≡ b → b ≡ false
      by false f = refl
      by true f =
          absurd (over_never (root to) (omega arith) e frames (λ frame among. frame_other (length frame.path + 1) frame (omega arith) among) (ended_by_frames now frames table (root to) is.order before f))

  -- an anchored task was anchored before
  pub was_anchored : (path : List ℕ) (task : Task) → task_at whole path ≡ Some task → (to : ℕ) (edge : Edge) (start : ℕ) (state : TaskState) → task.phase ≡ anchored to edge start state → has_come table to edge ≡ false
  was_anchored path task there to edge start state e = by (either_path path frames)
    where
      by : HasPath path frames ⊎ (HasPath path frames → ⊥) → has_come table to edge ≡ false
      by (inl has) =
          let found = frame_of_path path frames has in
          let o : Some (new_at now table found.0) ≡ Some task = sym (at_one_frame now frames table found.0 are.differ found.1) ∙ ap (task_at whole) found.2 ∙ there in
          let t : new_at now table found.0 ≡ task = cc in
          absurd (anchors_never now (children_made (task_at table found.0.path) + children_in found.0.items) found.0.status to edge start state (ap (λ (one : Task). one.phase) t ∙ e))
      by (inr none) = subst (IsQuiet table path) e (quiet_at table table path task quiet (sym (at_no_frame now frames table path none) ∙ there))

  -- ---- those directives rest on

  module _ (goes : (to : ℕ) (edge : Edge) (start : ℕ) → Late to edge start → has_come table to edge ≡ false → has_come whole to edge ≡ true → until ≤ now + start) (before : now < until) where
    delay_rests : (start : ℕ) (state : TaskState) → until ≤ now + start → Rests Late until (after_delay now start state)
    delay_rests zero state h = absurd (omega arith)
    delay_rests (suc less) state h = h

    phase_rests : (path : List ℕ) (phase : TaskPhase) → IsQuiet table path phase → Rests Late until phase → Rests Late until (due_phase whole now (back whole path phase))
    phase_rests path (delayed end_ state) still h = h
    phase_rests path (anchored to edge start state) still h = by (has_come whole to edge) refl
      where
        by : (b : Bool) → has_come whole to edge ≡ b → Rests Late until (if b then after_delay now start state else anchored to edge start state)
        by true e = delay_rests start state (goes to edge start h still e)
        by false e = h
    phase_rests path (ready state) still h = absurd h
    phase_rests path (waiting condition state) still h = absurd h
    phase_rests path (calling child into state) still h = absurd h
    phase_rests path (over result) still h = absurd h

    pub batch_rests : AllRest differs Late until (after_batch now frames table)
    batch_rests = record { rest = λ path task there e. by path task (task_at table path) refl (sym (each_at (gone_on whole now) whole path ∙ ap (changed_at (gone_on whole now) path) (at_no_frame now frames table path (unframed path e))) ∙ there) e }
      where
        by : (path : List ℕ) (task : Task) (found : Option Task) → task_at table path ≡ found → changed_at (gone_on whole now) path (task_at table path) ≡ Some task → is_of_differing differs path ≡ true → Resting Late until task
        by path task None e f out = let k : ◌≡◌ {A = Option Task} None (Some task) = sym (ap (changed_at (gone_on whole now) path) e) ∙ f in absurd (cc)
        by path task (Some one) e f out =
            let k : Some (gone_on whole now path one) ≡ Some task = sym (ap (changed_at (gone_on whole now) path) e) ∙ f in
            let same : gone_on whole now path one ≡ task = cc in
            let rests = all.rest path one e out in
            subst (Resting Late until) same (record { begun = rests.begun; phase = phase_rests path one.phase (quiet_at table table path one quiet e) rests.phase })
