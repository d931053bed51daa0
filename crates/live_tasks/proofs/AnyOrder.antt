-- Frames in order of path and as they were made.
use Rattle.std.proofs.Common.{◌≡◌, ◌⊎◌, inl, inr, ℕ, List, [], ◌∷◌, sym, ap, ◌∙◌, subst}
use Rattle.std.specs.declared.cmp.Ordering.{Ordering}
use Rattle.std.specs.declared.cmp.Ordering.TheVariants.{Less, Equal, Greater}
use Rattle.aerie_base.specs.Paths.{path_cmp}
use Rattle.run_data.specs.TaskFrames.{Frame}
use Rattle.run_data.specs.Batches.{by_path, put_by_path, in_front_unless_greater}
use Rattle.run_data.specs.Endings.{gone_on}
use Rattle.run_data.specs.FrameLaws.{any_put, any_sorted, sorted_any}
use Rattle.run_data.specs.Tasks.{Table, task_at, after_frames, on_each}
use Rattle.run_data.specs.laws.BatchFrames.{HasPath, Differ, OfReady, OfChild}
use Rattle.run_data.specs.laws.Orders.{EachOf}
use Rattle.run_data.specs.laws.OrderedTables.{IsOrderedTable}
use Rattle.run_data.specs.laws.OpenTasks.{order_frames}
use Rattle.run_data.specs.laws.FramesByPath.{either_path, frame_of_path, differ_sorted, at_no_frame, at_one_frame}
use Rattle.run_data.specs.laws.TableParts.{same_tables}
use Rattle.live_tasks.specs.AnyOrder.{SameInAnyOrder, OfTasksInAnyOrder}

-- ---- the table after them

module _ (now : ℕ) (frames : List Frame) (table : Table) (differ : Differ frames) where
  at_any : (path : List ℕ) → task_at (after_frames now (by_path frames) table) path ≡ task_at (after_frames now frames table) path
  at_any path = by (either_path path frames)
    where
      by : HasPath path frames ⊎ (HasPath path frames → ⊥) → task_at (after_frames now (by_path frames) table) path ≡ task_at (after_frames now frames table) path
      by (inl has) =
          let found = frame_of_path path frames has in
          subst (λ p. task_at (after_frames now (by_path frames) table) p ≡ task_at (after_frames now frames table) p) found.2
          (at_one_frame now (by_path frames) table found.0 (differ_sorted frames differ) (any_sorted (λ one. one ≡ found.0) frames found.1)
          ∙ sym (at_one_frame now frames table found.0 differ found.1))
      by (inr none) =
          at_no_frame now (by_path frames) table path (λ has. none (sorted_any (λ one. one.path ≡ path) frames has))
          ∙ sym (at_no_frame now frames table path none)

  pub frames_any : IsOrderedTable table → after_frames now (by_path frames) table ≡ after_frames now frames table
  frames_any order = same_tables (after_frames now (by_path frames) table) (after_frames now frames table) (order_frames now (by_path frames) table order) (order_frames now frames table order) at_any

pub same_in_any_order : SameInAnyOrder
same_in_any_order now frames table order differ = ap (λ (whole : Table). on_each (gone_on whole now) whole) (frames_any now frames table differ order)

-- ---- back from the order of path

differ_put_back : (one : Frame) (frames : List Frame) → Differ (put_by_path one frames) → Differ (one ∷ frames)
differ_put_back one [] differ = differ
differ_put_back one (first ∷ rest) differ = by (path_cmp one.path first.path) differ (differ_put_back one rest)
  where
    by : (order : Ordering) → Differ (in_front_unless_greater order one first rest (put_by_path one rest)) → (Differ (put_by_path one rest) → Differ (one ∷ rest)) → Differ (one ∷ first ∷ rest)
    by Less d further = d
    by Equal d further = d
    by Greater d further = (apart, (λ has. d.0 (any_put (λ f. f.path ≡ first.path) one rest (inr has)), below.1))
      where
        below : Differ (one ∷ rest)
        below = further d.1

        apart : HasPath one.path (first ∷ rest) → ⊥
        apart (inl same) = d.0 (any_put (λ f. f.path ≡ first.path) one rest (inl (sym same)))
        apart (inr has) = below.0 has

differ_back : (frames : List Frame) → Differ (by_path frames) → Differ frames
differ_back [] differ = tt
differ_back (frame ∷ rest) differ =
    let d = differ_put_back frame (by_path rest) differ in
    (λ has. d.0 (any_sorted (λ f. f.path ≡ frame.path) rest has), differ_back rest d.1)

each_put_back : (P : Frame → Type 0) (one : Frame) (frames : List Frame) → EachOf P (put_by_path one frames) → P one × EachOf P frames
each_put_back P one [] each = each
each_put_back P one (first ∷ rest) each = by (path_cmp one.path first.path) each (each_put_back P one rest)
  where
    by : (order : Ordering) → EachOf P (in_front_unless_greater order one first rest (put_by_path one rest)) → (EachOf P (put_by_path one rest) → P one × EachOf P rest) →
        P one × EachOf P (first ∷ rest)
    by Less e further = e
    by Equal e further = e
    by Greater e further = let below = further e.1 in (below.0, (e.0, below.1))

each_back : (P : Frame → Type 0) (frames : List Frame) → EachOf P (by_path frames) → EachOf P frames
each_back P [] each = tt
each_back P (frame ∷ rest) each = let back = each_put_back P frame (by_path rest) each in (back.0, each_back P rest back.1)

each_weaker : (P Q : Frame → Type 0) → ((frame : Frame) → P frame → Q frame) → (frames : List Frame) → EachOf P frames → EachOf Q frames
each_weaker P Q gives [] each = tt
each_weaker P Q gives (frame ∷ rest) each = (gives frame each.0, each_weaker P Q gives rest each.1)

module _ (table : Table) (frames : List Frame) where
  of_any : (frame : Frame) → OfReady table frame ⊎ OfChild table (by_path frames) frame → OfReady table frame ⊎ OfChild table frames frame
  of_any frame (inl from) = inl from
  of_any frame (inr from) =
      inr (record {
        maker = from.maker;
        among = sorted_any (λ one. one ≡ from.maker) frames from.among;
        number = from.number;
        below = from.below;
        is = from.is;
        fresh = from.fresh;
      })

pub of_tasks_in_any_order : OfTasksInAnyOrder
of_tasks_in_any_order table frames are = record {
  differ = differ_back frames are.differ;
  origin = each_weaker _ _ (of_any table frames) frames (each_back _ frames are.origin);
  few = each_back _ frames are.few;
  calls = λ frame among into next e. sorted_any _ frames (are.calls frame (any_sorted (λ one. one ≡ frame) frames among) into next e);
}
