-- A file of lemmas: what it proves need not be read to trust a clause.
--
-- The live part of a table of tasks: it is in order, it is quiet, and frames of the table are frames of it.
use Rattle.std.proofs.Common.{◌≡◌, ◌⊎◌, inl, inr, ℕ, ◌+◌, ◌-◌, Bool, true, false, not, List, [], ◌∷◌, None, refl, sym, ap, ◌∙◌, subst, if◌then◌else◌}
use Rattle.aerie_base.specs.declared.plans.Edge.{Edge}
use Rattle.aerie_base.specs.declared.plans.Edge.TheVariants.{Start, End}
use Rattle.aerie_base.specs.Paths.{root, child_path}
use Rattle.run_data.specs.TaskFrames.{Frame}
use Rattle.run_data.specs.Endings.{is_open, has_begun, has_come}
use Rattle.run_data.specs.Tasks.{TaskPhase, anchored, ready, delayed, waiting, calling, over, Table, task_at, children_made, children_in}
use Rattle.run_data.specs.laws.BatchFrames.{Among, HasPath, OfReady, OfChild, AreFramesOf}
use Rattle.run_data.specs.laws.GoingOn.{IsQuiet, AllQuiet}
use Rattle.run_data.specs.laws.Orders.{EachOf}
use Rattle.run_data.specs.laws.OrderedTables.{IsOrderedTable}
use Rattle.run_data.specs.laws.LiveParts.{part, is_live, live}
use Rattle.run_data.specs.laws.TableParts.{order_part, part_at, part_none}
use Rattle.run_data.specs.laws.LivePartLaws.{SameLive, ended_live, open_live}
use Rattle.run_data.specs.laws.LiveAfterFrames.{each_of_among}

module _ (table : Table) (order : IsOrderedTable table) where
  pub live_order : IsOrderedTable (live table)
  live_order = order_part (is_live table) table order

  pub live_same : SameLive table (live table)
  live_same = record {
    ended = λ path. sym (ended_live table order path);
    tasks = λ path e. sym (part_at (is_live table) table path (ap not e));
  }

  -- ---- it is quiet

  none_begun : (path : List ℕ) → has_begun (task_at table path) ≡ false → has_begun (task_at (live table) path) ≡ false
  none_begun path e = by (is_live table path) refl
    where
      by : (b : Bool) → is_live table path ≡ b → has_begun (task_at (live table) path) ≡ false
      by true f = ap has_begun (part_at (is_live table) table path f) ∙ e
      by false f = ap has_begun (part_none (is_live table) table path f)

  not_come : (to : ℕ) (edge : Edge) → has_come table to edge ≡ false → has_come (live table) to edge ≡ false
  not_come to Start e = none_begun (root to) e
  not_come to End e = ended_live table order (root to) ∙ e

  still_quiet : (path : List ℕ) (phase : TaskPhase) → IsQuiet table path phase → IsQuiet (live table) path phase
  still_quiet path (calling child into state) h = ended_live table order (child_path path child) ∙ h
  still_quiet path (anchored to edge start state) h = not_come to edge h
  still_quiet path (ready state) h = tt
  still_quiet path (delayed until state) h = tt
  still_quiet path (waiting condition state) h = tt
  still_quiet path (over result) h = tt

  pub part_quiet : (others : Table) → AllQuiet table others → AllQuiet (live table) (part (is_live table) others)
  part_quiet [] all = tt
  part_quiet (entry ∷ rest) all = by (is_live table entry.0) (part_quiet rest all.1)
    where
      by : (kept : Bool) → AllQuiet (live table) (part (is_live table) rest) → AllQuiet (live table) (if kept then entry ∷ part (is_live table) rest else part (is_live table) rest)
      by true further = (still_quiet entry.0 entry.1.phase all.0, further)
      by false further = further

  -- ---- the frames are of it

  module _ (frames : List Frame) (are : AreFramesOf table frames) where
    abbrev From : Frame → Type 0
    From frame = OfReady table frame ⊎ OfChild table frames frame

    none_there : (path : List ℕ) → task_at table path ≡ None → task_at (live table) path ≡ None
    none_there path e = by (is_live table path) refl
      where
        by : (b : Bool) → is_live table path ≡ b → task_at (live table) path ≡ None
        by true f = part_at (is_live table) table path f ∙ e
        by false f = part_none (is_live table) table path f

    ready_there : (frame : Frame) → OfReady table frame → task_at (live table) frame.path ≡ task_at table frame.path
    ready_there frame from = part_at (is_live table) table frame.path (ap not (open_live table order frame.path from.task from.there (ap is_open from.phase)))

    same_there : (frame : Frame) → From frame → task_at (live table) frame.path ≡ task_at table frame.path
    same_there frame (inl from) = ready_there frame from
    same_there frame (inr from) = none_there frame.path from.fresh ∙ sym from.fresh

    frame_there : (frame : Frame) → Among frame frames → task_at (live table) frame.path ≡ task_at table frame.path
    frame_there frame among = same_there frame (each_of_among From frames frame are.origin among)

    of_live : (frame : Frame) → From frame → OfReady (live table) frame ⊎ OfChild (live table) frames frame
    of_live frame (inl from) = inl (record { task = from.task; there = ready_there frame from ∙ from.there; phase = from.phase })
    of_live frame (inr from) =
        inr (record {
          maker = from.maker;
          among = from.among;
          number = from.number;
          below = from.below;
          is = from.is ∙ ap (λ o. child_path from.maker.path (children_made o + from.number)) (sym (frame_there from.maker from.among));
          fresh = none_there frame.path from.fresh;
        })

    each_live : (some : List Frame) → EachOf From some → EachOf (λ frame. OfReady (live table) frame ⊎ OfChild (live table) frames frame) some
    each_live [] each = tt
    each_live (frame ∷ rest) each = (of_live frame each.0, each_live rest each.1)

    pub live_frames : AreFramesOf (live table) frames
    live_frames = record {
      differ = are.differ;
      origin = each_live frames are.origin;
      few = are.few;
      calls = λ frame among into next e.
          subst (λ o. HasPath (child_path frame.path (children_made o + children_in frame.items - 1)) frames) (sym (frame_there frame among)) (are.calls frame among into next e);
    }
