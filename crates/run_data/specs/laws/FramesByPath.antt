-- A file of lemmas: what it proves need not be read to trust a clause.
--
-- Frames of different paths, in whatever order: what stands at each path after them.
use Rattle.std.proofs.Common.{◌≡◌, ◌⊎◌, inl, inr, ℕ, ◌+◌, Bool, true, false, cond, List, [], ◌∷◌, Option, Some, refl, sym, ap, ◌∙◌, subst}
use Rattle.std.specs.declared.cmp.Ordering.{Ordering}
use Rattle.std.specs.declared.cmp.Ordering.TheVariants.{Less, Equal, Greater}
use Rattle.std.specs.Ordering.{is_eq}
use Rattle.std.specs.BTreeMap.{is_at}
use Rattle.aerie_base.specs.Paths.{path_cmp}
use Rattle.run_data.specs.TaskFrames.{Frame}
use Rattle.run_data.specs.Batches.{by_path, put_by_path, in_front_unless_greater}
use Rattle.run_data.specs.Tasks.{Task, Table, task_at, after_frame, after_frames, task_after, children_made, children_in}
use Rattle.run_data.specs.laws.BatchFrames.{AnyFrame, Among, HasPath, Differ}
use Rattle.run_data.specs.FrameLaws.{put_any, sorted_any}
use Rattle.run_data.specs.TableLaws.{at_with, is_same, path_itself}

pub any_weaker : (P Q : Frame → Type 0) → ((frame : Frame) → P frame → Q frame) → (frames : List Frame) → AnyFrame P frames → AnyFrame Q frames
any_weaker P Q gives [] h = absurd h
any_weaker P Q gives (frame ∷ rest) (inl h) = inl (gives frame h)
any_weaker P Q gives (frame ∷ rest) (inr h) = inr (any_weaker P Q gives rest h)

pub path_of : (frame : Frame) (frames : List Frame) → Among frame frames → HasPath frame.path frames
path_of frame = any_weaker (λ one. one ≡ frame) (λ one. one.path ≡ frame.path) (λ one e. ap (λ (f : Frame). f.path) e)

pub frame_of_path : (path : List ℕ) (frames : List Frame) → HasPath path frames → (frame : Frame) × Among frame frames × (frame.path ≡ path)
frame_of_path path [] h = absurd h
frame_of_path path (frame ∷ rest) (inl e) = (frame, inl refl, e)
frame_of_path path (frame ∷ rest) (inr h) = let found = frame_of_path path rest h in (found.0, inr found.1, found.2)

at_itself : (path : List ℕ) → is_at (path_cmp path) path ≡ true
at_itself path = ap is_eq (path_itself path)

-- a frame has this path, or none has
pub either_path : (path : List ℕ) (frames : List Frame) → HasPath path frames ⊎ (HasPath path frames → ⊥)
either_path path [] = inr (λ h. h)
either_path path (frame ∷ rest) = by (is_at (path_cmp path) frame.path) refl (either_path path rest)
  where
    neither : is_at (path_cmp path) frame.path ≡ false → (HasPath path rest → ⊥) → HasPath path (frame ∷ rest) → ⊥
    neither e none (inl same) =
        let here : is_at (path_cmp path) frame.path ≡ true = ap (λ p. is_at (path_cmp path) p) same ∙ at_itself path in
        let clash : true ≡ false = sym here ∙ e in absurd (cc)
    neither e none (inr has) = none has

    by : (here : Bool) → is_at (path_cmp path) frame.path ≡ here → HasPath path rest ⊎ (HasPath path rest → ⊥) → HasPath path (frame ∷ rest) ⊎ (HasPath path (frame ∷ rest) → ⊥)
    by true e further = inl (inl (sym (is_same path frame.path e)))
    by false e (inl has) = inl (inr has)
    by false e (inr none) = inr (neither e none)

-- ---- in order of path

differ_put : (one : Frame) (frames : List Frame) → (HasPath one.path frames → ⊥) → Differ frames → Differ (put_by_path one frames)
differ_put one [] none differ = (λ h. h, tt)
differ_put one (first ∷ rest) none differ = by (path_cmp one.path first.path) (differ_put one rest (λ h. none (inr h)) differ.1)
  where
    apart : HasPath first.path (put_by_path one rest) → ⊥
    apart has = go (put_any (λ f. f.path ≡ first.path) one rest has)
      where
        go : HasPath first.path (one ∷ rest) → ⊥
        go (inl e) = none (inl (sym e))
        go (inr h) = differ.0 h

    by : (order : Ordering) → Differ (put_by_path one rest) → Differ (in_front_unless_greater order one first rest (put_by_path one rest))
    by Less further = (none, differ)
    by Equal further = (none, differ)
    by Greater further = (apart, further)

pub differ_sorted : (frames : List Frame) → Differ frames → Differ (by_path frames)
differ_sorted [] differ = tt
differ_sorted (frame ∷ rest) differ =
    differ_put frame (by_path rest) (λ h. differ.0 (sorted_any (λ f. f.path ≡ frame.path) rest h)) (differ_sorted rest differ.1)

-- ---- what stands at a path after frames

abbrev pub new_at : ℕ → Table → Frame → Task
new_at now table frame = task_after now frame.status (children_made (task_at table frame.path) + children_in frame.items)

differs : (path other : List ℕ) → (path ≡ other → ⊥) → is_at (path_cmp path) other ≡ false
differs path other apart = by (is_at (path_cmp path) other) refl
  where
    by : (here : Bool) → is_at (path_cmp path) other ≡ here → is_at (path_cmp path) other ≡ false
    by true e = absurd (apart (is_same path other e))
    by false e = e

at_other : (now : ℕ) (frame : Frame) (table : Table) (path : List ℕ) → (frame.path ≡ path → ⊥) → task_at (after_frame now frame table) path ≡ task_at table path
at_other now frame table path apart =
    at_with table frame.path path (new_at now table frame)
    ∙ ap (λ b. cond b (Some (new_at now table frame)) (task_at table path)) (differs path frame.path (λ e. apart (sym e)))

at_frame : (now : ℕ) (frame : Frame) (table : Table) → task_at (after_frame now frame table) frame.path ≡ Some (new_at now table frame)
at_frame now frame table =
    at_with table frame.path frame.path (new_at now table frame)
    ∙ ap (λ b. cond b (Some (new_at now table frame)) (task_at table frame.path)) (at_itself frame.path)

-- where no frame is, the task is as it was
pub at_no_frame : (now : ℕ) (frames : List Frame) (table : Table) (path : List ℕ) → (HasPath path frames → ⊥) → task_at (after_frames now frames table) path ≡ task_at table path
at_no_frame now [] table path none = refl
at_no_frame now (frame ∷ rest) table path none =
    at_no_frame now rest (after_frame now frame table) path (λ h. none (inr h)) ∙ at_other now frame table path (λ e. none (inl e))

-- and where one is, it is the task after it
pub at_one_frame : (now : ℕ) (frames : List Frame) (table : Table) (frame : Frame) → Differ frames → Among frame frames →
    task_at (after_frames now frames table) frame.path ≡ Some (new_at now table frame)
at_one_frame now [] table frame differ among = absurd among
at_one_frame now (first ∷ rest) table frame differ (inl e) =
    subst (λ (f : Frame). task_at (after_frames now (first ∷ rest) table) f.path ≡ Some (new_at now table f)) e
    (at_no_frame now rest (after_frame now first table) first.path differ.0 ∙ at_frame now first table)
at_one_frame now (first ∷ rest) table frame differ (inr among) =
    at_one_frame now rest (after_frame now first table) frame differ.1 among
    ∙ ap (λ (o : Option Task). Some (task_after now frame.status (children_made o + children_in frame.items)))
    (at_other now first table frame.path (λ e. differ.0 (subst (λ p. HasPath p rest) (sym e) (path_of frame rest among))))
