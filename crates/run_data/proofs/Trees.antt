-- The tree of a batch is rebuilt from its frames: each frame is found at its path, since none but those of children that are
-- too deep share one.
use Rattle.std.proofs.Common.{◌≡◌, ◌⊎◌, inl, inr, ℕ, zero, suc, ◌+◌, ◌≤◌, nat_lt, Bool, true, false, if◌then◌else◌, List, [], ◌∷◌, ◌++◌, Option, Some, None, refl, sym, ap, ◌∙◌, subst, arith}
use Rattle.std.proofs.lemmas.Bool.{false≢true}
use Rattle.std.specs.BTreeMap.{is_at}
use Rattle.std.specs.declared.cmp.Ordering.{Ordering}
use Rattle.std.specs.declared.cmp.Ordering.TheVariants.{Less, Equal, Greater}
use Rattle.std.specs.Ordering.{is_eq}
use Rattle.aerie_base.specs.Paths.{child_path, is_prefix, path_cmp}
use Rattle.aerie_base.specs.declared.models.model.Parts.{Parts}
use Rattle.effect_cells.specs.declared.effects.CellState.{CellState}
use Rattle.effect_cells.specs.declared.effects.Effect.{Effect}
use Rattle.effect_cells.specs.declared.trees.Part.{Part, Emit, Child}
use Rattle.effect_cells.specs.Cells.{emitted, first_out, committed_cells}
use Rattle.run_data.specs.declared.jobs.Job.{Job}
use Rattle.run_data.specs.TaskFrames.{Frame}
use Rattle.run_data.specs.declared.frames.Item.{Item}
use Rattle.run_data.specs.declared.frames.Item.TheVariants as item
use Rattle.run_data.specs.Batches.{Batch, limit, failed, committed, judged, when_within, when_no_fault, unless_out, Blame, fault_in, least_fault, in_front_unless_greater, put_by_path, by_path, touched_from, tree_of, cost_of}
use Rattle.run_data.specs.Steps.{Stepped}
use Rattle.run_data.specs.Frames.{Made, Making, with_effect, with_child, with_frame, job_step, frame_of, child_job, of_items, of_step, too_deep, made_within, made_by, made_by_all, room_of}
use Rattle.run_data.specs.laws.Orders.{EachOf, EachTwo, AreApart}
use Rattle.run_data.specs.laws.Trees.{frame_at, parts_by, parts_of, rebuilt, rebuilt_all, tree_by_frames, TreeOfFrames, CommittedByFrames}
use Rattle.run_data.proofs.FramePaths.{HasPath, NoPathInBoth, IsOf, MadeOf, made_weaker, effect_of_all, child_of_all, has_is_of, within_of, frames_apart, below_is, under_of}
use Rattle.run_data.proofs.Makings.{none_faulted}
use Rattle.run_data.specs.TableLaws.{path_itself, path_same}
use Rattle.run_data.proofs.PathsApart.{not_above_itself, one_number}

-- ---- frames that are found

-- each of these frames is what is found at its path
abbrev AllFound : List Frame → List Frame → Type 0
AllFound whole [] = Unit {0}
AllFound whole (frame ∷ rest) = (frame_at whole frame.path ≡ Some frame) × AllFound whole rest

at_equal : (path other : List ℕ) (order : Ordering) → path_cmp path other ≡ order → is_eq order ≡ true → path ≡ other
at_equal path other Less e h = absurd (false≢true h)
at_equal path other Equal e h = path_same path other e
at_equal path other Greater e h = absurd (false≢true h)

not_at : (path other : List ℕ) → (path ≡ other → ⊥) → is_at (path_cmp path) other ≡ false
not_at path other apart = by (is_at (path_cmp path) other) refl
  where
    by : (same : Bool) → is_at (path_cmp path) other ≡ same → same ≡ false
    by true e = absurd (apart (at_equal path other (path_cmp path other) refl e))
    by false e = refl

found_first : (frame : Frame) (rest : List Frame) → frame_at (frame ∷ rest) frame.path ≡ Some frame
found_first frame rest = ap (λ (order : Ordering). if is_eq order then Some frame else frame_at rest frame.path) (path_itself frame.path)

found_behind : (frame : Frame) (rest : List Frame) (path : List ℕ) → (path ≡ frame.path → ⊥) → frame_at (frame ∷ rest) path ≡ frame_at rest path
found_behind frame rest path apart = ap (λ (same : Bool). if same then Some frame else frame_at rest path) (not_at path frame.path apart)

found_in_front : (first second : List Frame) (path : List ℕ) (frame : Frame) → frame_at first path ≡ Some frame → frame_at (first ++ second) path ≡ Some frame
found_in_front [] second path frame e = absurd (cc)
found_in_front (one ∷ first) second path frame e = by (is_at (path_cmp path) one.path) e (found_in_front first second path frame)
  where
    by : (same : Bool) → (if same then Some one else frame_at first path) ≡ Some frame → (frame_at first path ≡ Some frame → frame_at (first ++ second) path ≡ Some frame) →
        (if same then Some one else frame_at (first ++ second) path) ≡ Some frame
    by true e further = e
    by false e further = further e

found_past : (first second : List Frame) (path : List ℕ) → (HasPath path first → ⊥) → frame_at (first ++ second) path ≡ frame_at second path
found_past [] second path apart = refl
found_past (one ∷ first) second path apart =
    found_behind one (first ++ second) path (λ same. apart (inl (sym same))) ∙ found_past first second path (λ has. apart (inr has))

front_found : (whole second part : List Frame) → AllFound whole part → AllFound (whole ++ second) part
front_found whole second [] found = tt
front_found whole second (frame ∷ rest) found = (found_in_front whole second frame.path frame found.0, front_found whole second rest found.1)

back_found : (first whole part : List Frame) → ((path : List ℕ) → HasPath path first → HasPath path part → ⊥) → AllFound whole part → AllFound (first ++ whole) part
back_found first whole [] apart found = tt
back_found first whole (frame ∷ rest) apart found =
    (found_past first whole frame.path (λ has. apart frame.path has (inl refl)) ∙ found.0, back_found first whole rest (λ path has also. apart path has (inr also)) found.1)

found_append : (whole first second : List Frame) → AllFound whole first → AllFound whole second → AllFound whole (first ++ second)
found_append whole [] second found also = also
found_append whole (frame ∷ first) second found also = (found.0, found_append whole first second found.1 also)

both_found : (first second : List Frame) → ((path : List ℕ) → HasPath path first → HasPath path second → ⊥) → AllFound first first → AllFound second second → AllFound (first ++ second) (first ++ second)
both_found first second apart found also =
    found_append (first ++ second) first second (front_found first second first found) (back_found first second second apart also)

found_split : (whole first second : List Frame) → AllFound whole (first ++ second) → AllFound whole first × AllFound whole second
found_split whole [] second found = (tt, found)
found_split whole (frame ∷ first) second found = let parts = found_split whole first second found.1 in ((found.0, parts.0), parts.1)

-- ---- in order of path

put_found : (frame : Frame) (frames : List Frame) (path : List ℕ) → frame_at (put_by_path frame frames) path ≡ frame_at (frame ∷ frames) path
put_found frame [] path = refl
put_found frame (first ∷ rest) path = by (path_cmp frame.path first.path) refl (put_found frame rest path)
  where
    swapped : (frame.path ≡ first.path → ⊥) → (here there : Bool) → is_at (path_cmp path) frame.path ≡ here → is_at (path_cmp path) first.path ≡ there →
        (if there then Some first else (if here then Some frame else frame_at rest path)) ≡ (if here then Some frame else (if there then Some first else frame_at rest path))
    swapped apart true true e f =
        absurd (apart (sym (at_equal path frame.path (path_cmp path frame.path) refl e) ∙ at_equal path first.path (path_cmp path first.path) refl f))
    swapped apart true false e f = refl
    swapped apart false true e f = refl
    swapped apart false false e f = refl

    by : (order : Ordering) → path_cmp frame.path first.path ≡ order → frame_at (put_by_path frame rest) path ≡ frame_at (frame ∷ rest) path →
        frame_at (in_front_unless_greater order frame first rest (put_by_path frame rest)) path ≡ frame_at (frame ∷ first ∷ rest) path
    by Less e further = refl
    by Equal e further = refl
    by Greater e further =
        ap (λ (found : Option Frame). if is_at (path_cmp path) first.path then Some first else found) further
        ∙ swapped (λ same. (let clash : ◌≡◌ {A = Ordering} Equal Greater = sym (path_itself first.path) ∙ ap (λ p. path_cmp p first.path) (sym same) ∙ e in cc))
        (is_at (path_cmp path) frame.path) (is_at (path_cmp path) first.path) refl refl

sorted_found : (frames : List Frame) (path : List ℕ) → frame_at (by_path frames) path ≡ frame_at frames path
sorted_found [] path = refl
sorted_found (frame ∷ rest) path =
    put_found frame (by_path rest) path
    ∙ ap (λ (found : Option Frame). if is_at (path_cmp path) frame.path then Some frame else found) (sorted_found rest path)

all_sorted : (frames part : List Frame) → AllFound frames part → AllFound (by_path frames) part
all_sorted frames [] found = tt
all_sorted frames (frame ∷ rest) found = (sorted_found frames frame.path ∙ found.0, all_sorted frames rest found.1)

-- ---- the parts are those of the frames

module _ (frames : List Frame) where
  -- where the frames of a making are found, these are its parts
  abbrev Rebuilds : List Part → Making → Type 0
  Rebuilds parts None = Unit {0}
  Rebuilds parts (Some made) = AllFound frames made.frames → parts ≡ made.tree

  effect_rebuilds : (cell : ℕ) (effect : Effect) (parts : List Part) (making : Making) → Rebuilds parts making → Rebuilds (Emit cell effect ∷ parts) (with_effect cell effect making)
  effect_rebuilds cell effect parts None h = tt
  effect_rebuilds cell effect parts (Some made) h = λ found. ap (λ l. Emit cell effect ∷ l) (h found)

  child_rebuilds : (parts others : List Part) (child rest : Making) → Rebuilds parts child → Rebuilds others rest → Rebuilds (Child (record { items = parts }) ∷ others) (with_child child rest)
  child_rebuilds parts others None rest h k = tt
  child_rebuilds parts others (Some child) None h k = tt
  child_rebuilds parts others (Some child) (Some rest) h k =
      λ found. (let both = found_split frames child.frames rest.frames found in λ i. Child (record { items = h both.0 i }) ∷ k both.1 i)

  frame_rebuilds : (by_child : List ℕ → List Part) (number : ℕ) (frame : Frame) (making : Making) → Rebuilds (parts_by by_child frame.path number frame.items) making →
      Rebuilds (parts_of by_child frame.path number (frame_at frames frame.path)) (with_frame frame making)
  frame_rebuilds by_child number frame None h = tt
  frame_rebuilds by_child number frame (Some made) h = λ found. ap (parts_of by_child frame.path number) found.0 ∙ h found.1

  items_rebuild : (model : Parts) (of_child : Job → Making) (by_child : List ℕ → List Part) (maker : List ℕ) (number : ℕ) (view : List CellState) (items : List Item) →
      ((child : Job) → Rebuilds (by_child child.path) (of_child child)) → Rebuilds (parts_by by_child maker number items) (of_items model of_child maker number view items)
  items_rebuild model of_child by_child maker number view [] h = λ found. refl
  items_rebuild model of_child by_child maker number view (item.Emit cell effect ∷ rest) h =
      effect_rebuilds cell effect (parts_by by_child maker number rest) (of_items model of_child maker number (emitted view cell effect) rest)
      (items_rebuild model of_child by_child maker number (emitted view cell effect) rest h)
  items_rebuild model of_child by_child maker number view (item.Child kind arguments ∷ rest) h =
      let child = child_job model maker number view kind arguments in
      child_rebuilds (by_child (child_path maker number)) (parts_by by_child maker (number + 1) rest) (of_child child) (of_items model of_child maker (number + 1) view rest)
      (h child) (items_rebuild model of_child by_child maker (number + 1) view rest h)

  step_rebuilds : (model : Parts) (of_child : Job → Making) (by_child : List ℕ → List Part) (job : Job) (number : ℕ) (stepped : Stepped) →
      ((child : Job) → Rebuilds (by_child child.path) (of_child child)) → Rebuilds (parts_of by_child job.path number (frame_at frames job.path)) (of_step model of_child job number stepped)
  step_rebuilds model of_child by_child job number None h = tt
  step_rebuilds model of_child by_child job number (Some (status, so_far)) h =
      frame_rebuilds by_child number (frame_of job status so_far) (of_items model of_child job.path number job.view so_far.items)
      (items_rebuild model of_child by_child job.path number job.view so_far.items h)

  within_rebuilds : (model : Parts) (budget room number : ℕ) (job : Job) → Rebuilds (rebuilt frames room number job.path) (made_within model budget room number job)
  within_rebuilds model budget zero number job =
      step_rebuilds model (too_deep job.path) (λ child. []) job number (job_step model budget job) (λ child found. refl)
  within_rebuilds model budget (suc room) number job =
      step_rebuilds model (made_within model budget room 0) (rebuilt frames room 0) job number (job_step model budget job) (λ child. within_rebuilds model budget room 0 child)

  all_rebuild : (model : Parts) (budget : ℕ) (jobs : List (ℕ × Job)) → Rebuilds (rebuilt_all frames jobs) (made_by_all model budget jobs)
  all_rebuild model budget [] = λ found. refl
  all_rebuild model budget (job ∷ rest) =
      child_rebuilds (rebuilt frames (room_of job.1.path) job.0 job.1.path) (rebuilt_all frames rest) (made_by model budget job) (made_by_all model budget rest)
      (within_rebuilds model budget (room_of job.1.path) job.0 job.1) (all_rebuild model budget rest)

-- ---- where no frame has faulted each is found

abbrev NoneFaults : List Frame → Type 0
NoneFaults frames = EachOf (λ frame. fault_in frame.status ≡ None) frames

none_split : (first second : List Frame) → NoneFaults (first ++ second) → NoneFaults first × NoneFaults second
none_split [] second none = (tt, none)
none_split (frame ∷ first) second none = let parts = none_split first second none.1 in ((none.0, parts.0), parts.1)

abbrev FindsItself : Making → Type 0
FindsItself None = Unit {0}
FindsItself (Some made) = NoneFaults made.frames → AllFound made.frames made.frames

effect_finds : (cell : ℕ) (effect : Effect) (making : Making) → FindsItself making → FindsItself (with_effect cell effect making)
effect_finds cell effect None h = tt
effect_finds cell effect (Some made) h = h

child_finds : (child rest : Making) → NoPathInBoth child rest → FindsItself child → FindsItself rest → FindsItself (with_child child rest)
child_finds None rest apart h k = tt
child_finds (Some child) None apart h k = tt
child_finds (Some child) (Some rest) apart h k =
    λ none. (let parts = none_split child.frames rest.frames none in both_found child.frames rest.frames apart (h parts.0) (k parts.1))

-- a frame in front of others of other paths
one_finds : (frame : Frame) (frames : List Frame) → (HasPath frame.path frames → ⊥) → AllFound frames frames → AllFound (frame ∷ frames) (frame ∷ frames)
one_finds frame frames apart found =
    (found_first frame frames, back_found (frame ∷ []) frames frames (λ path here there. at_front path here there) found)
  where
    at_front : (path : List ℕ) → HasPath path (frame ∷ []) → HasPath path frames → ⊥
    at_front path (inl e) there = apart (subst (λ p. HasPath p frames) (sym e) there)
    at_front path (inr none) there = none

frame_finds : (frame : Frame) (making : Making) → (P : List ℕ → Type 0) → (P frame.path → ⊥) → MadeOf P making → FindsItself making → FindsItself (with_frame frame making)
frame_finds frame None P differs of h = tt
frame_finds frame (Some made) P differs of h =
    λ none. one_finds frame made.frames (λ has. differs (has_is_of P made.frames frame.path of has)) (h none.1)

-- below a child of this path with a number from this on
abbrev IsBelow : List ℕ → ℕ → List ℕ → Type 0
IsBelow maker least path = (number : ℕ) × (least ≤ number) × (is_prefix (child_path maker number) path ≡ true)

below_later : (maker : List ℕ) (least : ℕ) (path : List ℕ) → IsBelow maker (least + 1) path → IsBelow maker least path
below_later maker least path is = (is.0, omega (arith, is.1), is.2)

-- what a child makes is apart from what later children do
child_apart : (maker : List ℕ) (number : ℕ) (child rest : Making) → MadeOf (IsOf (child_path maker number) 0) child → MadeOf (IsBelow maker (number + 1)) rest → NoPathInBoth child rest
child_apart maker number None rest h k = tt
child_apart maker number (Some child) None h k = tt
child_apart maker number (Some child) (Some rest) h k =
    λ path here there.
    (let under = under_of (child_path maker number) path (has_is_of (IsOf (child_path maker number) 0) child.frames path h here) in
    let later = has_is_of (IsBelow maker (number + 1)) rest.frames path k there in
    let same : number ≡ later.0 = one_number maker path number later.0 under later.2 in omega (arith, same, later.1))

module _ (model : Parts) (of_child : Job → Making) (maker : List ℕ) (finds : (child : Job) → FindsItself (of_child child)) (of : (child : Job) → MadeOf (IsOf child.path 0) (of_child child)) where
  items_below : (number : ℕ) (view : List CellState) (items : List Item) → MadeOf (IsBelow maker number) (of_items model of_child maker number view items)
  items_below number view [] = tt
  items_below number view (item.Emit cell effect ∷ rest) =
      effect_of_all (IsBelow maker number) cell effect (of_items model of_child maker number (emitted view cell effect) rest) (items_below number (emitted view cell effect) rest)
  items_below number view (item.Child kind arguments ∷ rest) =
      let child = child_job model maker number view kind arguments in
      child_of_all (IsBelow maker number) (of_child child) (of_items model of_child maker (number + 1) view rest)
      (made_weaker (IsOf (child_path maker number) 0) (IsBelow maker number) (λ path. below_is maker path number number (omega arith)) (of_child child) (of child))
      (made_weaker (IsBelow maker (number + 1)) (IsBelow maker number) (below_later maker number) (of_items model of_child maker (number + 1) view rest) (items_below (number + 1) view rest))

  items_find : (number : ℕ) (view : List CellState) (items : List Item) → FindsItself (of_items model of_child maker number view items)
  items_find number view [] = λ none. tt
  items_find number view (item.Emit cell effect ∷ rest) =
      effect_finds cell effect (of_items model of_child maker number (emitted view cell effect) rest) (items_find number (emitted view cell effect) rest)
  items_find number view (item.Child kind arguments ∷ rest) =
      let child = child_job model maker number view kind arguments in
      child_finds (of_child child) (of_items model of_child maker (number + 1) view rest)
      (child_apart maker number (of_child child) (of_items model of_child maker (number + 1) view rest) (of child) (items_below (number + 1) view rest))
      (finds child) (items_find (number + 1) view rest)

-- where a child is too deep, it has faulted
abbrev NoFrames : Making → Type 0
NoFrames None = Unit {0}
NoFrames (Some made) = NoneFaults made.frames → made.frames ≡ []

effect_none : (cell : ℕ) (effect : Effect) (making : Making) → NoFrames making → NoFrames (with_effect cell effect making)
effect_none cell effect None h = tt
effect_none cell effect (Some made) h = h

deep_none : (maker : List ℕ) (child : Job) (rest : Making) → NoFrames (with_child (too_deep maker child) rest)
deep_none maker child None = tt
deep_none maker child (Some rest) = λ none. absurd (cc)

deep_items : (model : Parts) (maker : List ℕ) (number : ℕ) (view : List CellState) (items : List Item) → NoFrames (of_items model (too_deep maker) maker number view items)
deep_items model maker number view [] = λ none. refl
deep_items model maker number view (item.Emit cell effect ∷ rest) =
    effect_none cell effect (of_items model (too_deep maker) maker number (emitted view cell effect) rest) (deep_items model maker number (emitted view cell effect) rest)
deep_items model maker number view (item.Child kind arguments ∷ rest) =
    deep_none maker (child_job model maker number view kind arguments) (of_items model (too_deep maker) maker (number + 1) view rest)

alone_finds : (frame : Frame) (making : Making) → NoFrames making → FindsItself (with_frame frame making)
alone_finds frame None h = tt
alone_finds frame (Some made) h =
    λ none. subst (λ frames. AllFound (frame ∷ frames) (frame ∷ frames)) (sym (h none.1)) (found_first frame [], tt)

within_finds : (model : Parts) (budget room number : ℕ) (job : Job) → FindsItself (made_within model budget room number job)
within_finds model budget zero number job = by (job_step model budget job)
  where
    by : (stepped : Stepped) → FindsItself (of_step model (too_deep job.path) job number stepped)
    by None = tt
    by (Some (status, so_far)) =
        alone_finds (frame_of job status so_far) (of_items model (too_deep job.path) job.path number job.view so_far.items) (deep_items model job.path number job.view so_far.items)
within_finds model budget (suc room) number job = by (job_step model budget job) (λ child. within_finds model budget room 0 child)
  where
    by : (stepped : Stepped) → ((child : Job) → FindsItself (made_within model budget room 0 child)) → FindsItself (of_step model (made_within model budget room 0) job number stepped)
    by None finds = tt
    by (Some (status, so_far)) finds =
        let of = λ (child : Job). within_of model budget room 0 child in
        frame_finds (frame_of job status so_far) (of_items model (made_within model budget room 0) job.path number job.view so_far.items) (IsBelow job.path number)
        (λ below. false≢true (sym (not_above_itself job.path below.0) ∙ below.2))
        (items_below model (made_within model budget room 0) job.path finds of number job.view so_far.items)
        (items_find model (made_within model budget room 0) job.path finds of number job.view so_far.items)

-- ---- jobs that are apart

path_split : (path : List ℕ) (first second : List Frame) → HasPath path (first ++ second) → HasPath path first ⊎ HasPath path second
path_split path [] second has = inr has
path_split path (frame ∷ first) second (inl e) = inl (inl e)
path_split path (frame ∷ first) second (inr has) = by (path_split path first second has)
  where
    by : HasPath path first ⊎ HasPath path second → HasPath path (frame ∷ first) ⊎ HasPath path second
    by (inl h) = inl (inr h)
    by (inr h) = inr h

both_apart : (making child rest : Making) → NoPathInBoth making child → NoPathInBoth making rest → NoPathInBoth making (with_child child rest)
both_apart None child rest h k = tt
both_apart (Some made) None rest h k = tt
both_apart (Some made) (Some child) None h k = tt
both_apart (Some made) (Some child) (Some rest) h k = λ path here there. by path here (path_split path child.frames rest.frames there)
  where
    by : (path : List ℕ) → HasPath path made.frames → HasPath path child.frames ⊎ HasPath path rest.frames → ⊥
    by path here (inl there) = h path here there
    by path here (inr there) = k path here there

none_apart : (making : Making) → NoPathInBoth making (Some (record { frames = []; tree = [] }))
none_apart None = tt
none_apart (Some made) = λ path here there. there

all_apart : (model : Parts) (budget : ℕ) (job : ℕ × Job) (jobs : List (ℕ × Job)) → EachOf (AreApart job) jobs → NoPathInBoth (made_by model budget job) (made_by_all model budget jobs)
all_apart model budget job [] apart = none_apart (made_by model budget job)
all_apart model budget job (other ∷ rest) apart =
    both_apart (made_by model budget job) (made_by model budget other) (made_by_all model budget rest) (frames_apart model budget job other apart.0) (all_apart model budget job rest apart.1)

all_find : (model : Parts) (budget : ℕ) (jobs : List (ℕ × Job)) → EachTwo AreApart jobs → FindsItself (made_by_all model budget jobs)
all_find model budget [] apart = λ none. tt
all_find model budget (job ∷ rest) apart =
    child_finds (made_by model budget job) (made_by_all model budget rest) (all_apart model budget job rest apart.0)
    (within_finds model budget (room_of job.1.path) job.0 job.1) (all_find model budget rest apart.1)

-- ---- the law

all_none : (frames : List Frame) → least_fault frames ≡ None → NoneFaults frames
all_none frames e = none_faulted (λ frame. fault_in frame.status ≡ None) frames e (each_same frames)
  where
    each_same : (frames : List Frame) → EachOf (λ frame. fault_in frame.status ≡ None → fault_in frame.status ≡ None) frames
    each_same [] = tt
    each_same (frame ∷ rest) = ((λ none. none), each_same rest)

tree_is : (model : Parts) (budget : ℕ) (jobs : List (ℕ × Job)) (making : Making) → FindsItself making → ((frames : List Frame) → Rebuilds frames (rebuilt_all frames jobs) making) →
    (made : Made) → making ≡ Some made → least_fault made.frames ≡ None → tree_by_frames (by_path made.frames) jobs ≡ tree_of made
tree_is model budget jobs None finds gives made e none = absurd (cc)
tree_is model budget jobs (Some other) finds gives made e none =
    let same : other ≡ made = cc in
    let own = subst (λ (m : Made). NoneFaults m.frames → AllFound m.frames m.frames) same finds in
    let parts = subst (λ (m : Made). AllFound (by_path made.frames) m.frames → rebuilt_all (by_path made.frames) jobs ≡ m.tree) same (gives (by_path made.frames)) in
    ap (λ items. record { items = items }) (parts (all_sorted made.frames made.frames (own (all_none made.frames none))))

pub tree_of_frames : TreeOfFrames
tree_of_frames model budget jobs made apart e none =
    tree_is model budget jobs (made_by_all model budget jobs) (all_find model budget jobs apart) (λ frames. all_rebuild frames model budget jobs) made e none

-- ---- what is committed

module _ (cells : List CellState) (jobs : List (ℕ × Job)) where
  abbrev ByFrames : Batch → Type 0
  ByFrames limit = Unit {0}
  ByFrames (failed who fault) = Unit {0}
  ByFrames (committed next touched frames) =
      (next ≡ committed_cells cells (tree_by_frames frames jobs)) × (touched ≡ touched_from 0 (tree_by_frames frames jobs) cells)

  out_by : (made : Made) → tree_by_frames (by_path made.frames) jobs ≡ tree_of made → (out : Option ℕ) → ByFrames (unless_out out made cells (committed_cells cells (tree_of made)))
  out_by made e None = (ap (committed_cells cells) (sym e), ap (λ tree. touched_from 0 tree cells) (sym e))
  out_by made e (Some cell) = tt

  fault_by : (made : Made) → (least_fault made.frames ≡ None → tree_by_frames (by_path made.frames) jobs ≡ tree_of made) → (blame : Option Blame) → least_fault made.frames ≡ blame →
      ByFrames (when_no_fault blame made cells)
  fault_by made h None e = out_by made (h e) (first_out (committed_cells cells (tree_of made)))
  fault_by made h (Some (path, fault)) e = tt

  within_by : (made : Made) → (least_fault made.frames ≡ None → tree_by_frames (by_path made.frames) jobs ≡ tree_of made) → (fit : Bool) → ByFrames (when_within fit made cells)
  within_by made h true = fault_by made h (least_fault made.frames) refl
  within_by made h false = tt

  making_by : (bound spent : ℕ) (making : Making) → ((made : Made) → making ≡ Some made → least_fault made.frames ≡ None → tree_by_frames (by_path made.frames) jobs ≡ tree_of made) →
      ByFrames (judged bound spent cells making)
  making_by bound spent None h = tt
  making_by bound spent (Some made) h = within_by made (h made refl) (if nat_lt bound (spent + cost_of made.frames) then false else true)

pub committed_by_frames : CommittedByFrames
committed_by_frames model bound spent cells next jobs touched frames apart e =
    subst (ByFrames cells jobs) e
    (making_by cells jobs bound spent (made_by_all model bound jobs) (λ made. tree_of_frames model bound jobs made apart))
