-- The path of a child, and the frame of a path at a position.
use Rattle.std.proofs.Common.{◌≡◌, ℕ, zero, suc, ◌+◌, ◌-◌, ◌<◌, ◌&&◌, Bool, true, false, IsTrue, nat_eq, List, [], ◌∷◌, length, get_or, Some, None, slice_get, refl, sym, ap, ◌∙◌, subst, arith}
use Rattle.std.proofs.lemmas.Bool.{false≢true, eqb-true}
use Rattle.std.proofs.lemmas.Option.{slice_get_read}
use Rattle.aerie_base.specs.Paths.{child_path, children_of, is_path, is_prefix}
use Rattle.run_data.specs.TaskFrames.{Frame}
use Rattle.run_data.specs.declared.frames.Item.{Item}
use Rattle.run_data.specs.Frames.{room_of}
use Rattle.run_data.specs.laws.Trees.{frame_at, parts_by, rebuilt}
use Rattle.live_tasks.specs.FrameOrders.{AreByPath}
use Rattle.engine_core.specs.BatchTrees.{parts_below}
use Rattle.engine_core.specs.FrameLookups.{of_path, first_of_all, first_behind}
use Rattle.engine_core.specs.FramePositions.{IsPositionOf, IsFirstOfPath}
use Rattle.engine_core.proofs.TreeParts.{rebuilt_is}

-- ---- the path of a child

both : (one other : Bool) → (one && other) ≡ true → (one ≡ true) × (other ≡ true)
both true other h = (refl, h)
both false other h = absurd (false≢true h)

-- what is under a path and has one number more is the path with this number
one_more : (maker path : List ℕ) (number : ℕ) → is_prefix maker path ≡ true → length path ≡ length maker + 1 → slice_get path (length maker) ≡ Some number → path ≡ child_path maker number
one_more [] [] number under long last = absurd (omega (arith, long))
one_more [] (x ∷ []) number under long last = (let k : x ≡ number = cc in ap (λ n. n ∷ []) k)
one_more [] (x ∷ y ∷ path) number under long last = absurd (omega (arith, long))
one_more (a ∷ maker) [] number under long last = absurd (omega (arith, long))
one_more (a ∷ maker) (x ∷ path) number under long last =
    let parts = both (nat_eq a x) (is_prefix maker path) under in
    ap (λ l. x ∷ l) (one_more maker path number parts.1 (omega (arith, long)) last) ∙ ap (λ y. y ∷ child_path maker number) (sym (eqb-true a x parts.0))

pub is_its_child : (maker path children above : List ℕ) (number last : ℕ) (under : Bool) → IsTrue (is_path path) → IsTrue (is_path maker) → children ≡ children_of path →
    above ≡ children_of maker → length children ≡ length above + 1 → last ≡ get_or children (length above) last → last ≡ number → under ≡ is_prefix maker path → IsTrue under →
    path ≡ child_path maker number
is_its_child maker [] children above number last under is is_maker same same_above long at numbered tells holds = absurd (false≢true is)
is_its_child maker (kind ∷ []) children above number last under is is_maker same same_above long at numbered tells holds = absurd (false≢true is)
is_its_child [] (kind ∷ id ∷ numbers) children above number last under is is_maker same same_above long at numbered tells holds = absurd (false≢true is_maker)
is_its_child (other ∷ []) (kind ∷ id ∷ numbers) children above number last under is is_maker same same_above long at numbered tells holds = absurd (false≢true is_maker)
is_its_child (other ∷ root ∷ others) (kind ∷ id ∷ numbers) children above number last under is is_maker same same_above long at numbered tells holds =
    let more : length numbers ≡ length others + 1 = (λ i. length (sym same i)) ∙ long ∙ (λ i. length (same_above i) + 1) in
    let there : slice_get children (length above) ≡ Some last = slice_get_read children (length children) (length above) last refl (omega (arith, long)) at in
    one_more (other ∷ root ∷ others) (kind ∷ id ∷ numbers) number (sym tells ∙ holds) (omega (arith, more))
    ((λ i. slice_get (sym same i) (length (sym same_above i))) ∙ there ∙ ap Some numbered)

-- ---- positions

pub first_at_zero : (frames : List Frame) (at : ℕ) → at ≡ 0 → IsFirstOfPath frames at
first_at_zero frames zero none = λ one there. first_of_all one.path frames one there refl
first_at_zero frames (suc at) none = absurd (omega (arith, none))

pub first_by_before : (frames : List Frame) (at : ℕ) (before here : Frame) → AreByPath frames → (at ≡ 0 → ⊥) → at < length frames → before ≡ get_or frames (at - 1) before →
    here ≡ get_or frames at here → (before.path ≡ here.path → ⊥) → IsFirstOfPath frames at
first_by_before frames zero before here order some less is_before is apart = absurd (some refl)
first_by_before frames (suc at) before here order some less is_before is apart =
    λ one there.
    (let same : Some here ≡ Some one = sym (slice_get_read frames (length frames) (suc at) here refl less is) ∙ there in
    let k : here ≡ one = cc in
    let down : suc at - 1 ≡ at = omega arith in
    first_behind one.path frames at before one order (slice_get_read frames (length frames) at before refl (omega (arith, less)) (subst (λ k. before ≡ get_or frames k before) down is_before)) there refl
    (λ e. apart (e ∙ ap (λ (f : Frame). f.path) (sym k))))

-- the first frame of its path stands at the position of that path
pub stands_there : (frames : List Frame) (path : List ℕ) (at : ℕ) (here : Frame) → at < length frames → here ≡ get_or frames at here → here.path ≡ path → IsFirstOfPath frames at →
    IsPositionOf frames path (Some at)
stands_there frames path at here less is same first =
    let there : slice_get frames at ≡ Some here = slice_get_read frames (length frames) at here refl less is in
    (less, there ∙ sym (first here there) ∙ ap (frame_at frames) same)

-- the frame at the position of a path is found by it
pub found_there : (frames : List Frame) (path : List ℕ) (at : ℕ) (here : Frame) → IsPositionOf frames path (Some at) → here ≡ get_or frames at here → frame_at frames path ≡ Some here
found_there frames path at here position is = sym position.1 ∙ slice_get_read frames (length frames) at here refl position.0 is

-- ---- the task of a frame that is found

-- its parts are those of the items of the frame
pub parts_of_found : (frames : List Frame) (frame : Frame) (number : ℕ) (path : List ℕ) (items : List Item) → frame_at frames frame.path ≡ Some frame → path ≡ frame.path →
    items ≡ frame.items → rebuilt frames (room_of frame.path) number frame.path ≡ parts_by (parts_below frames (room_of path)) path number items
parts_of_found frames frame number path items found same are =
    rebuilt_is frames (room_of frame.path) number frame.path (Some frame) (sym found) ∙ (λ i. parts_by (parts_below frames (room_of (sym same i))) (sym same i) number (sym are i))

-- a path without a frame has no parts
pub none_found : (frames : List Frame) (room number : ℕ) (path : List ℕ) → frame_at frames path ≡ None → [] ≡ rebuilt frames room number path
none_found frames room number path none = sym (rebuilt_is frames room number path None (sym none))

-- at the position of a path stands a frame of it
module _ (frames : List Frame) (path : List ℕ) (at : ℕ) (here : Frame) (position : IsPositionOf frames path (Some at)) (is : here ≡ get_or frames at here) where
  pub its_path : here.path ≡ path
  its_path = of_path path frames here (found_there frames path at here position is)

  pub finds_itself : frame_at frames here.path ≡ Some here
  finds_itself = ap (frame_at frames) its_path ∙ found_there frames path at here position is
