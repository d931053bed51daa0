-- A file of lemmas: what it proves need not be read to trust a clause.
--
-- The frame of a path among frames in order of path.
use Rattle.std.proofs.Common.{◌≡◌, ℕ, zero, suc, ◌<◌, ◌≤◌, Bool, true, false, if◌then◌else◌, List, [], ◌∷◌, length, get_or, Some, None, slice_get, refl, sym, ap, ◌∙◌, subst, arith}
use Rattle.std.proofs.lemmas.Bool.{false≢true}
use Rattle.std.specs.BTreeMap.{is_at}
use Rattle.std.specs.List.{AllWithin}
use Rattle.std.specs.List.Sorted.{IsPartitionedBy}
use Rattle.std.specs.Ordering.{is_lt, is_eq}
use Rattle.std.specs.declared.cmp.Ordering.{Ordering}
use Rattle.std.specs.declared.cmp.Ordering.TheVariants.{Less, Equal, Greater}
use Rattle.std.proofs.lemmas.Map.Lookups.{exact_bytes}
use Rattle.aerie_base.specs.Paths.{path_cmp}
use Rattle.run_data.specs.TaskFrames.{Frame}
use Rattle.run_data.specs.laws.Orders.{EachOf}
use Rattle.run_data.specs.laws.Trees.{frame_at}
use Rattle.live_tasks.specs.FrameOrders.{is_before, AreByPath}
use Rattle.engine_core.specs.FrameOrderLaws.{path_order, reversed, itself, not_before_itself, same_path}

module _ (path : List ℕ) where
  -- whether the path of a frame is before this one
  abbrev pub before_path : Frame → Bool
  before_path frame = is_lt (path_cmp frame.path path)

  each_index : (P : Frame → Type 0) (frames : List Frame) → EachOf P frames → (j : ℕ) (d : Frame) → j < length frames → P (get_or frames j d)
  each_index P [] h j d less = absurd (omega (arith, less))
  each_index P (frame ∷ rest) h zero d less = h.0
  each_index P (frame ∷ rest) h (suc j) d less = each_index P rest h.1 j d (omega (arith, less))

  -- what a frame before the path stands behind is before the path
  is_before_too : (frame other : Frame) → is_before other frame ≡ false → before_path other ≡ true → before_path frame ≡ true
  is_before_too frame other h k = by (before_path frame) refl
    where
      by : (b : Bool) → before_path frame ≡ b → before_path frame ≡ true
      by true e = e
      by false e = absurd (false≢true (sym (path_order.chain other.path frame.path path h e) ∙ k))

  pub parted : (frames : List Frame) → AreByPath frames → IsPartitionedBy before_path frames
  parted [] h i j d most less e = absurd (omega (arith, less))
  parted (frame ∷ rest) h zero zero d most less e = e
  parted (frame ∷ rest) h zero (suc j) d most less e =
      is_before_too frame (get_or rest j d) (each_index (λ other. is_before other frame ≡ false) rest h.0 j d (omega (arith, less))) e
  parted (frame ∷ rest) h (suc i) zero d most less e = absurd (omega (arith, most))
  parted (frame ∷ rest) h (suc i) (suc j) d most less e = parted rest h.1 i j d (omega (arith, most)) (omega (arith, less)) e

  not_at : (other : List ℕ) → (other ≡ path → ⊥) → is_at (path_cmp path) other ≡ false
  not_at other apart = by (path_cmp path other) refl
    where
      by : (o : Ordering) → path_cmp path other ≡ o → is_eq o ≡ false
      by Less e = refl
      by Equal e = absurd (apart (sym (exact_bytes path other e)))
      by Greater e = refl

  past_one : (frame : Frame) (rest : List Frame) → (frame.path ≡ path → ⊥) → frame_at (frame ∷ rest) path ≡ frame_at rest path
  past_one frame rest apart = ap (λ (b : Bool). if b then Some frame else frame_at rest path) (not_at frame.path apart)

  none_at : (frames : List Frame) → EachOf (λ frame. frame.path ≡ path → ⊥) frames → frame_at frames path ≡ None
  none_at [] h = refl
  none_at (frame ∷ rest) h = past_one frame rest h.0 ∙ none_at rest h.1

  each_map : (P Q : Frame → Type 0) → ((frame : Frame) → P frame → Q frame) → (frames : List Frame) → EachOf P frames → EachOf Q frames
  each_map P Q gives [] h = tt
  each_map P Q gives (frame ∷ rest) h = (gives frame h.0, each_map P Q gives rest h.1)

  -- where a frame is behind the path, so are those behind it
  behind : (frame : Frame) → before_path frame ≡ false → (frame.path ≡ path → ⊥) → (other : Frame) → is_before other frame ≡ false → other.path ≡ path → ⊥
  behind frame not_less apart other h same = by (path_cmp frame.path path) refl
    where
      back : is_lt (path_cmp path frame.path) ≡ false
      back = ap (λ p. is_lt (path_cmp p frame.path)) (sym same) ∙ h

      by : (o : Ordering) → path_cmp frame.path path ≡ o → ⊥
      by Less e = false≢true (sym not_less ∙ ap is_lt e)
      by Equal e = apart (exact_bytes frame.path path e)
      by Greater e = false≢true (sym back ∙ ap is_lt (reversed frame.path path Greater e))

  -- the place that was found is that of the path, or it has none
  pub found : (frames : List Frame) (at : ℕ) (one : Frame) → AreByPath frames → AllWithin (λ y. before_path y ≡ true) frames 0 at → AllWithin (λ y. before_path y ≡ false) frames at (length frames) →
      at < length frames → one ≡ get_or frames at one → one.path ≡ path → frame_at frames path ≡ Some one
  found [] at one h low high less is same = absurd (omega (arith, less))
  found (frame ∷ rest) zero one h low high less is same =
      ap (λ (b : Bool). if b then Some frame else frame_at rest path) (ap is_eq (ap (path_cmp path) (sym (ap (λ (f : Frame). f.path) is) ∙ same) ∙ itself path))
      ∙ ap Some (sym is)
  found (frame ∷ rest) (suc at) one h low high less is same =
      past_one frame rest (λ e. false≢true (sym (not_before_itself path) ∙ ap (λ p. is_lt (path_cmp p path)) (sym e) ∙ low 0 frame (omega arith) (omega arith)))
      ∙ found rest at one h.1 (λ k d a b. low (suc k) d (omega arith) (omega (arith, b))) (λ k d a b. high (suc k) d (omega (arith, a)) (omega (arith, b))) (omega (arith, less)) is same

  pub found_other : (frames : List Frame) (at : ℕ) (one : Frame) → AreByPath frames → AllWithin (λ y. before_path y ≡ true) frames 0 at → AllWithin (λ y. before_path y ≡ false) frames at (length frames) →
      at < length frames → one ≡ get_or frames at one → (one.path ≡ path → ⊥) → frame_at frames path ≡ None
  found_other [] at one h low high less is apart = absurd (omega (arith, less))
  found_other (frame ∷ rest) zero one h low high less is apart =
      let differs : frame.path ≡ path → ⊥ = λ e. apart (ap (λ (f : Frame). f.path) is ∙ e) in
      past_one frame rest differs
      ∙ none_at rest
      (each_map (λ other. is_before other frame ≡ false) (λ other. other.path ≡ path → ⊥) (behind frame (high 0 frame (omega arith) (omega arith)) differs) rest h.0)
  found_other (frame ∷ rest) (suc at) one h low high less is apart =
      past_one frame rest (λ e. false≢true (sym (not_before_itself path) ∙ ap (λ p. is_lt (path_cmp p path)) (sym e) ∙ low 0 frame (omega arith) (omega arith)))
      ∙ found_other rest at one h.1 (λ k d a b. low (suc k) d (omega arith) (omega (arith, b))) (λ k d a b. high (suc k) d (omega (arith, a)) (omega (arith, b))) (omega (arith, less)) is apart

  pub found_none : (frames : List Frame) (at : ℕ) → AllWithin (λ y. before_path y ≡ true) frames 0 at → length frames ≤ at → frame_at frames path ≡ None
  found_none [] at low past = refl
  found_none (frame ∷ rest) zero low past = absurd (omega (arith, past))
  found_none (frame ∷ rest) (suc at) low past =
      past_one frame rest (λ e. false≢true (sym (not_before_itself path) ∙ ap (λ p. is_lt (path_cmp p path)) (sym e) ∙ low 0 frame (omega arith) (omega arith)))
      ∙ found_none rest at (λ k d a b. low (suc k) d (omega arith) (omega (arith, b))) (omega (arith, past))

  -- ---- by a position

  each_there : (P : Frame → Type 0) (frames : List Frame) (at : ℕ) (one : Frame) → EachOf P frames → slice_get frames at ≡ Some one → P one
  each_there P [] at one each there = absurd (cc)
  each_there P (frame ∷ rest) zero one each there = (let k : frame ≡ one = cc in subst P k each.0)
  each_there P (frame ∷ rest) (suc at) one each there = each_there P rest at one each.1 there

  -- a frame that stands at a path has it
  pub of_path : (frames : List Frame) (one : Frame) → frame_at frames path ≡ Some one → one.path ≡ path
  of_path [] one there = absurd (cc)
  of_path (frame ∷ rest) one there = by (path_cmp path frame.path) refl there (of_path rest one)
    where
      by : (o : Ordering) → path_cmp path frame.path ≡ o → (if is_eq o then Some frame else frame_at rest path) ≡ Some one → (frame_at rest path ≡ Some one → one.path ≡ path) → one.path ≡ path
      by Less e is further = further is
      by Equal e is further = (let k : frame ≡ one = cc in ap (λ (f : Frame). f.path) (sym k) ∙ sym (exact_bytes path frame.path e))
      by Greater e is further = further is

  -- the frame in front of all others is the first of its path
  pub first_of_all : (frames : List Frame) (one : Frame) → slice_get frames 0 ≡ Some one → one.path ≡ path → frame_at frames path ≡ Some one
  first_of_all [] one there is = absurd (cc)
  first_of_all (frame ∷ rest) one there is =
      let k : frame ≡ one = cc in
      ap (λ (b : Bool). if b then Some frame else frame_at rest path) (ap is_eq (ap (path_cmp path) (ap (λ (f : Frame). f.path) k ∙ is) ∙ itself path)) ∙ ap Some k

  next_not_before : (frames : List Frame) (at : ℕ) (before one : Frame) → AreByPath frames → slice_get frames at ≡ Some before → slice_get frames (suc at) ≡ Some one → is_before one before ≡ false
  next_not_before [] at before one order there next = absurd (cc)
  next_not_before (frame ∷ rest) zero before one order there next =
      let k : frame ≡ before = cc in
      subst (λ (f : Frame). is_before one f ≡ false) k (each_there (λ other. is_before other frame ≡ false) rest 0 one order.0 next)
  next_not_before (frame ∷ rest) (suc at) before one order there next = next_not_before rest at before one order.1 there next

  -- and so is one behind a frame of another path
  pub first_behind : (frames : List Frame) (at : ℕ) (before one : Frame) → AreByPath frames → slice_get frames at ≡ Some before → slice_get frames (suc at) ≡ Some one → one.path ≡ path →
      (before.path ≡ path → ⊥) → frame_at frames path ≡ Some one
  first_behind [] at before one order there next is apart = absurd (cc)
  first_behind (frame ∷ rest) zero before one order there next is apart =
      let k : frame ≡ before = cc in
      past_one frame rest (λ e. apart (sym (ap (λ (f : Frame). f.path) k) ∙ e)) ∙ first_of_all rest one next is
  first_behind (frame ∷ rest) (suc at) before one order there next is apart =
      let behind_frame : is_before before frame ≡ false = each_there (λ other. is_before other frame ≡ false) rest at before order.0 there in
      let in_front : is_before one before ≡ false = next_not_before rest at before one order.1 there next in
      past_one frame rest
      (λ e. apart
      (same_path before.path path (ap (λ p. is_lt (path_cmp before.path p)) (sym e) ∙ behind_frame) (ap (λ p. is_lt (path_cmp p before.path)) (sym is) ∙ in_front)))
      ∙ first_behind rest at before one order.1 there next is apart
