-- The frame of a path among old ones.
use Rattle.std.proofs.Common.{◌≡◌, inl, inr, ℕ, Bool, true, false, if◌then◌else◌, List, [], ◌∷◌, Some, None, refl, sym, ap, ◌∙◌, subst}
use Rattle.std.specs.BTreeMap.{is_at}
use Rattle.std.specs.Ordering.{is_eq}
use Rattle.aerie_base.specs.Paths.{path_cmp}
use Rattle.run_data.specs.TaskFrames.{Frame}
use Rattle.run_data.specs.TableLaws.{is_same, path_itself}
use Rattle.run_data.specs.laws.BatchFrames.{Among, HasPath, Differ}
use Rattle.run_data.specs.laws.FramesByPath.{path_of}
use Rattle.run_data.specs.laws.Orders.{EachOf}
use Rattle.run_data.specs.laws.Trees.{frame_at}

-- what is found is there, and of that path
pub found_there : (old : List Frame) (path : List ℕ) (frame : Frame) → frame_at old path ≡ Some frame → Among frame old × (frame.path ≡ path)
found_there [] path frame e = absurd (cc)
found_there (first ∷ rest) path frame e = by (is_at (path_cmp path) first.path) refl e (found_there rest path frame)
  where
    by : (b : Bool) → is_at (path_cmp path) first.path ≡ b → (if b then Some first else frame_at rest path) ≡ Some frame → (frame_at rest path ≡ Some frame → Among frame rest × (frame.path ≡ path)) →
        Among frame (first ∷ rest) × (frame.path ≡ path)
    by true x e further = let same : first ≡ frame = cc in (inl same, ap (λ (f : Frame). f.path) (sym same) ∙ sym (is_same path first.path x))
    by false x e further = (inr (further e).0, (further e).1)

-- where nothing is found no frame is of that path
pub none_there : (old : List Frame) (path : List ℕ) → frame_at old path ≡ None → HasPath path old → ⊥
none_there [] path e has = has
none_there (first ∷ rest) path e has = by (is_at (path_cmp path) first.path) refl e has (none_there rest path)
  where
    at_itself : is_at (path_cmp path) path ≡ true
    at_itself = ap is_eq (path_itself path)

    by : (b : Bool) → is_at (path_cmp path) first.path ≡ b → (if b then Some first else frame_at rest path) ≡ None → HasPath path (first ∷ rest) →
        (frame_at rest path ≡ None → HasPath path rest → ⊥) → ⊥
    by true x e has further = absurd (cc)
    by false x e (inl same) further = (let clash : true ≡ false = sym at_itself ∙ ap (λ p. is_at (path_cmp path) p) (sym same) ∙ x in absurd (cc))
    by false x e (inr has) further = further e has

-- of frames of different paths only one is of a path
pub only_one : (old : List Frame) → Differ old → (frame other : Frame) → Among frame old → Among other old → other.path ≡ frame.path → other ≡ frame
only_one [] differ frame other a b same = absurd a
only_one (first ∷ rest) differ frame other (inl a) (inl b) same = sym b ∙ a
only_one (first ∷ rest) differ frame other (inl a) (inr b) same =
    absurd (differ.0 (subst (λ p. HasPath p rest) (same ∙ ap (λ (f : Frame). f.path) (sym a)) (path_of other rest b)))
only_one (first ∷ rest) differ frame other (inr a) (inl b) same =
    absurd (differ.0 (subst (λ p. HasPath p rest) (sym same ∙ ap (λ (f : Frame). f.path) (sym b)) (path_of frame rest a)))
only_one (first ∷ rest) differ frame other (inr a) (inr b) same = only_one rest differ.1 frame other a b same

pub each_among : (P : Frame → Type 0) (frames : List Frame) (frame : Frame) → EachOf P frames → Among frame frames → P frame
each_among P [] frame each among = absurd among
each_among P (first ∷ rest) frame each (inl same) = subst P same each.0
each_among P (first ∷ rest) frame each (inr further) = each_among P rest frame each.1 further
