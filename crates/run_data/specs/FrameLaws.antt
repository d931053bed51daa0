-- A file of lemmas: what it proves need not be read to trust a clause.
--
-- What frames in order of path keep of the same frames in any order.
use Rattle.std.proofs.Common.{◌≡◌, inl, inr, ◌+◌, List, [], ◌∷◌, refl, ap, ◌∙◌, arith}
use Rattle.std.specs.declared.cmp.Ordering.{Ordering}
use Rattle.std.specs.declared.cmp.Ordering.TheVariants.{Less, Equal, Greater}
use Rattle.aerie_base.specs.Paths.{path_cmp}
use Rattle.run_data.specs.TaskFrames.{Frame}
use Rattle.run_data.specs.Batches.{by_path, put_by_path, in_front_unless_greater, cost_of}
use Rattle.run_data.specs.laws.BatchFrames.{AnyFrame}
use Rattle.run_data.specs.laws.Orders.{EachOf}

-- ---- some frame of several

module _ (P : Frame → Type 0) where
  pub any_put : (one : Frame) (frames : List Frame) → AnyFrame P (one ∷ frames) → AnyFrame P (put_by_path one frames)
  any_put one [] has = has
  any_put one (first ∷ rest) has = by (path_cmp one.path first.path) has (any_put one rest)
    where
      by : (order : Ordering) → AnyFrame P (one ∷ first ∷ rest) → (AnyFrame P (one ∷ rest) → AnyFrame P (put_by_path one rest)) →
          AnyFrame P (in_front_unless_greater order one first rest (put_by_path one rest))
      by Less has further = has
      by Equal has further = has
      by Greater (inl h) further = inr (further (inl h))
      by Greater (inr (inl h)) further = inl h
      by Greater (inr (inr h)) further = inr (further (inr h))

  pub put_any : (one : Frame) (frames : List Frame) → AnyFrame P (put_by_path one frames) → AnyFrame P (one ∷ frames)
  put_any one [] has = has
  put_any one (first ∷ rest) has = by (path_cmp one.path first.path) (put_any one rest) has
    where
      past : AnyFrame P (one ∷ rest) → AnyFrame P (one ∷ first ∷ rest)
      past (inl h) = inl h
      past (inr h) = inr (inr h)

      by : (order : Ordering) → (AnyFrame P (put_by_path one rest) → AnyFrame P (one ∷ rest)) →
          AnyFrame P (in_front_unless_greater order one first rest (put_by_path one rest)) → AnyFrame P (one ∷ first ∷ rest)
      by Less further has = has
      by Equal further has = has
      by Greater further (inl h) = inr (inl h)
      by Greater further (inr h) = past (further h)

  pub any_sorted : (frames : List Frame) → AnyFrame P frames → AnyFrame P (by_path frames)
  any_sorted [] has = has
  any_sorted (frame ∷ rest) (inl h) = any_put frame (by_path rest) (inl h)
  any_sorted (frame ∷ rest) (inr h) = any_put frame (by_path rest) (inr (any_sorted rest h))

  pub sorted_any : (frames : List Frame) → AnyFrame P (by_path frames) → AnyFrame P frames
  sorted_any [] has = has
  sorted_any (frame ∷ rest) has = by (put_any frame (by_path rest) has) (sorted_any rest)
    where
      by : AnyFrame P (frame ∷ by_path rest) → (AnyFrame P (by_path rest) → AnyFrame P rest) → AnyFrame P (frame ∷ rest)
      by (inl h) further = inl h
      by (inr h) further = inr (further h)

-- ---- each frame

pub each_put : (P : Frame → Type 0) (frame : Frame) (frames : List Frame) → P frame → EachOf P frames → EachOf P (put_by_path frame frames)
each_put P frame [] one h = (one, tt)
each_put P frame (first ∷ rest) one h = by (path_cmp frame.path first.path) (each_put P frame rest one h.1)
  where
    by : (order : Ordering) → EachOf P (put_by_path frame rest) → EachOf P (in_front_unless_greater order frame first rest (put_by_path frame rest))
    by Less further = (one, h)
    by Equal further = (one, h)
    by Greater further = (h.0, further)

pub each_sorted : (P : Frame → Type 0) (frames : List Frame) → EachOf P frames → EachOf P (by_path frames)
each_sorted P [] h = tt
each_sorted P (frame ∷ rest) h = each_put P frame (by_path rest) h.0 (each_sorted P rest h.1)

-- ---- what they cost

put_cost : (frame : Frame) (frames : List Frame) → cost_of (put_by_path frame frames) ≡ frame.cost + cost_of frames
put_cost frame [] = refl
put_cost frame (first ∷ rest) = by (path_cmp frame.path first.path) (put_cost frame rest)
  where
    by : (order : Ordering) → cost_of (put_by_path frame rest) ≡ frame.cost + cost_of rest →
        cost_of (in_front_unless_greater order frame first rest (put_by_path frame rest)) ≡ frame.cost + (first.cost + cost_of rest)
    by Less further = refl
    by Equal further = refl
    by Greater further = omega (arith, further)

pub sorted_cost : (frames : List Frame) → cost_of (by_path frames) ≡ cost_of frames
sorted_cost [] = refl
sorted_cost (frame ∷ rest) = put_cost frame (by_path rest) ∙ ap (λ n. frame.cost + n) (sorted_cost rest)
