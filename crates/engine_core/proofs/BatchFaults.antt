-- Frames in order of path have the least fault of those that they come from, and it is the first.
use Rattle.std.proofs.Common.{◌≡◌, ℕ, ◌+◌, ◌<◌, Bool, true, false, if◌then◌else◌, List, [], ◌∷◌, length, get_or, drop, Option, Some, None, refl, sym, ap, ◌∙◌, arith}
use Rattle.std.proofs.lemmas.Bool.{false≢true}
use Rattle.std.specs.Ordering.{is_lt}
use Rattle.std.specs.declared.cmp.Ordering.{Ordering}
use Rattle.std.specs.declared.cmp.Ordering.TheVariants.{Less, Equal, Greater}
use Rattle.aerie_base.specs.declared.faults.Fault.{Fault}
use Rattle.aerie_base.specs.Paths.{path_cmp}
use Rattle.run_data.specs.TaskFrames.{Frame}
use Rattle.run_data.specs.Batches.{Blame, first_unless_greater, lesser, blamed, fault_in, least_fault, in_front_unless_greater, put_by_path, by_path}
use Rattle.run_data.specs.Records.{unmatched, has_fit}
use Rattle.run_data.specs.declared.frames.Record.{Record}
use Rattle.run_data.specs.laws.Orders.{EachOf}
use Rattle.live_tasks.specs.FrameOrders.{AreByPath}
use Rattle.engine_core.specs.BatchOrders.{unless_faulted, first_fault}
use Rattle.engine_core.specs.FrameOrderLaws.{path_order, reversed, sorted_in_order}
use Rattle.engine_core.proofs.ChildViews.{here}

-- ---- a fault more in order

-- a fault is not before one of these
abbrev NotBehind : List ℕ → Option Blame → Type 0
NotBehind path None = Unit {0}
NotBehind path (Some blame) = is_lt (path_cmp blame.0 path) ≡ false

first_stands : (path : List ℕ) (fault : Fault) (rest : Option Blame) → NotBehind path rest → lesser (path, fault) rest ≡ Some (path, fault)
first_stands path fault None h = refl
first_stands path fault (Some blame) h = by (path_cmp path blame.0) refl
  where
    by : (o : Ordering) → path_cmp path blame.0 ≡ o → ◌≡◌ {A = Option Blame} (Some (first_unless_greater o (path, fault) blame)) (Some (path, fault))
    by Less e = refl
    by Equal e = refl
    by Greater e = absurd (false≢true (sym h ∙ ap is_lt (reversed path blame.0 Greater e)))

blame_behind : (path : List ℕ) (frames : List Frame) → EachOf (λ other. is_lt (path_cmp other.path path) ≡ false) frames → NotBehind path (first_fault frames)
blame_behind path [] h = tt
blame_behind path (frame ∷ rest) h = by (fault_in frame.status) (blame_behind path rest h.1)
  where
    by : (fault : Option Fault) → NotBehind path (first_fault rest) → NotBehind path (unless_faulted frame.path fault (first_fault rest))
    by None further = further
    by (Some fault) further = h.0

-- of frames in order the first fault is the least
pub least_is_first : (frames : List Frame) → AreByPath frames → least_fault frames ≡ first_fault frames
least_is_first [] h = refl
least_is_first (frame ∷ rest) h =
    ap (blamed frame.path (fault_in frame.status)) (least_is_first rest h.1) ∙ by (fault_in frame.status)
  where
    by : (fault : Option Fault) → blamed frame.path fault (first_fault rest) ≡ unless_faulted frame.path fault (first_fault rest)
    by None = refl
    by (Some fault) = first_stands frame.path fault (first_fault rest) (blame_behind frame.path rest h.0)

-- ---- two faults in either order

-- a lesser fault stays in front
lesser_less : (first other : Blame) → path_cmp first.0 other.0 ≡ Less → lesser first (Some other) ≡ Some first
lesser_less first other e = ap (λ (o : Ordering). Some (first_unless_greater o first other)) e

lesser_greater : (first other : Blame) → path_cmp first.0 other.0 ≡ Greater → lesser first (Some other) ≡ Some other
lesser_greater first other e = ap (λ (o : Ordering). Some (first_unless_greater o first other)) e

-- a fault that is greater than another, in front of it or behind
exchange : (great small : Blame) → path_cmp great.0 small.0 ≡ Greater → (rest : Option Blame) → lesser small (lesser great rest) ≡ lesser great (lesser small rest)
exchange great small e None = lesser_less small great (reversed great.0 small.0 Greater e) ∙ sym (lesser_greater great small e)
exchange great small e (Some other) = by (path_cmp great.0 other.0) refl (path_cmp small.0 other.0) refl
  where
    less : path_cmp small.0 great.0 ≡ Less
    less = reversed great.0 small.0 Greater e

    -- the third is not before the greater one, so not before the smaller one
    far : is_lt (path_cmp other.0 great.0) ≡ false → path_cmp small.0 other.0 ≡ Greater → ⊥
    far h f =
        let third : is_lt (path_cmp other.0 small.0) ≡ true = ap is_lt (reversed small.0 other.0 Greater f) in
        let back : is_lt (path_cmp great.0 small.0) ≡ false = ap is_lt e in
        false≢true (sym (path_order.chain other.0 great.0 small.0 h back) ∙ third)

    by : (o : Ordering) → path_cmp great.0 other.0 ≡ o → (q : Ordering) → path_cmp small.0 other.0 ≡ q →
        lesser small (Some (first_unless_greater o great other)) ≡ lesser great (Some (first_unless_greater q small other))
    by Less f Less k = lesser_less small great less ∙ sym (lesser_greater great small e)
    by Less f Equal k = lesser_less small great less ∙ sym (lesser_greater great small e)
    by Less f Greater k = absurd (far (ap is_lt (reversed great.0 other.0 Less f)) k)
    by Equal f Less k = lesser_less small great less ∙ sym (lesser_greater great small e)
    by Equal f Equal k = lesser_less small great less ∙ sym (lesser_greater great small e)
    by Equal f Greater k = absurd (far (ap is_lt (reversed great.0 other.0 Equal f)) k)
    by Greater f Less k = ap (λ (o : Ordering). Some (first_unless_greater o small other)) k ∙ sym (lesser_greater great small e)
    by Greater f Equal k = ap (λ (o : Ordering). Some (first_unless_greater o small other)) k ∙ sym (lesser_greater great small e)
    by Greater f Greater k = ap (λ (o : Ordering). Some (first_unless_greater o small other)) k ∙ sym (lesser_greater great other f)

blamed_exchange : (great small : List ℕ) (fault second : Option Fault) → path_cmp great small ≡ Greater → (rest : Option Blame) →
    blamed small second (blamed great fault rest) ≡ blamed great fault (blamed small second rest)
blamed_exchange great small None second e rest = refl
blamed_exchange great small (Some fault) None e rest = refl
blamed_exchange great small (Some fault) (Some second) e rest = exchange (great, fault) (small, second) e rest

put_fault : (frame : Frame) (frames : List Frame) → least_fault (put_by_path frame frames) ≡ least_fault (frame ∷ frames)
put_fault frame [] = refl
put_fault frame (first ∷ rest) = by (path_cmp frame.path first.path) refl (put_fault frame rest)
  where
    by : (o : Ordering) → path_cmp frame.path first.path ≡ o → least_fault (put_by_path frame rest) ≡ least_fault (frame ∷ rest) →
        least_fault (in_front_unless_greater o frame first rest (put_by_path frame rest)) ≡ least_fault (frame ∷ first ∷ rest)
    by Less e further = refl
    by Equal e further = refl
    by Greater e further =
        ap (blamed first.path (fault_in first.status)) further
        ∙ blamed_exchange frame.path first.path (fault_in frame.status) (fault_in first.status) e (least_fault rest)

sorted_fault : (frames : List Frame) → least_fault (by_path frames) ≡ least_fault frames
sorted_fault [] = refl
sorted_fault (frame ∷ rest) = put_fault frame (by_path rest) ∙ ap (blamed frame.path (fault_in frame.status)) (sorted_fault rest)

-- the first fault in order is the least of all
pub first_is_least : (frames : List Frame) → first_fault (by_path frames) ≡ least_fault frames
first_is_least frames = sym (least_is_first (by_path frames) (sorted_in_order frames)) ∙ sorted_fault frames

-- ---- counts in order

put_length : (frame : Frame) (frames : List Frame) → length (put_by_path frame frames) ≡ length frames + 1
put_length frame [] = omega arith
put_length frame (first ∷ rest) = by (path_cmp frame.path first.path) (put_length frame rest)
  where
    by : (o : Ordering) → length (put_by_path frame rest) ≡ length rest + 1 →
        length (in_front_unless_greater o frame first rest (put_by_path frame rest)) ≡ length (first ∷ rest) + 1
    by Less further = omega arith
    by Equal further = omega arith
    by Greater further = omega (arith, further)

pub sorted_length : (frames : List Frame) → length (by_path frames) ≡ length frames
sorted_length [] = refl
sorted_length (frame ∷ rest) = (let one = put_length frame (by_path rest) in let further = sorted_length rest in omega (arith, one, further))

module _ (records : List Record) where
  put_unmatched : (frame : Frame) (frames : List Frame) → unmatched (put_by_path frame frames) records ≡ unmatched (frame ∷ frames) records
  put_unmatched frame [] = refl
  put_unmatched frame (first ∷ rest) = by (path_cmp frame.path first.path) (put_unmatched frame rest)
    where
      swapped : (a b : Bool) (one other more : ℕ) → (if b then (if a then more else one + more) else other + (if a then more else one + more)) ≡ (if a then (if b then more else other + more) else one + (if b then more else other + more))
      swapped true true one other more = refl
      swapped true false one other more = refl
      swapped false true one other more = refl
      swapped false false one other more = omega arith

      by : (o : Ordering) → unmatched (put_by_path frame rest) records ≡ unmatched (frame ∷ rest) records →
          unmatched (in_front_unless_greater o frame first rest (put_by_path frame rest)) records ≡ unmatched (frame ∷ first ∷ rest) records
      by Less further = refl
      by Equal further = refl
      by Greater further =
          ap (λ n. if has_fit records first then n else first.cost + n) further
          ∙ swapped (has_fit records frame) (has_fit records first) frame.cost first.cost (unmatched rest records)

  pub sorted_unmatched : (frames : List Frame) → unmatched (by_path frames) records ≡ unmatched frames records
  sorted_unmatched [] = refl
  sorted_unmatched (frame ∷ rest) =
      put_unmatched frame (by_path rest) ∙ ap (λ n. if has_fit records frame then n else frame.cost + n) (sorted_unmatched rest)

-- ---- a frame more

pub fault_iteration : (frames : List Frame) (at : ℕ) (frame : Frame) (fault : Option Fault) → at < length frames → frame ≡ get_or frames at frame → fault ≡ fault_in frame.status →
    first_fault (drop at frames) ≡ unless_faulted frame.path fault (first_fault (drop (at + 1) frames))
fault_iteration frames at frame fault less is e =
    ap first_fault (here frames at frame less is) ∙ ap (λ (o : Option Fault). unless_faulted frame.path o (first_fault (drop (at + 1) frames))) (sym e)
