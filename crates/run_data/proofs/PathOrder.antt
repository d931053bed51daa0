-- Frames and faults put in order of path one after another come to the same whichever of two paths is first.
use Rattle.std.proofs.Common.{◌≡◌, inl, inr, ℕ, Bool, true, false, if◌then◌else◌, List, [], ◌∷◌, ◌++◌, Option, Some, None, refl, sym, ap, ◌∙◌, subst}
use Rattle.std.proofs.lemmas.Bool.{false≢true}
use Rattle.std.specs.Cmp.Lexicographic.{nat_list_cmp_total}
use Rattle.std.specs.declared.cmp.Ordering.{Ordering}
use Rattle.std.specs.declared.cmp.Ordering.TheVariants.{Less, Equal, Greater}
use Rattle.aerie_base.specs.declared.faults.Fault.{Fault}
use Rattle.aerie_base.specs.Paths.{path_cmp}
use Rattle.run_data.specs.TaskFrames.{Frame}
use Rattle.run_data.specs.Batches.{Blame, first_unless_greater, lesser, blamed, fault_in, least_fault, in_front_unless_greater, put_by_path, by_path}
use Rattle.run_data.proofs.FramePaths.{HasPath}
use Rattle.run_data.specs.TableLaws.{path_same, reversed}

-- ---- the order of paths as a test

abbrev unless_greater : Ordering → Bool
unless_greater Less = true
unless_greater Equal = true
unless_greater Greater = false

-- not behind
abbrev up_to : List ℕ → List ℕ → Bool
up_to path other = unless_greater (path_cmp path other)

up_to_trans : (path other third : List ℕ) → up_to path other ≡ true → up_to other third ≡ true → up_to path third ≡ true
up_to_trans path other third h k = by (path_cmp path other) refl h (path_cmp other third) refl k
  where
    by : (first : Ordering) → path_cmp path other ≡ first → unless_greater first ≡ true → (second : Ordering) → path_cmp other third ≡ second → unless_greater second ≡ true →
        up_to path third ≡ true
    by Less e h Less f k = ap unless_greater (nat_list_cmp_total.trans path other third e f)
    by Less e h Equal f k = ap unless_greater (subst (λ p. path_cmp path p ≡ Less) (path_same other third f) e)
    by Less e h Greater f k = absurd (false≢true k)
    by Equal e h second f k = subst (λ p. up_to p third ≡ true) (sym (path_same path other e)) (ap unless_greater f ∙ k)
    by Greater e h second f k = absurd (false≢true h)

up_to_other : (path other : List ℕ) → up_to path other ≡ false → up_to other path ≡ true
up_to_other path other h = by (path_cmp path other) refl h
  where
    by : (order : Ordering) → path_cmp path other ≡ order → unless_greater order ≡ false → up_to other path ≡ true
    by Less e h = absurd (false≢true (sym h))
    by Equal e h = absurd (false≢true (sym h))
    by Greater e h = ap unless_greater (reversed path other Greater e)

up_to_both : (path other : List ℕ) → up_to path other ≡ true → up_to other path ≡ true → path ≡ other
up_to_both path other h k = by (path_cmp path other) refl h
  where
    by : (order : Ordering) → path_cmp path other ≡ order → unless_greater order ≡ true → path ≡ other
    by Less e h = absurd (false≢true (sym (ap unless_greater (reversed path other Less e)) ∙ k))
    by Equal e h = path_same path other e
    by Greater e h = absurd (false≢true h)

-- ---- faults

lesser_is : (first other : Blame) → lesser first (Some other) ≡ Some (if up_to first.0 other.0 then first else other)
lesser_is first other = by (path_cmp first.0 other.0)
  where
    by : (order : Ordering) → ◌≡◌ {A = Option Blame} (Some (first_unless_greater order first other)) (Some (if unless_greater order then first else other))
    by Less = refl
    by Equal = refl
    by Greater = refl

lesser_first : (first other : Blame) → up_to first.0 other.0 ≡ true → lesser first (Some other) ≡ Some first
lesser_first first other h = lesser_is first other ∙ ap (λ (b : Bool). Some (if b then first else other)) h

lesser_other : (first other : Blame) → up_to first.0 other.0 ≡ false → lesser first (Some other) ≡ Some other
lesser_other first other h = lesser_is first other ∙ ap (λ (b : Bool). Some (if b then first else other)) h

module _ (first second : Blame) (before : up_to first.0 second.0 ≡ true) (after : up_to second.0 first.0 ≡ false) where
  lesser_past : (other : Blame) → lesser first (lesser second (Some other)) ≡ lesser second (lesser first (Some other))
  lesser_past other = by (up_to second.0 other.0) refl (up_to first.0 other.0) refl
    where
      by : (b : Bool) → up_to second.0 other.0 ≡ b → (c : Bool) → up_to first.0 other.0 ≡ c → lesser first (lesser second (Some other)) ≡ lesser second (lesser first (Some other))
      by true h true k =
          ap (lesser first) (lesser_first second other h) ∙ lesser_first first second before
          ∙ sym (ap (lesser second) (lesser_first first other k) ∙ lesser_other second first after)
      by true h false k = absurd (false≢true (sym k ∙ up_to_trans first.0 second.0 other.0 before h))
      by false h true k =
          ap (lesser first) (lesser_other second other h) ∙ lesser_first first other k
          ∙ sym (ap (lesser second) (lesser_first first other k) ∙ lesser_other second first after)
      by false h false k =
          ap (lesser first) (lesser_other second other h) ∙ lesser_other first other k
          ∙ sym (ap (lesser second) (lesser_other first other k) ∙ lesser_other second other h)

  lesser_ordered : (rest : Option Blame) → lesser first (lesser second rest) ≡ lesser second (lesser first rest)
  lesser_ordered None = lesser_first first second before ∙ sym (lesser_other second first after)
  lesser_ordered (Some other) = lesser_past other

lesser_exchange : (first second : Blame) → (first.0 ≡ second.0 → ⊥) → (rest : Option Blame) → lesser first (lesser second rest) ≡ lesser second (lesser first rest)
lesser_exchange first second apart rest = by (up_to first.0 second.0) refl (up_to second.0 first.0) refl
  where
    by : (b : Bool) → up_to first.0 second.0 ≡ b → (c : Bool) → up_to second.0 first.0 ≡ c → lesser first (lesser second rest) ≡ lesser second (lesser first rest)
    by true h true k = absurd (apart (up_to_both first.0 second.0 h k))
    by true h false k = lesser_ordered first second h k rest
    by false h true k = sym (lesser_ordered second first k h rest)
    by false h false k = absurd (false≢true (sym k ∙ up_to_other first.0 second.0 h))

blamed_exchange : (path other : List ℕ) (fault second : Option Fault) → (path ≡ other → ⊥) → (rest : Option Blame) →
    blamed path fault (blamed other second rest) ≡ blamed other second (blamed path fault rest)
blamed_exchange path other None second apart rest = refl
blamed_exchange path other (Some fault) None apart rest = refl
blamed_exchange path other (Some fault) (Some second) apart rest = lesser_exchange (path, fault) (other, second) apart rest

-- ---- frames

put_is : (frame first : Frame) (rest : List Frame) → put_by_path frame (first ∷ rest) ≡ (if up_to frame.path first.path then frame ∷ first ∷ rest else first ∷ put_by_path frame rest)
put_is frame first rest = by (path_cmp frame.path first.path)
  where
    by : (order : Ordering) → in_front_unless_greater order frame first rest (put_by_path frame rest) ≡ (if unless_greater order then frame ∷ first ∷ rest else first ∷ put_by_path frame rest)
    by Less = refl
    by Equal = refl
    by Greater = refl

put_before : (frame first : Frame) (rest : List Frame) → up_to frame.path first.path ≡ true → put_by_path frame (first ∷ rest) ≡ frame ∷ first ∷ rest
put_before frame first rest h = put_is frame first rest ∙ ap (λ (b : Bool). if b then frame ∷ first ∷ rest else first ∷ put_by_path frame rest) h

put_behind : (frame first : Frame) (rest : List Frame) → up_to frame.path first.path ≡ false → put_by_path frame (first ∷ rest) ≡ first ∷ put_by_path frame rest
put_behind frame first rest h = put_is frame first rest ∙ ap (λ (b : Bool). if b then frame ∷ first ∷ rest else first ∷ put_by_path frame rest) h

module _ (first second : Frame) (before : up_to first.path second.path ≡ true) (after : up_to second.path first.path ≡ false) where
  put_ordered : (frames : List Frame) → put_by_path first (put_by_path second frames) ≡ put_by_path second (put_by_path first frames)
  put_ordered [] = put_before first second [] before ∙ sym (put_behind second first [] after)
  put_ordered (frame ∷ rest) = by (up_to second.path frame.path) refl (up_to first.path frame.path) refl (put_ordered rest)
    where
      by : (b : Bool) → up_to second.path frame.path ≡ b → (c : Bool) → up_to first.path frame.path ≡ c →
          put_by_path first (put_by_path second rest) ≡ put_by_path second (put_by_path first rest) →
          put_by_path first (put_by_path second (frame ∷ rest)) ≡ put_by_path second (put_by_path first (frame ∷ rest))
      by true h true k further =
          ap (put_by_path first) (put_before second frame rest h) ∙ put_before first second (frame ∷ rest) before
          ∙ sym (ap (put_by_path second) (put_before first frame rest k) ∙ put_behind second first (frame ∷ rest) after ∙ ap (λ l. first ∷ l) (put_before second frame rest h))
      by true h false k further = absurd (false≢true (sym k ∙ up_to_trans first.path second.path frame.path before h))
      by false h true k further =
          ap (put_by_path first) (put_behind second frame rest h) ∙ put_before first frame (put_by_path second rest) k
          ∙ sym (ap (put_by_path second) (put_before first frame rest k) ∙ put_behind second first (frame ∷ rest) after ∙ ap (λ l. first ∷ l) (put_behind second frame rest h))
      by false h false k further =
          ap (put_by_path first) (put_behind second frame rest h) ∙ put_behind first frame (put_by_path second rest) k ∙ ap (λ l. frame ∷ l) further
          ∙ sym (ap (put_by_path second) (put_behind first frame rest k) ∙ put_behind second frame (put_by_path first rest) h)

put_exchange : (first second : Frame) → (first.path ≡ second.path → ⊥) → (frames : List Frame) → put_by_path first (put_by_path second frames) ≡ put_by_path second (put_by_path first frames)
put_exchange first second apart frames = by (up_to first.path second.path) refl (up_to second.path first.path) refl
  where
    by : (b : Bool) → up_to first.path second.path ≡ b → (c : Bool) → up_to second.path first.path ≡ c →
        put_by_path first (put_by_path second frames) ≡ put_by_path second (put_by_path first frames)
    by true h true k = absurd (apart (up_to_both first.path second.path h k))
    by true h false k = put_ordered first second h k frames
    by false h true k = sym (put_ordered second first k h frames)
    by false h false k = absurd (false≢true (sym k ∙ up_to_other first.path second.path h))

-- ---- frames one after another

module _ {X : Type 0} (put : Frame → X → X) where
  abbrev each_put : List Frame → X → X
  each_put [] start = start
  each_put (frame ∷ rest) start = put frame (each_put rest start)

  module _ (exchange : (first second : Frame) → (first.path ≡ second.path → ⊥) → (start : X) → put first (put second start) ≡ put second (put first start)) where
    one_past : (frame : Frame) (frames : List Frame) → (HasPath frame.path frames → ⊥) → (start : X) → put frame (each_put frames start) ≡ each_put frames (put frame start)
    one_past frame [] apart start = refl
    one_past frame (first ∷ rest) apart start =
        exchange frame first (λ e. apart (inl (sym e))) (each_put rest start) ∙ ap (put first) (one_past frame rest (λ h. apart (inr h)) start)

    all_past : (frames others : List Frame) → ((path : List ℕ) → HasPath path frames → HasPath path others → ⊥) → (start : X) →
        each_put frames (each_put others start) ≡ each_put others (each_put frames start)
    all_past [] others apart start = refl
    all_past (frame ∷ rest) others apart start =
        ap (put frame) (all_past rest others (λ path h. apart path (inr h)) start) ∙ one_past frame others (λ h. apart frame.path (inl refl) h) (each_put rest start)

abbrev blame_frame : Frame → Option Blame → Option Blame
blame_frame frame rest = blamed frame.path (fault_in frame.status) rest

least_append : (frames rest : List Frame) → least_fault (frames ++ rest) ≡ each_put blame_frame frames (least_fault rest)
least_append [] rest = refl
least_append (frame ∷ frames) rest = ap (blame_frame frame) (least_append frames rest)

sorted_append : (frames rest : List Frame) → by_path (frames ++ rest) ≡ each_put put_by_path frames (by_path rest)
sorted_append [] rest = refl
sorted_append (frame ∷ frames) rest = ap (put_by_path frame) (sorted_append frames rest)

module _ (frames others : List Frame) (apart : (path : List ℕ) → HasPath path frames → HasPath path others → ⊥) (rest : List Frame) where
  pub least_exchange : least_fault (frames ++ (others ++ rest)) ≡ least_fault (others ++ (frames ++ rest))
  least_exchange =
      least_append frames (others ++ rest) ∙ ap (each_put blame_frame frames) (least_append others rest)
      ∙ all_past blame_frame (λ first second a. blamed_exchange first.path second.path (fault_in first.status) (fault_in second.status) a) frames others apart (least_fault rest)
      ∙ sym (least_append others (frames ++ rest) ∙ ap (each_put blame_frame others) (least_append frames rest))

  pub sorted_exchange : by_path (frames ++ (others ++ rest)) ≡ by_path (others ++ (frames ++ rest))
  sorted_exchange =
      sorted_append frames (others ++ rest) ∙ ap (each_put put_by_path frames) (sorted_append others rest)
      ∙ all_past put_by_path put_exchange frames others apart (by_path rest)
      ∙ sym (sorted_append others (frames ++ rest) ∙ ap (each_put put_by_path others) (sorted_append frames rest))

pub least_behind : (frames rest others : List Frame) → least_fault rest ≡ least_fault others → least_fault (frames ++ rest) ≡ least_fault (frames ++ others)
least_behind frames rest others e = least_append frames rest ∙ ap (each_put blame_frame frames) e ∙ sym (least_append frames others)

pub sorted_behind : (frames rest others : List Frame) → by_path rest ≡ by_path others → by_path (frames ++ rest) ≡ by_path (frames ++ others)
sorted_behind frames rest others e = sorted_append frames rest ∙ ap (each_put put_by_path frames) e ∙ sym (sorted_append frames others)
