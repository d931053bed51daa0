-- The frames of a batch are taken in their order.
use Rattle.std.proofs.Common.{◌≡◌, ◌⊎◌, inl, inr, ℕ, zero, suc, ◌+◌, ◌<◌, ◌≤◌, ◌^◌, true, false, List, [], ◌∷◌, ◌++◌, length, take, Some, refl, sym, ap, ◌∙◌, subst, arith, slice_get}
use Rattle.std.proofs.lemmas.List.{length-append}
use Rattle.aerie_base.specs.Paths.{child_path}
use Rattle.run_data.specs.TaskFrames.{Frame}
use Rattle.run_data.specs.Tasks.{Task, Table, task_at, after_frame, after_frames, children_made, children_in}
use Rattle.run_data.specs.laws.BatchFrames.{Among, HasPath, Differ}
use Rattle.run_data.specs.laws.FramesByPath.{at_no_frame, at_one_frame}
use Rattle.run_data.specs.laws.ReadyTasks.{is_ready_phase}
use Rattle.live_tasks.specs.Listing.{is_ready_slot}
use Rattle.live_tasks.specs.declared.slots.Slot.{Slot}
use Rattle.live_tasks.specs.declared.origins.Origin.{Origin}
use Rattle.live_tasks.specs.declared.origins.Origin.TheVariants.{Ready, Child}
use Rattle.live_tasks.specs.Slots.{Slots, slot_at, table_of, AreTable}
use Rattle.live_tasks.specs.Endings.{slot_has_ended, IsNumberAmong, IsTaking, HasTakenFrame, TakesOne, HasTakenUpTo, MayTake}
use Rattle.live_tasks.proofs.Taken.{none_taken}

-- ---- lists

take_one_more : (now : ℕ) (frames : List Frame) (place : ℕ) (frame : Frame) (table : Table) → slice_get frames place ≡ Some frame →
    after_frames now (take (suc place) frames) table ≡ after_frame now frame (after_frames now (take place frames) table)
take_one_more now [] place frame table at = absurd (cc)
take_one_more now (first ∷ rest) zero frame table at = let k : first ≡ frame = cc in ap (λ f. after_frame now f table) k
take_one_more now (first ∷ rest) (suc place) frame table at = take_one_more now rest place frame (after_frame now first table) at

path_among : (frames : List Frame) (place : ℕ) (frame : Frame) → slice_get frames place ≡ Some frame → HasPath frame.path frames
path_among [] place frame at = absurd (cc)
path_among (first ∷ rest) zero frame at = let k : first ≡ frame = cc in inl (ap (λ (f : Frame). f.path) k)
path_among (first ∷ rest) (suc place) frame at = inr (path_among rest place frame at)

is_among : (frames : List Frame) (place : ℕ) (frame : Frame) → slice_get frames place ≡ Some frame → Among frame frames
is_among [] place frame at = absurd (cc)
is_among (first ∷ rest) zero frame at = let k : first ≡ frame = cc in inl k
is_among (first ∷ rest) (suc place) frame at = inr (is_among rest place frame at)

none_before : (frames : List Frame) (place : ℕ) (frame : Frame) → Differ frames → slice_get frames place ≡ Some frame → HasPath frame.path (take place frames) → ⊥
none_before [] place frame differ at has = cc
none_before (first ∷ rest) zero frame differ at has = has
none_before (first ∷ rest) (suc place) frame differ at (inl same) = differ.0 (subst (λ p. HasPath p rest) (sym same) (path_among rest place frame at))
none_before (first ∷ rest) (suc place) frame differ at (inr has) = none_before rest place frame differ.1 at has

among_more : (number one : ℕ) (numbers : List ℕ) → IsNumberAmong number (one ∷ numbers) → IsNumberAmong number (numbers ++ one ∷ [])
among_more number one [] h = h
among_more number one (first ∷ rest) (inl e) = inr (among_more number one rest (inl e))
among_more number one (first ∷ rest) (inr (inl e)) = inl e
among_more number one (first ∷ rest) (inr (inr h)) = inr (among_more number one rest (inr h))

pub data LastOr {X : Type 0} (numbers : List X) (one : X) (place : ℕ) (number : X) : Type 0 where
  earlier_ : slice_get numbers place ≡ Some number → LastOr numbers one place number
  last : place ≡ length numbers → number ≡ one → LastOr numbers one place number

pub last_or : {X : Type 0} (numbers : List X) (one : X) (place : ℕ) (number : X) → slice_get (numbers ++ one ∷ []) place ≡ Some number → LastOr numbers one place number
last_or [] one zero number at = last refl (let k : one ≡ number = cc in sym k)
last_or [] one (suc place) number at = absurd (cc)
last_or (first ∷ rest) one zero number at = earlier_ at
last_or (first ∷ rest) one (suc place) number at = by (last_or rest one place number at)
  where
    by : LastOr rest one place number → LastOr (first ∷ rest) one (suc place) number
    by (earlier_ e) = earlier_ e
    by (last e f) = last (ap suc e) f

take_all : (frames : List Frame) (place : ℕ) → length frames ≤ place → take place frames ≡ frames
take_all [] zero long = refl
take_all [] (suc place) long = refl
take_all (first ∷ rest) zero long = absurd (omega (arith, long))
take_all (first ∷ rest) (suc place) long = ap (λ f. first ∷ f) (take_all rest place (omega (arith, long)))

there_is : {X : Type 0} (xs : List X) (place : ℕ) → place < length xs → (x : X) × (slice_get xs place ≡ Some x)
there_is [] place less = absurd (omega (arith, less))
there_is (x ∷ xs) zero less = (x, refl)
there_is (x ∷ xs) (suc place) less = there_is xs place (omega (arith, less))

module _ (now : ℕ) (first : Slots) (frames : List Frame) (origins : List Origin) (may : MayTake now first frames origins) where
  pub begin_taking : HasTakenUpTo now first frames 0 [] first
  begin_taking = record {
    taking = none_taken (table_of first) first may.live_;
    long = refl;
    at = λ other number e. absurd (cc);
  }

  pub end_taking : (place : ℕ) (numbers : List ℕ) (slots : Slots) → length frames ≤ place → HasTakenUpTo now first frames place numbers slots → IsTaking first numbers (after_frames now frames (table_of first)) slots
  end_taking place numbers slots long taken = subst (λ f. IsTaking first numbers (after_frames now f (table_of first)) slots) (take_all frames place long) taken.taking

  module _ (place : ℕ) (numbers : List ℕ) (slots : Slots) (taken : HasTakenUpTo now first frames place numbers slots) (frame : Frame) (here : slice_get frames place ≡ Some frame) where
    abbrev so_far : Table
    so_far = after_frames now (take place frames) (table_of first)

    as_before : task_at so_far frame.path ≡ task_at (table_of first) frame.path
    as_before = at_no_frame now (take place frames) (table_of first) frame.path (none_before frames place frame may.are.differ here)

    made_small : children_made (task_at (table_of first) frame.path) + children_in frame.items < 2 ^ 32
    made_small =
        subst (λ o. children_made o < 2 ^ 32) (at_one_frame now frames (table_of first) frame may.are.differ (is_among frames place frame here)) (may.small frame.path)

    pub few : children_in frame.items < 2 ^ 32
    few = omega (arith, made_small)

    pub more_few : (number : ℕ) (slot : Slot) → slice_get origins place ≡ Some (Ready number) → slot_at slots number ≡ Some slot → slot.task.made + children_in frame.items < 2 ^ 32
    more_few number slot origin at =
        let o = may.origins_.each place frame (Ready number) here origin in
        let f = taken.taking.grown number o.0 o.1 in
        let g : Some f.next ≡ Some slot = sym f.there ∙ at in
        let h : f.next ≡ slot = cc in
        let e : task_at (table_of first) frame.path ≡ Some slot.task =
        sym as_before ∙ ap (task_at so_far) (sym o.2 ∙ sym f.path ∙ ap (λ (s : Slot). s.path) h) ∙ taken.taking.are.tasks number slot at in
        subst (λ o. children_made o + children_in frame.items < 2 ^ 32) e made_small

    pub ready_yet : (number : ℕ) → slice_get origins place ≡ Some (Ready number) → is_ready_slot (slot_at slots number) ≡ true
    ready_yet number origin =
        let o = may.origins_.each place frame (Ready number) here origin in
        let f = taken.taking.grown number o.0 o.1 in
        let e : Some o.0.task ≡ Some f.next.task =
        sym (may.live_.are.tasks number o.0 o.1) ∙ ap (task_at (table_of first)) o.2 ∙ sym as_before ∙ ap (task_at so_far) (sym o.2 ∙ sym f.path) ∙ taken.taking.are.tasks number f.next f.there in
        let g : o.0.task ≡ f.next.task = cc in
        ap is_ready_slot f.there ∙ ap (λ (t : Task). is_ready_phase t.phase) (sym g) ∙ o.3

    pub maker_before : (maker own : ℕ) → slice_get origins place ≡ Some (Child maker own) → maker < length numbers
    maker_before maker own origin =
        let o = may.origins_.each place frame (Child maker own) here origin in subst (λ n. maker < n) (sym taken.long) o.0

    took : (new : Slots) (number : ℕ) (origin : Origin) → slice_get origins place ≡ Some origin → TakesOne now frame origin numbers slots new number → HasTakenFrame now first numbers so_far frame slots new number
    took new number (Ready mine) is takes =
        let o = may.origins_.each place frame (Ready mine) here is in
        let f = taken.taking.grown mine o.0 o.1 in
        subst (HasTakenFrame now first numbers so_far frame slots new) (sym takes.0) (takes.1 first numbers so_far taken.taking f.next f.there (f.path ∙ o.2))
    took new number (Child maker own) is takes =
        let o = may.origins_.each place frame (Child maker own) here is in
        let n = there_is numbers maker (subst (λ n. maker < n) (sym taken.long) o.0) in
        let at = taken.at maker n.0 n.1 o.1 o.2 in
        takes n.0 n.1 first numbers so_far taken.taking at.0 at.1 (o.3 ∙ ap (λ p. child_path p own) (sym at.2)) (as_before ∙ o.4)

    pub next_taken : (new : Slots) (number : ℕ) (origin : Origin) → slice_get origins place ≡ Some origin → TakesOne now frame origin numbers slots new number →
        HasTakenUpTo now first frames (place + 1) (numbers ++ number ∷ []) new
    next_taken new number origin is takes = record {
      taking = record {
        forest = t.taking.forest;
        are = subst (λ table. AreTable new table) (sym (take_one_more now frames place frame (table_of first) here) ∙ ap (λ n. after_frames now (take n frames) (table_of first)) (next place)) t.taking.are;
        grown = t.taking.grown;
        settled = λ n s at. weaker n s (t.taking.settled n s at);
      };
      long = length-append numbers (number ∷ []) ∙ ap (λ n. n + 1) taken.long;
      at = at;
    }
      where
        next : (n : ℕ) → suc n ≡ n + 1
        next n = omega arith

        t : HasTakenFrame now first numbers so_far frame slots new number
        t = took new number origin is takes

        weaker : (n : ℕ) (s : Slot) → (slot_has_ended (Some s) ≡ false) ⊎ IsNumberAmong n (number ∷ numbers) → (slot_has_ended (Some s) ≡ false) ⊎ IsNumberAmong n (numbers ++ number ∷ [])
        weaker n s (inl e) = inl e
        weaker n s (inr h) = inr (among_more n number numbers h)

        at : (other one : ℕ) → slice_get (numbers ++ number ∷ []) other ≡ Some one → (made : Frame) → slice_get frames other ≡ Some made → (slot : Slot) × (slot_at new one ≡ Some slot) × (slot.path ≡ made.path)
        at other one e made f = by (last_or numbers number other one e)
          where
            by : LastOr numbers number other one → (slot : Slot) × (slot_at new one ≡ Some slot) × (slot.path ≡ made.path)
            by (earlier_ g) =
                let was = taken.at other one g made f in
                let s = t.still one was.0 was.1 in (s.next, s.there, s.path ∙ was.2)
            by (last g h) =
                let k : Some frame ≡ Some made = sym here ∙ ap (slice_get frames) (sym (g ∙ taken.long)) ∙ f in
                let l : frame ≡ made = cc in
                (t.slot, ap (slot_at new) h ∙ t.there, t.path ∙ ap (λ (f : Frame). f.path) l)
