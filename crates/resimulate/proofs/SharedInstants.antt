-- Where plans differ in directives none of which is due before a time, their simulations have the instants until then in common.
use Rattle.std.proofs.Common.{◌≡◌, ◌⊎◌, inl, inr, ℕ, zero, suc, ◌+◌, ◌-◌, ◌<◌, ◌≤◌, Bool, true, false, List, [], ◌∷◌, ◌++◌, length, take, drop, get_or, Option, Some, None, slice_get, refl, sym, ap, ◌∙◌, subst, IsTrue, if◌then◌else◌, append_assoc, add-one, arith}
use Rattle.std.proofs.Math.Seq.{take-suc}
use Rattle.std.proofs.lemmas.Bool.{ltb-true, lt-ltb}
use Rattle.std.proofs.lemmas.List.{append-nil}
use Rattle.std.specs.List.{AllWithin}
use Rattle.aerie_base.specs.declared.models.model.Parts.{Parts}
use Rattle.aerie_base.specs.declared.plans.Anchor.{Anchor}
use Rattle.aerie_base.specs.declared.plans.Directive.{Directive}
use Rattle.aerie_base.specs.declared.plans.Plan.{Plan}
use Rattle.aerie_base.specs.models.ValidModel.{valid_model}
use Rattle.aerie_base.specs.plans.OfModel.{IsPlanOf}
use Rattle.effect_cells.specs.declared.effects.CellState.{CellState}
use Rattle.effect_cells.specs.Cells.{passed, first_out}
use Rattle.run_data.specs.declared.jobs.Job.{Job}
use Rattle.run_data.specs.declared.runs.Instant.{Instant}
use Rattle.run_data.specs.declared.runs.Run.{Run}
use Rattle.run_data.specs.Batches.{Batch, limit, failed, committed, batch}
use Rattle.run_data.specs.Fresh.{SimulationState, start, instant_at, next_state, next_by, woken_or_moved, moved, to_time, to_end, after_outcome, below, least_due, IsReached, IsFresh}
use Rattle.run_data.specs.Tasks.{on_each, woken, ready_jobs}
use Rattle.run_data.specs.Transitions.{Next, more, finished, and_on, iterate}
use Rattle.run_data.specs.laws.Iteration.{comes_by_transitions}
use Rattle.run_data.specs.laws.LateDifferences.{common_directives, instants_before, instants_of, StartsLate, IsLate, DifferLate, SameInstantsBefore, AffordsNoLess}
use Rattle.run_data.specs.laws.Orders.{EachOf}
use Rattle.resimulate.specs.EarlyEnds.{MayBeEnded}
use Rattle.resimulate.specs.OldBatches.{AreEarly, is_earlier}
use Rattle.parting.specs.IdRanges.{is_id_between}
use Rattle.parting.specs.PlainLateness.{IsPlainlyLate, StartsPlainlyLate}
use Rattle.resimulate.specs.Partings.{others_of, IsFreeAndLate, PartFrom, SkipsTo, SharesFirst}
use Rattle.resimulate.proofs.TaskTraces.{drop_next, drop_past}

-- ---- each of a list

each_at_end : {A : Type 0} (P : A → Type 0) (front : List A) (one : A) → EachOf P front → P one → EachOf P (front ++ one ∷ [])
each_at_end P [] one each here = (here, tt)
each_at_end P (first ∷ rest) one each here = (each.0, each_at_end P rest one each.1 here)

pub taken_next : {A : Type 0} (k : ℕ) (items : List A) (one : A) → k < length items → one ≡ get_or items k one → take k items ++ one ∷ [] ≡ take (k + 1) items
taken_next k items one within is = ap (λ x. take k items ++ x ∷ []) is ∙ sym (rw add-one (take-suc items k one within))

pub each_more : {A : Type 0} (P : A → Type 0) (at : ℕ) (items : List A) (one : A) → at < length items → one ≡ get_or items at one → EachOf P (take at items) → P one → EachOf P (take (at + 1) items)
each_more P at items one less is each here = subst (EachOf P) (taken_next at items one less is) (each_at_end P (take at items) one each here)

take_whole : {A : Type 0} (k : ℕ) (items : List A) → length items ≤ k → take k items ≡ items
take_whole zero [] most = refl
take_whole (suc k) [] most = refl
take_whole zero (first ∷ rest) most = absurd (omega (arith, most))
take_whole (suc k) (first ∷ rest) most = ap (λ l. first ∷ l) (take_whole k rest (omega (arith, most)))

pub each_whole : {A : Type 0} (P : A → Type 0) (at : ℕ) (items : List A) → length items ≤ at → EachOf P (take at items) → EachOf P items
each_whole P at items most each = subst (EachOf P) (take_whole at items most) each

-- ---- directives that are not of the range

module _ (first past : ℕ) where
  pub skipped : (one : Directive) (rest : List Directive) → is_id_between first past one.id ≡ true → others_of first past (one ∷ rest) ≡ others_of first past rest
  skipped one rest e = ap (λ (b : Bool). if b then others_of first past rest else one ∷ others_of first past rest) e

  pub kept : (one : Directive) (rest : List Directive) → is_id_between first past one.id ≡ false → others_of first past (one ∷ rest) ≡ one ∷ others_of first past rest
  kept one rest e = ap (λ (b : Bool). if b then others_of first past rest else one ∷ others_of first past rest) e

  pub skips_next : (others : List Directive) (from at : ℕ) (one : Directive) → at < length others → one ≡ get_or others at one → is_id_between first past one.id ≡ true →
      SkipsTo first past others from at → SkipsTo first past others from (at + 1)
  skips_next others from at one less is e so_far = so_far ∙ ap (others_of first past) (drop_next at others one less is) ∙ skipped one (drop (at + 1) others) e

  pub skips_all : (others : List Directive) (from at : ℕ) → length others ≤ at → SkipsTo first past others from at → SkipsTo first past others from (length others)
  skips_all others from at most so_far =
      so_far ∙ ap (others_of first past) (drop_past at others most ∙ sym (drop_past (length others) others (let same : length others ≤ length others = omega arith in same)))

-- ---- instants grow

abbrev Extends : List Instant → List Instant → Type 0
Extends instants longer = (rest : List Instant) × (longer ≡ instants ++ rest)

extends_then : (one two three : List Instant) → Extends one two → Extends two three → Extends one three
extends_then one two three first second =
    (first.0 ++ second.0, second.1 ∙ ap (λ l. l ++ second.0) first.1 ∙ append_assoc one first.0 second.0)

module _ (model : Parts) (plan : Plan) (bound : ℕ) where
  abbrev Step : Next SimulationState Run → Next SimulationState Run
  Step point = and_on SimulationState Run (next_state model plan bound) point

  same_on : (instants : List Instant) → Extends instants instants
  same_on instants = ([], sym (append-nil instants))

  by_batch : (at : SimulationState) (whole : Batch) → Extends at.instants (instants_of (after_outcome model plan bound at whole))
  by_batch at limit = same_on at.instants
  by_batch at (failed who fault) = same_on at.instants
  by_batch at (committed cells touched frames) = same_on at.instants

  by_time : (at : SimulationState) (time : ℕ) (cells : List CellState) (out : Option ℕ) → Extends at.instants (instants_of (to_time model plan bound at time cells out))
  by_time at time cells (Some cell) = (instant_at at ∷ [], refl)
  by_time at time cells None = (instant_at at ∷ [], refl)

  by_end : (at : SimulationState) (out : Option ℕ) → Extends at.instants (instants_of (to_end model plan bound at out))
  by_end at (Some cell) = (instant_at at ∷ [], refl)
  by_end at None = (instant_at at ∷ [], refl)

  by_move : (at : SimulationState) (due : Option ℕ) → Extends at.instants (instants_of (moved model plan bound at due))
  by_move at (Some time) = by_time at time (passed at.cells (time - at.time)) (first_out (passed at.cells (time - at.time)))
  by_move at None = by_end at (first_out (passed at.cells (plan.duration - at.time)))

  by_jobs_then : (at : SimulationState) (jobs : List (ℕ × Job)) → Extends at.instants (instants_of (woken_or_moved model plan bound at (on_each (woken at.cells) at.table) jobs))
  by_jobs_then at [] = by_move at (below plan.duration (least_due at.time plan.duration at.cells at.table))
  by_jobs_then at (job ∷ rest) = same_on at.instants

  by_jobs : (at : SimulationState) (jobs : List (ℕ × Job)) → Extends at.instants (instants_of (next_by model plan bound at jobs))
  by_jobs at [] = by_jobs_then at (ready_jobs at.cells (on_each (woken at.cells) at.table))
  by_jobs at (job ∷ rest) = by_batch at (batch model bound at.spent at.cells (job ∷ rest))

  step_on : (point : Next SimulationState Run) → Extends (instants_of point) (instants_of (Step point))
  step_on (more at) = by_jobs at (ready_jobs at.cells at.table)
  step_on (finished run) = same_on run.instants

  abbrev After : ℕ → Next SimulationState Run → Next SimulationState Run
  After count point = iterate SimulationState Run (next_state model plan bound) count point

  goes_on : (count : ℕ) (point : Next SimulationState Run) → Extends (instants_of point) (instants_of (After count point))
  goes_on zero point = same_on (instants_of point)
  goes_on (suc count) point = extends_then (instants_of point) (instants_of (Step point)) (instants_of (After count (Step point))) (step_on point) (goes_on count (Step point))

  either : (count other : ℕ) (point : Next SimulationState Run) →
      Extends (instants_of (After count point)) (instants_of (After other point)) ⊎ Extends (instants_of (After other point)) (instants_of (After count point))
  either zero other point = inl (goes_on other point)
  either (suc count) zero point = inr (goes_on (suc count) point)
  either (suc count) (suc other) point = either count other (Step point)

  -- of two points of one simulation the instants of one are the first of the other
  one_extends : (point other : Next SimulationState Run) → IsReached model plan bound point → IsReached model plan bound other →
      Extends (instants_of point) (instants_of other) ⊎ Extends (instants_of other) (instants_of point)
  one_extends point other comes comes_too =
      let one = comes_by_transitions SimulationState Run (next_state model plan bound) (start model plan) point comes in
      let two = comes_by_transitions SimulationState Run (next_state model plan bound) (start model plan) other comes_too in
      subst (λ p. Extends (instants_of p) (instants_of other) ⊎ Extends (instants_of other) (instants_of p)) one.1
      (subst (λ q. Extends (instants_of (After one.0 (more (start model plan)))) (instants_of q) ⊎ Extends (instants_of q) (instants_of (After one.0 (more (start model plan))))) two.1
      (either one.0 two.0 (more (start model plan))))

-- ---- first instants

pub take_front : {A : Type 0} (number : ℕ) (front rest : List A) → number ≤ length front → take number (front ++ rest) ≡ take number front
take_front zero front rest most = refl
take_front (suc number) [] rest most = absurd (omega (arith, most))
take_front (suc number) (first ∷ front) rest most = ap (λ l. first ∷ l) (take_front number front rest (omega (arith, most)))

same_first : (number : ℕ) (instants others : List Instant) → number ≤ length instants → number ≤ length others → Extends instants others ⊎ Extends others instants → take number instants ≡ take number others
same_first number instants others within within_too (inl longer) = sym (ap (take number) longer.1 ∙ take_front number instants longer.0 within)
same_first number instants others within within_too (inr longer) = ap (take number) longer.1 ∙ take_front number others longer.0 within_too

module _ (until : ℕ) where
  goes_first : (first : Instant) (rest : List Instant) → is_earlier until first ≡ true → instants_before until (first ∷ rest) ≡ first ∷ instants_before until rest
  goes_first first rest e = ap (λ (b : Bool). if b then first ∷ instants_before until rest else []) e

  before_first : (number : ℕ) (instants : List Instant) → number ≤ length instants → AreEarly until number instants →
      (take number (instants_before until instants) ≡ take number instants) × (number ≤ length (instants_before until instants))
  before_first zero instants most early = (refl, omega arith)
  before_first (suc number) [] most early = absurd (omega (arith, most))
  before_first (suc number) (first ∷ rest) most early =
      let further = before_first number rest (omega (arith, most)) (λ k one there less. early (suc k) one there (omega (arith, less))) in
      let here = goes_first first rest (lt-ltb first.time until (early 0 first refl (omega arith))) in
      let long = further.1 in
      let is = ap (λ (l : List Instant). length l) here in (
        ap (take (suc number)) here ∙ ap (λ l. first ∷ l) further.0,
        omega (arith, long, is),
      )

-- so they are before an index that is found by halves
get_of : (instants : List Instant) (k : ℕ) (one : Instant) → slice_get instants k ≡ Some one → get_or instants k one ≡ one
get_of [] k one e = refl
get_of (first ∷ rest) zero one e = cc
get_of (first ∷ rest) (suc k) one e = get_of rest k one e

pub early_by_halves : (until at : ℕ) (instants : List Instant) → at ≤ length instants → AllWithin (λ one. is_earlier until one ≡ true) instants 0 at → AreEarly until at instants
early_by_halves until at instants most low k one there less =
    ltb-true one.time until (ap (is_earlier until) (sym (get_of instants k one there)) ∙ low k one (omega arith) less)

pub none_shared : (model : Parts) (plan : Plan) (bound : ℕ) (old : Run) → SharesFirst model plan bound old 0
none_shared model plan bound old point comes zero less within = refl
none_shared model plan bound old point comes (suc number) less within = absurd (omega (arith, less))

-- ---- plans that differ later

-- directives without anchors that do not start before a time are late, whatever the old simulation does
module _ (first past until : ℕ) where
  pub plainly_late : (directives : List Directive) → EachOf (IsFreeAndLate first past until) directives → EachOf (IsPlainlyLate (is_id_between first past) until) directives
  plainly_late [] each = tt
  plainly_late (one ∷ rest) each =
      ((λ e. subst (λ (anchor : Option Anchor). StartsPlainlyLate until anchor one.start) (sym each.0.free) (each.0.late e)), plainly_late rest each.1)

  all_late : (model : Parts) (old_plan : Plan) (bound : ℕ) (directives : List Directive) → EachOf (IsFreeAndLate first past until) directives →
      EachOf (IsLate (is_id_between first past) until model old_plan bound) directives
  all_late model old_plan bound [] each = tt
  all_late model old_plan bound (one ∷ rest) each = (
    (λ e. subst (λ (anchor : Option Anchor). StartsLate (is_id_between first past) until model old_plan bound anchor one.start) (sym each.0.free) (each.0.late e)),
    all_late model old_plan bound rest each.1,
  )

-- so are plans whose differing directives are late, if the new bound is no less
pub differ_late : AffordsNoLess → (model : Parts) (plan old_plan : Plan) (bound old_bound : ℕ) → IsTrue (valid_model model) → IsPlanOf model plan → IsPlanOf model old_plan → plan.duration ≡ old_plan.duration →
    old_bound ≤ bound → (differs : ℕ → Bool) (until : ℕ) → common_directives differs plan.directives ≡ common_directives differs old_plan.directives →
    EachOf (IsLate differs until model old_plan old_bound) plan.directives → EachOf (IsLate differs until model old_plan old_bound) old_plan.directives →
    DifferLate differs until model plan old_plan bound old_bound
differ_late affords model plan old_plan bound old_bound valid is old_is lasts more_bound differs until same late old_late = record {
  valid = valid;
  is = is;
  old_is = old_is;
  duration = lasts;
  same = same;
  late = late;
  old_late = old_late;
  affords = λ other reached before. affords model old_plan bound old_bound other valid old_is reached more_bound;
}

pub shares : SameInstantsBefore → AffordsNoLess → (model : Parts) (plan : Plan) (bound : ℕ) (old : Run) → IsTrue (valid_model model) → IsPlanOf model plan → IsPlanOf model old.plan → MayBeEnded plan old →
    IsFresh model old.plan old.bound old → old.bound ≤ bound → (first past until : ℕ) → 0 < until → PartFrom first past until plan old.plan → (count : ℕ) → count ≤ length old.instants → AreEarly until count old.instants →
    SharesFirst model plan bound old count
shares same affords model plan bound old valid is old_is may fresh more_bound first past until some_time part count within early point comes number less reaches =
    same_first number (instants_of point) (instants_before until old.instants) reaches both.1
    (subst (λ l. Extends (instants_of point) l ⊎ Extends l (instants_of point)) place.2 (one_extends model plan bound point place.0 comes place.1))
    ∙ both.0
  where
    late : DifferLate (is_id_between first past) until model plan old.plan bound old.bound
    late =
        differ_late affords model plan old.plan bound old.bound valid is old_is may.lasts more_bound (is_id_between first past) until part.same
        (all_late first past until model old.plan old.bound plan.directives part.late) (all_late first past until model old.plan old.bound old.plan.directives part.old_late)

    place : (place : Next SimulationState Run) × IsReached model plan bound place × (instants_of place ≡ instants_before until old.instants)
    place = same (is_id_between first past) until model plan old.plan bound old.bound old late some_time fresh

    both : (take number (instants_before until old.instants) ≡ take number old.instants) × (number ≤ length (instants_before until old.instants))
    both = before_first until number old.instants (omega (arith, less, within)) (λ k one there k_less. early k one there (omega (arith, k_less, less)))
