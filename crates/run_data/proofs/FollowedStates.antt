-- Behind a settled instant that is alike in two simulations, the new one comes to where the old one comes.
use Rattle.std.proofs.Common.{◌≡◌, ◌⊎◌, inl, inr, ℕ, zero, suc, ◌+◌, ◌-◌, ◌<◌, ◌≤◌, List, [], ◌∷◌, ◌++◌, Option, Some, None, length, drop, refl, sym, ap, ◌∙◌, subst, IsTrue, append_assoc, arith}
use Rattle.std.proofs.Math.Seq.{drop-append_seam}
use Rattle.std.proofs.lemmas.List.{append_cancel_left, length-append}
use Rattle.aerie_base.specs.declared.models.model.Parts.{Parts}
use Rattle.aerie_base.specs.declared.plans.Plan.{Plan}
use Rattle.aerie_base.specs.models.ValidModel.{valid_model}
use Rattle.aerie_base.specs.plans.OfModel.{IsPlanOf}
use Rattle.effect_cells.specs.declared.effects.CellState.{CellState}
use Rattle.effect_cells.specs.Cells.{passed, first_out}
use Rattle.run_data.specs.TaskFrames.{Frame}
use Rattle.run_data.specs.declared.runs.Instant.{Instant}
use Rattle.run_data.specs.declared.runs.Run.{Run}
use Rattle.run_data.specs.Fresh.{SimulationState, start, instant_at, next_state, moved, to_time, to_end, least_due, below, IsReached}
use Rattle.run_data.specs.TableLaws.{order_each}
use Rattle.run_data.specs.Tasks.{on_each, rested}
use Rattle.run_data.specs.Transitions.{Next, more, finished, onward, and_on, iterate}
use Rattle.run_data.specs.laws.AlikeSteps.{Alike, BothReach, StepsAlike, IsPaid}
use Rattle.run_data.specs.laws.FollowedStates.{settled_since, IsFollowed, SettledIsFollowed}
use Rattle.run_data.specs.laws.Iteration.{result_stays, comes_by_transitions}
use Rattle.run_data.specs.laws.LivePartLaws.{SameLive, same_of, live_of, same_due, same_each}
use Rattle.run_data.specs.laws.OpenTasks.{rested_open}
use Rattle.run_data.specs.laws.OrderedTables.{IsOrderedTable}
use Rattle.run_data.specs.laws.RestOfRuns.{AlikeSettled}
use Rattle.run_data.proofs.AlikeSteps.{append_none, step_is_alike}
use Rattle.run_data.proofs.ReachedStates.{reached_is_of_model}
use Rattle.run_data.proofs.RestOfRuns.{PlaceSettles, step_settles}
use Rattle.run_data.proofs.RestOfSettled.{settled_moves}

-- ---- transitions

module _ (S R : Type 0) (next : S → Next S R) where
  -- of two places on the way of a fold one comes behind the other
  pub in_order : (count again : ℕ) (place : Next S R) (at later : S) → iterate S R next count place ≡ more at → iterate S R next again place ≡ more later →
      ((left : ℕ) × (iterate S R next left (more at) ≡ more later)) ⊎ ((left : ℕ) × (iterate S R next left (more later) ≡ more at))
  in_order zero again place at later e f = inl (again, ap (iterate S R next again) (sym e) ∙ f)
  in_order (suc count) zero place at later e f = inr (suc count, ap (iterate S R next (suc count)) (sym f) ∙ e)
  in_order (suc count) (suc again) place at later e f = in_order count again (and_on S R next place) at later e f

-- ---- what a simulation settles and spends on its way

-- instants come behind those that there are, and what is spent only grows
pub record Grows (at later : SimulationState) : Type 0 where
  pub settled : List Instant
  pub is : later.instants ≡ at.instants ++ settled
  pub more_spent : at.spent ≤ later.spent

module _ (model : Parts) (plan : Plan) (bound : ℕ) where
  abbrev step : SimulationState → Next SimulationState Run
  step = next_state model plan bound

  abbrev on : ℕ → Next SimulationState Run → Next SimulationState Run
  on = iterate SimulationState Run step

  -- a result is no state
  never_back : (count : ℕ) (run : Run) (later : SimulationState) → on count (finished run) ≡ more later → ⊥
  never_back count run later e =
      let clash : ◌≡◌ {A = Next SimulationState Run} (finished run) (more later) = sym (result_stays SimulationState Run step count run) ∙ e in cc

  abbrev state_or : SimulationState → Next SimulationState Run → SimulationState
  state_or other (more at) = at
  state_or other (finished run) = other

  pub one_state : (at later : SimulationState) → ◌≡◌ {A = Next SimulationState Run} (more at) (more later) → at ≡ later
  one_state at later e = ap (state_or at) e

  pub grows : (count : ℕ) (at later : SimulationState) → on count (more at) ≡ more later → Grows at later
  grows zero at later e =
      let same : at ≡ later = one_state at later e in record {
        settled = [];
        is = sym (ap (λ (s : SimulationState). s.instants) same) ∙ sym (append_none at.instants);
        more_spent = let spent = ap (λ (s : SimulationState). s.spent) same in omega (arith, spent);
      }
  grows (suc count) at later e = by (step at) e (step_settles model plan bound at) (λ next f. grows count next later f)
    where
      by : (place : Next SimulationState Run) → on count place ≡ more later → PlaceSettles at place → ((next : SimulationState) → on count (more next) ≡ more later → Grows next later) → Grows at later
      by (finished run) e ends on_from = absurd (never_back count run later e)
      by (more next) e ends on_from =
          let further = on_from next e in record {
            settled = ends.settled ++ further.settled;
            is = further.is ∙ ap (λ l. l ++ further.settled) ends.is ∙ append_assoc at.instants ends.settled further.settled;
            more_spent = let here = ends.more_spent in let there = further.more_spent in omega (arith, here, there);
          }

  -- a state with more instants comes behind
  pub comes_later : (at later : SimulationState) → IsReached model plan bound (more at) → IsReached model plan bound (more later) → length at.instants < length later.instants →
      (left : ℕ) × (on left (more at) ≡ more later)
  comes_later at later reached comes less =
      let one = comes_by_transitions SimulationState Run step (start model plan) (more at) reached in
      let two = comes_by_transitions SimulationState Run step (start model plan) (more later) comes in
      by (in_order SimulationState Run step one.0 two.0 (more (start model plan)) at later one.1 two.1)
    where
      by : ((left : ℕ) × (on left (more at) ≡ more later)) ⊎ ((left : ℕ) × (on left (more later) ≡ more at)) → (left : ℕ) × (on left (more at) ≡ more later)
      by (inl found) = found
      by (inr found) =
          let back = grows found.0 later at found.1 in
          let many : length at.instants ≡ length later.instants + length back.settled = ap length back.is ∙ length-append later.instants back.settled in
          absurd (omega (arith, less, many))

-- ---- from alike states on

module _ (model : Parts) (plan old_plan : Plan) (bound old_bound : ℕ) (valid : IsTrue (valid_model model))
    (is : IsPlanOf model plan) (old_is : IsPlanOf model old_plan) (lasts : plan.duration ≡ old_plan.duration) where
  abbrev old_step : SimulationState → Next SimulationState Run
  old_step = next_state model old_plan old_bound

  abbrev old_on : ℕ → Next SimulationState Run → Next SimulationState Run
  old_on = iterate SimulationState Run old_step

  -- a state of the new simulation that is alike with a later one of the old
  record Comes (at other later : SimulationState) : Type 0 where
    next : SimulationState
    reached : IsReached model plan bound (more next)
    alike : Alike next later
    spent : next.spent + other.spent ≡ at.spent + later.spent
    settled : List Instant
    instants : next.instants ≡ at.instants ++ settled
    old_instants : later.instants ≡ other.instants ++ settled

  all_comes : (count : ℕ) (at other later : SimulationState) → IsReached model plan bound (more at) → IsReached model old_plan old_bound (more other) → Alike at other →
      old_on count (more other) ≡ more later → at.spent + later.spent ≤ bound + other.spent → Comes at other later
  all_comes zero at other later here there alike e fit =
      let same : other ≡ later = one_state model old_plan old_bound other later e in record {
        next = at;
        reached = here;
        alike = subst (Alike at) same alike;
        spent = let spent = ap (λ (s : SimulationState). s.spent) same in omega (arith, spent);
        settled = [];
        instants = sym (append_none at.instants);
        old_instants = sym (ap (λ (s : SimulationState). s.instants) same) ∙ sym (append_none other.instants);
      }
  all_comes (suc count) at other later here there alike e fit =
      by (old_step other) refl e (step_settles model old_plan old_bound other) (λ next reached f new comes alike fit. all_comes count new next later comes reached alike f fit)
    where
      by : (place : Next SimulationState Run) → old_step other ≡ place → old_on count place ≡ more later → PlaceSettles other place →
          ((next : SimulationState) → IsReached model old_plan old_bound (more next) → old_on count (more next) ≡ more later → (new : SimulationState) → IsReached model plan bound (more new) →
          Alike new next → new.spent + later.spent ≤ bound + next.spent → Comes new next later) → Comes at other later
      by (finished run) f e ends further = absurd (never_back model old_plan old_bound count run later e)
      by (more next) f e ends further =
          new_by (next_state model plan bound at) refl
          (subst (StepsAlike at other (next_state model plan bound at)) f
          (step_is_alike model plan old_plan bound old_bound at other valid is old_is lasts here there alike (subst (IsPaid bound old_bound at other) (sym f) pays)))
        where
          more_spent : next.spent ≤ later.spent
          more_spent = (grows model old_plan old_bound count next later e).more_spent

          pays : at.spent + next.spent ≤ bound + other.spent
          pays = let grow = more_spent in omega (arith, grow, fit)

          new_by : (place : Next SimulationState Run) → next_state model plan bound at ≡ place → StepsAlike at other place (more next) → Comes at other later
          new_by (finished run) g steps = absurd steps
          new_by (more new) g steps =
              let spent : new.spent + other.spent ≡ at.spent + next.spent = steps.1 in
              let comes = further next (subst (IsReached model old_plan old_bound) f (onward there)) e new (subst (IsReached model plan bound) g (onward here)) steps.0 (omega (arith, spent, fit)) in
              let later_spent = comes.spent in record {
                next = comes.next;
                reached = comes.reached;
                alike = comes.alike;
                spent = omega (arith, spent, later_spent);
                settled = steps.2.0 ++ comes.settled;
                instants = comes.instants ∙ ap (λ l. l ++ comes.settled) steps.2.1 ∙ append_assoc at.instants steps.2.0 comes.settled;
                old_instants = comes.old_instants ∙ ap (λ l. l ++ comes.settled) steps.2.2 ∙ append_assoc other.instants steps.2.0 comes.settled;
              }

-- ---- behind a settled instant

module _ (model : Parts) (plan old_plan : Plan) (bound old_bound : ℕ) (at other later : SimulationState) (valid : IsTrue (valid_model model))
    (is : IsPlanOf model plan) (old_is : IsPlanOf model old_plan) (lasts : plan.duration ≡ old_plan.duration)
    (reached : IsReached model plan bound (more at)) (old_reached : IsReached model old_plan old_bound (more other)) (alike : AlikeSettled at other)
    (comes : IsReached model old_plan old_bound (more later)) (fit : at.spent + later.spent ≤ bound + other.spent)
    (count : ℕ) (far : iterate SimulationState Run (next_state model old_plan old_bound) count (next_state model old_plan old_bound other) ≡ more later) where
  abbrev Goal : Type 0
  Goal = IsFollowed model plan bound at other later

  order : IsOrderedTable at.table
  order = (reached_is_of_model model plan bound at valid is reached).table.order

  second : IsOrderedTable other.table
  second = (reached_is_of_model model old_plan old_bound other valid old_is old_reached).table.order

  same : SameLive at.table other.table
  same = same_of at.table other.table order second alike.tables

  -- the instants behind the one at hand, where a state stands behind it
  since : (settled : List Instant) → later.instants ≡ (other.instants ++ instant_at other ∷ []) ++ settled → settled_since other later ≡ settled
  since settled e =
      ap (drop (suc (length other.instants))) e ∙ ap (λ n. drop n ((other.instants ++ instant_at other ∷ []) ++ settled)) (sym one) ∙ drop-append_seam (other.instants ++ instant_at other ∷ []) settled
    where
      one : length (other.instants ++ instant_at other ∷ []) ≡ suc (length other.instants)
      one = let sum = length-append other.instants (instant_at other ∷ []) in omega (arith, sum)

  -- to a later time
  time_goes : (time : ℕ) (cells : List CellState) (out : Option ℕ) → IsReached model plan bound (to_time model plan bound at time cells out) → IsReached model old_plan old_bound (to_time model old_plan old_bound other time cells out) →
      iterate SimulationState Run (next_state model old_plan old_bound) count (to_time model old_plan old_bound other time cells out) ≡ more later → Goal
  time_goes time cells (Some cell) here there e = absurd (never_back model old_plan old_bound count _ later e)
  time_goes time cells None here there e =
      let ahead = grows model old_plan old_bound count _ later e in
      let settled : settled_since other later ≡ ahead.settled = since ahead.settled ahead.is in
      let goes = all_comes model plan old_plan bound old_bound valid is old_is lasts count _ _ later here there
      (record {
        time = refl;
        cells = refl;
        batches = refl;
        touched = refl;
        tables = live_of (on_each (rested time) at.table) (on_each (rested time) other.table) (order_each (rested time) at.table order) (order_each (rested time) other.table second)
            (same_each (rested time) (λ path task. rested_open time task.phase) (λ path task. refl) at.table other.table same);
      }) e fit in
      let behind : goes.settled ≡ ahead.settled = append_cancel_left (other.instants ++ instant_at other ∷ []) goes.settled ahead.settled (sym goes.old_instants ∙ ahead.is) in record {
        next = goes.next;
        reached = goes.reached;
        alike = goes.alike;
        instants = goes.instants ∙ ap (λ l. (at.instants ++ instant_at at ∷ []) ++ l) (behind ∙ sym settled) ∙ append_assoc at.instants (instant_at at ∷ []) (settled_since other later);
        spent = goes.spent;
      }

  -- at the end there is no later state
  end_goes : (out : Option ℕ) → iterate SimulationState Run (next_state model old_plan old_bound) count (to_end model old_plan old_bound other out) ≡ more later → Goal
  end_goes (Some cell) e = absurd (never_back model old_plan old_bound count _ later e)
  end_goes None e = absurd (never_back model old_plan old_bound count _ later e)

  moved_goes : (time : Option ℕ) → IsReached model plan bound (moved model plan bound at time) → IsReached model old_plan old_bound (moved model old_plan old_bound other time) →
      iterate SimulationState Run (next_state model old_plan old_bound) count (moved model old_plan old_bound other time) ≡ more later → Goal
  moved_goes (Some time) here there e =
      let later_cells : passed at.cells (time - at.time) ≡ passed other.cells (time - other.time) = λ i. passed (alike.cells i) (time - alike.time i) in
      time_goes time (passed other.cells (time - other.time)) (first_out (passed other.cells (time - other.time)))
      (subst (λ c. IsReached model plan bound (to_time model plan bound at time c (first_out c))) later_cells here) there e
  moved_goes None here there e = end_goes (first_out (passed other.cells (old_plan.duration - other.time))) e

  pub goes : Goal
  goes =
      moved_goes (below old_plan.duration (least_due other.time old_plan.duration other.cells other.table))
      (subst (λ d. IsReached model plan bound (moved model plan bound at d)) due
      (subst (IsReached model plan bound) (settled_moves model plan bound at alike.settled) (onward reached)))
      (subst (IsReached model old_plan old_bound) (settled_moves model old_plan old_bound other alike.old_settled) (onward old_reached))
      (subst (λ (p : Next SimulationState Run). iterate SimulationState Run (next_state model old_plan old_bound) count p ≡ more later) (settled_moves model old_plan old_bound other alike.old_settled) far)
    where
      due : below plan.duration (least_due at.time plan.duration at.cells at.table) ≡ below old_plan.duration (least_due other.time old_plan.duration other.cells other.table)
      due =
          (λ i. below (lasts i) (least_due (alike.time i) (lasts i) (alike.cells i) at.table))
          ∙ ap (below old_plan.duration) (same_due at.table other.table order second same other.time old_plan.duration other.cells)

pub settled_is_followed : SettledIsFollowed
settled_is_followed model plan old_plan bound old_bound at other later both alike comes less fit =
    by (comes_later model old_plan old_bound other later both.old_reached comes less)
  where
    by : (left : ℕ) × (iterate SimulationState Run (next_state model old_plan old_bound) left (more other) ≡ more later) → IsFollowed model plan bound at other later
    by (zero, e) =
        let same : length other.instants ≡ length later.instants = ap (λ (s : SimulationState). length s.instants) (one_state model old_plan old_bound other later e) in
        absurd (omega (arith, less, same))
    by (suc count, e) =
        goes model plan old_plan bound old_bound at other later both.valid both.is_plan both.old_is_plan both.lasts both.reached both.old_reached alike comes fit count e
