-- The rest of an old run is taken over.
use Rattle.std.proofs.Common.{◌≡◌, inl, inr, ℕ, zero, suc, ◌+◌, ◌-◌, ◌≤◌, List, [], ◌∷◌, ◌++◌, Option, Some, None, refl, sym, ap, ◌∙◌, subst, IsTrue, append_assoc, arith}
use Rattle.std.proofs.lemmas.List.{append_cancel_left}
use Rattle.aerie_base.specs.declared.models.model.Parts.{Parts}
use Rattle.aerie_base.specs.declared.plans.Plan.{Plan}
use Rattle.aerie_base.specs.models.ValidModel.{valid_model}
use Rattle.aerie_base.specs.plans.OfModel.{IsPlanOf}
use Rattle.effect_cells.specs.declared.effects.CellState.{CellState}
use Rattle.effect_cells.specs.Cells.{passed, first_out}
use Rattle.run_data.specs.TaskFrames.{Frame}
use Rattle.run_data.specs.declared.jobs.Job.{Job}
use Rattle.run_data.specs.declared.runs.Instant.{Instant}
use Rattle.run_data.specs.declared.runs.Run.{Run}
use Rattle.run_data.specs.declared.runs.Outcome.TheVariants.{Completed}
use Rattle.run_data.specs.Batches.{Batch, limit, failed, committed, batch, cost_of}
use Rattle.run_data.specs.Fresh.{SimulationState, start, instant_at, next_state, next_by, woken_or_moved, moved, to_time, to_end, after_outcome, least_due, below, IsReached}
use Rattle.run_data.specs.Tasks.{Table, on_each, ready_jobs, woken}
use Rattle.run_data.specs.Transitions.{Next, more, finished, begins, onward, and_on, iterate}
use Rattle.run_data.specs.laws.Iteration.{result_stays, comes_by_transitions}
use Rattle.run_data.proofs.FreshRuns.{fresh_run_is_of_plan}
use Rattle.run_data.specs.laws.AlikeSteps.{StepsAlike, IsNoLimit, IsPaid, Alike}
use Rattle.run_data.specs.laws.LateDifferences.{instants_of}
use Rattle.run_data.specs.laws.RestOfRuns.{RestIsTakenOver, RestIsTakenOverWithin}
use Rattle.run_data.specs.laws.RunCosts.{cost_of_batches, cost_of_instants, SpentIsCost}
use Rattle.run_data.proofs.ReachedStates.{reached_is_of_model}
use Rattle.run_data.proofs.AlikeSteps.{append_none, step_is_alike}
use Rattle.run_data.proofs.LatePlaces.{PlaceAdds, step_adds}

-- ---- costs

batches_cost : (batches : List (List Frame)) (frames : List Frame) → cost_of_batches (batches ++ frames ∷ []) ≡ cost_of_batches batches + cost_of frames
batches_cost [] frames = omega arith
batches_cost (first ∷ rest) frames = omega (arith, batches_cost rest frames)

instants_cost : (first rest : List Instant) → cost_of_instants (first ++ rest) ≡ cost_of_instants first + cost_of_instants rest
instants_cost [] rest = omega arith
instants_cost (one ∷ others) rest = omega (arith, instants_cost others rest)

-- ---- transitions

module _ (S R : Type 0) (next : S → Next S R) where
  -- from where a fold comes to on its way the rest of its transitions leads to the result
  pub iterations_left : (count all : ℕ) (place : Next S R) (at : S) (result : R) → iterate S R next count place ≡ more at → iterate S R next all place ≡ finished result →
      (left : ℕ) × (iterate S R next left (more at) ≡ finished result)
  iterations_left zero all place at result e f = (all, ap (iterate S R next all) (sym e) ∙ f)
  iterations_left (suc count) zero place at result e f =
      let k : ◌≡◌ {A = Next S R} (more at) (finished result) = sym e ∙ ap (iterate S R next (suc count)) f ∙ result_stays S R next (suc count) result in absurd (cc)
  iterations_left (suc count) (suc all) place at result e f = iterations_left count all (and_on S R next place) at result e f

-- ---- what a step settles and spends

-- the instants that it settles are those that come to the run, and cost what was spent
pub record Settles (at : SimulationState) (spent : ℕ) (batches : List (List Frame)) (instants : List Instant) : Type 0 where
  pub settled : List Instant
  pub is : instants ≡ at.instants ++ settled
  pub cost : cost_of_batches at.batches + spent ≡ at.spent + cost_of_batches batches + cost_of_instants settled
  pub more_spent : at.spent ≤ spent

abbrev pub PlaceSettles : SimulationState → Next SimulationState Run → Type 0
PlaceSettles at (more next) = Settles at next.spent next.batches next.instants
PlaceSettles at (finished run) = run.outcome ≡ Completed → Settles at at.spent [] run.instants

module _ (model : Parts) (plan : Plan) (bound : ℕ) (at : SimulationState) where
  none_settled : (batches : List (List Frame)) (spent : ℕ) → cost_of_batches at.batches + spent ≡ at.spent + cost_of_batches batches → at.spent ≤ spent → Settles at spent batches at.instants
  none_settled batches spent e less = record { settled = []; is = sym (append_none at.instants); cost = omega (arith, e); more_spent = less }

  one_settled : Settles at at.spent [] (at.instants ++ instant_at at ∷ [])
  one_settled = record { settled = instant_at at ∷ []; is = refl; cost = omega arith; more_spent = omega arith }

  outcome_settles : (outcome : Batch) → PlaceSettles at (after_outcome model plan bound at outcome)
  outcome_settles limit = λ e. absurd (cc)
  outcome_settles (failed who fault) = λ e. absurd (cc)
  outcome_settles (committed next touched frames) =
      none_settled (at.batches ++ frames ∷ []) (at.spent + cost_of frames) (omega (arith, batches_cost at.batches frames)) (omega arith)

  time_settles : (time : ℕ) (cells : List CellState) (out : Option ℕ) → PlaceSettles at (to_time model plan bound at time cells out)
  time_settles time cells (Some cell) = λ e. absurd (cc)
  time_settles time cells None = one_settled

  end_settles : (out : Option ℕ) → PlaceSettles at (to_end model plan bound at out)
  end_settles (Some cell) = λ e. absurd (cc)
  end_settles None = λ e. one_settled

  moved_settles : (time : Option ℕ) → PlaceSettles at (moved model plan bound at time)
  moved_settles (Some time) = time_settles time (passed at.cells (time - at.time)) (first_out (passed at.cells (time - at.time)))
  moved_settles None = end_settles (first_out (passed at.cells (plan.duration - at.time)))

  judged_settles : (table : Table) (jobs : List (ℕ × Job)) → PlaceSettles at (woken_or_moved model plan bound at table jobs)
  judged_settles table [] = moved_settles (below plan.duration (least_due at.time plan.duration at.cells at.table))
  judged_settles table (job ∷ rest) = none_settled at.batches at.spent (omega arith) (omega arith)

  next_settles : (jobs : List (ℕ × Job)) → PlaceSettles at (next_by model plan bound at jobs)
  next_settles [] = judged_settles (on_each (woken at.cells) at.table) (ready_jobs at.cells (on_each (woken at.cells) at.table))
  next_settles (job ∷ rest) = outcome_settles (batch model bound at.spent at.cells (job ∷ rest))

  pub step_settles : PlaceSettles at (next_state model plan bound at)
  step_settles = next_settles (ready_jobs at.cells at.table)

-- ---- the rest of a run

module _ (model : Parts) (plan old_plan : Plan) (bound old_bound : ℕ) (valid : IsTrue (valid_model model))
    (is : IsPlanOf model plan) (old_is : IsPlanOf model old_plan) (lasts : plan.duration ≡ old_plan.duration) (old : Run) (completed : old.outcome ≡ Completed) where
  abbrev taken : List Instant → Run
  taken instants = record { plan = plan; bound = bound; instants = instants; reach = plan.duration; outcome = Completed }

  record Left (other : SimulationState) : Type 0 where
    rest : List Instant
    is_rest : old.instants ≡ other.instants ++ rest
    paid : cost_of_batches other.batches ≤ cost_of_instants rest
    goes : (at : SimulationState) → IsReached model plan bound (more at) → Alike at other → at.spent + cost_of_instants rest ≤ bound + cost_of_batches other.batches →
        IsReached model plan bound (finished (taken (at.instants ++ rest)))

  module _ (other : SimulationState) (reached : IsReached model old_plan old_bound (more other)) where
    -- ---- the last step

    last_goes : (ends : Settles other other.spent [] old.instants) → next_state model old_plan old_bound other ≡ finished old → old.reach ≡ old_plan.duration →
        (at : SimulationState) → IsReached model plan bound (more at) → Alike at other → IsReached model plan bound (finished (taken (at.instants ++ ends.settled)))
    last_goes ends e reach at here alike =
        by (next_state model plan bound at) refl
        (subst (StepsAlike at other (next_state model plan bound at)) e
        (step_is_alike model plan old_plan bound old_bound at other valid is old_is lasts here reached alike (subst (IsPaid bound old_bound at other) (sym e) (inl completed))))
      where
        by : (place : Next SimulationState Run) → next_state model plan bound at ≡ place → StepsAlike at other place (finished old) → IsReached model plan bound (finished (taken (at.instants ++ ends.settled)))
        by (more next) f steps = absurd steps
        by (finished run) f steps =
            let fresh : IsReached model plan bound (finished run) = subst (IsReached model plan bound) f (onward here) in
            let of = fresh_run_is_of_plan model plan bound run fresh in
            let settled : steps.2.0 ≡ ends.settled = append_cancel_left other.instants steps.2.0 ends.settled (sym steps.2.2 ∙ ends.is) in
            let outcome : run.outcome ≡ Completed = steps.0 ∙ completed in
            let until : run.reach ≡ plan.duration = steps.1 ∙ reach ∙ sym lasts in
            let instants : run.instants ≡ at.instants ++ ends.settled = steps.2.1 ∙ ap (λ s. at.instants ++ s) settled in
            let same : run ≡ taken (at.instants ++ ends.settled) = λ i. record { plan = of.0 i; bound = of.1 i; instants = instants i; reach = until i; outcome = outcome i } in
            subst (λ r. IsReached model plan bound (finished r)) same fresh

    last_left : next_state model old_plan old_bound other ≡ finished old → old.reach ≡ old_plan.duration → Left other
    last_left e reach =
        let ends : Settles other other.spent [] old.instants = subst (PlaceSettles other) e (step_settles model old_plan old_bound other) completed in record {
          rest = ends.settled;
          is_rest = ends.is;
          paid = omega (arith, ends.cost);
          goes = λ at here alike fit. last_goes ends e reach at here alike;
        }

    -- ---- a step on

    step_goes : (next : SimulationState) → next_state model old_plan old_bound other ≡ more next → (ends : Settles other next.spent next.batches next.instants) → (further : Left next) →
        (at : SimulationState) → IsReached model plan bound (more at) → Alike at other →
        at.spent + cost_of_instants (ends.settled ++ further.rest) ≤ bound + cost_of_batches other.batches →
        IsReached model plan bound (finished (taken (at.instants ++ (ends.settled ++ further.rest))))
    step_goes next e ends further at here alike fit =
        by (next_state model plan bound at) refl
        (subst (StepsAlike at other (next_state model plan bound at)) e
        (step_is_alike model plan old_plan bound old_bound at other valid is old_is lasts here reached alike (subst (IsPaid bound old_bound at other) (sym e) pays)))
      where
        sum : cost_of_instants (ends.settled ++ further.rest) ≡ cost_of_instants ends.settled + cost_of_instants further.rest
        sum = instants_cost ends.settled further.rest

        pays : at.spent + next.spent ≤ bound + other.spent
        pays = omega (arith, sum, ends.cost, further.paid, fit)

        by : (place : Next SimulationState Run) → next_state model plan bound at ≡ place → StepsAlike at other place (more next) →
            IsReached model plan bound (finished (taken (at.instants ++ (ends.settled ++ further.rest))))
        by (finished run) f steps = absurd steps
        by (more new) f steps =
            let settled : steps.2.0 ≡ ends.settled = append_cancel_left other.instants steps.2.0 ends.settled (sym steps.2.2 ∙ ends.is) in
            let instants : new.instants ≡ at.instants ++ ends.settled = steps.2.1 ∙ ap (λ s. at.instants ++ s) settled in
            let spent : new.spent + other.spent ≡ at.spent + next.spent = steps.1 in
            let fits : new.spent + cost_of_instants further.rest ≤ bound + cost_of_batches next.batches = omega (arith, sum, ends.cost, fit, spent) in
            let goes = further.goes new (subst (IsReached model plan bound) f (onward here)) steps.0 fits in
            subst (λ l. IsReached model plan bound (finished (taken l))) (ap (λ l. l ++ further.rest) instants ∙ append_assoc at.instants ends.settled further.rest) goes

    step_left : (next : SimulationState) → next_state model old_plan old_bound other ≡ more next → Left next → Left other
    step_left next e further =
        let ends : Settles other next.spent next.batches next.instants = subst (PlaceSettles other) e (step_settles model old_plan old_bound other) in
        let sum = instants_cost ends.settled further.rest in record {
          rest = ends.settled ++ further.rest;
          is_rest = further.is_rest ∙ ap (λ l. l ++ further.rest) ends.is ∙ append_assoc other.instants ends.settled further.rest;
          paid = omega (arith, sum, ends.cost, further.paid, ends.more_spent);
          goes = step_goes next e ends further;
        }

  -- ---- all steps

  all_left : old.reach ≡ old_plan.duration → (count : ℕ) (other : SimulationState) → IsReached model old_plan old_bound (more other) →
      iterate SimulationState Run (next_state model old_plan old_bound) count (more other) ≡ finished old → Left other
  all_left reach zero other reached e = absurd (cc)
  all_left reach (suc count) other reached e =
      by (next_state model old_plan old_bound other) refl e (λ next there f. all_left reach count next there f)
    where
      by : (place : Next SimulationState Run) → next_state model old_plan old_bound other ≡ place → iterate SimulationState Run (next_state model old_plan old_bound) count place ≡ finished old →
          ((next : SimulationState) → IsReached model old_plan old_bound (more next) → iterate SimulationState Run (next_state model old_plan old_bound) count (more next) ≡ finished old → Left next) → Left other
      by (more next) f e further = step_left other reached next f (further next (subst (IsReached model old_plan old_bound) f (onward reached)) e)
      by (finished run) f e further =
          let k : ◌≡◌ {A = Next SimulationState Run} (finished run) (finished old) = sym (result_stays SimulationState Run (next_state model old_plan old_bound) count run) ∙ e in
          last_left other reached (f ∙ k) reach

-- ---- a completed run reaches the end of its plan

abbrev EndsAt : ℕ → Next SimulationState Run → Type 0
EndsAt end (more at) = Unit {0}
EndsAt end (finished run) = run.outcome ≡ Completed → run.reach ≡ end

module _ (model : Parts) (plan : Plan) (bound : ℕ) where
  outcome_ends : (at : SimulationState) (outcome : Batch) → EndsAt plan.duration (after_outcome model plan bound at outcome)
  outcome_ends at limit = λ e. absurd (cc)
  outcome_ends at (failed who fault) = λ e. absurd (cc)
  outcome_ends at (committed next touched frames) = tt

  time_ends : (at : SimulationState) (time : ℕ) (cells : List CellState) (out : Option ℕ) → EndsAt plan.duration (to_time model plan bound at time cells out)
  time_ends at time cells (Some cell) = λ e. absurd (cc)
  time_ends at time cells None = tt

  end_ends : (at : SimulationState) (out : Option ℕ) → EndsAt plan.duration (to_end model plan bound at out)
  end_ends at (Some cell) = λ e. absurd (cc)
  end_ends at None = λ e. refl

  moved_ends : (at : SimulationState) (time : Option ℕ) → EndsAt plan.duration (moved model plan bound at time)
  moved_ends at (Some time) = time_ends at time (passed at.cells (time - at.time)) (first_out (passed at.cells (time - at.time)))
  moved_ends at None = end_ends at (first_out (passed at.cells (plan.duration - at.time)))

  judged_ends : (at : SimulationState) (table : Table) (jobs : List (ℕ × Job)) → EndsAt plan.duration (woken_or_moved model plan bound at table jobs)
  judged_ends at table [] = moved_ends at (below plan.duration (least_due at.time plan.duration at.cells at.table))
  judged_ends at table (job ∷ rest) = tt

  next_ends : (at : SimulationState) (jobs : List (ℕ × Job)) → EndsAt plan.duration (next_by model plan bound at jobs)
  next_ends at [] = judged_ends at (on_each (woken at.cells) at.table) (ready_jobs at.cells (on_each (woken at.cells) at.table))
  next_ends at (job ∷ rest) = outcome_ends at (batch model bound at.spent at.cells (job ∷ rest))

  place_ends : (place : Next SimulationState Run) → IsReached model plan bound place → EndsAt plan.duration place
  place_ends (more at) begins = tt
  place_ends place (onward {point = at} before) = next_ends at (ready_jobs at.cells at.table)

-- ---- the law

pub rest_is_taken_over : RestIsTakenOver
rest_is_taken_over model plan old_plan bound old_bound at other old rest both alike fresh completed is_rest fit =
    let all = comes_by_transitions SimulationState Run (next_state model old_plan old_bound) (start model old_plan) (finished old) fresh in
    let some = comes_by_transitions SimulationState Run (next_state model old_plan old_bound) (start model old_plan) (more other) both.old_reached in
    let transitions = iterations_left SimulationState Run (next_state model old_plan old_bound) some.0 all.0 (more (start model old_plan)) other old some.1 all.1 in
    let found = all_left model plan old_plan bound old_bound both.valid both.is_plan both.old_is_plan both.lasts old completed (place_ends model old_plan old_bound (finished old) fresh completed) transitions.0 other both.old_reached transitions.1 in
    let same : found.rest ≡ rest = append_cancel_left other.instants found.rest rest (sym found.is_rest ∙ is_rest) in
    let cost : cost_of_instants found.rest ≡ cost_of_instants rest = ap cost_of_instants same in
    subst (λ l. IsReached model plan bound (finished (taken model plan old_plan bound old_bound both.valid both.is_plan both.old_is_plan both.lasts old completed (at.instants ++ l)))) same
    (found.goes at both.reached alike (omega (arith, fit, cost)))

-- ---- where no less is left of the bound

pub record Adds (at : SimulationState) (instants : List Instant) : Type 0 where
  pub added : List Instant
  pub is : instants ≡ at.instants ++ added

adds_by : (at : SimulationState) (place : Next SimulationState Run) → PlaceAdds at place → Adds at (instants_of place)
adds_by at (more next) (inl same) = record { added = []; is = same.0 ∙ sym (append_none at.instants) }
adds_by at (more next) (inr settled) = record { added = instant_at at ∷ []; is = settled }
adds_by at (finished run) (inl same) = record { added = []; is = same ∙ sym (append_none at.instants) }
adds_by at (finished run) (inr settled) = record { added = instant_at at ∷ []; is = settled }

module _ (model : Parts) (plan old_plan : Plan) (bound old_bound : ℕ) (valid : IsTrue (valid_model model))
    (is : IsPlanOf model plan) (old_is : IsPlanOf model old_plan) (lasts : plan.duration ≡ old_plan.duration) (old : Run) (no_limit : IsNoLimit old.outcome) where
  abbrev ended : List Instant → Run
  ended instants = record { plan = plan; bound = bound; instants = instants; reach = old.reach; outcome = old.outcome }

  record LeftWithin (other : SimulationState) : Type 0 where
    rest : List Instant
    is_rest : old.instants ≡ other.instants ++ rest
    goes : (at : SimulationState) → IsReached model plan bound (more at) → Alike at other → at.spent + old_bound ≤ bound + other.spent → IsReached model plan bound (finished (ended (at.instants ++ rest)))

  module _ (other : SimulationState) (reached : IsReached model old_plan old_bound (more other)) where
    adds : Adds other (instants_of (next_state model old_plan old_bound other))
    adds = adds_by other (next_state model old_plan old_bound other) (step_adds model old_plan old_bound other)

    last_within : next_state model old_plan old_bound other ≡ finished old → LeftWithin other
    last_within e = record {
      rest = adds.added;
      is_rest = is_rest;
      goes = λ at here alike fit.
          by at (next_state model plan bound at) (onward here)
          (subst (StepsAlike at other (next_state model plan bound at)) e
          (step_is_alike model plan old_plan bound old_bound at other valid is old_is lasts here reached alike (subst (IsPaid bound old_bound at other) (sym e) (inr (no_limit, fit)))));
    }
      where
        is_rest : old.instants ≡ other.instants ++ adds.added
        is_rest = ap instants_of (sym e) ∙ adds.is

        by : (at : SimulationState) (place : Next SimulationState Run) → IsReached model plan bound place → StepsAlike at other place (finished old) → IsReached model plan bound (finished (ended (at.instants ++ adds.added)))
        by at (more next) fresh steps = absurd steps
        by at (finished run) fresh steps =
            let of = fresh_run_is_of_plan model plan bound run fresh in
            let settled : steps.2.0 ≡ adds.added = append_cancel_left other.instants steps.2.0 adds.added (sym steps.2.2 ∙ is_rest) in
            let instants : run.instants ≡ at.instants ++ adds.added = steps.2.1 ∙ ap (λ s. at.instants ++ s) settled in
            let same : run ≡ ended (at.instants ++ adds.added) = λ i. record { plan = of.0 i; bound = of.1 i; instants = instants i; reach = steps.1 i; outcome = steps.0 i } in
            subst (λ r. IsReached model plan bound (finished r)) same fresh

    step_within : (next : SimulationState) → IsReached model old_plan old_bound (more next) → next_state model old_plan old_bound other ≡ more next → LeftWithin next → LeftWithin other
    step_within next there e further = record {
      rest = adds.added ++ further.rest;
      is_rest = further.is_rest ∙ ap (λ l. l ++ further.rest) is_next ∙ append_assoc other.instants adds.added further.rest;
      goes = λ at here alike fit.
          by at fit (next_state model plan bound at) (onward here)
          (subst (StepsAlike at other (next_state model plan bound at)) e
          (step_is_alike model plan old_plan bound old_bound at other valid is old_is lasts here reached alike (subst (IsPaid bound old_bound at other) (sym e) (pays at fit))));
    }
      where
        is_next : next.instants ≡ other.instants ++ adds.added
        is_next = ap instants_of (sym e) ∙ adds.is

        pays : (at : SimulationState) → at.spent + old_bound ≤ bound + other.spent → at.spent + next.spent ≤ bound + other.spent
        pays at fit = let within = (reached_is_of_model model old_plan old_bound next valid old_is there).spent in omega (arith, within, fit)

        by : (at : SimulationState) → at.spent + old_bound ≤ bound + other.spent → (place : Next SimulationState Run) → IsReached model plan bound place → StepsAlike at other place (more next) →
            IsReached model plan bound (finished (ended (at.instants ++ (adds.added ++ further.rest))))
        by at fit (finished run) fresh steps = absurd steps
        by at fit (more new) fresh steps =
            let settled : steps.2.0 ≡ adds.added = append_cancel_left other.instants steps.2.0 adds.added (sym steps.2.2 ∙ is_next) in
            let instants : new.instants ≡ at.instants ++ adds.added = steps.2.1 ∙ ap (λ s. at.instants ++ s) settled in
            let spent : new.spent + other.spent ≡ at.spent + next.spent = steps.1 in
            let goes = further.goes new fresh steps.0 (omega (arith, fit, spent)) in
            subst (λ l. IsReached model plan bound (finished (ended l))) (ap (λ l. l ++ further.rest) instants ∙ append_assoc at.instants adds.added further.rest) goes

  all_within : (count : ℕ) (other : SimulationState) → IsReached model old_plan old_bound (more other) →
      iterate SimulationState Run (next_state model old_plan old_bound) count (more other) ≡ finished old → LeftWithin other
  all_within zero other reached e = absurd (cc)
  all_within (suc count) other reached e = by (next_state model old_plan old_bound other) refl (onward reached) e (λ next there f. all_within count next there f)
    where
      by : (place : Next SimulationState Run) → next_state model old_plan old_bound other ≡ place → IsReached model old_plan old_bound place →
          iterate SimulationState Run (next_state model old_plan old_bound) count place ≡ finished old →
          ((next : SimulationState) → IsReached model old_plan old_bound (more next) → iterate SimulationState Run (next_state model old_plan old_bound) count (more next) ≡ finished old → LeftWithin next) →
          LeftWithin other
      by (more next) f there e further = step_within other reached next there f (further next there e)
      by (finished run) f there e further =
          let k : ◌≡◌ {A = Next SimulationState Run} (finished run) (finished old) = sym (result_stays SimulationState Run (next_state model old_plan old_bound) count run) ∙ e in
          last_within other reached (f ∙ k)

pub rest_is_taken_over_within : RestIsTakenOverWithin
rest_is_taken_over_within model plan old_plan bound old_bound at other old rest both alike fresh no_limit is_rest fit =
    let all = comes_by_transitions SimulationState Run (next_state model old_plan old_bound) (start model old_plan) (finished old) fresh in
    let some = comes_by_transitions SimulationState Run (next_state model old_plan old_bound) (start model old_plan) (more other) both.old_reached in
    let transitions = iterations_left SimulationState Run (next_state model old_plan old_bound) some.0 all.0 (more (start model old_plan)) other old some.1 all.1 in
    let found = all_within model plan old_plan bound old_bound both.valid both.is_plan both.old_is_plan both.lasts old no_limit transitions.0 other both.old_reached transitions.1 in
    let same : found.rest ≡ rest = append_cancel_left other.instants found.rest rest (sym found.is_rest ∙ is_rest) in
    subst (λ l. IsReached model plan bound (finished (ended model plan old_plan bound old_bound both.valid both.is_plan both.old_is_plan both.lasts old no_limit (at.instants ++ l)))) same (found.goes at both.reached alike fit)

-- ---- what is spent

module _ (model : Parts) (plan : Plan) (bound : ℕ) where
  abbrev PlaceCosts : Next SimulationState Run → Type 0
  PlaceCosts (more at) = at.spent ≡ cost_of_instants at.instants + cost_of_batches at.batches
  PlaceCosts (finished run) = Unit {0}

  step_costs : (at : SimulationState) → at.spent ≡ cost_of_instants at.instants + cost_of_batches at.batches → (place : Next SimulationState Run) → PlaceSettles at place → PlaceCosts place
  step_costs at before (more next) ends =
      let cost : cost_of_instants next.instants ≡ cost_of_instants at.instants + cost_of_instants ends.settled = ap cost_of_instants ends.is ∙ instants_cost at.instants ends.settled in
      omega (arith, before, cost, ends.cost)
  step_costs at before (finished run) ends = tt

  place_costs : (place : Next SimulationState Run) → IsReached model plan bound place → PlaceCosts place
  place_costs (more at) begins = omega arith
  place_costs place (onward {point = at} reached) = step_costs at (place_costs (more at) reached) (next_state model plan bound at) (step_settles model plan bound at)

pub spent_is_cost : SpentIsCost
spent_is_cost model plan bound at reached = place_costs model plan bound (more at) reached

-- what is spent anywhere is no more than the cost of the completed run
pub spent_within : (model : Parts) (plan : Plan) (bound : ℕ) (old : Run) (other : SimulationState) → IsTrue (valid_model model) → IsPlanOf model plan → IsReached model plan bound (finished old) →
    old.outcome ≡ Completed → IsReached model plan bound (more other) → other.spent ≤ cost_of_instants old.instants
spent_within model plan bound old other valid is fresh completed reached =
    let all = comes_by_transitions SimulationState Run (next_state model plan bound) (start model plan) (finished old) fresh in
    let some = comes_by_transitions SimulationState Run (next_state model plan bound) (start model plan) (more other) reached in
    let transitions = iterations_left SimulationState Run (next_state model plan bound) some.0 all.0 (more (start model plan)) other old some.1 all.1 in
    let found = all_left model plan plan bound bound valid is is refl old completed (place_ends model plan bound (finished old) fresh completed) transitions.0 other reached transitions.1 in
    let cost : cost_of_instants old.instants ≡ cost_of_instants other.instants + cost_of_instants found.rest = ap cost_of_instants found.is_rest ∙ instants_cost other.instants found.rest in
    omega (arith, spent_is_cost model plan bound other reached, cost, found.paid)
