-- A file of lemmas: what it proves need not be read to trust a clause.
--
-- Where a simulation stands after a batch, by how that ended.
use Rattle.std.proofs.Common.{◌≡◌, ℕ, ◌+◌, List, [], ◌∷◌, ◌++◌, None, refl, sym, ap, ◌∙◌, subst}
use Rattle.aerie_base.specs.declared.faults.Fault.{Fault}
use Rattle.run_data.specs.TaskFrames.{Frame}
use Rattle.run_data.specs.declared.runs.Outcome.TheVariants.{Failed as Failed_, StepLimit}
use Rattle.run_data.specs.declared.runs.Who.{Who}
use Rattle.run_data.specs.Batches.{cost_of}
use Rattle.run_data.specs.Endings.{after_batch}
use Rattle.run_data.specs.Transitions.{more}
use Rattle.run_data.specs.laws.LiveParts.{live}
use Rattle.live_tasks.specs.InStep.{table_in, IsInStep}
use Rattle.live_tasks.specs.Waking.{KeepsWakesBut}
use Rattle.live_tasks.specs.declared.tasks.LiveTasks.{LiveTasks}
use Rattle.engine_core.specs.BatchEnds.{SpendsWith}
use Rattle.engine_core.specs.Simulations.{ending_with, point_by, AreTasksBefore, IsAfterEnd}
use Rattle.engine_core.specs.declared.batch_ends.BatchEnd.{BatchEnd}
use Rattle.engine_core.specs.declared.batch_ends.BatchEnd.TheVariants.{Limit, Failed, Committed}
use Rattle.engine_core.specs.declared.history.History.{History}
use Rattle.engine_core.specs.declared.present.Present.{Present}
use Rattle.engine_core.specs.declared.simulation.Simulation.{Simulation}

pub after_limit : (before after : Simulation) (end : BatchEnd) → end ≡ Limit → after ≡ ending_with before (StepLimit before.present.time) → IsAfterEnd before end after
after_limit before after end is ended =
    subst (λ (e : BatchEnd). IsAfterEnd before e after) (sym is)
    (subst (IsAfterEnd before Limit) (sym ended) (λ model cells kept touches. record { request = refl; point = refl; tasks = tt }))

pub after_failed : (before after : Simulation) (end : BatchEnd) (who : Who) (fault : Fault) → end ≡ Failed who fault → after ≡ ending_with before (Failed_ before.present.time who fault) →
    IsAfterEnd before end after
after_failed before after end who fault is ended =
    subst (λ (e : BatchEnd). IsAfterEnd before e after) (sym is)
    (subst (IsAfterEnd before (Failed who fault)) (sym ended) (λ model cells kept touches. record { request = refl; point = refl; tasks = tt }))

module _ (before : Simulation) (end : BatchEnd) (frames : List Frame) (touched : List ℕ) (spent : ℕ) (is : end ≡ Committed frames touched spent) (goes_on : before.ending ≡ None)
    (spends : SpendsWith before.present.spent end) (tasks : LiveTasks) (history : History) (in_step : IsInStep tasks)
    (table : table_in tasks ≡ live (after_batch before.present.time frames (table_in before.present.tasks))) (keeps : KeepsWakesBut touched before.present.tasks tasks)
    (puts : history ≡ record before.history { batches = before.history.batches ++ frames ∷ []; touched = before.history.touched ++ touched }) where
  abbrev pub next_present : Present
  next_present = record before.present { spent = spent; tasks = tasks }

  spent_is : spent ≡ before.present.spent + cost_of frames
  spent_is = subst (SpendsWith before.present.spent) is spends

  after_committed : IsAfterEnd before (Committed frames touched spent) (record before { history = history; present = next_present })
  after_committed model cells kept touches = record {
    request = refl;
    point =
        ap (point_by before.request history next_present) goes_on
        ∙ (λ i. more (record {
          time = before.present.time;
          cells = before.present.cells;
          spent = spent_is i;
          table = table i;
          instants = (puts i).instants;
          batches = (puts i).batches;
          touched = (puts i).touched;
        }));
    tasks =
        subst (AreTasksBefore before.request.plan.duration next_present) (sym goes_on)
        (record { in_step = in_step; kept = keeps before.present.time before.request.plan.duration cells before.present.cells kept touches });
  }

  pub after_commit : (after : Simulation) → after ≡ record before { history = history; present = next_present } → IsAfterEnd before end after
  after_commit after same =
      subst (λ (e : BatchEnd). IsAfterEnd before e after) (sym is) (subst (IsAfterEnd before (Committed frames touched spent)) (sym same) after_committed)
