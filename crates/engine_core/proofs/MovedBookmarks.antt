-- A file of lemmas: what it proves need not be read to trust a clause.
--
-- A simulation that was set aside, moved behind other instants for another plan.
use Rattle.std.proofs.Common.{◌≡◌, ℕ, ◌≤◌, List, refl, sym, ap, ◌∙◌, subst}
use Rattle.aerie_base.specs.Ranges.{step_limit}
use Rattle.aerie_base.specs.declared.models.model.Parts.{Parts}
use Rattle.aerie_base.specs.declared.plans.Plan.{Plan}
use Rattle.aerie_base.specs.plans.OfModel.{IsPlanOf}
use Rattle.run_data.specs.declared.runs.Instant.{Instant}
use Rattle.run_data.specs.declared.runs.Run.{Run}
use Rattle.run_data.specs.Fresh.{SimulationState}
use Rattle.run_data.specs.Transitions.{Next, more}
use Rattle.live_tasks.specs.Waking.{AreKept}
use Rattle.engine_core.specs.Bookmarks.{IsSetAside, point_behind}
use Rattle.engine_core.specs.EngineStates.{EngineState, IsReachedPruned, jobs_in, batches_in}
use Rattle.engine_core.specs.Simulations.{state_of, point_by, point_in, AreTasksBefore, engine_state_of}
use Rattle.engine_core.specs.declared.present.Present.{Present}
use Rattle.engine_core.specs.declared.simulation.Request.{Request}
use Rattle.engine_core.specs.declared.simulation.Simulation.{Simulation}
use Rattle.engine_core.proofs.ResumedBookmarks.{goes_on, point_is, tasks}

module _ (model : Parts) (simulation : Simulation) (aside : IsSetAside model simulation) (bookmark : EngineState) (view_is : engine_state_of model simulation ≡ bookmark)
    (plan : Plan) (bound : ℕ) (instants : List Instant) (spent : ℕ) where
  abbrev request : Request
  request = record { plan = plan; bound = bound }

  abbrev present : Present
  present = record simulation.present { spent = spent }

  abbrev behind : Simulation
  behind = record { request = request; history = record simulation.history { instants = instants }; present = present; ending = simulation.ending }

  abbrev there : SimulationState
  there = record (state_of simulation.history simulation.present) { instants = instants; spent = spent }

  comes_there : ◌≡◌ {A = Next SimulationState Run} (point_in behind) (more there)
  comes_there = ap (point_by request (record simulation.history { instants = instants }) present) (goes_on model simulation aside)

  point_moved : point_in behind ≡ point_behind instants spent bookmark.point
  point_moved =
      comes_there ∙ sym (ap (point_behind instants spent) (point_is model simulation aside)) ∙ ap (λ (s : EngineState). point_behind instants spent s.point) view_is

  -- the same job is ready, and no batch has been run
  same_jobs : jobs_in (point_in behind) ≡ jobs_in (point_in simulation)
  same_jobs = ap jobs_in comes_there ∙ sym (ap jobs_in (point_is model simulation aside))

  same_batches : batches_in (point_in behind) ≡ batches_in (point_in simulation)
  same_batches = ap batches_in comes_there ∙ sym (ap batches_in (point_is model simulation aside))

  pub moved_aside : IsPlanOf bookmark.model plan → bound ≤ step_limit → plan.duration ≡ bookmark.plan.duration →
      IsReachedPruned bookmark.model plan bound (point_behind instants spent bookmark.point) → IsSetAside model behind
  moved_aside good small lasts comes = record {
    course = record {
      plan = subst (λ (s : EngineState). IsPlanOf s.model plan) (sym view_is) good;
      bound = small;
      reached =
          subst (λ (p : Next SimulationState Run). IsReachedPruned model plan bound p) (sym point_moved)
          (subst (λ (m : Parts). IsReachedPruned m plan bound (point_behind instants spent bookmark.point)) (sym (ap (λ (s : EngineState). s.model) view_is)) comes);
      tasks = subst (AreTasksBefore plan.duration present) (sym (goes_on model simulation aside)) (record {
        in_step = (tasks model simulation aside).in_step;
        kept =
            subst (λ n. AreKept simulation.present.time n simulation.present.cells simulation.present.tasks) (sym (lasts ∙ sym (ap (λ (s : EngineState). s.plan.duration) view_is)))
            (tasks model simulation aside).kept;
      });
    };
    job = λ none. aside.job (sym same_jobs ∙ none);
    begins = same_batches ∙ aside.begins;
  }

  pub moved_is : engine_state_of model behind ≡ record { model = bookmark.model; plan = plan; bound = bound; point = point_behind instants spent bookmark.point }
  moved_is i = record { model = (view_is i).model; plan = plan; bound = bound; point = point_moved i }
