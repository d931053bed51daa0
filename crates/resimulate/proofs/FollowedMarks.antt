-- A bookmark of an old simulation as one of a new simulation that is alike with it.
use Rattle.std.proofs.Common.{◌≡◌, ℕ, suc, ◌+◌, List, [], ◌∷◌, ◌++◌, length, drop, refl, sym, ap, ◌∙◌, append_assoc, arith}
use Rattle.std.proofs.lemmas.List.{length-append}
use Rattle.aerie_base.specs.declared.models.model.Parts.{Parts}
use Rattle.aerie_base.specs.declared.plans.Plan.{Plan}
use Rattle.run_data.specs.declared.runs.Instant.{Instant}
use Rattle.run_data.specs.declared.runs.Run.{Run}
use Rattle.run_data.specs.Fresh.{SimulationState, instant_at, IsReached}
use Rattle.run_data.specs.Transitions.{Next, more, finished}
use Rattle.run_data.specs.laws.FollowedStates.{settled_since, IsFollowed, SettledIsFollowed}
use Rattle.run_data.specs.laws.PrunedStates.{pruned}
use Rattle.run_data.specs.laws.RunCosts.{cost_of_instants, SpentIsCost}
use Rattle.engine_core.specs.Bookmarks.{point_behind}
use Rattle.engine_core.specs.EngineStates.{IsReachedPruned, jobs_in, instants_in, spent_in}
use Rattle.engine_core.specs.PrunedPoints.{has_whole}
use Rattle.resimulate.specs.EarlyEnds.{AreAlikeBehind}
use Rattle.resimulate.specs.Followed.{ComeBehind, IsSpentThere}
use Rattle.resimulate.proofs.InstantCosts.{cost_at}

module _ (followed : SettledIsFollowed) (costs : SpentIsCost) (model : Parts) (plan old_plan : Plan) (bound old_bound : ℕ) (instants : List Instant) (spent : ℕ) (old_instants : List Instant)
    (behind : AreAlikeBehind model plan old_plan bound old_bound instants spent old_instants) (old_spent : ℕ) (cost : old_spent ≡ cost_of_instants old_instants) where
  -- until the instant at hand the old simulation spent what the instants cost
  old_is : old_spent ≡ behind.other.spent
  old_is = cost ∙ ap cost_of_instants behind.old_settles ∙ cost_at costs model old_plan old_bound behind.other behind.both.old_reached

  many : length old_instants ≡ suc (length behind.other.instants)
  many =
      let same = ap length behind.old_settles in
      let sum = length-append behind.other.instants (instant_at behind.other ∷ []) in
      omega (arith, same, sum)

  module _ (mark whole : SimulationState) (reached : IsReached model old_plan old_bound (more whole)) (is : pruned whole ≡ mark) (all : List Instant) (stands : ComeBehind instants mark.instants (length old_instants) all)
      (sum : ℕ) (paid : IsSpentThere mark.spent old_spent spent bound sum) where
    found : IsFollowed model plan bound behind.at behind.other whole
    found =
        let before = many in
        let enough = stands.enough in
        let same : length whole.instants ≡ length mark.instants = ap (λ (s : SimulationState). length s.instants) is in
        let old = old_is in
        let spends = behind.spends in
        let later : whole.spent ≡ mark.spent = ap (λ (s : SimulationState). s.spent) is in
        let since = paid.since in
        let within = paid.within in
        followed model plan old_plan bound old_bound behind.at behind.other whole behind.both behind.alike reached (omega (arith, before, enough, same)) (omega (arith, old, spends, later, since, within))

    spent_is : found.next.spent ≡ sum
    spent_is =
        let new = found.spent in
        let old = old_is in
        let spends = behind.spends in
        let later : whole.spent ≡ mark.spent = ap (λ (s : SimulationState). s.spent) is in
        let since = paid.since in
        omega (arith, new, old, spends, later, since)

    instants_are : found.next.instants ≡ all
    instants_are =
        found.instants ∙ sym (append_assoc behind.at.instants (instant_at behind.at ∷ []) (settled_since behind.other whole)) ∙ (λ i. sym behind.settles i ++ later i) ∙ sym stands.is
      where
        later : settled_since behind.other whole ≡ drop (length old_instants) mark.instants
        later = λ i. drop (sym many i) (is i).instants

    state_is : pruned found.next ≡ record mark { instants = all; spent = sum }
    state_is i = record {
      time = (found.alike.time ∙ ap (λ (s : SimulationState). s.time) is) i;
      cells = (found.alike.cells ∙ ap (λ (s : SimulationState). s.cells) is) i;
      spent = spent_is i;
      table = (found.alike.tables ∙ ap (λ (s : SimulationState). s.table) is) i;
      instants = instants_are i;
      batches = (found.alike.batches ∙ ap (λ (s : SimulationState). s.batches) is) i;
      touched = (found.alike.touched ∙ ap (λ (s : SimulationState). s.touched) is) i;
    }

    state_comes : IsReachedPruned model plan bound (more (record mark { instants = all; spent = sum }))
    state_comes = record { whole = more found.next; reached = found.reached; is = ap (λ (s : SimulationState). more s) state_is }

  pub comes_behind : (point : Next SimulationState Run) → IsReachedPruned model old_plan old_bound point → (jobs_in point ≡ [] → ⊥) → (all : List Instant) → ComeBehind instants (instants_in point) (length old_instants) all →
      (sum : ℕ) → IsSpentThere (spent_in point) old_spent spent bound sum → IsReachedPruned model plan bound (point_behind all sum point)
  comes_behind (finished run) comes some all stands sum paid = absurd (some refl)
  comes_behind (more mark) comes some all stands sum paid =
      let from = has_whole model old_plan old_bound mark comes in state_comes mark from.whole from.reached from.is all stands sum paid
