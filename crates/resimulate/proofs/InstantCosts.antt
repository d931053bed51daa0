-- What instants cost, in parts and as a whole.
use Rattle.std.proofs.Common.{◌≡◌, ◌∙◌, ℕ, ◌+◌, ◌≤◌, IsTrue, List, [], ◌∷◌, ◌++◌, take, drop, sym, ap, subst, append_assoc, arith}
use Rattle.std.proofs.lemmas.List.{append-nil, take-append-drop}
use Rattle.aerie_base.specs.declared.models.model.Parts.{Parts}
use Rattle.aerie_base.specs.declared.plans.Plan.{Plan}
use Rattle.aerie_base.specs.models.ValidModel.{valid_model}
use Rattle.aerie_base.specs.plans.OfModel.{IsPlanOf}
use Rattle.run_data.specs.declared.runs.Instant.{Instant}
use Rattle.run_data.specs.declared.runs.Run.{Run}
use Rattle.run_data.specs.Fresh.{SimulationState, instant_at, IsReached, IsFresh}
use Rattle.run_data.specs.Transitions.{more}
use Rattle.run_data.specs.laws.FreshRuns.{EachAfter}
use Rattle.run_data.specs.laws.ReachedStates.{ReachedIsOfModel}
use Rattle.run_data.specs.laws.RunCosts.{cost_of_batches, cost_of_instants, SpentIsCost}
use Rattle.run_data.specs.laws.SettledInstants.{IsSettledInstant, InstantsAreSettled}
use Rattle.resimulate.specs.EarlyEnds.{AreAlikeBehind}
use Rattle.resimulate.specs.SharedEnds.{ShareFirst}

cost_append : (first rest : List Instant) → cost_of_instants (first ++ rest) ≡ cost_of_instants first + cost_of_instants rest
cost_append [] rest = omega arith
cost_append (one ∷ first) rest = omega (arith, cost_append first rest)

cost_parts : (many : ℕ) (instants : List Instant) → cost_of_instants instants ≡ cost_of_instants (take many instants) + cost_of_instants (drop many instants)
cost_parts many instants = ap cost_of_instants (sym (take-append-drop many instants)) ∙ cost_append (take many instants) (drop many instants)

-- ---- two lists of which the first instants are the same

module _ (instants others : List Instant) (many : ℕ) (first : ShareFirst instants others many) where
  pub costs_no_more : cost_of_instants (drop many instants) ≤ cost_of_instants (drop many others) → cost_of_instants instants ≤ cost_of_instants others
  costs_no_more less =
      let mine = cost_parts many instants in
      let other = cost_parts many others in
      let same = ap cost_of_instants first.same in
      omega (arith, mine, other, same, less)

  pub others_cost : (spent mine other common : ℕ) → spent ≡ cost_of_instants instants → mine ≡ cost_of_instants (drop many instants) → other ≡ cost_of_instants (drop many others) → common + mine ≡ spent →
      common + other ≡ cost_of_instants others
  others_cost spent mine other common is its theirs rest =
      let whole = cost_parts many instants in
      let whole_other = cost_parts many others in
      let same = ap cost_of_instants first.same in
      omega (arith, is, its, theirs, rest, whole, whole_other, same)

-- ---- what a simulation spent

-- until a state, with the instant at hand
pub cost_at : SpentIsCost → (model : Parts) (plan : Plan) (bound : ℕ) (at : SimulationState) → IsReached model plan bound (more at) → cost_of_instants (at.instants ++ instant_at at ∷ []) ≡ at.spent
cost_at costs model plan bound at reached =
    let all = costs model plan bound at reached in
    let last : cost_of_instants (at.instants ++ instant_at at ∷ []) ≡ cost_of_instants at.instants + (cost_of_batches at.batches + 0) = cost_append at.instants (instant_at at ∷ []) in
    omega (arith, all, last)

-- until it is alike with an old one
pub cost_behind : SpentIsCost → (model : Parts) (plan old_plan : Plan) (bound old_bound : ℕ) (instants : List Instant) (spent : ℕ) (old_instants : List Instant) →
    AreAlikeBehind model plan old_plan bound old_bound instants spent old_instants → spent ≡ cost_of_instants instants
cost_behind costs model plan old_plan bound old_bound instants spent old_instants behind =
    behind.spends ∙ sym (ap cost_of_instants behind.settles ∙ cost_at costs model plan bound behind.at behind.both.reached)

-- ---- a completed run

module _ (costs : SpentIsCost) (of_model : ReachedIsOfModel) (model : Parts) (valid : IsTrue (valid_model model)) (plan : Plan) (is : IsPlanOf model plan) (bound : ℕ) where
  each_is_paid : (before rest : List Instant) → cost_of_instants before ≤ bound → EachAfter (IsSettledInstant model plan bound) before rest → cost_of_instants (before ++ rest) ≤ bound
  each_is_paid before [] paid each = subst (λ l. cost_of_instants l ≤ bound) (sym (append-nil before)) paid
  each_is_paid before (one ∷ rest) paid each =
      subst (λ l. cost_of_instants l ≤ bound) (append_assoc before (one ∷ []) rest) (each_is_paid (before ++ one ∷ []) rest here each.1)
    where
      at : SimulationState
      at = each.0.at

      same : at.instants ++ instant_at at ∷ [] ≡ before ++ one ∷ []
      same i = each.0.instants_before i ++ each.0.is_instant i ∷ []

      here : cost_of_instants (before ++ one ∷ []) ≤ bound
      here =
          let all = cost_at costs model plan bound at each.0.is_reached in
          let within = (of_model model plan bound at valid is each.0.is_reached).spent in
          let so = ap cost_of_instants same in
          omega (arith, all, within, so)

  pub run_is_paid : InstantsAreSettled → (run : Run) → IsFresh model plan bound run → cost_of_instants run.instants ≤ bound
  run_is_paid settled run fresh = each_is_paid [] run.instants (omega arith) (settled model plan bound run fresh)

  pub parts_are_paid : InstantsAreSettled → (run : Run) → IsFresh model plan bound run → (before rest : List Instant) → run.instants ≡ before ++ rest → cost_of_instants before + cost_of_instants rest ≤ bound
  parts_are_paid settled run fresh before rest parts =
      let all = run_is_paid settled run fresh in
      let sum = ap cost_of_instants parts ∙ cost_append before rest in
      omega (arith, all, sum)
