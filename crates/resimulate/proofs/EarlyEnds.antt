-- A simulation ends with the rest of an old run, and what was counted then.
use Rattle.std.proofs.Common.{◌≡◌, ◌⊎◌, inl, inr, ℕ, suc, ◌+◌, ◌-◌, ◌*◌, ◌≤◌, Bool, true, false, List, [], ◌∷◌, ◌++◌, length, take, Some, None, slice_get, refl, sym, ap, ◌∙◌, subst, IsTrue, if◌then◌else◌, append_assoc, arith}
use Rattle.std.proofs.lemmas.List.{append-nil}
use Rattle.aerie_base.specs.declared.models.model.Parts.{Parts}
use Rattle.aerie_base.specs.declared.plans.Plan.{Plan}
use Rattle.aerie_base.specs.models.ValidModel.{valid_model}
use Rattle.aerie_base.specs.plans.OfModel.{IsPlanOf}
use Rattle.run_data.specs.TaskFrames.{Frame}
use Rattle.run_data.specs.declared.frames.Record.{Record}
use Rattle.run_data.specs.declared.runs.Instant.{Instant}
use Rattle.run_data.specs.declared.runs.Run.{Run}
use Rattle.run_data.specs.Fresh.{SimulationState, instant_at, IsReached, IsFresh}
use Rattle.run_data.specs.Records.{unmatched}
use Rattle.run_data.specs.RunFrames.{frames_in_batches}
use Rattle.run_data.specs.Transitions.{Next, more, finished}
use Rattle.run_data.specs.laws.AlikeSteps.{BothReach}
use Rattle.run_data.specs.laws.FreshRuns.{EachAfter}
use Rattle.run_data.specs.laws.RestOfRuns.{AlikeSettled, completed_run, RestIsTakenOverSettled}
use Rattle.run_data.specs.laws.RunCosts.{cost_of_instants}
use Rattle.run_data.specs.laws.SettledInstants.{IsSettledInstant, InstantsAreSettled}
use Rattle.engine_core.specs.EngineStates.{EngineState, IsReachedPruned, IsEngineState, jobs_in, batches_in, instants_in, spent_in}
use Rattle.engine_core.specs.PrunedPoints.{has_whole, run_reached}
use Rattle.resimulate.specs.AlikeByFrames.{instants_with, FramesTellAlike}
use Rattle.resimulate.specs.EarlyEnds.{MayBeEnded, EndAtOnce, IsRest, AreAlikeBehind}
use Rattle.resimulate.specs.EvenInstants.{PassesEven, frames_of_others, PaysForUneven, LooksForUneven}
use Rattle.resimulate.specs.LastChanges.{LastChangesTellCells}
use Rattle.resimulate.specs.Likeness.{TellAlike}
use Rattle.resimulate.specs.Partings.{SharesFirst}
use Rattle.resimulate.specs.SettledBefore.{FollowsSettled, InstantsFollowSettled}
use Rattle.resimulate.specs.SharedEnds.{ShareFirst}
use Rattle.resimulate.proofs.BesideCounts.{IsWithin, CountsAt}
use Rattle.resimulate.proofs.SharedInstants.{take_front}
use Rattle.resimulate.proofs.Looping.{IsBeside, cost_by, cost_adds, looks_by, looks_adds}

-- ---- the last of a list

one_less : (number : ℕ) → suc (suc number) - 1 ≡ suc (suc number - 1)
one_less number = omega arith

last_below : {A : Type 0} (first : A) (rest : List A) (one : A) → slice_get (first ∷ rest) (length (first ∷ rest) - 1) ≡ Some one → ((rest ≡ []) × (first ≡ one)) ⊎ (slice_get rest (length rest - 1) ≡ Some one)
last_below first [] one e = inl (refl, (let same : first ≡ one = cc in same))
last_below first (second ∷ rest) one e = inr (subst (λ n. slice_get (first ∷ second ∷ rest) n ≡ Some one) (one_less (length rest)) e)

ends_with : {A : Type 0} (all : List A) (one : A) → slice_get all (length all - 1) ≡ Some one → (front : List A) × (all ≡ front ++ one ∷ [])
ends_with [] one e = absurd (cc)
ends_with (first ∷ rest) one e = by (last_below first rest one e) (ends_with rest one)
  where
    by : ((rest ≡ []) × (first ≡ one)) ⊎ (slice_get rest (length rest - 1) ≡ Some one) → (slice_get rest (length rest - 1) ≡ Some one → (front : List _) × (rest ≡ front ++ one ∷ [])) →
        (front : List _) × (first ∷ rest ≡ front ++ one ∷ [])
    by (inl both) further = ([], (λ i. both.1 i ∷ both.0 i))
    by (inr e) further = (let found = further e in (first ∷ found.0, ap (λ l. first ∷ l) found.1))

abbrev past_first : {A : Type 0} → List A → List A
past_first [] = []
past_first (first ∷ rest) = rest

one_last : {A : Type 0} (front others : List A) (one other : A) → front ++ one ∷ [] ≡ others ++ other ∷ [] → one ≡ other
one_last [] [] one other e = cc
one_last [] (first ∷ []) one other e = absurd (cc)
one_last [] (first ∷ second ∷ rest) one other e = absurd (cc)
one_last (first ∷ []) [] one other e = absurd (cc)
one_last (first ∷ second ∷ rest) [] one other e = absurd (cc)
one_last (first ∷ front) (second ∷ others) one other e = one_last front others one other (ap past_first e)

each_at : {A : Type 0} (P : List A → A → Type 0) (before all front rest : List A) (one : A) → all ≡ front ++ (one ∷ rest) → EachAfter P before all → P (before ++ front) one
each_at P before all [] rest one e each = subst (λ l. P l one) (sym (append-nil before)) (subst (EachAfter P before) e each).0
each_at P before all (first ∷ front) rest one e each =
    subst (λ l. P l one) (append_assoc before (first ∷ []) front)
    (each_at P (before ++ first ∷ []) (front ++ (one ∷ rest)) front rest one refl (subst (EachAfter P before) e each).1)

-- ---- where the two are alike

module _ (follow : InstantsFollowSettled) (settled : InstantsAreSettled) (frames_tell : FramesTellAlike) (cells_tell : LastChangesTellCells)
    (model : Parts) (plan : Plan) (bound : ℕ) (valid : IsTrue (valid_model model)) (is : IsPlanOf model plan)
    (old : Run) (is_old : IsPlanOf model old.plan) (lasts : plan.duration ≡ old.plan.duration) (fresh : IsFresh model old.plan old.bound old) (before rest : List Instant) (parts : old.instants ≡ before ++ rest) where
  abbrev Behind : List Instant → ℕ → Type 0
  Behind instants spent = AreAlikeBehind model plan old.plan bound old.bound instants spent before

  ended : (later : SimulationState) (follows : FollowsSettled model plan bound later) → EndAtOnce later.instants before → TellAlike model plan old.plan later.instants before → Behind later.instants later.spent
  ended later follows once tell =
      record { at = at; other = other; both = both; alike = alike; settles = follows.instants; spends = follows.spent; old_settles = sym others }
    where
      at : SimulationState
      at = follows.at

      parted : (front : List Instant) × (before ≡ front ++ once.other ∷ [])
      parted = ends_with before once.other once.other_is

      instant : IsSettledInstant model old.plan old.bound parted.0 once.other
      instant =
          each_at (IsSettledInstant model old.plan old.bound) [] old.instants parted.0 rest once.other
          (parts ∙ ap (λ l. l ++ rest) parted.1 ∙ append_assoc parted.0 (once.other ∷ []) rest) (settled model old.plan old.bound old fresh)

      other : SimulationState
      other = instant.at

      others : instants_with other ≡ before
      others = (λ i. instant.instants_before i ++ instant.is_instant i ∷ []) ∙ sym parted.1

      mine : (front : List Instant) × (later.instants ≡ front ++ once.last ∷ [])
      mine = ends_with later.instants once.last once.is_last

      time : at.time ≡ other.time
      time =
          ap (λ (i : Instant). i.time) (one_last at.instants mine.0 (instant_at at) once.last (sym follows.instants ∙ mine.1)) ∙ once.time
          ∙ ap (λ (i : Instant). i.time) (sym instant.is_instant)

      both : BothReach model plan old.plan bound old.bound at other
      both = record { valid = valid; is_plan = is; old_is_plan = is_old; lasts = lasts; reached = follows.is_reached; old_reached = instant.is_reached }

      told : TellAlike model plan old.plan (instants_with at) (instants_with other)
      told = subst (λ l. TellAlike model plan old.plan l (instants_with other)) follows.instants (subst (TellAlike model plan old.plan later.instants) (sym others) tell)

      alike : AlikeSettled at other
      alike = record {
        settled = follows.is_settled;
        old_settled = instant.is_settled;
        time = time;
        cells = cells_tell model plan old.plan bound old.bound at other follows.is_reached instant.is_reached follows.is_settled instant.is_settled time told.1;
        tables = frames_tell model plan old.plan bound old.bound at other both follows.is_settled instant.is_settled told.0;
      }

  begun : (later : SimulationState) → IsReached model plan bound (more later) → later.batches ≡ [] → EndAtOnce later.instants before →
      TellAlike model plan old.plan later.instants before → Behind later.instants later.spent
  begun later reached none once tell = by (follow model plan bound later reached none)
    where
      by : (later.instants ≡ []) ⊎ FollowsSettled model plan bound later → Behind later.instants later.spent
      by (inl empty) =
          let clash : None ≡ Some once.last = sym (ap (λ (l : List Instant). slice_get l (length l - 1)) empty) ∙ once.is_last in absurd (cc)
      by (inr follows) = ended later follows once tell

  -- an engine of the plan
  point_ends : (point : Next SimulationState Run) → IsReachedPruned model plan bound point → (jobs_in point ≡ [] → ⊥) → batches_in point ≡ [] → EndAtOnce (instants_in point) before →
      TellAlike model plan old.plan (instants_in point) before → Behind (instants_in point) (spent_in point)
  point_ends (finished run) comes some none once tell = absurd (some refl)
  point_ends (more at) comes some none once tell =
      let from = has_whole model plan bound at comes in
      subst (λ (s : SimulationState). Behind s.instants s.spent) from.is
      (begun from.whole from.reached (ap (λ (s : SimulationState). s.batches) from.is ∙ none) (subst (λ (s : SimulationState). EndAtOnce s.instants before) (sym from.is) once)
      (subst (λ (s : SimulationState). TellAlike model plan old.plan s.instants before) (sym from.is) tell))

pub alike_behind : InstantsFollowSettled → InstantsAreSettled → FramesTellAlike → LastChangesTellCells → (model : Parts) (plan : Plan) (bound : ℕ) → IsTrue (valid_model model) →
    (old : Run) → IsPlanOf model old.plan → MayBeEnded plan old → IsFresh model old.plan old.bound old → (before rest : List Instant) → old.instants ≡ before ++ rest → (engine : EngineState) → IsEngineState engine →
    engine.model ≡ model → engine.plan ≡ plan → engine.bound ≡ bound → (jobs_in engine.point ≡ [] → ⊥) → batches_in engine.point ≡ [] → EndAtOnce (instants_in engine.point) before →
    TellAlike model plan old.plan (instants_in engine.point) before →
    AreAlikeBehind model plan old.plan bound old.bound (instants_in engine.point) (spent_in engine.point) before
alike_behind follow settled frames_tell cells_tell model plan bound valid old is_old may fresh before rest parts engine stands same_model same_plan same_bound =
    point_ends follow settled frames_tell cells_tell model plan bound valid
    (subst (λ (m : Parts). IsPlanOf m plan) same_model (subst (IsPlanOf engine.model) same_plan stands.plan)) old is_old may.lasts fresh before rest parts engine.point
    (subst (λ (m : Parts). IsReachedPruned m plan bound engine.point) same_model
    (subst (λ (p : Plan). IsReachedPruned engine.model p bound engine.point) same_plan
    (subst (λ n. IsReachedPruned engine.model engine.plan n engine.point) same_bound stands.reached)))

-- ---- the run

pub rest_behind : RestIsTakenOverSettled → (model : Parts) (plan : Plan) (bound : ℕ) (old : Run) → MayBeEnded plan old → IsFresh model old.plan old.bound old → (before rest : List Instant) → old.instants ≡ before ++ rest →
    (instants : List Instant) (spent : ℕ) → AreAlikeBehind model plan old.plan bound old.bound instants spent before → spent + cost_of_instants rest ≤ bound →
    IsFresh model plan bound (completed_run plan bound (instants ++ rest))
rest_behind taken model plan bound old may fresh before rest parts instants spent behind paid =
    subst (λ l. IsFresh model plan bound (completed_run plan bound l)) (sym (ap (λ l. l ++ rest) behind.settles ∙ append_assoc behind.at.instants (instant_at behind.at ∷ []) rest))
    (taken model plan old.plan bound old.bound behind.at behind.other old rest behind.both behind.alike fresh may.completed is_rest (let spends = behind.spends in omega (arith, paid, spends)))
  where
    is_rest : old.instants ≡ behind.other.instants ++ (instant_at behind.other ∷ rest)
    is_rest = parts ∙ ap (λ l. l ++ rest) behind.old_settles ∙ append_assoc behind.other.instants (instant_at behind.other ∷ []) rest

-- the first instants are those of the old run, where they are shared
first_at : (model : Parts) (plan : Plan) (bound : ℕ) (old : Run) (count : ℕ) → SharesFirst model plan bound old count → (point : Next SimulationState Run) → IsReachedPruned model plan bound point → (number : ℕ) →
    number ≤ count → number ≤ length (instants_in point) → take number (instants_in point) ≡ take number old.instants
first_at model plan bound old count shares (finished run) comes number less within = shares (finished run) (run_reached model plan bound run comes) number less within
first_at model plan bound old count shares (more at) comes number less within =
    let from = has_whole model plan bound at comes in
    subst (λ (s : SimulationState). take number s.instants ≡ take number old.instants) from.is
    (shares (more from.whole) from.reached number less (subst (λ (s : SimulationState). number ≤ length s.instants) (sym from.is) within))

first_same : (model : Parts) (plan : Plan) (bound : ℕ) (old : Run) (count : ℕ) → SharesFirst model plan bound old count → (engine : EngineState) → IsEngineState engine →
    engine.model ≡ model → engine.plan ≡ plan → engine.bound ≡ bound → (number : ℕ) → number ≤ count → number ≤ length (instants_in engine.point) → (before rest : List Instant) →
    old.instants ≡ before ++ rest → number ≤ length before → take number (instants_in engine.point) ≡ take number before
first_same model plan bound old count shares engine stands same_model same_plan same_bound number less within before rest parts within_before =
    first_at model plan bound old count shares engine.point
    (subst (λ (m : Parts). IsReachedPruned m plan bound engine.point) same_model
    (subst (λ (p : Plan). IsReachedPruned engine.model p bound engine.point) same_plan
    (subst (λ n. IsReachedPruned engine.model engine.plan n engine.point) same_bound stands.reached))) number less within
    ∙ ap (take number) parts ∙ take_front number before rest within_before

pub first_shared : (model : Parts) (plan : Plan) (bound : ℕ) (old : Run) (count : ℕ) → SharesFirst model plan bound old count → (engine : EngineState) → IsEngineState engine →
    engine.model ≡ model → engine.plan ≡ plan → engine.bound ≡ bound → (number : ℕ) → number ≤ count → number ≤ length (instants_in engine.point) → (before rest : List Instant) →
    old.instants ≡ before ++ rest → number ≤ length before → ShareFirst (instants_in engine.point) before number
first_shared model plan bound old count shares engine stands same_model same_plan same_bound number less within before rest parts within_before = record {
  within = within;
  old_within = within_before;
  same = first_same model plan bound old count shares engine stands same_model same_plan same_bound number less within before rest parts within_before;
}

-- ---- the counts

others_append : (test : Instant → Bool) (first rest : List Instant) → frames_of_others test (first ++ rest) ≡ frames_of_others test first ++ frames_of_others test rest
others_append test [] rest = refl
others_append test (one ∷ first) rest = by (test one) (others_append test first rest)
  where
    by : (passes : Bool) → frames_of_others test (first ++ rest) ≡ frames_of_others test first ++ frames_of_others test rest →
        (if passes then frames_of_others test (first ++ rest) else frames_in_batches one.batches ++ frames_of_others test (first ++ rest))
        ≡ (if passes then frames_of_others test first else frames_in_batches one.batches ++ frames_of_others test first) ++ frames_of_others test rest
    by true further = further
    by false further =
        ap (λ l. frames_in_batches one.batches ++ l) further ∙ sym (append_assoc (frames_in_batches one.batches) (frames_of_others test first) (frames_of_others test rest))

pub counts_ended : (old : Run) (weight : List Frame → ℕ) → ((first rest : List Frame) → weight (first ++ rest) ≡ weight first + weight rest) → (before now : ℕ) (point : Next SimulationState Run) →
    (jobs_in point ≡ [] → ⊥) → batches_in point ≡ [] → CountsAt old weight before point now → (rest : List Instant) (test : Instant → Bool) → PassesEven old test →
    now ≤ before + weight (frames_of_others test (instants_in point ++ rest))
counts_ended old weight adds before now (finished run) some none counts rest test even = absurd (some refl)
counts_ended old weight adds before now (more at) some none counts rest test even = by (counts test even)
  where
    whole : weight (frames_of_others test (at.instants ++ rest)) ≡ weight (frames_of_others test at.instants) + weight (frames_of_others test rest)
    whole = ap weight (others_append test at.instants rest) ∙ adds (frames_of_others test at.instants) (frames_of_others test rest)

    nothing : weight (frames_in_batches at.batches) ≡ weight []
    nothing = ap (λ l. weight (frames_in_batches l)) none

    light : weight [] ≡ weight [] + weight []
    light = adds [] []

    by : IsWithin old weight before test at now → now ≤ before + weight (frames_of_others test (at.instants ++ rest))
    by (inl less) = (let w = whole in omega (arith, less, w))
    by (inr differs) = (let w = whole in let less = differs.0 in let n = nothing in let l = light in omega (arith, less, w, n, l))

-- ---- the run that is answered

module _ (model : Parts) (plan : Plan) (bound : ℕ) (old : Run) (records : List Record) (steps looks : ℕ) (engine : EngineState) (steps_now looks_now : ℕ)
    (beside : IsBeside model plan bound old records steps looks engine steps_now looks_now) (rest : List Instant) (run : Run)
    (is : run ≡ completed_run engine.plan engine.bound (instants_in engine.point ++ rest)) where
  instants_are : run.instants ≡ instants_in engine.point ++ rest
  instants_are = ap (λ (r : Run). r.instants) is

  pub ended_fresh : IsRest model plan bound engine rest → IsFresh model plan bound run
  ended_fresh fresh =
      subst (IsFresh model plan bound) (sym (is ∙ (λ i. completed_run (beside.same_plan i) (beside.same_bound i) (instants_in engine.point ++ rest)))) fresh

  module _ (some : jobs_in engine.point ≡ [] → ⊥) (none : batches_in engine.point ≡ []) where
    pub ended_pays : PaysForUneven old run records steps steps_now
    ended_pays done test even =
        subst (λ l. steps_now ≤ steps + unmatched (frames_of_others test l) records) (sym instants_are)
        (counts_ended old (cost_by records) (cost_adds records) steps steps_now engine.point some none beside.pays rest test even)

    pub ended_looks : LooksForUneven old run looks looks_now
    ended_looks done test even =
        subst (λ l. looks_now ≤ looks + 2 * length (frames_of_others test l)) (sym instants_are)
        (counts_ended old looks_by looks_adds looks looks_now engine.point some none beside.few_looks rest test even)
