-- What a schedule placed is in its plan, and has its span on a completed run.
use Rattle.std.proofs.Common.{◌≡◌, ◌⊎◌, inl, inr, ℕ, zero, suc, Bool, true, false, ◌&&◌, List, [], ◌∷◌, ◌++◌, Option, Some, None, IsTrue, is_none, refl, sym, ap, ◌∙◌, subst}
use Rattle.std.proofs.lemmas.Bool.{eq-eqb, false≢true}
use Rattle.std.proofs.lemmas.Bool.Decides.{Decides-int_eq}
use Rattle.aerie_base.specs.Paths.{root}
use Rattle.aerie_base.specs.declared.values.Value.{Value}
use Rattle.aerie_base.specs.declared.values.Value.TheVariants.{Int, Truth, Variant}
use Rattle.aerie_base.specs.declared.models.model.Parts.{Parts}
use Rattle.aerie_base.specs.declared.plans.Directive.{Directive}
use Rattle.aerie_base.specs.declared.plans.Plan.{Plan}
use Rattle.aerie_base.specs.expressions.Arithmetic.{same_value}
use Rattle.aerie_base.specs.models.ValidModel.{valid_model}
use Rattle.aerie_base.specs.plans.OfModel.{IsPlanOf}
use Rattle.run_data.specs.declared.runs.Outcome.{Outcome}
use Rattle.run_data.specs.declared.runs.Outcome.TheVariants.{Completed, Failed, StepLimit}
use Rattle.run_data.specs.declared.runs.Run.{Run}
use Rattle.run_data.specs.Fresh.{IsFresh}
use Rattle.run_data.specs.Spans.{SpanOf}
use Rattle.run_data.specs.laws.Orders.{EachOf}
use Rattle.plan_merge.specs.Table.{same_values}
use Rattle.plan_edit.specs.Editing.{with_added}
use Rattle.constraints.specs.declared.types.Constraint.{Constraint}
use Rattle.goals.specs.declared.gap.Gap.{Gap}
use Rattle.goals.specs.declared.types.Goal.{Goal}
use Rattle.goals.specs.declared.types.Template.{Template}
use Rattle.goals.specs.declared.unmet.Rejection.{Rejection}
use Rattle.goals.specs.Goals.{first_gap, candidates_of, is_completed}
use Rattle.span_table.specs.PlannedSpans.{IsOneOf, IsSpanOf, PlannedHaveSpans}
use Rattle.scheduler.specs.declared.progress.GoalPart.{GoalPart}
use Rattle.scheduler.specs.declared.scheduled.Schedule.{Schedule}
use Rattle.scheduler.specs.FreshRuns.{fresh_run}
use Rattle.scheduler.specs.Trials.{directive_with, made_with, verdict_by, verdict_on, found_by, first_accepted}
use Rattle.scheduler.specs.Scheduling.{GoalPlaced, GoalsPlaced, with_found, with_trial, found_for, after_gap, gaps_filled, all_filled, unless_open, ended, goal_placed, goals_placed, goal_status, statuses_on, trial_limit, schedule_of}
use Rattle.scheduler.specs.Unmet.{rejection_of}
use Rattle.scheduler.specs.Told.{EachWith, IsTold, IsPlaced, AreAllPlaced, IsLikePlan}
use Rattle.scheduler.proofs.MadePlans.{placed_there}

-- ---- what is in a plan

-- each directive of the one plan is in the other
abbrev pub Grows : Plan → Plan → Type 0
Grows before after = (directive : Directive) → IsOneOf directive before.directives → IsOneOf directive after.directives

-- the template's directive with this id is in the plan
pub record IsIn (plan : Plan) (template : Template) (id : ℕ) : Type 0 where
  pub directive : Directive
  pub there : IsOneOf directive plan.directives
  pub id_is : directive.id ≡ id
  pub loose : directive.anchor ≡ None
  pub kind : directive.kind ≡ template.kind
  pub arguments : directive.arguments ≡ template.arguments

each_weaker : {A : Type 0} (P Q : A → Type 0) → ((item : A) → P item → Q item) → (items : List A) → EachOf P items → EachOf Q items
each_weaker P Q gives [] each = tt
each_weaker P Q gives (item ∷ rest) each = (gives item each.0, each_weaker P Q gives rest each.1)

each_more : {A : Type 0} (P : A → Type 0) (items : List A) (last : A) → EachOf P items → P last → EachOf P (items ++ last ∷ [])
each_more P [] last each one = (one, tt)
each_more P (item ∷ rest) last each one = (each.0, each_more P rest last each.1 one)

still_in : (before after : Plan) (template : Template) → Grows before after → (id : ℕ) → IsIn before template id → IsIn after template id
still_in before after template grows id is = record {
  directive = is.directive;
  there = grows is.directive is.there;
  id_is = is.id_is;
  loose = is.loose;
  kind = is.kind;
  arguments = is.arguments;
}

among_front : {A : Type 0} (item : A) (items others : List A) → IsOneOf item items → IsOneOf item (items ++ others)
among_front item [] others among = absurd among
among_front item (first ∷ rest) others (inl e) = inl e
among_front item (first ∷ rest) others (inr among) = inr (among_front item rest others among)

among_last : {A : Type 0} (item : A) (items : List A) → IsOneOf item (items ++ item ∷ [])
among_last item [] = inl refl
among_last item (first ∷ rest) = inr (among_last item rest)

-- ---- a trial

-- the plan of a trial is the plan with the template's directive behind the others
made_is : (plan next : Plan) (template : Template) (time : ℕ) → made_with plan template time ≡ Some next → next ≡ with_added plan (directive_with plan template time)
made_is plan next template time e = (placed_there plan next template time e).is

made_grows : (plan next : Plan) (template : Template) (time : ℕ) → made_with plan template time ≡ Some next → Grows plan next
made_grows plan next template time e directive among =
    subst (λ (p : Plan). IsOneOf directive p.directives) (sym (made_is plan next template time e))
    (among_front directive plan.directives (directive_with plan template time ∷ []) among)

made_is_in : (plan next : Plan) (template : Template) (time : ℕ) → made_with plan template time ≡ Some next → IsIn next template plan.next_id
made_is_in plan next template time e = record {
  directive = directive_with plan template time;
  there = subst (λ (p : Plan). IsOneOf (directive_with plan template time) p.directives) (sym (made_is plan next template time e))
      (among_last (directive_with plan template time) plan.directives);
  id_is = refl;
  loose = refl;
  kind = refl;
  arguments = refl;
}

like_made : (before plan next : Plan) (template : Template) (time : ℕ) → made_with plan template time ≡ Some next → IsLikePlan before plan → IsLikePlan before next
like_made before plan next template time e like =
    let is = made_is plan next template time e in
    record { model = ap (λ (p : Plan). p.model) is ∙ like.model; duration = ap (λ (p : Plan). p.duration) is ∙ like.duration }

module _ (model : Parts) (constraints : List Constraint) (run_of : Plan → Run) where
  -- what is found is the plan of a trial
  pub made_at : (goal : Goal) (gap : Gap) (plan : Plan) (times : List ℕ) (left : ℕ) (next : Plan) →
      (first_accepted model constraints run_of goal gap plan times left).plan ≡ Some next → (time : ℕ) × (made_with plan goal.template time ≡ Some next)
  made_at goal gap plan [] left next e = absurd (cc)
  made_at goal gap plan (time ∷ rest) zero next e = absurd (cc)
  made_at goal gap plan (time ∷ rest) (suc left) next e =
      by (made_with plan goal.template time) refl e (λ fewer. made_at goal gap plan rest fewer next)
    where
      judged : (one : Plan) (against : Option Rejection) → made_with plan goal.template time ≡ Some one →
          (found_by model constraints run_of (verdict_by model constraints run_of against one) (first_accepted model constraints run_of goal gap plan rest) left).plan ≡ Some next →
          ((fewer : ℕ) → (first_accepted model constraints run_of goal gap plan rest fewer).plan ≡ Some next → (time : ℕ) × (made_with plan goal.template time ≡ Some next)) →
          (time : ℕ) × (made_with plan goal.template time ≡ Some next)
      judged one None is e further = (time, is ∙ e)
      judged one (Some rejection) is e further = further left e

      by : (made : Option Plan) → made_with plan goal.template time ≡ made →
          (found_by model constraints run_of (verdict_on model constraints run_of goal gap made) (first_accepted model constraints run_of goal gap plan rest) left).plan ≡ Some next →
          ((fewer : ℕ) → (first_accepted model constraints run_of goal gap plan rest fewer).plan ≡ Some next → (time : ℕ) × (made_with plan goal.template time ≡ Some next)) →
          (time : ℕ) × (made_with plan goal.template time ≡ Some next)
      by None is e further = further (suc left) e
      by (Some one) is e further = judged one (rejection_of model constraints goal gap (run_of one)) is e further

  -- ---- one goal

  -- the plan has grown, and has all that was placed for the goal
  pub record HasPlaced (goal : Goal) (before : Plan) (at : GoalPlaced) : Type 0 where
    pub grows : Grows before at.plan
    pub like : IsLikePlan before at.plan
    pub has : EachOf (IsIn at.plan goal.template) at.placed

  placed_more : (goal : Goal) (before : Plan) (at : GoalPlaced) (next : Plan) (left time : ℕ) → HasPlaced goal before at → made_with at.plan goal.template time ≡ Some next →
      HasPlaced goal before (with_trial model constraints run_of at next left)
  placed_more goal before at next left time has e = record {
    grows = λ directive among. made_grows at.plan next goal.template time e directive (has.grows directive among);
    like = like_made before at.plan next goal.template time e has.like;
    has = each_more (IsIn next goal.template) at.placed at.plan.next_id
        (each_weaker (IsIn at.plan goal.template) (IsIn next goal.template) (still_in at.plan next goal.template (made_grows at.plan next goal.template time e)) at.placed has.has)
        (made_is_in at.plan next goal.template time e);
  }

  filled_has : (gaps : ℕ) (goal : Goal) (before : Plan) (at : GoalPlaced) → HasPlaced goal before at → HasPlaced goal before (gaps_filled model constraints run_of gaps goal at)
  filled_has zero goal before at has = has
  filled_has (suc gaps) goal before at has = by (first_gap model goal (run_of at.plan)) (λ next. filled_has gaps goal before next)
    where
      found : (gap : Gap) (plan : Option Plan) (last : Option Rejection) (left : ℕ) → ((next : Plan) → plan ≡ Some next → (time : ℕ) × (made_with at.plan goal.template time ≡ Some next)) →
          ((next : GoalPlaced) → HasPlaced goal before next → HasPlaced goal before (gaps_filled model constraints run_of gaps goal next)) →
          HasPlaced goal before (with_found model constraints run_of (gaps_filled model constraints run_of gaps goal) at gap plan last left)
      found gap None last left made further = record { grows = has.grows; like = has.like; has = has.has }
      found gap (Some next) last left made further =
          let trial = made next refl in
          further (with_trial model constraints run_of at next left) (placed_more goal before at next left trial.0 has trial.1)

      by : (gap : Option Gap) → ((next : GoalPlaced) → HasPlaced goal before next → HasPlaced goal before (gaps_filled model constraints run_of gaps goal next)) →
          HasPlaced goal before (after_gap model constraints run_of (gaps_filled model constraints run_of gaps goal) goal at gap)
      by None further = has
      by (Some gap) further =
          let search = found_for model constraints run_of goal at gap in
          found gap search.plan search.last search.left (λ next. made_at goal gap at.plan (candidates_of model goal (run_of at.plan) gap) at.left next) further

  ended_has : (goal : Goal) (before : Plan) (at : GoalPlaced) → HasPlaced goal before at → HasPlaced goal before (ended model constraints run_of goal before at)
  ended_has goal before at has = by goal.rollback (first_gap model goal (run_of at.plan))
    where
      by : (back : Bool) (gap : Option Gap) → HasPlaced goal before (unless_open model constraints run_of back before at gap)
      by true (Some gap) = record { grows = λ directive among. among; like = record { model = refl; duration = refl }; has = tt }
      by true None = has
      by false gap = has

  goal_has : (goal : Goal) (plan : Plan) (left : ℕ) → HasPlaced goal plan (goal_placed model constraints run_of goal plan left)
  goal_has goal plan left =
      ended_has goal plan (all_filled model constraints run_of goal (record { plan = plan; placed = []; open_gap = None; left = left }))
      (filled_has (suc left) goal plan (record { plan = plan; placed = []; open_gap = None; left = left }) (record { grows = λ directive among. among; like = record { model = refl; duration = refl }; has = tt }))

  -- ---- all goals

  abbrev AllIn : Plan → Goal → GoalPart → Type 0
  AllIn plan goal part = EachOf (IsIn plan goal.template) part.placed

  pub record HaveAll (goals : List Goal) (before : Plan) (all : GoalsPlaced) : Type 0 where
    pub grows : Grows before all.plan
    pub like : IsLikePlan before all.plan
    pub each : EachWith (AllIn all.plan) goals all.parts

  pub goals_have : (goals : List Goal) (plan : Plan) (left : ℕ) → HaveAll goals plan (goals_placed model constraints run_of goals plan left)
  goals_have [] plan left = record { grows = λ directive among. among; like = record { model = refl; duration = refl }; each = tt }
  goals_have (goal ∷ rest) plan left =
      let at = goal_placed model constraints run_of goal plan left in
      let own = goal_has goal plan left in
      let others = goals_have rest at.plan at.left in
      let last = goals_placed model constraints run_of rest at.plan at.left in record {
        grows = λ directive among. others.grows directive (own.grows directive among);
        like = record { model = others.like.model ∙ own.like.model; duration = others.like.duration ∙ own.like.duration };
        each = (each_weaker (IsIn at.plan goal.template) (IsIn last.plan goal.template) (still_in at.plan last.plan goal.template others.grows) at.placed own.has, others.each);
      }

-- ---- spans

values_themselves : (values : List Value) → same_values values values ≡ true
values_themselves [] = refl
values_themselves (value ∷ rest) = λ i. itself value i && values_themselves rest i
  where
    truth : (b : Bool) → same_value (Truth b) (Truth b) ≡ true
    truth true = refl
    truth false = refl

    itself : (value : Value) → same_value value value ≡ true
    itself (Int a) = (Decides-int_eq a a).1 refl
    itself (Truth b) = truth b
    itself (Variant of b) = λ i. eq-eqb of of refl i && eq-eqb b b refl i

module _ (spans : PlannedHaveSpans) (model : Parts) (bound : ℕ) (plan : Plan) (run : Run) (valid : IsTrue (valid_model model)) (of : IsPlanOf model plan)
    (fresh : IsFresh model plan bound run) (completed : run.outcome ≡ Completed) where
  pub is_placed : (template : Template) (id : ℕ) → IsIn plan template id → IsPlaced model plan run template id
  is_placed template id is =
      let found = spans model plan bound run is.directive valid of fresh completed is.there is.loose in
      let span : SpanOf = found.0 in
      let own : IsSpanOf is.directive span = found.2 in record {
        directive = is.directive;
        there = is.there;
        id_is = is.id_is;
        span = span;
        among = found.1;
        path = own.path ∙ ap root is.id_is;
        matching =
            (λ i. eq-eqb span.kind template.kind (own.kind ∙ is.kind) i
            && (ap (λ (v : List Value). same_values v template.arguments) (own.arguments ∙ is.arguments) ∙ values_themselves template.arguments) i);
        start = own.start;
      }

-- ---- what the statuses tell

told_one : (model : Parts) (run : Run) (goal : Goal) (part : GoalPart) → IsTold model run goal (goal_status model run goal part)
told_one model run goal part = record { name = refl; met = met run.outcome refl; unmet = unmet run.outcome refl }
  where
    no_gap : (gap : Option Gap) → is_none gap ≡ true → gap ≡ None
    no_gap None e = refl
    no_gap (Some gap) e = absurd (cc)

    some_gap : (gap : Option Gap) → is_none gap ≡ false → (one : Gap) × (gap ≡ Some one)
    some_gap None e = absurd (cc)
    some_gap (Some gap) e = (gap, refl)

    met : (outcome : Outcome) → run.outcome ≡ outcome → (is_completed run.outcome && is_none (first_gap model goal run)) ≡ true →
        (run.outcome ≡ Completed) × (first_gap model goal run ≡ None)
    met Completed o e = (o, no_gap (first_gap model goal run) (ap (λ (r : Outcome). is_completed r && is_none (first_gap model goal run)) (sym o) ∙ e))
    met (Failed time who fault) o e = absurd (false≢true (ap (λ (r : Outcome). is_completed r && is_none (first_gap model goal run)) (sym o) ∙ e))
    met (StepLimit time) o e = absurd (false≢true (ap (λ (r : Outcome). is_completed r && is_none (first_gap model goal run)) (sym o) ∙ e))

    other : (outcome : Outcome) → run.outcome ≡ outcome → is_completed outcome ≡ false → run.outcome ≡ Completed → ⊥
    other outcome o e completed = false≢true (sym e ∙ ap is_completed (sym o ∙ completed))

    unmet : (outcome : Outcome) → run.outcome ≡ outcome → (is_completed run.outcome && is_none (first_gap model goal run)) ≡ false →
        (run.outcome ≡ Completed → ⊥) ⊎ ((gap : Gap) × (first_gap model goal run ≡ Some gap))
    unmet Completed o e = inr (some_gap (first_gap model goal run) (ap (λ (r : Outcome). is_completed r && is_none (first_gap model goal run)) (sym o) ∙ e))
    unmet (Failed time who fault) o e = inl (other (Failed time who fault) o refl)
    unmet (StepLimit time) o e = inl (other (StepLimit time) o refl)

pub all_told : (model : Parts) (run : Run) (P : Goal → GoalPart → Type 0) (goals : List Goal) (parts : List GoalPart) → EachWith P goals parts →
    EachWith (IsTold model run) goals (statuses_on model run goals parts)
all_told model run P [] [] each = tt
all_told model run P [] (part ∷ others) each = absurd each
all_told model run P (goal ∷ rest) [] each = absurd each
all_told model run P (goal ∷ rest) (part ∷ others) each = (told_one model run goal part, all_told model run P rest others each.1)

pub all_placed : (model : Parts) (plan : Plan) (run : Run) → (run.outcome ≡ Completed → (template : Template) (id : ℕ) → IsIn plan template id → IsPlaced model plan run template id) →
    (goals : List Goal) (parts : List GoalPart) → EachWith (λ goal part. EachOf (IsIn plan goal.template) part.placed) goals parts →
    EachWith (AreAllPlaced model plan run) goals (statuses_on model run goals parts)
all_placed model plan run gives [] [] each = tt
all_placed model plan run gives [] (part ∷ others) each = absurd each
all_placed model plan run gives (goal ∷ rest) [] each = absurd each
all_placed model plan run gives (goal ∷ rest) (part ∷ others) each = (
  (λ completed. each_weaker (IsIn plan goal.template) (IsPlaced model plan run goal.template) (gives completed goal.template) part.placed each.0),
  all_placed model plan run gives rest others each.1,
)

-- ---- of a schedule

module _ (model : Parts) (bound : ℕ) (constraints : List Constraint) (goals : List Goal) (plan : Plan) where
  abbrev made : Schedule
  made = schedule_of model bound constraints goals plan

  pub schedule_like : IsLikePlan plan made.plan
  unfolding schedule_of
  schedule_like = (goals_have model constraints (fresh_run model bound) goals plan trial_limit).like

  pub schedule_told : EachWith (IsTold model (fresh_run model bound made.plan)) goals made.goals
  unfolding schedule_of
  schedule_told =
      let all = goals_placed model constraints (fresh_run model bound) goals plan trial_limit in
      all_told model (fresh_run model bound all.plan) (AllIn model constraints (fresh_run model bound) all.plan) goals all.parts
      (goals_have model constraints (fresh_run model bound) goals plan trial_limit).each

  pub schedule_placed : ((template : Template) (id : ℕ) → (fresh_run model bound made.plan).outcome ≡ Completed → IsIn made.plan template id →
      IsPlaced model made.plan (fresh_run model bound made.plan) template id) →
      EachWith (AreAllPlaced model made.plan (fresh_run model bound made.plan)) goals made.goals
  unfolding schedule_of
  schedule_placed gives =
      let all = goals_placed model constraints (fresh_run model bound) goals plan trial_limit in
      all_placed model all.plan (fresh_run model bound all.plan) (λ completed template id is. gives template id completed is) goals all.parts
      (goals_have model constraints (fresh_run model bound) goals plan trial_limit).each
