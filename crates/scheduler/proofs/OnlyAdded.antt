-- A schedule only adds to its plan, goal by goal.
use Rattle.std.proofs.Common.{◌≡◌, ℕ, zero, suc, ◌+◌, List, [], ◌∷◌, ◌++◌, Some, None, length, map, refl, sym, ap, ◌∙◌, arith, append-nil}
use Rattle.std.specs.List.{concat, range_with_len}
use Rattle.std.proofs.lemmas.List.{append_assoc, length-append}
use Rattle.aerie_base.specs.declared.models.model.Parts.{Parts}
use Rattle.aerie_base.specs.declared.plans.Directive.{Directive}
use Rattle.aerie_base.specs.declared.plans.Plan.{Plan}
use Rattle.aerie_base.specs.plans.OfModel.{ids_of}
use Rattle.run_data.specs.declared.runs.Run.{Run}
use Rattle.run_data.specs.laws.Orders.{EachOf}
use Rattle.constraints.specs.declared.types.Constraint.{Constraint}
use Rattle.goals.specs.declared.types.Goal.{Goal}
use Rattle.goals.specs.declared.types.Template.{Template}
use Rattle.scheduler.specs.declared.progress.GoalPart.{GoalPart}
use Rattle.scheduler.specs.Trials.{directive_with, made_with}
use Rattle.scheduler.specs.Scheduling.{GoalsPlaced, goal_placed, goals_placed}
use Rattle.scheduler.specs.Told.{EachWith}
use Rattle.scheduler.specs.OnlyAdds.{OnlyAdds}
use Rattle.scheduler.proofs.MadePlans.{placed_there}
use Rattle.scheduler.proofs.Placements.{IsOfTrials, goal_placed_by}

-- ---- lists

pub each_more : {A : Type 0} (P : A → Type 0) (items others : List A) → EachOf P items → EachOf P others → EachOf P (items ++ others)
each_more P [] others each more = more
each_more P (item ∷ rest) others each more = (each.0, each_more P rest others each.1 more)

ids_more : (directives others : List Directive) → ids_of (directives ++ others) ≡ ids_of directives ++ ids_of others
ids_more [] others = refl
ids_more (directive ∷ rest) others = ap (λ (ids : List ℕ). directive.id ∷ ids) (ids_more rest others)

-- so many numbers from one on, and then more
counted_on : (first count more : ℕ) → range_with_len first count ++ range_with_len (first + count) more ≡ range_with_len first (count + more)
counted_on first zero more = λ i. range_with_len (none i) (all i)
  where
    none : first + 0 ≡ first
    none = omega arith

    all : more ≡ 0 + more
    all = omega arith
counted_on first (suc count) more =
    let on : first + suc count ≡ first + 1 + count = omega arith in
    let all : suc (count + more) ≡ suc count + more = omega arith in
    ap (λ (n : ℕ). first ∷ (range_with_len (first + 1) count ++ range_with_len n more)) on
    ∙ ap (λ (ns : List ℕ). first ∷ ns) (counted_on (first + 1) count more)
    ∙ ap (range_with_len first) all

-- ---- what is added for a template

-- the directive has its type, its arguments and no anchor
pub record IsOfTemplate (template : Template) (directive : Directive) : Type 0 where
  pub loose : directive.anchor ≡ None
  pub kind : directive.kind ≡ template.kind
  pub arguments : directive.arguments ≡ template.arguments

pub record AddsFor (template : Template) (old new : Plan) (placed : List ℕ) : Type 0 where
  pub adds : OnlyAdds old new placed
  pub each : EachOf (IsOfTemplate template) adds.added

pub adds_nothing : (plan : Plan) → OnlyAdds plan plan []
adds_nothing plan = record {
  added = [];
  directives = sym (append-nil plan.directives);
  ids = refl;
  counted = refl;
  next_id = omega arith;
}

pub adds_then : (old between new : Plan) (placed others : List ℕ) → OnlyAdds old between placed → OnlyAdds between new others → OnlyAdds old new (placed ++ others)
adds_then old between new placed others one other = record {
  added = one.added ++ other.added;
  directives =
      other.directives
      ∙ ap (λ (ds : List Directive). ds ++ other.added) one.directives
      ∙ append_assoc old.directives one.added other.added;
  ids = ids_more one.added other.added ∙ (λ i. one.ids i ++ other.ids i);
  counted =
      (λ i. one.counted i ++ other.counted i)
      ∙ ap (λ (n : ℕ). range_with_len old.next_id (length one.added) ++ range_with_len n (length other.added)) one.next_id
      ∙ counted_on old.next_id (length one.added) (length other.added)
      ∙ ap (range_with_len old.next_id) (sym (length-append one.added other.added));
  next_id = omega (arith, one.next_id, other.next_id, length-append one.added other.added);
}

-- the plan of a trial has the template's directive behind the others
for_trial : (plan next : Plan) (template : Template) (time : ℕ) → made_with plan template time ≡ Some next → AddsFor template plan next (plan.next_id ∷ [])
for_trial plan next template time e =
    let is = (placed_there plan next template time e).is in record {
      adds = record {
        added = directive_with plan template time ∷ [];
        directives = ap (λ (p : Plan). p.directives) is;
        ids = refl;
        counted = refl;
        next_id = ap (λ (p : Plan). p.next_id) is;
      };
      each = (record { loose = refl; kind = refl; arguments = refl }, tt);
    }

of_trials : (template : Template) → IsOfTrials template (AddsFor template)
unfolding adds_nothing adds_then
of_trials template = record {
  none = λ plan. record { adds = adds_nothing plan; each = tt };
  more = λ old plan next placed time e is.
      let one = for_trial plan next template time e in record {
        adds = adds_then old plan next placed (plan.next_id ∷ []) is.adds one.adds;
        each = each_more (IsOfTemplate template) is.adds.added one.adds.added is.each one.each;
      };
}

-- ---- all goals

-- the ids that were placed for some goals, those for the first one at first
abbrev pub placed_in : List GoalPart → List ℕ
placed_in parts = concat (map (λ part. part.placed) parts)

module _ (model : Parts) (constraints : List Constraint) (run_of : Plan → Run) where
  -- what was placed for a goal stands in a row
  pub record IsRow (plan : Plan) (goal : Goal) (part : GoalPart) : Type 0 where
    pub front : List Directive
    pub row : List Directive
    pub back : List Directive
    pub there : plan.directives ≡ front ++ row ++ back
    pub ids_are : ids_of row ≡ part.placed
    pub each : EachOf (IsOfTemplate goal.template) row

  pub record AllAdd (goals : List Goal) (before : Plan) (all : GoalsPlaced) : Type 0 where
    pub adds : OnlyAdds before all.plan (placed_in all.parts)
    pub rows : EachWith (IsRow all.plan) goals all.parts

  pub goals_add : (goals : List Goal) (plan : Plan) (left : ℕ) → AllAdd goals plan (goals_placed model constraints run_of goals plan left)
  goals_add [] plan left = record { adds = adds_nothing plan; rows = tt }
  goals_add (goal ∷ rest) plan left =
      let at = goal_placed model constraints run_of goal plan left in
      let own = goal_placed_by model constraints run_of goal (AddsFor goal.template) (of_trials goal.template) plan left in
      let others = goals_add rest at.plan at.left in
      let last = goals_placed model constraints run_of rest at.plan at.left in record {
        adds = adds_then plan at.plan last.plan at.placed (placed_in last.parts) own.adds others.adds;
        rows = (
          record {
            front = plan.directives;
            row = own.adds.added;
            back = others.adds.added;
            there = others.adds.directives ∙ ap (λ (ds : List Directive). ds ++ others.adds.added) own.adds.directives;
            ids_are = own.adds.ids;
            each = own.each;
          },
          others.rows,
        );
      }
