use Rattle.std.proofs.Common.{◌≡◌, ◌++◌, List, length, sym, ap, subst, ◌∙◌, arith}
use Rattle.std.specs.List.{zip}
use Rattle.std.specs.Prelude.{IfOk}
use Rattle.goals.specs.declared.types.Goal.{Goal}
use Rattle.session_reader.specs.DatasetAnswers.{NamedSeries}
use Rattle.session_reader.specs.declared.session.ModelPart.{ModelPart}
use Rattle.session_judge.specs.FirstRefused.{RulesAnswer, accepted_rules, all_rules, first_of_both, first_refused_section}
use Rattle.session_judge.specs.OfModels.{AreEach, are_constraints, are_goals}
use Rattle.session_judge.specs.Rules.{RuledPart, goals_of_part}
use Rattle.session_judge.proofs.Gathering.{all_of_models, gathered_all, next_of_models, next_refused, next_rules}
use Rattle.session_judge.proofs.RuledParts.{all_pairs, as_many, no_pair, of_parts, pair_at, pair_within}
use Rattle.session_judge.proofs.goal_sections.session_goals.Goals as goal

pub bounds-constraints-number : goal.bounds-constraints-number
bounds-constraints-number c =
    let same = as_many (λ part. are_constraints part.model) c.args.session.now.models c.args.constraints.now c.requires.constraints in
    omega (arith, same, ap length c.as_slice-models.ensures, c.loop-number-test.true)

pub loop-number-preserved : goal.loop-number-preserved
loop-number-preserved c =
    let models = c.as_slice-models.result.now in
    let kept = c.args.constraints.now in
    let answer = goals_of_part c.args.text.now c.args.tokens.now c.as_slice-datasets.result.now c.args.session.now.plan.duration in
    let same : length kept ≡ length models =
    as_many (λ part. are_constraints part.model) c.args.session.now.models kept c.requires.constraints ∙ ap length (sym c.as_slice-models.ensures) in
    let index = c.loop-number.number in
    let part : RuledPart = (c.index-models-number.result, c.index-constraints-number.result) in
    let within = pair_within models kept same index c.loop-number-test.true in
    let is = pair_at models kept same index part.0 part.1 c.loop-number-test.true c.index-models-number.is c.index-constraints-number.is in
    let given = c.in_ok-answer.answer in
    let begin = c.begin_of.result in
    record {
      rules = next_rules (λ part. part.0.goals) answer (λ part. are_goals part.0.model) (zip models kept) index part within is
          _ _ given c.loop-number.invariant.rules c.in_ok-gathered.ensures.rules c.in_ok-answer.ensures.exact;
      refused = next_refused (λ part. part.0.goals) answer (λ part. are_goals part.0.model) (zip models kept) index part within is
          _ _ given begin c.loop-number.invariant.refused c.in_ok-gathered.ensures.refused c.in_ok-answer.ensures.exact c.begin_of.ensures;
      of_models = next_of_models (λ part. part.0.goals) answer (λ part. are_goals part.0.model) (zip models kept) index part within is
          _ _ _ _ given begin c.loop-number.invariant.of_models c.in_ok-answer.ensures.of_model c.in_ok-gathered.ensures.rules c.in_ok-gathered.ensures.refused;
    }

pub returns-clause-exact : goal.returns-clause-exact
returns-clause-exact c =
    let models = c.as_slice-models.result.now in
    let datasets = c.as_slice-datasets.result.now in
    let kept = c.args.constraints.now in
    let duration = c.args.session.now.plan.duration in
    let answer = goals_of_part c.args.text.now c.args.tokens.now datasets duration in
    let parts = zip models kept in
    let rules = c.loop-number.gathered.rules in
    let refused = c.loop-number.gathered.refused in
    let same : length kept ≡ length models =
    as_many (λ part. are_constraints part.model) c.args.session.now.models kept c.requires.constraints ∙ ap length (sym c.as_slice-models.ensures) in
    let none = no_pair models kept same c.loop-number.number c.loop-number-test.false in
    let told : c.answer.result ≡ all_rules (λ part. part.0.goals) answer parts =
    c.answer.ensures
    ∙ gathered_all rules (accepted_rules answer parts) refused (first_refused_section (λ part. part.0.goals) answer parts)
    (subst (λ (left : List RuledPart). rules ++ accepted_rules answer left ≡ accepted_rules answer parts) none c.loop-number.invariant.rules)
    (subst (λ (left : List RuledPart). first_of_both refused (first_refused_section (λ part. part.0.goals) answer left) ≡ first_refused_section (λ part. part.0.goals) answer parts) none c.loop-number.invariant.refused) in
    subst (λ (d : List NamedSeries). c.answer.result ≡ all_rules (λ part. part.0.goals) (goals_of_part c.args.text.now c.args.tokens.now d duration) (zip c.args.session.now.models kept)) c.as_slice-datasets.ensures
    (subst (λ (m : List ModelPart). c.answer.result ≡ all_rules (λ part. part.0.goals) answer (zip m kept)) c.as_slice-models.ensures told)

pub returns-clause-of_models : goal.returns-clause-of_models
returns-clause-of_models c =
    let models = c.as_slice-models.result.now in
    let kept = c.args.constraints.now in
    let rules = c.loop-number.gathered.rules in
    let of_all = as_many (λ part. are_constraints part.model) c.args.session.now.models kept c.requires.constraints in
    let same : length kept ≡ length models = of_all ∙ ap length (sym c.as_slice-models.ensures) in
    let all = all_pairs models kept same c.loop-number.number c.loop-number-test.false in
    subst (λ (r : RulesAnswer (List (List Goal))). IfOk r (AreEach (λ part. are_goals part.model) c.args.session.now.models)) (sym c.answer.ensures)
    (all_of_models (λ part. are_goals part.model) c.args.session.now.models rules c.loop-number.gathered.refused
    (λ is. of_parts (λ part. are_goals part.model) c.args.session.now.models kept rules of_all
    (subst (λ (m : List ModelPart). AreEach (λ part. are_goals part.0.model) (zip m kept) rules) c.as_slice-models.ensures
    (subst (λ (taken : List RuledPart). AreEach (λ part. are_goals part.0.model) taken rules) all (c.loop-number.invariant.of_models is)))))
