use Rattle.session_judge.specs.OfModels.{are_constraints}
use Rattle.session_judge.specs.Rules.{constraints_of_part}
use Rattle.session_judge.proofs.Gathering.{next_of_models, next_refused, next_rules}
use Rattle.session_judge.proofs.constraint_sections.session_constraints.Goals as goal

pub loop-part-preserved : goal.loop-part-preserved
loop-part-preserved c =
    let answer = constraints_of_part c.args.text.now c.args.tokens.now c.as_slice-datasets.result.now in
    let items = c.as_slice-part-items.result.now in
    let index = c.loop-part.part-index in
    let part = c.part-item.result in
    let given = c.in_ok-answer.answer in
    let begin = c.begin_of.result in
    record {
      rules = next_rules (λ part. part.constraints) answer (λ part. are_constraints part.model) items index part c.loop-part-test.true c.part-item.is
          _ _ given c.loop-part.invariant.rules c.in_ok-gathered.ensures.rules c.in_ok-answer.ensures.exact;
      refused = next_refused (λ part. part.constraints) answer (λ part. are_constraints part.model) items index part c.loop-part-test.true c.part-item.is
          _ _ given begin c.loop-part.invariant.refused c.in_ok-gathered.ensures.refused c.in_ok-answer.ensures.exact c.begin_of.ensures;
      of_models = next_of_models (λ part. part.constraints) answer (λ part. are_constraints part.model) items index part c.loop-part-test.true c.part-item.is
          _ _ _ _ given begin c.loop-part.invariant.of_models c.in_ok-answer.ensures.of_model c.in_ok-gathered.ensures.rules c.in_ok-gathered.ensures.refused;
    }
