use Rattle.std.proofs.Common.{ap, ◌∙◌}
use Rattle.aerie_base.specs.declared.plans.Plan.{Plan}
use Rattle.goals.specs.Candidates.{free_times}
use Rattle.goals.specs.Matching.{matching_starts as starts_matched}
use Rattle.goals.proofs.FreeTimes.{are_in_plan, are_free, few_free}
use Rattle.constraints.specs.SpansByStart.{in_order}
use Rattle.goals.proofs.candidate_times.candidates.Goals as goal

pub match_spans-requires : goal.match_spans-requires
match_spans-requires c = in_order c.args.model.now c.args.run.now c.args.spans.now c.requires.spans.exact

pub returns-clause-in_plan : goal.returns-clause-in_plan
returns-clause-in_plan c = are_in_plan c.args.run.now.plan.duration c.as_slice-starts.result.now c.as_slice.result.now _ (c.in_ok-times.ensures ∙ ap (λ (plan : Plan). free_times plan.duration c.as_slice-starts.result.now c.as_slice.result.now) c.get.ensures)

pub returns-clause-free : goal.returns-clause-free
returns-clause-free c =
    are_free c.args.run.now.plan.duration c.as_slice-starts.result.now _ c.as_slice.result.now _ (c.in_ok-times.ensures ∙ ap (λ (plan : Plan). free_times plan.duration c.as_slice-starts.result.now c.as_slice.result.now) c.get.ensures)
    (c.as_slice-starts.ensures.value ∙ c.in_ok-matched.ensures.starts ∙ ap (starts_matched c.args.goal.now.template) c.requires.spans.exact)

pub returns-clause-few : goal.returns-clause-few
returns-clause-few c =
    few_free c.args.run.now.plan.duration c.as_slice-starts.result.now c.as_slice.result.now _ _ c.args.gap.now.at c.args.goal.now.kind
    (c.in_ok-times.ensures ∙ ap (λ (plan : Plan). free_times plan.duration c.as_slice-starts.result.now c.as_slice.result.now) c.get.ensures) c.as_slice.ensures.value c.in_ok-tried.ensures
