use Rattle.goals.proofs.Rising.{matched_rise}
use Rattle.goals.proofs.matching.match_spans.Goals as goal

pub returns-clause-rises : goal.returns-clause-rises
returns-clause-rises c = matched_rise c.args.template.now _ _ c.requires c.in_ok-starts.ensures
