use Rattle.run_data.proofs.Results.{results_fit, begins_under_way}
use Rattle.run_data.proofs.laws.steps.results_are_as_declared.Goals as goal

pub returns : goal.returns
returns c = record { results = results_fit; begins = begins_under_way }
