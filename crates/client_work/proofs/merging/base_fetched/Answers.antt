use Rattle.std.proofs.Common.{sym, ◌∙◌}
use Rattle.client_work.proofs.Refusals.{no_base}
use Rattle.client_work.proofs.merging.base_fetched.Goals as goal

pub returns-in-Err : goal.returns-in-Err
returns-in-Err g c =
    no_base c.args.merge.now.assignment.now.workplace.now.mission.now c.args.merge.now.assignment.now.whose c.args.merge.now.target.now c.args.merge.now.source.now c.args.merge.now.base.now c.args.pass.now
    c.args.pair.now.target.now c.args.pair.now.source.now c.args.third c.in-Err.refusal (sym c.fetched.ensures ∙ c.in-Err.is)
