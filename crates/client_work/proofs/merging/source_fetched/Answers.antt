use Rattle.std.proofs.Common.{sym, ◌∙◌}
use Rattle.client_work.proofs.Refusals.{no_source, with_base}
use Rattle.client_work.proofs.merging.source_fetched.Goals as goal

pub returns-in_ok-answer-in-Ok : goal.returns-in_ok-answer-in-Ok
returns-in_ok-answer-in-Ok g c =
    with_base c.args.merge.now.assignment.now.workplace.now.mission.now c.args.merge.now.assignment.now.whose c.args.merge.now.target.now c.args.merge.now.source.now c.args.merge.now.base.now
    c.args.pass.now c.fetch.new.pass c.base_fetched.new.pass c.in_ok-answer-in-Ok.answer c.args.second c.in_ok-third-in-Ok.third c.args.target.now c.in-Ok.source
    (sym c.fetched.ensures ∙ c.in-Ok.is) c.in_ok-third-in-Ok.ensures c.in_ok-answer-in-Ok.ensures

pub returns-in-Err : goal.returns-in-Err
returns-in-Err g c =
    no_source c.args.merge.now.assignment.now.workplace.now.mission.now c.args.merge.now.assignment.now.whose c.args.merge.now.target.now c.args.merge.now.source.now c.args.merge.now.base.now c.args.pass.now
    c.args.target.now c.args.second c.in-Err.refusal (sym c.fetched.ensures ∙ c.in-Err.is)
