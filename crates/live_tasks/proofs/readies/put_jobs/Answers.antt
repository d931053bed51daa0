use Rattle.std.proofs.Common.{◌+◌, ◌++◌, ◌∙◌, sym, ap, drop, get_or}
use Rattle.std.proofs.lemmas.List.{drop_more}
use Rattle.run_data.specs.Tasks.{ready_jobs}
use Rattle.live_tasks.specs.Readies.{entries_at}
use Rattle.live_tasks.proofs.Coming.{beyond}
use Rattle.live_tasks.proofs.OrderedReadies.{jobs_next, nothing_behind}
use Rattle.live_tasks.proofs.readies.put_jobs.Goals as goal

pub loop-number-preserved : goal.loop-number-preserved
loop-number-preserved c =
    let slots = c.args.slots.now.slots in
    let cells = c.args.view.now in
    let number = get_or c.args.numbers.now c.loop-number.number-index 0 in
    let rest = drop (c.loop-number.number-index + 1) c.args.numbers.now in
    ap (λ jobs. jobs ++ ready_jobs cells (entries_at slots rest)) c.in_ok-push_job.ensures
    ∙ jobs_next cells slots c.loop-number.jobs number rest
    ∙ ap (λ numbers. c.loop-number.jobs ++ ready_jobs cells (entries_at slots numbers)) (sym (drop_more c.args.numbers.now c.loop-number.number-index 0 c.loop-number-test.true))
    ∙ c.loop-number.invariant

pub returns : goal.returns
returns c =
    sym (nothing_behind c.loop-number.jobs)
    ∙ ap (λ numbers. c.loop-number.jobs ++ ready_jobs c.args.view.now (entries_at c.args.slots.now.slots numbers)) (sym (beyond c.args.numbers.now c.loop-number.number-index c.loop-number-test.false))
    ∙ c.loop-number.invariant
