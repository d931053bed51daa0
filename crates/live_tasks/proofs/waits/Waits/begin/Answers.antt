use Rattle.live_tasks.proofs.waits.Waits.begin.Goals as goal

pub returns : goal.returns
returns c = record { since = c.in_ok-since.since; wait = c.in_ok-since.ensures.wait; times = c.in_ok-since.ensures.wakes; watches = c.in_ok-watch.ensures }
