use Rattle.std.proofs.Common.{[], ◌∷◌, ◌++◌, ap, arith, ◌∙◌}
use Rattle.live_tasks.proofs.Watching.{watched_pushed}
use Rattle.live_tasks.proofs.watchers.watch_cell.Goals as goal

pub returns-in_ok-push : goal.returns-in_ok-push
returns-in_ok-push c =
    watched_pushed c.args.watchers.now c.watchers.inside.items.items c.args.cell c.from-at.result c.args.watcher c.index_mut.result.now c.push.new.self.items c.watchers.view_is c.from-at.ensures
    (omega (arith, c.if-at-len.true, c.len.ensures)) c.index_mut.ensures.value
    (c.in_ok-push.ensures.items ∙ ap (λ l. l ++ c.args.watcher ∷ []) c.behind-watchers.view_is)
