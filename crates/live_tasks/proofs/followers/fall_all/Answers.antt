use Rattle.std.proofs.Common.{sym, subst}
use Rattle.std.proofs.lemmas.List.{take_rest}
use Rattle.live_tasks.specs.Followers.{AreFollowersOf}
use Rattle.live_tasks.proofs.Coming.{followers_from}
use Rattle.live_tasks.proofs.followers.fall_all.Goals as goal

pub fall_first-requires : goal.fall_first-requires
fall_first-requires c =
    subst (AreFollowersOf c.args.to c.args.tables.now.slots.slots) (sym (take_rest c.args.followers.now c.count_before-first.result))
    (followers_from c.args.to c.args.tables.now.slots.slots c.args.followers.now c.count_before-first.result c.count_before-first.ensures.within c.requires c.count_before-first.ensures.before c.count_before-first.ensures.from)
