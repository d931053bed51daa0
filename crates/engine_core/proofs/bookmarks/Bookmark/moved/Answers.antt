use Rattle.std.proofs.Common.{◌∙◌}
use Rattle.engine_core.proofs.MovedBookmarks.{moved_aside, moved_is}
use Rattle.engine_core.proofs.bookmarks.Bookmark.moved.Goals as goal

pub new-requires : goal.new-requires
new-requires c =
    moved_aside c.self.inside.model c.self.inside.simulation c.self.invariant c.args.self c.self.view_is c.args.plan c.args.bound c.args.instants c.args.spent
    c.requires.plan c.requires.bound c.requires.lasts c.requires.comes

pub returns : goal.returns
returns c =
    c.new.ensures
    ∙ moved_is c.self.inside.model c.self.inside.simulation c.self.invariant c.args.self c.self.view_is c.args.plan c.args.bound c.args.instants c.args.spent
