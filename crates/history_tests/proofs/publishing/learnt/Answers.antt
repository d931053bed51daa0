use Rattle.std.proofs.Common.{◌∙◌}
use Rattle.history_tests.proofs.publishing.learnt.Goals as goal

pub returns : goal.returns
returns c = c.what_is_learnt_is_held.ensures.model c.in_ok-book.book c.learn.new.book c.learn.ensures.learnt ∙ c.in_ok-book.ensures
