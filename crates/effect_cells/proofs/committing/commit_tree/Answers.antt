-- What is pending then is what the tree commits.
use Rattle.std.proofs.Common.{◌∙◌, refl, ap}
use Rattle.effect_cells.specs.Cells.{verdict}
use Rattle.effect_cells.proofs.GatheredEffects.{still_ok, whole_commits}
use Rattle.effect_cells.proofs.committing.commit_tree.Goals as goal

pub returns-then-gather-clause-answer : goal.returns-then-gather-clause-answer
returns-then-gather-clause-answer c =
    c.commit_on.ensures.answer ∙ ap verdict (whole_commits c.args.states.now c.args.tree.now c.gather.new.room (c.if-gather.ensures.whole refl))

pub returns-then-gather-clause-committed : goal.returns-then-gather-clause-committed
returns-then-gather-clause-committed c =
    still_ok _ _ c.commit_on.result (λ made. made ∙ whole_commits c.args.states.now c.args.tree.now c.gather.new.room (c.if-gather.ensures.whole refl)) c.commit_on.ensures.committed
