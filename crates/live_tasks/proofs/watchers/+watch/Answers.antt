use Rattle.std.proofs.Common.{◌∙◌, ap, false}
use Rattle.std.proofs.lemmas.Bool.{false≢true}
use Rattle.std.proofs.lemmas.Result.{on_ok_weaker}
use Rattle.effect_cells.specs.ReadCells.{reads_operand, reads_side, reads_terms, reads_cell}
use Rattle.effect_cells.specs.ReadCellLaws.{reads-Literal, reads-Flag, reads-Same, reads-Compare}
use Rattle.live_tasks.proofs.Watching.{watched_none, watched_by, watched_both, watched_not, watched_and, watched_or}
use Rattle.live_tasks.proofs.watchers.+watch.Goals as goal

pub returns-in-Literal : goal.returns-in-Literal
returns-in-Literal t c =
    watched_by (λ cell. false) (reads_cell c.args.condition.now) c.args.watcher c.args.watchers.now c.args.watchers.now (ap reads_cell c.in-Literal.is ∙ reads-Literal c.in-Literal.field-0)
    (watched_none (λ cell. false) c.args.watcher c.args.watchers.now (λ cell e less. false≢true e))

pub returns-in-Flag : goal.returns-in-Flag
returns-in-Flag t c =
    on_ok_weaker c.watch_operand.result
    (λ h. watched_by (reads_operand c.in-Flag.operand) (reads_cell c.args.condition.now) c.args.watcher c.args.watchers.now c.watch_operand.new.watchers
    (ap reads_cell c.in-Flag.is ∙ reads-Flag c.in-Flag.operand) h)
    c.watch_operand.ensures

pub returns-in_ok-watch_side-in-Same : goal.returns-in_ok-watch_side-in-Same
returns-in_ok-watch_side-in-Same t c =
    on_ok_weaker c.watch_side-in-Same.result
    (λ h. watched_both (reads_side c.in-Same.left) (reads_side c.in-Same.right) (reads_cell c.args.condition.now) c.args.watcher c.args.watchers.now c.watch_side.new.watchers c.watch_side-in-Same.new.watchers
    (ap reads_cell c.in-Same.is ∙ reads-Same c.in-Same.left c.in-Same.right c.in-Same.equal) c.in_ok-watch_side-in-Same.ensures h)
    c.watch_side-in-Same.ensures

pub returns-in_ok-watch_terms-in-Compare : goal.returns-in_ok-watch_terms-in-Compare
returns-in_ok-watch_terms-in-Compare t c =
    on_ok_weaker c.watch_terms-in-Compare.result
    (λ h. watched_both (reads_terms c.in-Compare.left.terms) (reads_terms c.in-Compare.right.terms) (reads_cell c.args.condition.now) c.args.watcher c.args.watchers.now c.watch_terms.new.watchers
    c.watch_terms-in-Compare.new.watchers
    (ap reads_cell c.in-Compare.is ∙ reads-Compare c.in-Compare.left c.in-Compare.how c.in-Compare.right) c.in_ok-watch_terms-in-Compare.ensures h)
    c.watch_terms-in-Compare.ensures

pub returns-in-Not : goal.returns-in-Not
returns-in-Not t c =
    on_ok_weaker c.watch.result
    (λ h. watched_not c.args.condition.now c.in-Not.part c.get.result.now c.args.watcher c.args.watchers.now c.watch.new.watchers c.in-Not.is c.get.ensures h)
    c.watch.ensures

pub returns-in_ok-watch-in-And : goal.returns-in_ok-watch-in-And
returns-in_ok-watch-in-And t c =
    on_ok_weaker c.watch-in-And-2.result
    (λ h. watched_and c.args.condition.now c.in-And.left c.in-And.right c.get-in-And.result.now c.get-in-And-2.result.now c.args.watcher c.args.watchers.now c.watch-in-And.new.watchers c.watch-in-And-2.new.watchers
    c.in-And.is c.get-in-And.ensures c.get-in-And-2.ensures c.in_ok-watch-in-And.ensures h)
    c.watch-in-And-2.ensures

pub returns-in_ok-watch-in-Or : goal.returns-in_ok-watch-in-Or
returns-in_ok-watch-in-Or t c =
    on_ok_weaker c.watch-in-Or-2.result
    (λ h. watched_or c.args.condition.now c.in-Or.left c.in-Or.right c.get-in-Or.result.now c.get-in-Or-2.result.now c.args.watcher c.args.watchers.now c.watch-in-Or.new.watchers c.watch-in-Or-2.new.watchers
    c.in-Or.is c.get-in-Or.ensures c.get-in-Or-2.ensures c.in_ok-watch-in-Or.ensures h)
    c.watch-in-Or-2.ensures
