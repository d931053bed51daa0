-- What is pending is what any tree commits that is gathered.
use Rattle.std.proofs.Common.{◌∙◌, List, ap, arith}
use Rattle.effect_cells.specs.Cells.{verdict}
use Rattle.effect_cells.specs.Pending.{with_pending}
use Rattle.effect_cells.specs.declared.effects.CellState.{CellState}
use Rattle.effect_cells.proofs.GatheredEffects.{still_ok, whole_commits}
use Rattle.effect_cells.proofs.Listed.{all_taken}
use Rattle.effect_cells.proofs.cells.Cells.commit_gathered.Goals as goal

pub returns-clause-answer : goal.returns-clause-answer
returns-clause-answer c = λ tree whole.
    c.commit_on-end.ensures.answer
    ∙ ap (λ (states : List CellState). verdict (with_pending states c.args.gathering.pending)) (c.as_mut_slice.ensures.value ∙ c.self.view_is)
    ∙ ap verdict (whole_commits c.args.self.now tree c.args.gathering whole)

pub returns-clause-committed : goal.returns-clause-committed
returns-clause-committed c =
    still_ok _ _ c.commit_on-end.result
    (λ made tree whole.
    all_taken c.commit_on-end.new.states _ c.self.inside.states.len (omega (arith, c.commit_on-end.auto.states, c.as_mut_slice.ensures.len))
    ∙ made
    ∙ ap (λ (states : List CellState). with_pending states c.args.gathering.pending) (c.as_mut_slice.ensures.value ∙ c.self.view_is)
    ∙ whole_commits c.args.self.now tree c.args.gathering whole)
    c.commit_on-end.ensures.committed
