use Rattle.std.proofs.Common.{◌≡◌, take, sym, subst, ap, ◌∙◌}
use Rattle.std.specs.List.{All}
use Rattle.aerie_base.specs.declared.models.model.Parts.{Parts}
use Rattle.run_data.specs.Records.{IsValid}
use Rattle.record_book.specs.StoredSteps.{StoredSteps}
use Rattle.record_book.proofs.Holding.{all_with, undone}
use Rattle.record_book.proofs.books.Book.put_or_undo.Goals as goal

pub invariant_of-self : goal.invariant_of-self
invariant_of-self c =
    let valid = subst (λ (model : Parts). All (IsValid model) c.args.steps.now) (sym (ap (λ (book : StoredSteps). book.model) c.self.view_is)) c.requires in
    subst (All (IsValid c.self.inside.model)) (sym c.in-Ok.ensures.put)
    (all_with (IsValid c.self.inside.model) c.self.inside.index c.args.steps.now c.self.invariant valid)

pub invariant_of-self-in-Err : goal.invariant_of-self-in-Err
invariant_of-self-in-Err c =
    let same : c.keep_first.new.self ≡ c.self.inside.index =
    c.keep_first.ensures ∙ ap (λ count. take count c.put_steps.new.index) c.len-before.ensures.len
    ∙ undone c.self.inside.index c.args.steps.now c.put_steps.new.index c.in-Err.ensures.first in
    subst (All (IsValid c.self.inside.model)) (sym same) c.self.invariant

pub returns-in-Err-clause-unchanged : goal.returns-in-Err-clause-unchanged
returns-in-Err-clause-unchanged c =
    c.keep_first.ensures ∙ ap (λ count. take count c.put_steps.new.index) c.len-before.ensures.len
    ∙ undone c.self.inside.index c.args.steps.now c.put_steps.new.index c.in-Err.ensures.first
    ∙ ap (λ (book : StoredSteps). book.records) c.self.view_is
