use Rattle.std.proofs.Common.{◌≡◌, List, ℕ, length, map, ap, arith, subst, sym, ◌∙◌}
use Rattle.std.proofs.lemmas.List.{take_at}
use Rattle.span_table.specs.declared.span.Span.{Span}
use Rattle.span_table.specs.Begun.{with_end}
use Rattle.span_table.specs.KnownTasks.{Links, links_of}
use Rattle.span_table.specs.Progress.{AreNumbersOf}
use Rattle.span_table.proofs.Gathering.{all_finished}
use Rattle.span_table.proofs.progress.Progress.into_spans.Goals as goal

pub returns : goal.returns
returns c = λ model frames knows.
    let begun = c.args.self.begun in
    let marked = c.mark_unfinished.ensures frames knows.tasks in
    let links : Links = links_of c.mark_unfinished.new.tasks.entries in
    let are : AreNumbersOf links begun.spans.items begun.numbers.items = subst (λ (l : Links). AreNumbersOf l begun.spans.items begun.numbers.items) (sym marked.1) knows.numbers in
    let are_there = subst (λ (l : List Span). AreNumbersOf links l c.as_slice.result.now) (sym c.as_mut_slice.ensures.value)
    (subst (λ (n : List ℕ). AreNumbersOf links begun.spans.items n) (sym c.as_slice.ensures.value) are) in
    let whole : length c.finish_all.new.spans ≡ begun.spans.len = omega (arith, c.as_mut_slice.ensures.len, c.finish_all.auto.spans) in
    all_finished frames _ begun.spans.items _
    (take_at c.finish_all.new.spans _ begun.spans.len whole
    ∙ (c.finish_all.ensures frames marked.0 are_there ∙ ap (map (with_end frames)) c.as_mut_slice.ensures.value))
    knows.begun
