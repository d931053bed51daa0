use Rattle.std.proofs.Common.{◌≡◌, get_or, subst, sym, ◌∙◌}
use Rattle.std.proofs.lemmas.List.Edits.{map_over_more}
use Rattle.span_table.specs.declared.span.Span.{Span}
use Rattle.span_table.specs.Begun.{with_end}
use Rattle.span_table.specs.KnownTasks.{IsPathAt, links_of}
use Rattle.span_table.proofs.AreOfTasks.{number_at, untouched}
use Rattle.span_table.proofs.progress.finish_all.Goals as goal

pub loop-at-preserved : goal.loop-at-preserved
loop-at-preserved c = λ frames knows are.
    let at = c.loop-at.at in
    let span : Span = c.index-spans-at.result in
    let mixed = c.loop-at.invariant frames knows are in
    let same : span ≡ get_or c.args.spans.now at span = untouched (with_end frames) c.args.spans.now c.loop-at.spans at span c.loop-at-test.true mixed c.index-spans-at.is in
    let of = number_at (links_of c.args.tasks.now.entries) c.args.spans.now c.args.numbers.now at span are c.loop-at-test.true in
    let path = subst (λ (s : Span). IsPathAt (links_of c.args.tasks.now.entries) of.0 s.path) (sym same) of.2 in
    rw (c.finish_with.ensures of.0 (c.number_at.ensures ∙ of.1) frames knows
    (subst (λ (s : Span). IsPathAt (links_of c.args.tasks.now.entries) of.0 s.path) c.index-spans-at.is path)) (rw (← c.index-spans-at.is)
    (map_over_more (with_end frames) c.args.spans.now c.loop-at.spans at span c.loop-at-test.true mixed c.index-spans-at.is))
