-- A part behind a comma keeps the list going, and one that is refused ends it.
use Rattle.std.proofs.Common.{◌≡◌, [], sym, ◌∙◌, subst}
use Rattle.aerie_text.specs.declared.sorts.Sort.TheVariants.{Comma}
use Rattle.readers.specs.Lists.{one_more_at}
use Rattle.readers.specs.Parsed.{parsed, is_of, behind_at}
use Rattle.readers.proofs.Going.{going_on, going_refused, returned_refused, separated_refused}
use Rattle.readers.proofs.lists.listed.Goals as goal

pub loop-alloc-preserved : goal.loop-alloc-preserved
loop-alloc-preserved g c =
    let iteration = one_more_at c.args.first c.args.most g.E.Element.part_at in
    let test = sym c.next_is.ensures ∙ c.loop-alloc-test.true in
    going_on (is_of Comma) (behind_at Comma iteration) _ _ _ _ _ _ c.loop-alloc.invariant test c.in_ok-parts-2.ensures.0 c.in_ok-parts-2.ensures.1

pub returns-in_err-parts-2 : goal.returns-in_err-parts-2
returns-in_err-parts-2 g c =
    let iteration = one_more_at c.args.first c.args.most g.E.Element.part_at in
    let begun = subst (λ none. iteration none c.args.reader.now ≡ parsed c.in_ok-parts.parts c.one_begun.new.reader) c.new.ensures c.in_ok-parts.ensures.0 in
    let test = sym c.next_is.ensures ∙ c.loop-alloc-test.true in
    let refused = going_refused (is_of Comma) (behind_at Comma iteration) _ _ _ _ _ _ c.loop-alloc.invariant test c.in_err-parts-2.ensures.0 in
    returned_refused (is_of Comma) (behind_at Comma iteration) _ _ _ _ _ c.from_residual-in_err-parts-2.ensures.1 (separated_refused Comma iteration [] _ _ _ _ _ begun refused)
