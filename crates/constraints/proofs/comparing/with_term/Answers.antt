use Rattle.constraints.proofs.SumTerms.{term_typed, product_handed, total_handed, values_handed, term_within}
use Rattle.constraints.proofs.comparing.with_term.Goals as goal

pub reading_segments-requires-clause-typed : goal.reading_segments-requires-clause-typed
reading_segments-requires-clause-typed c = term_typed c.args.sources.now.model.now c.args.term.now c.requires.term

pub plus_times-requires-clause-product : goal.plus_times-requires-clause-product
plus_times-requires-clause-product c =
    product_handed c.args.sources.now.model.now c.args.sources.now.run.now c.args.term.now c.as_slice-more.result.now c.in_ok-segments.segments c.requires.term c.as_slice-more.ensures c.in_ok-segments.ensures

pub plus_times-requires-clause-total : goal.plus_times-requires-clause-total
plus_times-requires-clause-total c =
    total_handed c.args.sources.now.model.now c.args.sources.now.run.now c.args.term.now c.as_slice-more.result.now c.in_ok-segments.segments c.args.sum.now c.as_slice-so_far.result.now c.requires.term c.as_slice-more.ensures c.as_slice-so_far.ensures
    c.in_ok-segments.ensures c.requires.small

pub returns-clause-values : goal.returns-clause-values
returns-clause-values c =
    values_handed c.args.sources.now.model.now c.args.sources.now.run.now c.args.term.now c.as_slice-more.result.now c.in_ok-segments.segments c.args.sum.now c.as_slice-so_far.result.now c.in_ok-made.made c.requires.term c.as_slice-more.ensures
    c.as_slice-so_far.ensures c.in_ok-segments.ensures c.in_ok-made.ensures.values

pub returns-clause-small : goal.returns-clause-small
returns-clause-small c =
    term_within c.args.sources.now.model.now c.args.sources.now.run.now c.args.term.now c.as_slice-more.result.now c.in_ok-segments.segments c.requires.term c.in_ok-segments.ensures
