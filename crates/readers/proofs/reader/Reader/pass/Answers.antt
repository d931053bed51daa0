-- The later tokens stand in a row behind the first.
use Rattle.readers.proofs.Standing.{begin_later, later_within, is_edge}
use Rattle.readers.proofs.reader.Reader.pass.Goals as goal

pub first_of-sort-requires-clause-tokens : goal.first_of-sort-requires-clause-tokens
first_of-sort-requires-clause-tokens c = later_within c.self.inside.text.now c.self.inside.tokens.now _ _ c.in-Some.ensures.cases.0 c.self.invariant.within

pub first_of-sort-requires-clause-edge : goal.first_of-sort-requires-clause-edge
first_of-sort-requires-clause-edge c = is_edge c.self.inside.text.now c.self.inside.tokens.now _ _ c.in-Some.ensures.cases.0 c.self.invariant.within

pub first_of-sort-requires-clause-behind : goal.first_of-sort-requires-clause-behind
first_of-sort-requires-clause-behind c = begin_later c.self.inside.text.now c.self.inside.tokens.now _ _ c.in-Some.ensures.cases.0 c.self.invariant.within

pub invariant_of-self : goal.invariant_of-self
invariant_of-self c = record {
  short = c.self.invariant.short;
  within = later_within c.self.inside.text.now c.self.inside.tokens.now _ _ c.in-Some.ensures.cases.0 c.self.invariant.within;
  first = c.first_of-sort.ensures;
}
