-- The first token is one of the text, at the edges of characters.
use Rattle.readers.proofs.Standing.{is_at_edges, is_token}
use Rattle.readers.proofs.reader.first_of.Goals as goal

pub sort_of-sort-requires : goal.sort_of-sort-requires
sort_of-sort-requires c = is_token c.args.text.now c.args.tokens.now _ _ c.in-Some.ensures.cases.0 c.requires.tokens

pub place_on-at-requires-clause-ends : goal.place_on-at-requires-clause-ends
place_on-at-requires-clause-ends c = (is_at_edges c.args.text.now c.args.tokens.now _ _ c.in-Some.ensures.cases.0 c.requires.tokens c.utf8.text).0
