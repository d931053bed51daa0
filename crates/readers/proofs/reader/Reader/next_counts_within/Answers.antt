-- The first token is one of the text.
use Rattle.readers.proofs.Standing.{is_token}
use Rattle.readers.proofs.reader.Reader.next_counts_within.Goals as goal

pub number_of-number-requires : goal.number_of-number-requires
number_of-number-requires c = is_token c.self.inside.text.now c.self.inside.tokens.now _ _ c.in-Some.ensures.cases.0 c.self.invariant.within
