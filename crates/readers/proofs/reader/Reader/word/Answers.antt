-- The first token is one of the text.
use Rattle.readers.proofs.Standing.{is_token}
use Rattle.readers.proofs.reader.Reader.word.Goals as goal

pub word_of-word-requires : goal.word_of-word-requires
word_of-word-requires c = is_token c.self.inside.text.now c.self.inside.tokens.now _ _ c.in-Some.ensures.cases.0 c.self.invariant.within
