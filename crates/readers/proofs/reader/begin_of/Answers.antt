-- A character begins with the first token.
use Rattle.std.proofs.Common.{arith, refl}
use Rattle.std.proofs.lemmas.Str.{IsCharBoundary-start}
use Rattle.readers.proofs.Standing.{begin_anywhere, begins_first, is_edge}
use Rattle.readers.proofs.reader.begin_of.Goals as goal

pub returns-in-Some-clause-edge : goal.returns-in-Some-clause-edge
returns-in-Some-clause-edge c = is_edge c.args.text.now c.args.tokens.now _ _ c.in-Some.ensures.cases.0 c.requires

pub returns-in-Some-clause-first : goal.returns-in-Some-clause-first
returns-in-Some-clause-first c = begins_first c.args.tokens.now _ _ c.in-Some.ensures.cases.0

pub returns-in-None-clause-edge : goal.returns-in-None-clause-edge
returns-in-None-clause-edge c = IsCharBoundary-start c.args.text.now c.utf8.text

pub returns-in-None-clause-first : goal.returns-in-None-clause-first
returns-in-None-clause-first c = begin_anywhere c.args.tokens.now
