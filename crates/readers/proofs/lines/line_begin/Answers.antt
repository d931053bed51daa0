-- With no line feed before it the line begins where the text does.
use Rattle.std.proofs.lemmas.Str.{IsCharBoundary-start}
use Rattle.readers.proofs.Feeds.{first_line}
use Rattle.readers.proofs.lines.line_begin.Goals as goal

pub returns-clause-edge : goal.returns-clause-edge
returns-clause-edge c = IsCharBoundary-start c.args.text.now c.utf8.text

pub returns-clause-first : goal.returns-clause-first
returns-clause-first c = first_line c.args.text.now
