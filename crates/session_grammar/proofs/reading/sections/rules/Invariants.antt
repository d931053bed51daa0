use Rattle.std.proofs.Common.{length}
use Rattle.readers.proofs.Going.{Going}
use Rattle.session_grammar.proofs.reading.sections.rules.Given as goal
use Rattle.session_grammar.specs.reading.Sections.{is_no_brace, rule_token_at}

-- so many tokens were passed over
abbrev pub invariant-loop-reader : goal.invariant-loop-reader
invariant-loop-reader l = Going is_no_brace rule_token_at tt l.initial.reader tt l.reader

abbrev pub decreases-loop-reader : goal.decreases-loop-reader
decreases-loop-reader l = length l.reader
