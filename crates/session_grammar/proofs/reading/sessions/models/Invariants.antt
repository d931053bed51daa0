use Rattle.std.proofs.Common.{length}
use Rattle.aerie_text.specs.declared.sorts.Sort.TheVariants as sort
use Rattle.model_reader.specs.reading.Models.{model_at}
use Rattle.readers.proofs.Going.{Going}
use Rattle.readers.specs.Lists.{one_more_of}
use Rattle.readers.specs.Parsed.{is_of}
use Rattle.session_grammar.proofs.reading.sessions.models.Given as goal
use Rattle.session_grammar.specs.reading.Sessions.{most_models}

-- behind the first model, so many models were read
abbrev pub invariant-loop-alloc : goal.invariant-loop-alloc
invariant-loop-alloc l = Going (is_of sort.Model) (one_more_of most_models model_at) l.initial.models l.initial.reader l.models l.reader

abbrev pub decreases-loop-alloc : goal.decreases-loop-alloc
decreases-loop-alloc l = length l.reader
