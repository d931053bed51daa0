use Rattle.std.proofs.Common.{◌∙◌, ap, take}
use Rattle.record_book.specs.Ways.{records_of}
use Rattle.record_book.proofs.Indexing.{index_first, records_first}
use Rattle.record_book.proofs.step_index.StepIndex.keep_first.Goals as goal

pub invariant_of-self : goal.invariant_of-self
invariant_of-self c = index_first _ c.self.inside.ways c.self.inside.steps c.truncate.new.self c.args.count c.truncate.ensures c.self.invariant

pub returns : goal.returns
returns c = ap records_of c.truncate.ensures ∙ records_first c.args.count c.self.inside.steps ∙ ap (take c.args.count) c.self.view_is
