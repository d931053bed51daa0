use Rattle.readers.specs.Entries.{written, list_rule}
use Rattle.readers.proofs.Entries.{list_judged}
use Rattle.readers.proofs.Judged.{given_verdict}
use Rattle.readers.proofs.example.read_list.Goals as goal

pub returns-clause-verdict : goal.returns-clause-verdict
returns-clause-verdict c = given_verdict written list_rule c.args.reader.now c.list.new.reader c.list.result _ c.list.ensures.0 (list_judged 1 _ c.args.reader.now)
