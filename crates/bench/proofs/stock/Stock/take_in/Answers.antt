use Rattle.std.proofs.Common.{[]}
use Rattle.bench.proofs.SharedInstants.{shares_none}
use Rattle.bench.proofs.stock.Stock.take_in.Goals as goal

pub note-requires-clause-shares : goal.note-requires-clause-shares
note-requires-clause-shares c = shares_none [] c.args.kept.now.run.instants
