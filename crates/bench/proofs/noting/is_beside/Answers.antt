use Rattle.std.proofs.Common.{sym}
use Rattle.bench.proofs.NotedFrames.{has_like_at}
use Rattle.bench.proofs.noting.is_beside.Goals as goal

pub returns-in-Some : goal.returns-in-Some
returns-in-Some c = λ agreed. has_like_at c.args.old.now c.args.frame.now c.args.at c.in-Some.other.now (sym c.in-Some.ensures) (c.is_like.ensures agreed)
