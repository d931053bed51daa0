use Rattle.std.proofs.Common.{inr}
use Rattle.resimulate.proofs.walk.next_batch.Goals as goal

pub returns-in_ok-later-2-clause-goes_on : goal.returns-in_ok-later-2-clause-goes_on
returns-in_ok-later-2-clause-goes_on g c = record {
  model = c.in_ok-later-2.ensures.model;
  plan = c.in_ok-later-2.ensures.plan;
  bound = c.in_ok-later-2.ensures.bound;
  stands = c.in_ok-later-2.ensures.stands;
  next = c.in_ok-later-2.ensures.next;
  counts =
      inr (record {
        differs = c.in_ok-all.ensures.none c.if-all.false;
        pays = c.in_ok-later-2.ensures.frugal;
        looks = c.in_ok-later-2.ensures.few_looks;
      });
}
