use Rattle.std.proofs.Common.{◌≡◌, length, map}
use Rattle.record_book.specs.Chains.{AreInBuckets, with_key}
use Rattle.record_book.proofs.keyed_items.link_all.Given as goal

abbrev pub invariant-loop-at : goal.invariant-loop-at
invariant-loop-at g l = record {
  linked : AreInBuckets (length l.initial.newest) l.at l.items l.newest;
  same : map with_key l.items ≡ map with_key l.initial.items;
  len : length l.newest ≡ length l.initial.newest;
  many : length l.items ≡ length l.initial.items;
}
