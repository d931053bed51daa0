use Rattle.std.proofs.Common.{◌≡◌, ◌≤◌, length, min, take}
use Rattle.record_book.proofs.keyed_items.KeyedItems.truncate.Given as goal

abbrev pub invariant-loop-self : goal.invariant-loop-self
invariant-loop-self g l = record {
  first : l.self ≡ take (length l.self) l.initial.self;
  enough : min l.len (length l.initial.self) ≤ length l.self;
}

abbrev pub decreases-loop-self : goal.decreases-loop-self
decreases-loop-self g l = length l.self
