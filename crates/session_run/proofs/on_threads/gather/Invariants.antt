use Rattle.std.proofs.Common.{◌≡◌, ◌++◌, Some, map}
use Rattle.std.specs.Vec.Iter.{into_iter_items}
use Rattle.hangar_lock.specs.laws.JoinedPasses.{joined_with_all}
use Rattle.session_run.specs.Works.{AreOf, passes_of, works_texts}
use Rattle.session_run.proofs.on_threads.gather.Given as goal

-- what is joined and told, with what is left, is all
abbrev pub invariant-loop-done : goal.invariant-loop-done
invariant-loop-done l = record {
  own : l.pass.lock ≡ l.lock;
  others : AreOf l.lock (into_iter_items l.done-iterator);
  joined : joined_with_all l.pass (passes_of (into_iter_items l.done-iterator)) ≡ joined_with_all l.fn.pass (passes_of l.fn.dones.items);
  told : map Some l.texts.items ++ works_texts (into_iter_items l.done-iterator) ≡ works_texts l.fn.dones.items;
}
