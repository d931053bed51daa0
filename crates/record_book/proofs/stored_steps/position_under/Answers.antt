use Rattle.record_book.proofs.Walks.{walk_begins, walk_is_over, walk_is_shorter, walk_is_within, walks_off}
use Rattle.record_book.proofs.stored_steps.position_under.Goals as goal

pub loop-next-init : goal.loop-next-init
loop-next-init c = walk_begins _ _ _ _ c.newest-next.ensures

pub position_on-requires-clause-way : goal.position_on-requires-clause-way
position_on-requires-clause-way c = walk_is_within _ _ _ _ c.in-Some.way c.in-Some.is c.loop-next.invariant

pub older-next-requires : goal.older-next-requires
older-next-requires c = walk_is_within _ _ _ _ c.in-Some.way c.in-Some.is c.loop-next.invariant

pub loop-next-smaller : goal.loop-next-smaller
loop-next-smaller c = walk_is_shorter _ _ _ _ _ c.in-Some.way c.in-Some.is c.older-next.ensures c.loop-next.invariant

pub loop-next-preserved : goal.loop-next-preserved
loop-next-preserved c = walks_off _ _ _ _ _ c.in-Some.way c.in-Some.is c.older-next.ensures c.loop-next.invariant (λ taken fits. c.in-None.ensures.none fits)

pub returns-clause-none : goal.returns-clause-none
returns-clause-none c = walk_is_over _ _ _ c.loop-next.next c.in_default.not-Some c.loop-next.invariant
