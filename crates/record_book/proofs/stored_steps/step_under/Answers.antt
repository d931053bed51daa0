use Rattle.record_book.proofs.Probing.{denied}
use Rattle.record_book.proofs.Walks.{walk_begins, walk_is_over, walk_is_shorter, walk_is_within, walks_on}
use Rattle.record_book.proofs.stored_steps.step_under.Goals as goal

pub loop-next-init : goal.loop-next-init
loop-next-init g c = walk_begins _ _ _ _ c.newest-next.ensures

pub item-requires : goal.item-requires
item-requires g c = walk_is_within _ _ _ _ c.in-Some.at c.in-Some.is c.loop-next.invariant

pub returns-then-is_step_of-clause-within : goal.returns-then-is_step_of-clause-within
returns-then-is_step_of-clause-within g c = walk_is_within _ _ _ _ c.in-Some.at c.in-Some.is c.loop-next.invariant

pub older-next-requires : goal.older-next-requires
older-next-requires g c = walk_is_within _ _ _ _ c.in-Some.at c.in-Some.is c.loop-next.invariant

pub loop-next-smaller : goal.loop-next-smaller
loop-next-smaller g c = walk_is_shorter _ _ _ _ _ c.in-Some.at c.in-Some.is c.older-next.ensures c.loop-next.invariant

pub loop-next-preserved : goal.loop-next-preserved
loop-next-preserved g c =
    walks_on _ _ _ _ _ c.in-Some.at c.in-Some.is c.older-next.ensures c.loop-next.invariant c.item.result.now c.item.ensures
    (λ passes. denied c.is_step_of.result _ c.if-is_step_of.false c.is_step_of.ensures passes)

pub returns-clause-none : goal.returns-clause-none
returns-clause-none g c = λ at stored there on agrees.
    walk_is_over _ _ _ c.loop-next.next c.in_default.not-Some c.loop-next.invariant at stored there (on, agrees)
