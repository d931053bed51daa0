use Rattle.task_step.proofs.Landing.{lands, falls}
use Rattle.task_step.proofs.running.land.Goals as goal

pub loop-to-smaller : goal.loop-to-smaller
loop-to-smaller c = falls _ _ _ _ _ c.requires.code c.next.ensures.value c.in-Jump.is c.loop-to.invariant.place

pub loop-to-preserved : goal.loop-to-preserved
loop-to-preserved c =
    let landed = lands _ _ _ _ _ _ c.requires.code c.next.ensures.value c.in-Jump.is c.loop-to.invariant.same in
    record { place = landed.0; same = landed.1 }
