use Rattle.hangar_tests.proofs.opening.hangar.Goals as goal

pub opened-requires-clause-plan : goal.opened-requires-clause-plan
opened-requires-clause-plan c = c.empty_plan-plan.ensures.plan _
