use Rattle.client_work.proofs.ModelPositions.{of_mission}
use Rattle.client_work.proofs.scheduling.schedule_fetched.Goals as goal

pub ruled-requires : goal.ruled-requires
ruled-requires g c =
    let mission = c.args.assignment.now.workplace.now.mission.now in
    (of_mission mission c.args.assignment.now.workplace.now.lock.now c.args.worker.now.pass.now c.requires.workplace c.args.found.now.plan c.requires.found).within
