use Rattle.client_work.specs.Told.{count_told}
use Rattle.client_work.specs.Working.{replies_of}
use Rattle.client_work.proofs.Telling.{answer_can}
use Rattle.client_work.proofs.client_commands.work_on.Goals as goal

pub told_line-requires : goal.told_line-requires
told_line-requires g c =
    let mission = c.args.assignment.now.workplace.now.mission.now in
    let done = c.in_ok-answer.ensures.done in
    answer_can mission c.args.assignment.now.workplace.now.lock.now c.args.worker.now.pass.now c.requires.workplace (count_told mission done.statements) c.args.command.now (replies_of done.gained) c.in_ok-answer.answer
    done.told done.known
