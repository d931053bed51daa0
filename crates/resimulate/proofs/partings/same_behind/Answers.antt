use Rattle.resimulate.proofs.CommonDirectives.{none_behind}
use Rattle.resimulate.proofs.partings.same_behind.Goals as goal

pub loop-back-init : goal.loop-back-init
loop-back-init c = none_behind c.args.directives.now c.args.others.now
