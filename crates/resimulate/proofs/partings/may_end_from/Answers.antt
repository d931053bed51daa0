use Rattle.resimulate.proofs.partings.may_end_from.Goals as goal

pub returns : goal.returns
returns c = record { may = c.may_be_ended.ensures c.if-not-may_be_ended.false; shares = c.shared_instants.ensures }
