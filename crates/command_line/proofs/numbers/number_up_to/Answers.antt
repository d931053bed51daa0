use Rattle.command_line.proofs.Numerals.{no_number_found, number_found}
use Rattle.command_line.proofs.numbers.number_up_to.Goals as goal

pub returns-in-Ok : goal.returns-in-Ok
returns-in-Ok c =
    let read = c.in-Ok.ensures.value.0 in
    let within = c.is_in_range.ensures.0 c.if-is_in_range.true in
    record { exact = number_found c.args.most _ _ read.0.0 read.1 within.0 within.1; within = within }

pub returns-in_default-2-clause-exact : goal.returns-in_default-2-clause-exact
returns-in_default-2-clause-exact c = no_number_found c.args.most _ c.ranges.most.fits c.in_default.ensures.value.0
