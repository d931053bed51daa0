use Rattle.std.proofs.Common.{subst, sym}
use Rattle.run_data.specs.Records.{IsValid}
use Rattle.measure_books.specs.Counting.{counting}
use Rattle.measure_books.proofs.CountingSteps.{steps_are_valid}
use Rattle.measure_books.proofs.counting.counting_step.Goals as goal

pub returns : goal.returns
returns c = subst (IsValid counting) (sym c.in_ok-step.ensures) (steps_are_valid c.args.local c.args.number c.ranges.number.fits)
