-- What was found on the run of a report is of the run that is kept with it.
use Rattle.std.proofs.Common.{sym, subst}
use Rattle.profiles.specs.OfRuns.{AreProfilesOf}
use Rattle.run_data.specs.KeptRuns.{KeptRun}
use Rattle.client_work.proofs.lines.told_line.Goals as goal

pub keep_found-requires-clause-profiles : goal.keep_found-requires-clause-profiles
keep_found-requires-clause-profiles c =
    let found = c.in_ok-findings-in-Report.ensures.found in
    subst (λ (kept : KeptRun). AreProfilesOf kept.model kept.run c.in_ok-findings-in-Report.findings.profiles) (sym c.in_ok-share-in-Report.ensures)
    (record { exact = found.profiles; by_number = found.by_number })
