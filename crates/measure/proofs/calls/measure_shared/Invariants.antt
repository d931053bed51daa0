use Rattle.measure.proofs.calls.measure_shared.Given as goal

-- each counter has a ledger of its own
abbrev pub ghosts-measure_plan-L-Ledger : goal.ghosts-measure_plan-L-Ledger
ghosts-measure_plan-L-Ledger g a = record { name = a.steps.name; parts = a.steps.parts }

abbrev pub ghosts-measure_plan-K-Ledger : goal.ghosts-measure_plan-K-Ledger
ghosts-measure_plan-K-Ledger g a = record { name = a.looks.name; parts = a.looks.parts }
