-- What is noted, with the constraints that are left, is what is noted with all.
use Rattle.std.proofs.Common.{◌≡◌, [], drop}
use Rattle.report_text.specs.NamedByConstraints.{constraint_datasets, has_name_of, noted_all}
use Rattle.report_text.proofs.named_datasets.all_datasets.Given as goal

abbrev pub invariant-loop-constraint : goal.invariant-loop-constraint
invariant-loop-constraint l = noted_all has_name_of l.datasets (constraint_datasets (drop l.constraint-index l.constraints)) ≡ noted_all has_name_of [] (constraint_datasets l.constraints)
