-- What is noted, with the terms that are left, is what is noted with all.
use Rattle.std.proofs.Common.{◌≡◌, List, drop}
use Rattle.std.specs.Prelude.{flat_map}
use Rattle.constraints.specs.declared.types.RuleTerm.{RuleTerm}
use Rattle.report_text.specs.NamedByConstraints.{NamedSeries, has_name_of, noted_all, reading_datasets}
use Rattle.report_text.proofs.named_datasets.note_sum.Given as goal

abbrev pub datasets_of : List RuleTerm → List NamedSeries
datasets_of terms = flat_map (λ (term : RuleTerm). reading_datasets term.resource) terms

abbrev pub invariant-loop-term : goal.invariant-loop-term
invariant-loop-term l = noted_all has_name_of l.datasets (datasets_of (drop l.term-index l.terms)) ≡ noted_all has_name_of l.fn.datasets (datasets_of l.terms)
