-- What is noted, with the terms that are left, is what is noted with all.
use Rattle.std.proofs.Common.{◌≡◌, List, ℕ, nat_eq, drop}
use Rattle.std.specs.Prelude.{flat_map}
use Rattle.constraints.specs.declared.types.RuleTerm.{RuleTerm}
use Rattle.report_text.specs.NamedByConstraints.{noted_all, reading_resources}
use Rattle.report_text.proofs.named.note_sum.Given as goal

abbrev pub resources_of : List RuleTerm → List ℕ
resources_of terms = flat_map (λ (term : RuleTerm). reading_resources term.resource) terms

abbrev pub invariant-loop-term : goal.invariant-loop-term
invariant-loop-term l = noted_all nat_eq l.numbers (resources_of (drop l.term-index l.terms)) ≡ noted_all nat_eq l.fn.numbers (resources_of l.terms)
