-- What is meant lies no farther from an edge than a length of time.
use Rattle.std.proofs.Common.{IsTrue, sym, subst}
use Rattle.std.specs.List.{list_all}
use Rattle.seq_expand.specs.OfModel.{have_shifts}
use Rattle.seq_expand.specs.declared.rules.Sequencing.{Sequencing}
use Rattle.rule_check.proofs.ReadShifts.{rules_have}
use Rattle.rule_check.proofs.sequence.judged.Goals as goal

pub returns-in_ok-sequencing_of-in-None-clause-of_model : goal.returns-in_ok-sequencing_of-in-None-clause-of_model
returns-in_ok-sequencing_of-in-None-clause-of_model c =
    subst (λ (sequencing : Sequencing). IsTrue (list_all have_shifts sequencing.rules)) (sym c.in_ok-sequencing_of-in-None.ensures) (rules_have c.args.model.now c.args.raw.now)
