use Rattle.std.proofs.Common.{◌∙◌, List, ap, sym, subst}
use Rattle.aerie_base.specs.declared.plans.Directive.{Directive}
use Rattle.run_data.specs.laws.Orders.{EachOf}
use Rattle.resimulate.specs.Partings.{IsFreeAndLate, others_of}
use Rattle.resimulate.proofs.partings.parting_of.Goals as goal

pub returns : goal.returns
returns c =
    let first = c.with_between-parting.result.first in
    let past = c.with_between-parting.result.past in
    let until = c.with_between-parting.result.until in
    record {
      same =
          ap (others_of first past) (sym c.as_slice-directives.ensures) ∙ c.are_same_otherwise.ensures c.if-not-are_same_otherwise.false
          ∙ ap (others_of first past) c.as_slice-others.ensures;
      late =
          subst (λ (l : List Directive). EachOf (IsFreeAndLate first past until) l) c.as_slice-directives.ensures
          (c.are_plainly_late.ensures c.if-not-are_plainly_late.false);
      old_late =
          subst (λ (l : List Directive). EachOf (IsFreeAndLate first past until) l) c.as_slice-others.ensures
          (c.are_plainly_late-2.ensures c.if-not-are_plainly_late-2.false);
    }
