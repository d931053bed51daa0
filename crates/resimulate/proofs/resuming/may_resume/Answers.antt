use Rattle.std.proofs.Common.{subst}
use Rattle.aerie_base.specs.declared.models.model.Parts.{Parts}
use Rattle.aerie_base.specs.plans.OfModel.{IsPlanOf}
use Rattle.run_data.specs.laws.Orders.{EachOf}
use Rattle.parting.specs.IdRanges.{is_id_between}
use Rattle.parting.specs.PlainLateness.{IsPlainlyLate}
use Rattle.resimulate.proofs.SharedInstants.{differ_late, plainly_late}
use Rattle.resimulate.proofs.resuming.may_resume.Goals as goal

pub returns : goal.returns
returns c agreed =
    let bookmark = c.args.bookmark.now in
    let model = c.args.model.now in
    let plan = c.args.plan.now in
    let first = c.args.parting.now.first in
    let past = c.args.parting.now.past in
    let until = c.args.parting.now.until in
    let like = c.if-not-is_like.false in
    let plain : EachOf (IsPlainlyLate (is_id_between first past) until) plan.directives = plainly_late first past until plan.directives c.requires.parts.late in
    let old_plain : EachOf (IsPlainlyLate (is_id_between first past) until) bookmark.plan.directives = plainly_late first past until bookmark.plan.directives c.requires.parts.old_late in
    let same_model = c.is_like.ensures.model like in
    record {
      same_model = same_model;
      ahead = c.is_before.ensures c.if-not-is_before.false;
      late =
          differ_late c.plans_that_differ_late_run_side_by_side.ensures.no_less model plan bookmark.plan c.args.bound bookmark.bound c.cells.ensures.valid c.requires.plan
          (subst (λ (m : Parts). IsPlanOf m bookmark.plan) same_model c.plan.ensures.of_model) (c.is_like.ensures.lasts like) (c.is_like.ensures.bound like) (is_id_between first past) until c.requires.parts.same
          (c.edited_plans_resume.ensures.late (is_id_between first past) until model bookmark.plan bookmark.bound plan.directives plain)
          (c.edited_plans_resume.ensures.late (is_id_between first past) until model bookmark.plan bookmark.bound bookmark.plan.directives old_plain);
      plain = plain;
      old_plain = old_plain;
    }
