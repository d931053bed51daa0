-- What is found on the run that is handed on is found on this one.
use Rattle.std.proofs.Common.{◌≡◌, ◌∙◌, ap, subst}
use Rattle.aerie_base.specs.declared.models.model.Parts.{Parts}
use Rattle.findings.specs.Found.{all_violations}
use Rattle.profiles.specs.OfRuns.{AreProfilesOf}
use Rattle.run_data.specs.KeptRuns.{KeptRun}
use Rattle.run_data.specs.declared.runs.Run.{Run}
use Rattle.span_table.specs.SpanLaws.{AreSpansOf}
use Rattle.findings.proofs.findings.find_after.Goals as goal

pub returns : goal.returns
returns c =
    let same : c.spans.inside.kept ≡ c.args.kept.now = c.spans.view_is ∙ c.in_ok-spans.ensures in
    let profiles = subst (λ (kept : KeptRun). AreProfilesOf kept.model kept.run c.spans.inside.profiles) same c.spans.invariant.1 in
    let model : c.get-model.result.now ≡ c.args.kept.now.model = c.get-model.ensures ∙ c.model.ensures ∙ ap (λ (kept : KeptRun). kept.model) c.get.ensures in
    let run : c.run-run.result.now ≡ c.args.kept.now.run = c.run-run.ensures.value ∙ ap (λ (kept : KeptRun). kept.run) c.get-2.ensures in
    record {
      spans = subst (λ (kept : KeptRun). AreSpansOf kept.model kept.run c.spans.inside.spans) same c.spans.invariant.0;
      profiles = profiles.exact;
      by_number = profiles.by_number;
      violations =
          c.in_ok-violations.ensures ∙ ap (λ (m : Parts). all_violations m c.run-run.result.now c.args.constraints.now) model
          ∙ ap (λ (r : Run). all_violations c.args.kept.now.model r c.args.constraints.now) run;
    }
