-- Those that have begun of the spans that are kept are all that cover the time.
use Rattle.std.proofs.Common.{◌≡◌, ◌∙◌, IfOk, List, ℕ, ap, map, subst, take}
use Rattle.span_table.specs.AsDefined.{defined_span}
use Rattle.findings.specs.PairSweep.{ending_after, paths_begun}
use Rattle.findings.specs.declared.pairs.Lasting.{Lasting}
use Rattle.findings.proofs.PairSweep.{all_begun, begun_are}
use Rattle.findings.proofs.pairs.paths_on.Goals as goal

pub returns : goal.returns
returns c =
    let spans = c.args.spans.now in
    let swept = c.args.swept.now in
    let kept : c.as_slice.result.now ≡ ending_after c.args.reach swept.kind c.args.t (map defined_span (take swept.next spans)) =
    c.as_slice.ensures ∙ c.requires.kept.lasting
    ∙ ap (λ (t : ℕ). ending_after c.args.reach swept.kind t (map defined_span (take swept.next spans))) c.requires.until in
    subst (λ (told : List (List ℕ)). IfOk c.paths_begun.result (λ paths. paths ≡ told))
    (ap (λ (l : List Lasting). paths_begun c.args.t l) kept
    ∙ begun_are c.args.reach swept.kind c.args.t (map defined_span (take swept.next spans))
    ∙ all_begun c.args.reach swept.kind c.args.t swept.next spans c.requires.order c.requires.stops)
    c.paths_begun.ensures
