-- What begins before the reach are segments up to it, with the same values.
use Rattle.std.proofs.Common.{◌≡◌, ◌∙◌, ap, map, sym}
use Rattle.std.proofs.lemmas.Result.{IfOk-weaker}
use Rattle.windows.specs.declared.segments.Segment.{Segment}
use Rattle.windows.specs.Linear.{AreSegments, segments_value}
use Rattle.dataset_in.specs.Levels.{before, constant, segments_of}
use Rattle.dataset_in.specs.Series.{AreStarts, IsSeries}
use Rattle.dataset_in.specs.declared.series.Series.{Series}
use Rattle.dataset_in.specs.declared.series.Series.TheVariants.{Whole, Linear}
use Rattle.dataset_in.proofs.Before.{values_kept, are_segments, same_starts, constants_in_range}
use Rattle.dataset_in.proofs.series.Series.segments.Goals as goal

pub returns-in-Whole-clause-values : goal.returns-in-Whole-clause-values
returns-in-Whole-clause-values c =
    let entries = c.in-Whole.entries in
    let series : IsSeries (Whole entries) = rw c.in-Whole.is at c.requires.series in
    let starts : AreStarts (map (λ (s : Segment). s.from) (map constant entries)) = rw (same_starts entries) series.0 in
    IfOk-weaker c.whole_before.result _ _
    (λ s e. (λ t below.
    ap (λ l. segments_value l t) (e ∙ ap (λ l. before c.args.reach (map constant l)) c.as_slice.ensures)
    ∙ values_kept c.args.reach (map constant entries) starts t below
    ∙ ap (λ (of : Series). segments_value (segments_of of) t) (sym c.in-Whole.is)))
    c.whole_before.ensures.exact

pub returns-in-Whole-clause-form : goal.returns-in-Whole-clause-form
returns-in-Whole-clause-form c =
    let entries = c.in-Whole.entries in
    let series : IsSeries (Whole entries) = rw c.in-Whole.is at c.requires.series in
    let starts : AreStarts (map (λ (s : Segment). s.from) (map constant entries)) = rw (same_starts entries) series.0 in
    let form : AreSegments c.args.reach (before c.args.reach (map constant entries)) =
    are_segments c.args.reach (map constant entries) starts (constants_in_range entries series.1) c.whole_before.ensures.time in
    IfOk-weaker c.whole_before.result _ _
    (λ s e.
    let same : s.items ≡ before c.args.reach (map constant entries) = e ∙ ap (λ l. before c.args.reach (map constant l)) c.as_slice.ensures in
    rw (sym same) at form)
    c.whole_before.ensures.exact

pub returns-in-Linear-clause-values : goal.returns-in-Linear-clause-values
returns-in-Linear-clause-values c =
    let segments = c.in-Linear.segments in
    let series : IsSeries (Linear segments) = rw c.in-Linear.is at c.requires.series in
    IfOk-weaker c.linear_before.result _ _
    (λ s e. (λ t below.
    ap (λ l. segments_value l t) (e ∙ ap (before c.args.reach) c.as_slice-in-Linear.ensures)
    ∙ values_kept c.args.reach segments series.0 t below
    ∙ ap (λ (of : Series). segments_value (segments_of of) t) (sym c.in-Linear.is)))
    c.linear_before.ensures.exact

pub returns-in-Linear-clause-form : goal.returns-in-Linear-clause-form
returns-in-Linear-clause-form c =
    let segments = c.in-Linear.segments in
    let series : IsSeries (Linear segments) = rw c.in-Linear.is at c.requires.series in
    let form : AreSegments c.args.reach (before c.args.reach segments) =
    are_segments c.args.reach segments series.0 series.1 c.linear_before.ensures.time in
    IfOk-weaker c.linear_before.result _ _
    (λ s e.
    let same : s.items ≡ before c.args.reach segments = e ∙ ap (before c.args.reach) c.as_slice-in-Linear.ensures in
    rw (sym same) at form)
    c.linear_before.ensures.exact
