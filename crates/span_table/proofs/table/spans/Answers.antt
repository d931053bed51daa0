use Rattle.std.proofs.Common.{◌≡◌, List, [], map, sym, ap, ◌∙◌}
use Rattle.run_data.specs.declared.runs.Instant.{Instant}
use Rattle.run_data.specs.Spans.{timed, spans_from, sorted_spans, spans_of}
use Rattle.span_table.specs.AsDefined.{defined_span}
use Rattle.span_table.specs.SpanLaws.{AreInTime}
use Rattle.span_table.proofs.Gathering.{all_end_well}
use Rattle.span_table.proofs.InstantTimes.{instants_by_reach}
use Rattle.span_table.proofs.SpansByPath.{has_one_each, have_their_ends, are_in_time}
use Rattle.span_table.proofs.TimesInOrder.{frames_in_order}
use Rattle.span_table.proofs.table.spans.Goals as goal

pub returns : goal.returns
returns c =
    let model = c.args.model.now in
    let run = c.args.run.now in
    let frames = timed c.as_slice.result.now in
    let knows = c.in_ok-note_instants.ensures [] (c.in_ok-progress.ensures model) in
    let exact : map defined_span c.in_ok-spans.spans.items ≡ spans_of model run =
    c.in_ok-spans.ensures
    ∙ (ap sorted_spans (c.into_spans.ensures model frames knows ∙ sym (all_end_well frames model [] frames (λ p any. any)))
    ∙ ap (λ (instants : List Instant). sorted_spans (spans_from (timed instants) model [] (timed instants))) c.as_slice.ensures) in
    let one_each = has_one_each model (timed run.instants) c.in_ok-spans.spans.items exact in
    let in_time : AreInTime model run c.in_ok-spans.spans.items = λ fresh.
    are_in_time model (timed run.instants) run.reach c.in_ok-spans.spans.items
    (frames_in_order run.reach run.instants (c.instants_rise.ensures.rise model run.plan run.bound run fresh) (instants_by_reach model run.plan run.bound run fresh))
    exact in
    record {
      exact = exact;
      one_each = one_each;
      ends = have_their_ends model (timed run.instants) c.in_ok-spans.spans.items exact;
      in_time = in_time;
      found = record { exact = exact; one_each = one_each; in_time = in_time };
    }
