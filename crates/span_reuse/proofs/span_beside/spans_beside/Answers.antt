use Rattle.run_data.specs.Spans.{timed}
use Rattle.span_table.proofs.InstantTimes.{instants_by_reach}
use Rattle.span_table.proofs.SpansByPath.{are_in_time, has_one_each}
use Rattle.span_table.proofs.TimesInOrder.{frames_in_order}
use Rattle.span_reuse.proofs.span_beside.spans_beside.Goals as goal

pub returns : goal.returns
returns c =
    let model = c.args.model.now in
    let run = c.args.run.now in
    let exact = c.in_ok-made.ensures in
    record {
      found = record {
        exact = exact;
        one_each = has_one_each model (timed run.instants) c.in_ok-made.made.items exact;
        in_time =
            λ fresh.
            are_in_time model (timed run.instants) run.reach c.in_ok-made.made.items
            (frames_in_order run.reach run.instants (c.instants_rise.ensures.rise model run.plan run.bound run fresh) (instants_by_reach model run.plan run.bound run fresh))
            exact;
      };
    }
