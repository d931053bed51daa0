-- Span by span, up to the first that starts later.
use Rattle.std.proofs.Common.{◌≡◌, ◌<◌, ℕ, arith, length, map, subst, take}
use Rattle.span_table.specs.AsDefined.{defined_span}
use Rattle.findings.specs.PairSweep.{ending_after}
use Rattle.findings.proofs.PairSweep.{one_more, stops_behind, stops_there}
use Rattle.findings.proofs.pairs.begin_until.Goals as goal

pub returns-then-is_before : goal.returns-then-is_before
returns-then-is_before c =
    let test = c.is_before.ensures in
    let passed = c.if-is_before.true in
    let later : c.args.t < c.index-spans-number.result.start = grind arith in
    let within = c.loop-number-test.true in
    record {
      within = omega (arith, within);
      so_far = c.loop-number.invariant;
      stops = stops_there c.args.t c.loop-number.number c.args.spans.now c.index-spans-number.result c.index-spans-number.is within later;
    }

pub loop-number-preserved : goal.loop-number-preserved
loop-number-preserved c =
    one_more c.args.reach c.args.kind c.args.t c.args.spans.now c.loop-number.number c.index-spans-number.result c.loop-number.lasting c.put_lasting.new.lasting
    c.loop-number-test.true c.index-spans-number.is c.in_ok-put_lasting.ensures c.loop-number.invariant

pub returns : goal.returns
returns c =
    let below = c.loop-number.auto.number-end in
    let above = c.loop-number-test.false in
    let all : c.loop-number.number ≡ length c.args.spans.now = omega (arith, below, above) in
    record {
      within = omega arith;
      so_far = subst (λ (n : ℕ). c.loop-number.lasting ≡ ending_after c.args.reach c.args.kind c.args.t (map defined_span (take n c.args.spans.now))) all c.loop-number.invariant;
      stops = stops_behind c.args.t c.args.spans.now;
    }
