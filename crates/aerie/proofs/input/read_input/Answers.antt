use Rattle.std.proofs.Common.{ℕ, arith, inl, length-take, length-drop, length-append, drop}
use Rattle.aerie.proofs.InputReads.{read_on, read_more}
use Rattle.aerie.proofs.input.read_input.Goals as goal

pub returns-in_err-count-clause-read : goal.returns-in_err-count-clause-read
returns-in_err-count-clause-read g c =
    read_on _ _ _ _ _ _ _ c.loop-iteration.invariant.taken c.read_more.ensures.more
    (omega (arith, length-take {A = ℕ} c.min-wanted.result c.loop-iteration.room, c.min-wanted.ensures, c.len.ensures, c.loop-iteration.bytes.ok.0, c.loop-iteration.invariant.most))

pub returns-then-count-eq0-clause-read : goal.returns-then-count-eq0-clause-read
returns-then-count-eq0-clause-read g c =
    read_on _ _ _ _ _ _ _ c.loop-iteration.invariant.taken c.read_more.ensures.more
    (omega (arith, length-take {A = ℕ} c.min-wanted.result c.loop-iteration.room, c.min-wanted.ensures, c.len.ensures, c.loop-iteration.bytes.ok.0, c.loop-iteration.invariant.most))

pub returns-then-count-eq0-clause-all : goal.returns-then-count-eq0-clause-all
returns-then-count-eq0-clause-all g c =
    let next = read_more _ _ _ _ _ _ c.in_ok-count.count c.loop-iteration.invariant.taken c.in_ok-count.ensures.more in
    record {
      read = record { taken = next.taken; most = omega (arith, next.len, c.if-count-eq0.true, c.loop-iteration.invariant.most) };
      ended = inl (next.ended c.if-count-eq0.true (omega (arith, length-take {A = ℕ} c.min-wanted.result c.loop-iteration.room, c.loop-iteration.invariant.room, c.if-wanted-eq0.false, c.min-wanted.ensures)));
    }

pub loop-iteration-preserved : goal.loop-iteration-preserved
loop-iteration-preserved g c =
    let next = read_more _ _ _ _ _ _ c.in_ok-count.count c.loop-iteration.invariant.taken c.in_ok-count.ensures.more in
    record {
      iteration = omega (arith, next.len, c.if-count-eq0.false, c.loop-iteration.invariant.iteration);
      most = omega (arith, next.len, next.most, length-take {A = ℕ} c.min-wanted.result c.loop-iteration.room, c.min-wanted.ensures, c.len.ensures, c.loop-iteration.bytes.ok.0, c.loop-iteration.invariant.most);
      taken = next.taken;
      reads = omega (arith, c.in_ok-count.ensures.reads, c.loop-iteration.invariant.reads);
      later = omega (arith, c.in_ok-count.ensures.later, c.loop-iteration.invariant.later);
      room = omega (
        arith,
        length-append c.read_more.new.room (drop c.min-wanted.result c.loop-iteration.room),
        length-take {A = ℕ} c.min-wanted.result c.loop-iteration.room,
        length-drop {A = ℕ} c.min-wanted.result c.loop-iteration.room,
        c.read_more.auto.room,
        c.loop-iteration.invariant.room,
      );
    }
