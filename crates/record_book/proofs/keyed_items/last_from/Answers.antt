use Rattle.std.proofs.Common.{length, refl, arith}
use Rattle.std.proofs.lemmas.Option.{slice_get_read}
use Rattle.record_book.proofs.Chaining.{search_begins, search_ended, search_found, search_goes_on, search_is_shorter, search_within}
use Rattle.record_book.proofs.keyed_items.last_from.Goals as goal

pub loop-next-init : goal.loop-next-init
loop-next-init g c = search_begins c.args.items.now (length c.args.newest.now) c.args.before c.args.key c.args.first c.requires.first

pub offset_bounds-items-at : goal.offset_bounds-items-at
offset_bounds-items-at g c =
    let within =
    search_within c.args.items.now (length c.args.newest.now) c.args.before c.args.key c.loop-next.next c.loop-next.invariant c.in-Some.at c.in-Some.is in
    omega arith

pub bounds-items-at : goal.bounds-items-at
bounds-items-at g c =
    search_within c.args.items.now (length c.args.newest.now) c.args.before c.args.key c.loop-next.next c.loop-next.invariant c.in-Some.at c.in-Some.is

pub returns-then-keyed-key : goal.returns-then-keyed-key
returns-then-keyed-key g c =
    let within =
    search_within c.args.items.now (length c.args.newest.now) c.args.before c.args.key c.loop-next.next c.loop-next.invariant c.in-Some.at c.in-Some.is in
    let there = slice_get_read c.args.items.now (length c.args.items.now) c.in-Some.at c.index-items-at.result refl within c.index-items-at.is in
    search_found c.args.items.now (length c.args.newest.now) c.args.before c.args.key c.loop-next.next c.loop-next.invariant c.in-Some.at c.in-Some.is
    c.index-items-at.result there c.if-keyed-key.true

pub loop-next-smaller : goal.loop-next-smaller
loop-next-smaller g c =
    let within =
    search_within c.args.items.now (length c.args.newest.now) c.args.before c.args.key c.loop-next.next c.loop-next.invariant c.in-Some.at c.in-Some.is in
    let there = slice_get_read c.args.items.now (length c.args.items.now) c.in-Some.at c.index-items-at.result refl within c.index-items-at.is in
    search_is_shorter c.args.items.now (length c.args.newest.now) c.args.before c.args.key c.loop-next.next c.loop-next.invariant c.in-Some.at c.in-Some.is
    c.index-items-at.result there c.args.newest.now c.requires.chained.linked

pub loop-next-preserved : goal.loop-next-preserved
loop-next-preserved g c =
    let within =
    search_within c.args.items.now (length c.args.newest.now) c.args.before c.args.key c.loop-next.next c.loop-next.invariant c.in-Some.at c.in-Some.is in
    let there = slice_get_read c.args.items.now (length c.args.items.now) c.in-Some.at c.index-items-at.result refl within c.index-items-at.is in
    search_goes_on c.args.items.now (length c.args.newest.now) c.args.before c.args.key c.loop-next.next c.loop-next.invariant c.in-Some.at c.in-Some.is
    c.index-items-at.result there c.args.newest.now c.requires.chained.linked c.if-keyed-key.false

pub returns : goal.returns
returns g c =
    search_ended c.args.items.now (length c.args.newest.now) c.args.before c.args.key c.loop-next.next c.loop-next.invariant c.in_default.not-Some
