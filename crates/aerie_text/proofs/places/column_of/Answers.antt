-- Each character is one further in its line, or the line feed behind which a line begins.
use Rattle.std.proofs.Common.{◌+◌, ◌∙◌, length, ap, sym, arith}
use Rattle.std.specs.Str.{chars}
use Rattle.std.proofs.lemmas.Iterator.{YieldsList-from_chars}
use Rattle.std.proofs.lemmas.Iterator.Consumers.{YieldsList-turn, YieldsList-end}
use Rattle.std.proofs.lemmas.List.{length_push, take_all}
use Rattle.aerie_text.specs.Places.{column_of}
use Rattle.aerie_text.proofs.Columns.{chars_within, column_again, column_on, column_within}
use Rattle.aerie_text.proofs.places.column_of.Goals as goal

pub overflow_add-column : goal.overflow_add-column
overflow_add-column c =
    let at = YieldsList-turn (YieldsList-from_chars c.args.text.now c.utf8.text cc) c.loop-c.yielded _ c.loop-c.yielded_by _ _ c.in-Some.c c.in-Some.is c.next.ensures.steps in
    let short = chars_within c.args.text.now c.utf8.text in
    let column = column_within (chars c.args.text.now) (length c.loop-c.yielded) (omega (arith, at.0)) in
    omega (arith, c.loop-c.invariant, column, short, at.0, c.requires)

pub loop-c-preserved-then-c-eq10 : goal.loop-c-preserved-then-c-eq10
loop-c-preserved-then-c-eq10 c =
    let at = YieldsList-turn (YieldsList-from_chars c.args.text.now c.utf8.text cc) c.loop-c.yielded _ c.loop-c.yielded_by _ _ c.in-Some.c c.in-Some.is c.next.ensures.steps in
    rw (length_push c.loop-c.yielded c.in-Some.c)
    (sym (column_again (chars c.args.text.now) (length c.loop-c.yielded) c.in-Some.c at c.if-c-eq10.true))

pub loop-c-preserved : goal.loop-c-preserved
loop-c-preserved c =
    let at = YieldsList-turn (YieldsList-from_chars c.args.text.now c.utf8.text cc) c.loop-c.yielded _ c.loop-c.yielded_by _ _ c.in-Some.c c.in-Some.is c.next.ensures.steps in
    rw (length_push c.loop-c.yielded c.in-Some.c)
    (ap (λ n. n + 1) c.loop-c.invariant ∙ sym (column_on (chars c.args.text.now) (length c.loop-c.yielded) c.in-Some.c at c.if-c-eq10.false))

pub returns : goal.returns
returns c =
    let at = YieldsList-end (YieldsList-from_chars c.args.text.now c.utf8.text cc) c.loop-c.yielded _ c.loop-c.yielded_by _ _ c.in-None.is c.next.ensures.steps in
    c.loop-c.invariant ∙ ap column_of (take_all (length c.loop-c.yielded) (chars c.args.text.now) (omega (arith, at.1)))
