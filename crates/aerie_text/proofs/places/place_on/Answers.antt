-- Each character is one further in its line, or the line feed behind which the next line begins.
use Rattle.std.proofs.Common.{◌≡◌, ℕ, ◌+◌, ◌∙◌, [], ◌∷◌, ◌++◌, length, refl, ap, sym, arith}
use Rattle.std.proofs.lemmas.Iterator.{YieldsList-from_chars}
use Rattle.std.proofs.lemmas.Iterator.Consumers.{YieldsList-turn, YieldsList-end}
use Rattle.std.proofs.lemmas.List.{length_push}
use Rattle.aerie_text.specs.Places.{chars_before, column_of, line_number}
use Rattle.aerie_text.proofs.Between.{all_between, before_within, line_on, line_same, line_within, none_between, stands_before}
use Rattle.aerie_text.proofs.Columns.{column_again, column_on, column_within}
use Rattle.aerie_text.proofs.places.place_on.Goals as goal

pub loop-c-init : goal.loop-c-init
loop-c-init c =
    let before = none_between c.args.text.now c.args.from c.args.to c.utf8.text c.requires.rises c.requires.begins in
    record {
      line = ap (λ place. place.line) c.requires.place ∙ sym (ap line_number before);
      column = ap (λ place. place.column) c.requires.place ∙ sym (ap column_of before);
    }

pub overflow_add-line : goal.overflow_add-line
overflow_add-line c =
    let between = YieldsList-turn (YieldsList-from_chars c.range.result.now c.range.utf8 cc) c.loop-c.yielded _ c.loop-c.yielded_by _ _ c.in-Some.c c.in-Some.is c.next.ensures.steps in
    let at = stands_before c.args.text.now c.range.result.now c.args.from c.args.to (length c.loop-c.yielded) c.in-Some.c c.utf8.text c.requires.rises c.requires.begins c.range.ensures.value between in
    let all = chars_before c.args.text.now c.args.to in
    let n = length (chars_before c.args.text.now c.args.from) + length c.loop-c.yielded in
    let short = before_within c.args.text.now c.args.to c.utf8.text c.requires.ends in
    omega (arith, c.loop-c.invariant.line, line_within all n (omega (arith, at.0)), short, at.0, c.requires.short)

pub overflow_add-column : goal.overflow_add-column
overflow_add-column c =
    let between = YieldsList-turn (YieldsList-from_chars c.range.result.now c.range.utf8 cc) c.loop-c.yielded _ c.loop-c.yielded_by _ _ c.in-Some.c c.in-Some.is c.next.ensures.steps in
    let at = stands_before c.args.text.now c.range.result.now c.args.from c.args.to (length c.loop-c.yielded) c.in-Some.c c.utf8.text c.requires.rises c.requires.begins c.range.ensures.value between in
    let all = chars_before c.args.text.now c.args.to in
    let n = length (chars_before c.args.text.now c.args.from) + length c.loop-c.yielded in
    let short = before_within c.args.text.now c.args.to c.utf8.text c.requires.ends in
    omega (arith, c.loop-c.invariant.column, column_within all n (omega (arith, at.0)), short, at.0, c.requires.short)

pub loop-c-preserved-then-c-eq10 : goal.loop-c-preserved-then-c-eq10
loop-c-preserved-then-c-eq10 c =
    let between = YieldsList-turn (YieldsList-from_chars c.range.result.now c.range.utf8 cc) c.loop-c.yielded _ c.loop-c.yielded_by _ _ c.in-Some.c c.in-Some.is c.next.ensures.steps in
    let at = stands_before c.args.text.now c.range.result.now c.args.from c.args.to (length c.loop-c.yielded) c.in-Some.c c.utf8.text c.requires.rises c.requires.begins c.range.ensures.value between in
    let all = chars_before c.args.text.now c.args.to in
    let n = length (chars_before c.args.text.now c.args.from) + length c.loop-c.yielded in
    let here : length (chars_before c.args.text.now c.args.from) + length (c.loop-c.yielded ++ c.in-Some.c ∷ []) ≡ n + 1 = omega (arith, length_push c.loop-c.yielded c.in-Some.c) in
    rw here
    (record {
      line = ap (λ (m : ℕ). m + 1) c.loop-c.invariant.line ∙ sym (line_on all n c.in-Some.c at c.if-c-eq10.true);
      column = sym (column_again all n c.in-Some.c at c.if-c-eq10.true);
    })

pub loop-c-preserved : goal.loop-c-preserved
loop-c-preserved c =
    let between = YieldsList-turn (YieldsList-from_chars c.range.result.now c.range.utf8 cc) c.loop-c.yielded _ c.loop-c.yielded_by _ _ c.in-Some.c c.in-Some.is c.next.ensures.steps in
    let at = stands_before c.args.text.now c.range.result.now c.args.from c.args.to (length c.loop-c.yielded) c.in-Some.c c.utf8.text c.requires.rises c.requires.begins c.range.ensures.value between in
    let all = chars_before c.args.text.now c.args.to in
    let n = length (chars_before c.args.text.now c.args.from) + length c.loop-c.yielded in
    let here : length (chars_before c.args.text.now c.args.from) + length (c.loop-c.yielded ++ c.in-Some.c ∷ []) ≡ n + 1 = omega (arith, length_push c.loop-c.yielded c.in-Some.c) in
    rw here
    (record {
      line = c.loop-c.invariant.line ∙ sym (line_same all n c.in-Some.c at c.if-c-eq10.false);
      column = ap (λ (m : ℕ). m + 1) c.loop-c.invariant.column ∙ sym (column_on all n c.in-Some.c at c.if-c-eq10.false);
    })

pub returns : goal.returns
returns c =
    let end = YieldsList-end (YieldsList-from_chars c.range.result.now c.range.utf8 cc) c.loop-c.yielded _ c.loop-c.yielded_by _ _ c.in-None.is c.next.ensures.steps in
    let whole = all_between c.args.text.now c.range.result.now c.args.from c.args.to (length c.loop-c.yielded) c.utf8.text c.requires.rises c.requires.begins c.range.ensures.value end.1 in
    let line = c.loop-c.invariant.line ∙ ap line_number whole in
    let column = c.loop-c.invariant.column ∙ ap column_of whole in
    rw (line, column) refl
