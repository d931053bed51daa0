use Rattle.std.proofs.Common.{◌∙◌, ap, Err, sym}
use Rattle.session_judge.proofs.Whole.{by_text, no_text, too_large}
use Rattle.session_judge.proofs.judging.judge.Goals as goal

pub returns-then-bytes-gt-MOST_BYTES-clause-exact : goal.returns-then-bytes-gt-MOST_BYTES-clause-exact
returns-then-bytes-gt-MOST_BYTES-clause-exact c =
    too_large c.args.bytes.now c.if-bytes-gt-MOST_BYTES.true ∙ ap Err (sym c.in_ok-named_refusal.ensures)

pub returns-in-Ok-clause-exact : goal.returns-in-Ok-clause-exact
returns-in-Ok-clause-exact c =
    let whole = by_text c.args.bytes.now c.if-bytes-gt-MOST_BYTES.false c.in-Ok.ensures.cases.1 in
    rw whole (rw (← c.in-Ok.ensures.cases.0) c.judge_text.ensures.exact)

pub returns-in_ok-told_offset-in-Err-clause-exact : goal.returns-in_ok-told_offset-in-Err-clause-exact
returns-in_ok-told_offset-in-Err-clause-exact c =
    no_text c.args.bytes.now c.if-bytes-gt-MOST_BYTES.false c.in-Err.ensures.cases.0 ∙ ap Err (sym (rw (c.valid_up_to.ensures, c.in-Err.ensures.valid_len) at c.in_ok-told_offset-in-Err.ensures))
