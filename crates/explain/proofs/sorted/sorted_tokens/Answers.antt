-- The bytes are text, or not.
use Rattle.std.proofs.Common.{◌∙◌, sym}
use Rattle.explain.proofs.Whole.{tokens_of_no_text, tokens_of_text}
use Rattle.explain.proofs.sorted.sorted_tokens.Goals as goal

pub returns-in-Ok : goal.returns-in-Ok
returns-in-Ok c =
    rw (tokens_of_text c.args.bytes.now c.in-Ok.ensures.cases.1) (rw (← c.in-Ok.ensures.cases.0) c.sorted_cut.ensures)

pub returns-in-Err : goal.returns-in-Err
returns-in-Err c = c.new.ensures.items ∙ sym (tokens_of_no_text c.args.bytes.now c.in-Err.ensures.cases.0)
