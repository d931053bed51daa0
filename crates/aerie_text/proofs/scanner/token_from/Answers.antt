-- The token lies within the text.
use Rattle.std.proofs.Common.{drop, ap, ◌∙◌, sym, arith}
use Rattle.std.proofs.lemmas.List.{length-drop}
use Rattle.aerie_text.specs.TokenAt.{token_at}
use Rattle.aerie_text.proofs.Beginnings.{Facts, token_facts}
use Rattle.aerie_text.proofs.scanner.token_from.Goals as goal
use Rattle.aerie_text.proofs.scanner.token_from.Goals.{In-Some}

facts : (c : In-Some) → Facts (drop c.args.at c.args.bytes.now) c.in-Some.len
facts c =
    token_facts (drop c.args.at c.args.bytes.now) c.in-Some.kind c.in-Some.len
    (ap token_at (sym c.rest_at.ensures) ∙ sym c.token_at.ensures ∙ c.in-Some.is)

pub overflow_add-result : goal.overflow_add-result
overflow_add-result c =
    let found = facts c in
    omega (arith, found.within, length-drop c.args.at c.args.bytes.now)

pub returns-in-Some-clause-within : goal.returns-in-Some-clause-within
returns-in-Some-clause-within c =
    let found = facts c in
    (omega (arith, found.positive), omega (arith, found.within, length-drop c.args.at c.args.bytes.now))
