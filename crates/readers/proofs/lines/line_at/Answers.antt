-- The bytes before the place have as many line feeds as the characters there.
use Rattle.std.proofs.Common.{ℕ, ◌+◌, List, take, arith, ◌∙◌, ap}
use Rattle.std.specs.List.{count_by}
use Rattle.readers.proofs.Feeds.{feeds_before, few_feeds, is_feed}
use Rattle.readers.proofs.lines.line_at.Goals as goal

pub overflow_cast-result : goal.overflow_cast-result
overflow_cast-result c =
    let count = c.feeds-count.ensures ∙ ap (λ (bytes : List ℕ). count_by is_feed (take c.args.at bytes)) c.as_bytes.ensures.value in
    omega (arith, few_feeds c.args.text.now c.args.at c.requires.edge, c.requires.short, count)

pub overflow_add-result : goal.overflow_add-result
overflow_add-result c =
    let count = c.feeds-count.ensures ∙ ap (λ (bytes : List ℕ). count_by is_feed (take c.args.at bytes)) c.as_bytes.ensures.value in
    omega (arith, few_feeds c.args.text.now c.args.at c.requires.edge, c.requires.short, count)

pub returns : goal.returns
returns c =
    let count = c.feeds-count.ensures ∙ ap (λ (bytes : List ℕ). count_by is_feed (take c.args.at bytes)) c.as_bytes.ensures.value in
    ap (λ (n : ℕ). n + 1) count ∙ feeds_before c.args.text.now c.args.at c.utf8.text c.requires.edge
