-- As many characters pass the test as there are line feeds.
use Rattle.std.proofs.Common.{ℕ, ◌+◌, ◌==◌, ◌∙◌, ap, rules, tests}
use Rattle.std.specs.Str.{chars}
use Rattle.std.proofs.lemmas.Iterator.{YieldsList-from_chars}
use Rattle.std.proofs.lemmas.Iterator.Consumers.{YieldsList-from_filter, count_from_yields_List}
use Rattle.std.proofs.lemmas.List.Sums.{length-filter}
use Rattle.aerie_text.proofs.places.line_number.Goals as goal

pub returns : goal.returns
returns c =
    let cs = chars c.args.text.now in
    let count = count_from_yields_List c.filter.result _ c.count-count.ensures.ran (YieldsList-from_filter _ (λ (x : ℕ). x == 10) (YieldsList-from_chars c.args.text.now c.utf8.text cc) c.filter.ensures.closure (λ x r q k. search (rules, tests))) in
    ap (λ (n : ℕ). n + 1) (count ∙ length-filter (λ (x : ℕ). x == 10) cs)
