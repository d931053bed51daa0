use Rattle.std.proofs.Common.{◌∙◌, rules, sym}
use Rattle.std.proofs.lemmas.Fn.{filter_same}
use Rattle.live_tasks.proofs.ListedNumbers.{among_is}
use Rattle.live_tasks.proofs.listed_slots.keep_ready.Goals as goal

pub returns : goal.returns
returns c =
    filter_same _ _ _ (λ x b f' k. search rules) _ _ c.retain.ensures.filtered
    ∙ sym (among_is c.args.slots.now.slots c.args.numbers.now.items)
