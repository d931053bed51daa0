use Rattle.std.proofs.Common.{◌≡◌, length, List, ℕ, ap, arith}
use Rattle.std.proofs.lemmas.Bool.Decides.{nat_tests}
use Rattle.live_tasks.proofs.SortedReadies.{none_or_first, none_ready, no_length}
use Rattle.live_tasks.proofs.listed_slots.ListedSlots.is_ready.Goals as goal

pub returns-clause-some : goal.returns-clause-some
returns-clause-some c = λ e.
    none_or_first _ _ c.requires.alone (λ none.
    let long = c.args.self.now.readies.ok.0 in
    let k = c.is_empty.ensures in
    let l : length c.args.self.now.readies.items ≡ 0 = ap (λ (r : List ℕ). length r) none in grind (arith, nat_tests))

pub returns-clause-none : goal.returns-clause-none
returns-clause-none c = λ e.
    none_ready _ c.args.self.now.readies.items c.requires.all.readies_.all
    (no_length _ (let long = c.args.self.now.readies.ok.0 in let k = c.is_empty.ensures in grind (arith, nat_tests)))
