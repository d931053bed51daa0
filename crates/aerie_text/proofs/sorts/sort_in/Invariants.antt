-- What the rest of the table gives is what the whole table gives.
use Rattle.std.proofs.Common.{◌≡◌, map, drop}
use Rattle.aerie_text.specs.Sorts.{sort_in}
use Rattle.aerie_text.proofs.sorts.sort_in.Given as goal

abbrev pub invariant-loop-word : goal.invariant-loop-word
invariant-loop-word l =
    sort_in (map (λ entry. (entry.0.now, entry.1)) (drop l.word-index l.table)) l.otherwise l.text
    ≡ sort_in (map (λ entry. (entry.0.now, entry.1)) l.table) l.otherwise l.text
