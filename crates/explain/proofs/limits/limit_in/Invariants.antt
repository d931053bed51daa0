-- What the rest of the table gives is what the whole table gives.
use Rattle.std.proofs.Common.{◌≡◌, map, drop}
use Rattle.explain.specs.LimitCauses.{limit_in}
use Rattle.explain.proofs.limits.limit_in.Given as goal

abbrev pub invariant-loop-name : goal.invariant-loop-name
invariant-loop-name l =
    limit_in (map (λ entry. (entry.0.now, entry.1)) (drop l.name-index l.table)) l.word ≡ limit_in (map (λ entry. (entry.0.now, entry.1)) l.table) l.word
