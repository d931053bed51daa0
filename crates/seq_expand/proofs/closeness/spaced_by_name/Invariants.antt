-- The spacings from this one on are in.
use Rattle.std.proofs.Common.{◌≡◌, ◌≤◌, ℕ, List, [], drop, length}
use Rattle.std.specs.HashMap as hash
use Rattle.aerie_base.specs.models.Names.{same_name}
use Rattle.seq_expand.specs.Spaced.{spaced_behind}
use Rattle.seq_expand.proofs.closeness.spaced_by_name.Given as goal

abbrev pub invariant-loop-at : goal.invariant-loop-at
invariant-loop-at l = record {
  within : l.at ≤ length l.spacings;
  known : (name : List ℕ) → hash.get same_name l.spaced name ≡ spaced_behind (drop l.at l.spacings) [] name;
}

abbrev pub decreases-loop-at : goal.decreases-loop-at
decreases-loop-at l = l.at
