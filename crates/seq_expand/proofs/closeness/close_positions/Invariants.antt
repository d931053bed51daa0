-- The positions so far, with what is known of the commands so far, and those of the commands behind.
use Rattle.std.proofs.Common.{◌≡◌, ℕ, List, [], ◌++◌, drop}
use Rattle.std.specs.HashMap as hash
use Rattle.aerie_base.specs.models.Names.{same_name}
use Rattle.seq_expand.specs.declared.sequence.Sent.{Sent}
use Rattle.seq_expand.specs.Closeness.{close_from}
use Rattle.seq_expand.specs.Spaced.{spaced_behind}
use Rattle.seq_expand.proofs.closeness.close_positions.Given as goal

abbrev pub invariant-loop-at : goal.invariant-loop-at
invariant-loop-at l = record {
  before : List Sent;
  known : (name : List ℕ) → hash.get same_name l.spaced name ≡ spaced_behind l.spacings before name;
  positions : l.positions ++ close_from l.spacings l.at before (drop l.at l.commands) ≡ close_from l.spacings 0 [] l.commands;
}
