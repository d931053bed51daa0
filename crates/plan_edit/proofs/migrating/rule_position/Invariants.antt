-- Those before are for other types.
use Rattle.std.proofs.Common.{◌≡◌, drop}
use Rattle.plan_edit.specs.Migrating.{rule_of}
use Rattle.plan_edit.proofs.migrating.rule_position.Given as goal

abbrev pub invariant-loop-position : goal.invariant-loop-position
invariant-loop-position l = rule_of l.rules l.kind ≡ rule_of (drop l.position l.rules) l.kind
