-- Those so far, and those behind.
use Rattle.std.proofs.Common.{◌≡◌, drop}
use Rattle.plan_edit.specs.Migrating.{all_migrated as all_migrated_by}
use Rattle.plan_edit.proofs.Migrations.{joined_on}
use Rattle.plan_edit.proofs.migrating.all_migrated.Given as goal

abbrev pub invariant-loop-directive : goal.invariant-loop-directive
invariant-loop-directive l =
    all_migrated_by l.new l.mapping l.fn.directives ≡ joined_on l.all (all_migrated_by l.new l.mapping (drop l.directive-index l.directives))
