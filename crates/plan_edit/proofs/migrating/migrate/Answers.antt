use Rattle.std.proofs.Common.{ap, sym, ◌∙◌}
use Rattle.plan_edit.specs.Migrating.{all_migrated}
use Rattle.plan_edit.proofs.Migrations.{migrated_plan}
use Rattle.plan_edit.proofs.migrating.migrate.Goals as goal

pub returns-clause-plan : goal.returns-clause-plan
returns-clause-plan c =
    migrated_plan c.args.old.now c.args.new.now c.args.mapping.now c.requires.mapping c.args.plan.now c.requires.plan c.in_ok-directives.directives
    (ap (all_migrated c.args.new.now c.args.mapping.now) (sym c.as_slice-2.ensures) ∙ c.in_ok-directives.ensures)
