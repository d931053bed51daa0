-- What those so far get, and those behind.
use Rattle.std.proofs.Common.{◌≡◌, ◌++◌, map, drop}
use Rattle.aerie_base.specs.declared.models.Parameter.{Parameter}
use Rattle.plan_edit.specs.Migrating.{mapped_arguments as mapped_arguments_by}
use Rattle.plan_edit.proofs.migrating.mapped_arguments.Given as goal

abbrev pub invariant-loop-position : goal.invariant-loop-position
invariant-loop-position l =
    l.values ++ mapped_arguments_by l.arguments (map (λ (parameter : Parameter). parameter.kind) (drop l.position l.parameters)) (drop l.position l.feeds)
    ≡ mapped_arguments_by l.arguments (map (λ (parameter : Parameter). parameter.kind) l.parameters) l.feeds
