-- What a choice between source and target comes to.
use Rattle.std.specs.Prelude.{◌≡◌, Option, Result, Ok, Err}
use Rattle.aerie_base.specs.declared.plans.Directive.{Directive}
use Rattle.aerie_base.specs.declared.plans.Plan.{Plan}
use Rattle.aerie_base.specs.plans.OfModel.{with_id}
use Rattle.plan_merge.specs.declared.answers.ConflictKind.{ConflictKind}
use Rattle.plan_merge.specs.declared.table.Choice.{Choice}
use Rattle.plan_merge.specs.declared.table.Choice.TheVariants.{Target, Source, Clash}
use Rattle.plan_merge.specs.Table.{row}
use Rattle.plan_merge.specs.Merging.{source_with}

-- the source's or the target's directive, as far as it is there, or the conflict
abbrev pub chosen_directive : Choice → Option Directive → Option Directive → Result (Option Directive) ConflictKind
chosen_directive Target source target = Ok target
chosen_directive Source source target = Ok source
chosen_directive (Clash kind) source target = Err kind

-- it is the choice for a directive of the base, by what source and target have for it
abbrev pub IsChoice : Choice → Directive → Option Directive → Option Directive → Type 0
IsChoice choice base source target = chosen_directive choice source target ≡ row base source target

-- it is the choice for a directive of the base of three plans
abbrev pub IsChoiceOf : Plan → Plan → Plan → Directive → Choice → Type 0
IsChoiceOf base source target directive choice =
    IsChoice choice directive (source_with base source target directive.id) (with_id target.directives directive.id)
