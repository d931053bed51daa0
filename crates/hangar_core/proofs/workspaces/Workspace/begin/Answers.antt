use Rattle.std.proofs.Common.{◌∙◌}
use Rattle.hangar_core.proofs.Working.{empty_stands}
use Rattle.hangar_core.proofs.workspaces.Workspace.begin.Goals as goal

pub add_branch-requires-clause-stands : goal.add_branch-requires-clause-stands
add_branch-requires-clause-stands c =
    empty_stands c.args.self.now c.requires.workspace c.args.name c.first-revision.result c.in_ok-plan.plan (c.in_ok-plan.ensures ∙ c.empty_plan.ensures)
