use Rattle.std.proofs.Common.{List, slice_get, subst}
use Rattle.hangar_core.specs.declared.branches.Branch.{Branch}
use Rattle.hangar_core.specs.Opening.{IsForkOf}
use Rattle.hangar_core.proofs.Working.{forked_stands}
use Rattle.hangar_core.proofs.workspaces.Workspace.fork_from.Goals as goal

pub add_branch-requires-clause-stands : goal.add_branch-requires-clause-stands
add_branch-requires-clause-stands c =
    forked_stands c.args.self.now.models c.args.self.now.duration c.args.self.now.branches c.args.at c.in_ok-branch.branch c.args.name c.first-revision.result
    c.requires.workspace.branches
    (subst (λ (bs : List Branch). IsForkOf c.in_ok-branch.branch c.args.name c.first-revision.result (slice_get bs c.args.at)) c.as_slice.ensures c.in_ok-branch.ensures)
