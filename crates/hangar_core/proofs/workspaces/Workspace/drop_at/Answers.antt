use Rattle.std.proofs.Common.{List, slice_get, subst}
use Rattle.hangar_core.specs.declared.branches.Branch.{Branch}
use Rattle.hangar_core.specs.Edits.{IsRevisionOf}
use Rattle.hangar_core.proofs.Working.{dropped_made, dropped_stands}
use Rattle.hangar_core.proofs.workspaces.Workspace.drop_at.Goals as goal

pub returns-clause-made : goal.returns-clause-made
returns-clause-made c =
    dropped_made c.args.self.now c.args.name c.args.at c.revision_at-revision.result c.take_out.new.branches c.remember.new.self
    c.requires.workspace c.requires.found c.requires.within
    (subst (λ (bs : List Branch). IsRevisionOf c.revision_at-revision.result (slice_get bs c.args.at)) c.as_slice.ensures c.revision_at-revision.ensures)
    c.take_out.ensures c.in_ok-remember.ensures.remembered

pub returns-clause-stands : goal.returns-clause-stands
returns-clause-stands c =
    dropped_stands c.args.self.now c.args.at c.take_out.new.branches c.remember.new.self c.requires.workspace c.take_out.ensures
