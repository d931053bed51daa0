use Rattle.hangar_core.proofs.Working.{shown_made, shown_stands}
use Rattle.hangar_core.proofs.workspaces.Workspace.on_branch.Goals as goal

pub returns-in-Some-clause-made : goal.returns-in-Some-clause-made
returns-in-Some-clause-made c =
    shown_made c.changed_at.result c.args.self.now c.args.name.now c.in-Some.at c.args.change c.changed_at.new.branches c.requires.workspace
    c.as_slice-in-Some.result.now c.as_slice-in-Some-2.result.now c.as_slice.result.now c.as_slice-in-Some.ensures c.as_slice-in-Some-2.ensures c.as_slice.ensures
    c.in-Some.ensures.within c.in-Some.ensures.found c.changed_at.ensures.made

pub returns-in-Some-clause-stands : goal.returns-in-Some-clause-stands
returns-in-Some-clause-stands c =
    shown_stands c.args.self.now c.changed_at.new.branches c.requires.workspace c.as_slice-in-Some.result.now c.as_slice-in-Some.ensures
    c.changed_at.ensures.names c.args.change c.requires.change c.changed_at.ensures.stays
