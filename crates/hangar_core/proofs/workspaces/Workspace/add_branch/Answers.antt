use Rattle.hangar_core.proofs.Working.{added_stands}
use Rattle.hangar_core.proofs.workspaces.Workspace.add_branch.Goals as goal

pub returns-clause-stands : goal.returns-clause-stands
returns-clause-stands c =
    added_stands c.args.self.now c.args.branch c.push.new.self c.requires.workspace c.requires.free c.requires.stands c.in_ok-push.ensures.pushed
