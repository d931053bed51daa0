use Rattle.hangar_core.proofs.Working.{changed_names, changed_stays}
use Rattle.hangar_core.proofs.workspaces.changed_at.Goals as goal

pub returns-clause-stays : goal.returns-clause-stays
returns-clause-stays c = λ duration on h.
    changed_stays c.args.models.now duration c.branches.inside.items.items c.args.branches.now c.args.at c.index_mut-branch.result.now c.changed.new.branch
    c.branches.view_is c.requires.within c.index_mut-branch.ensures.value (c.changed.ensures.stays duration on) h

pub returns-clause-names : goal.returns-clause-names
returns-clause-names c =
    changed_names c.branches.inside.items.items c.args.branches.now c.args.at c.index_mut-branch.result.now c.changed.new.branch
    c.branches.view_is c.requires.within c.index_mut-branch.ensures.value c.changed.ensures.name
