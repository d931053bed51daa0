use Rattle.std.proofs.Common.{ap, sym, ◌∙◌}
use Rattle.hangar_core.specs.Workspaces.{has_name}
use Rattle.hangar_core.proofs.EditedBranches.{found_at}
use Rattle.hangar_core.proofs.workspaces.position_of.Goals as goal

pub returns-then-eq-clause-found : goal.returns-then-eq-clause-found
returns-then-eq-clause-found c =
    found_at (has_name c.args.name.now) c.args.branches.now c.loop-at.at c.index-branches-at.result c.loop-at-test.true c.index-branches-at.is
    c.loop-at.invariant (ap (has_name c.args.name.now) c.index-branches-at.is ∙ sym c.eq.ensures ∙ c.if-eq.true)
