use Rattle.std.proofs.Common.{◌<◌, ◌^◌, arith, subst, sym}
use Rattle.std.specs.List.{AllByRecursion}
use Rattle.hangar_core.specs.Opening.{LastRevisions}
use Rattle.hangar_core.proofs.Working.{few_last}
use Rattle.hangar_core.proofs.last_revisions.LastRevisions.first.Goals as goal

pub overflow_add-result : goal.overflow_add-result
overflow_add-result c =
    let h = few_last _ c.self.inside.revisions.entries c.in-Some.last.now
    (subst (λ (d : LastRevisions). AllByRecursion (λ l. l.1 < 2 ^ 63) d) (sym c.self.view_is) c.requires.few) (sym c.in-Some.ensures.value) in
    omega (arith, h)
