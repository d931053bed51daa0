-- The first path from this one on tells, and where there is none, none is under it.
use Rattle.std.proofs.Common.{sym, subst}
use Rattle.std.specs.declared.ops.Bound.TheVariants.{Included, Unbounded}
use Rattle.std.specs.BTreeSet.{IsKeyRangeOf}
use Rattle.std.proofs.lemmas.Bool.{true≢false}
use Rattle.aerie_base.specs.Paths.{path_cmp}
use Rattle.aerie_base.specs.PathOrder.{first_in_range_tells, empty_range_tells}
use Rattle.aerie_base.proofs.paths.Path.has_any_under.Goals as goal

pub returns-in-Some : goal.returns-in-Some
returns-in-Some c =
    let range = subst (IsKeyRangeOf path_cmp (Included c.args.self.now) Unbounded c.args.paths.now) c.in-Some.ensures.steps (c.range.ensures.in_range tt) in
    rw c.is_under.ensures (first_in_range_tells c.args.paths.now c.args.self.now _ _ range)

pub returns-in-None : goal.returns-in-None
returns-in-None c =
    let range = subst (IsKeyRangeOf path_cmp (Included c.args.self.now) Unbounded c.args.paths.now) c.in-None.ensures.steps.0 (c.range.ensures.in_range tt) in
    (λ is. absurd (true≢false (sym is)), λ any. absurd (empty_range_tells c.args.paths.now c.args.self.now range any))
