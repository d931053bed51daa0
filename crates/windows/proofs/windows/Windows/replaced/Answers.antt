use Rattle.std.proofs.Common.{◌≡◌, ◌≤◌, ℕ, ap, subst, sym}
use Rattle.windows.specs.Times.{TimeSet}
use Rattle.windows.proofs.Splices.{three_pieces}
use Rattle.windows.proofs.windows.Windows.replaced.Goals as goal

pub returns-clause-times : goal.returns-clause-times
returns-clause-times c =
    let reach : c.self.inside.reach ≡ c.args.self.now.reach = ap (λ (w : TimeSet). w.reach) c.self.view_is in
    three_pieces c.self.inside.reach c.args.self.now.intervals c.args.other.now.intervals _ _ _ c.args.from c.args.to c.requires.span (subst (λ (n : ℕ). c.args.to ≤ n) (sym reach) c.requires.within)
    (rw (c.new-intervals.ensures, c.zero.ensures) at c.in_ok-join_between.ensures) c.in_ok-join_between-2.ensures c.in_ok-join_between-3.ensures
