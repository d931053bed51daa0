use Rattle.std.proofs.Common.{Bool, ap, sym, ◌∙◌}
use Rattle.constraints.proofs.Folds.{marks_are}
use Rattle.constraints.proofs.local.is_local.Goals as goal

pub returns : goal.returns
returns c = ap (λ (m : Bool × Bool). m.1) (c.marks.ensures ∙ sym (marks_are c.args.window.now))
