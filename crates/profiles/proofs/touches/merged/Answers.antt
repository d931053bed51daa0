use Rattle.std.proofs.Common.{List, ℕ, ap, arith, drop, ◌++◌, ◌∙◌}
use Rattle.profiles.proofs.Noting.{merged_first, merged_second, rest_is}
use Rattle.profiles.proofs.touches.merged.Goals as goal
use Rattle.profiles.proofs.touches.merged.Goals.{then-loop-at-test+else-beside-other, else-loop-at-test}

pub returns : goal.returns
returns c =
    let one = c.args.one.now in
    let other = c.args.other.now in
    let at = c.loop-at.at in
    let beside = c.loop-at.beside in
    let made = c.loop-at.merged.items in
    c.in_ok-extend_from_slice-2.ensures.items
    ∙ (ap (λ (l : List ℕ). c.extend_from_slice.new.self.items ++ l) (rest_is other beside)
    ∙ (ap (λ (l : List ℕ). l ++ drop beside other) (c.in_ok-extend_from_slice.ensures.items ∙ ap (λ (l : List ℕ). made ++ l) (rest_is one at))
    ∙ (elim c.loop-at-test.branch [
      | then-loop-at-test+else-beside-other w ↦ merged_second made one other at beside (omega (arith, w.if-beside-other.false))
      | else-loop-at-test w ↦ merged_first made one other at beside (omega (arith, w.loop-at-test.false))
    ] ∙ c.loop-at.invariant.whole)))
