use Rattle.std.proofs.Common.{◌<◌, ◌≤◌, ℤ, Vec, Global, sym, ap, subst, ◌∙◌, arith}
use Rattle.std.specs.Int.RustNames.{unsigned_abs}
use Rattle.std.proofs.lemmas.Grind.{common_steps}
use mir.Syntax.{w128}
use mir.Val.{to_z}
use Rattle.goals.proofs.Spreading.{at_first, at_last, next_is, not_far, past_bound, plain, within_bound}
use Rattle.goals.proofs.candidate_times.times_of.Goals as goal
use Rattle.goals.proofs.candidate_times.times_of.Goals.{then-admits+in_ok-push, else-admits}

pub loop-init : goal.loop-init
loop-init c =
    let first = c.requires.first in
    let is = plain c.args.spread.now.first (omega (arith, first)) in
    record {
      so_far = at_first _ _ _ _ _ is c.new-times.ensures.items;
      small = subst (λ (z : ℤ). unsigned_abs z ≤ 100_000_000_000_000_000_000) (sym is) first;
    }

pub loop-preserved : goal.loop-preserved
loop-preserved c =
    let small = c.loop.invariant.small in
    let below : c.loop.counter < 100 = grind (arith, common_steps) in
    let next = next_is c.loop.counter (to_z w128 c.loop.time-bits) c.args.spread.now.step below small c.requires.step in
    let near = not_far c.loop.counter (to_z w128 c.loop.time-bits) _ c.args.spread.now.step small c.requires.step next in
    elim c.if-admits.branch [
      | then-admits+in_ok-push w ↦ record {
        so_far = within_bound _ _ c.loop.counter _ _ _ _ _ below (sym c.admits.ensures ∙ w.if-admits.true) next (ap (λ (v : Vec ℤ Global). v.items) w.times-is ∙ w.in_ok-push.ensures.items) c.loop.invariant.so_far;
        small = near;
      }
      | else-admits w ↦ record {
        so_far = past_bound _ _ c.loop.counter _ _ _ _ _ below (sym c.admits.ensures ∙ w.if-admits.false) next (ap (λ (v : Vec ℤ Global). v.items) w.times-is) c.loop.invariant.so_far;
        small = near;
      }
    ]

pub returns : goal.returns
returns c =
    let past : 100 ≤ c.loop.counter = grind (arith, common_steps) in
    at_last _ _ _ _ _ _ past c.loop.invariant.so_far
