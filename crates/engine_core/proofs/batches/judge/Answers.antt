-- Costs first, then faults, then cells.
use Rattle.std.proofs.Common.{◌≡◌, ◌+◌, ◌∙◌, min, sym, arith}
use Rattle.run_data.specs.Batches.{cost_of}
use Rattle.run_data.specs.Waves.{last_count}
use Rattle.engine_core.specs.BatchOrders.{first_fault}
use Rattle.engine_core.proofs.BatchJudging.{past_the_bound, at_fault, can_commit, end_spends, end_has, few_made}
use Rattle.engine_core.proofs.batches.judge.Goals as goal

pub returns-then-cost-bound-clause-end : goal.returns-then-cost-bound-clause-end
returns-then-cost-bound-clause-end c =
    let costs : c.cost-cost.result ≡ min (cost_of c.args.frames.items) last_count = rw c.as_slice.ensures.value at c.cost-cost.ensures in
    past_the_bound c.args.model.now c.args.bound c.args.spent c.args.cells.now c.args.jobs.now c.args.frames.items c.requires.made
    (omega (arith, costs, c.if-cost-bound.true, c.requires.spent))

pub returns-in-Some-clause-end : goal.returns-in-Some-clause-end
returns-in-Some-clause-end c =
    let costs : c.cost-cost.result ≡ min (cost_of c.args.frames.items) last_count = rw c.as_slice.ensures.value at c.cost-cost.ensures in
    let first : c.in_ok-path.field-0 ≡ first_fault c.in_ok-sorted.sorted.items = rw c.as_slice-2.ensures.value at c.in_ok-path.ensures in
    at_fault c.args.model.now c.args.bound c.args.spent c.args.cells.now c.args.jobs.now c.args.frames.items c.requires.made c.in_ok-sorted.sorted.items c.in-Some.path c.in-Some.fault
    (omega (arith, costs, c.if-cost-bound.false, c.requires.spent, c.requires.bound)) c.in_ok-sorted.ensures (sym c.in-Some.is ∙ first)

pub commit-requires-clause-order : goal.commit-requires-clause-order
commit-requires-clause-order c =
    let costs : c.cost-cost.result ≡ min (cost_of c.args.frames.items) last_count = rw c.as_slice.ensures.value at c.cost-cost.ensures in
    let first : c.in_ok-path.field-0 ≡ first_fault c.in_ok-sorted.sorted.items = rw c.as_slice-2.ensures.value at c.in_ok-path.ensures in
    (can_commit c.args.model.now c.args.bound c.args.spent c.args.cells.now c.args.jobs.now c.args.frames.items c.requires.made
    c.steps_are_small.ensures.small c.steps_are_small.ensures.children c.steps_are_small.ensures.jobs c.order_does_not_matter.ensures.fits c.tree_is_rebuilt.ensures.tree
    c.cells.ensures.valid c.requires.ready c.requires.bound c.in_ok-sorted.sorted.items (omega (arith, costs, c.if-cost-bound.false, c.requires.spent, c.requires.bound)) c.in_ok-sorted.ensures
    (sym c.in_default.is ∙ first)).order

pub commit-requires-clause-few : goal.commit-requires-clause-few
commit-requires-clause-few c =
    let costs : c.cost-cost.result ≡ min (cost_of c.args.frames.items) last_count = rw c.as_slice.ensures.value at c.cost-cost.ensures in
    let first : c.in_ok-path.field-0 ≡ first_fault c.in_ok-sorted.sorted.items = rw c.as_slice-2.ensures.value at c.in_ok-path.ensures in
    (can_commit c.args.model.now c.args.bound c.args.spent c.args.cells.now c.args.jobs.now c.args.frames.items c.requires.made
    c.steps_are_small.ensures.small c.steps_are_small.ensures.children c.steps_are_small.ensures.jobs c.order_does_not_matter.ensures.fits c.tree_is_rebuilt.ensures.tree
    c.cells.ensures.valid c.requires.ready c.requires.bound c.in_ok-sorted.sorted.items (omega (arith, costs, c.if-cost-bound.false, c.requires.spent, c.requires.bound)) c.in_ok-sorted.ensures
    (sym c.in_default.is ∙ first)).few

pub commit-requires-clause-made : goal.commit-requires-clause-made
commit-requires-clause-made c = few_made c.args.model.now c.args.bound c.args.spent c.args.cells.now c.args.jobs.now c.requires.spent c.requires.bound c.requires.ready

pub commit-requires-clause-fits : goal.commit-requires-clause-fits
commit-requires-clause-fits c =
    let costs : c.cost-cost.result ≡ min (cost_of c.args.frames.items) last_count = rw c.as_slice.ensures.value at c.cost-cost.ensures in
    let first : c.in_ok-path.field-0 ≡ first_fault c.in_ok-sorted.sorted.items = rw c.as_slice-2.ensures.value at c.in_ok-path.ensures in
    (can_commit c.args.model.now c.args.bound c.args.spent c.args.cells.now c.args.jobs.now c.args.frames.items c.requires.made
    c.steps_are_small.ensures.small c.steps_are_small.ensures.children c.steps_are_small.ensures.jobs c.order_does_not_matter.ensures.fits c.tree_is_rebuilt.ensures.tree
    c.cells.ensures.valid c.requires.ready c.requires.bound c.in_ok-sorted.sorted.items (omega (arith, costs, c.if-cost-bound.false, c.requires.spent, c.requires.bound)) c.in_ok-sorted.ensures
    (sym c.in_default.is ∙ first)).fits

pub commit-requires-clause-worth : goal.commit-requires-clause-worth
commit-requires-clause-worth c =
    let costs : c.cost-cost.result ≡ min (cost_of c.args.frames.items) last_count = rw c.as_slice.ensures.value at c.cost-cost.ensures in
    let first : c.in_ok-path.field-0 ≡ first_fault c.in_ok-sorted.sorted.items = rw c.as_slice-2.ensures.value at c.in_ok-path.ensures in
    (can_commit c.args.model.now c.args.bound c.args.spent c.args.cells.now c.args.jobs.now c.args.frames.items c.requires.made
    c.steps_are_small.ensures.small c.steps_are_small.ensures.children c.steps_are_small.ensures.jobs c.order_does_not_matter.ensures.fits c.tree_is_rebuilt.ensures.tree
    c.cells.ensures.valid c.requires.ready c.requires.bound c.in_ok-sorted.sorted.items (omega (arith, costs, c.if-cost-bound.false, c.requires.spent, c.requires.bound)) c.in_ok-sorted.ensures
    (sym c.in_default.is ∙ first)).worth

pub returns-clause-end : goal.returns-clause-end
returns-clause-end c =
    let costs : c.cost-cost.result ≡ min (cost_of c.args.frames.items) last_count = rw c.as_slice.ensures.value at c.cost-cost.ensures in
    let first : c.in_ok-path.field-0 ≡ first_fault c.in_ok-sorted.sorted.items = rw c.as_slice-2.ensures.value at c.in_ok-path.ensures in
    c.in_ok-end.ensures.end
    ∙ (can_commit c.args.model.now c.args.bound c.args.spent c.args.cells.now c.args.jobs.now c.args.frames.items c.requires.made
    c.steps_are_small.ensures.small c.steps_are_small.ensures.children c.steps_are_small.ensures.jobs c.order_does_not_matter.ensures.fits c.tree_is_rebuilt.ensures.tree
    c.cells.ensures.valid c.requires.ready c.requires.bound c.in_ok-sorted.sorted.items (omega (arith, costs, c.if-cost-bound.false, c.requires.spent, c.requires.bound)) c.in_ok-sorted.ensures
    (sym c.in_default.is ∙ first)).gives

pub returns-clause-spends : goal.returns-clause-spends
returns-clause-spends c =
    let costs : c.cost-cost.result ≡ min (cost_of c.args.frames.items) last_count = rw c.as_slice.ensures.value at c.cost-cost.ensures in
    end_spends c.args.frames.items c.in_ok-sorted.sorted.items c.args.spent _ c.in_ok-end.end c.in_ok-sorted.ensures
    (let paid : c.args.spent + c.cost-cost.result ≡ c.args.spent + cost_of c.args.frames.items = omega (arith, costs, c.if-cost-bound.false, c.requires.spent, c.requires.bound) in paid)
    c.in_ok-end.ensures.with_

pub returns-clause-frames : goal.returns-clause-frames
returns-clause-frames c = end_has c.args.frames.items c.in_ok-sorted.sorted.items _ c.in_ok-end.end c.in_ok-sorted.ensures c.in_ok-end.ensures.with_
