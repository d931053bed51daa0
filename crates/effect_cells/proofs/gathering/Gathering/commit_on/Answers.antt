use Rattle.std.proofs.Common.{◌∙◌, sym, arith}
use Rattle.effect_cells.specs.Gathered.{listed_from}
use Rattle.effect_cells.proofs.Listed.{listed_touches, none_left}
use Rattle.effect_cells.proofs.gathering.Gathering.commit_on.Goals as goal

pub commit_pending-end-requires-clause-touches : goal.commit_pending-end-requires-clause-touches
commit_pending-end-requires-clause-touches c =
    listed_touches c.as_slice.result.now c.as_mut_slice.result.now
    (c.as_slice.ensures.value ∙ c.self.invariant ∙ (λ i. listed_from 0 (sym c.as_mut_slice.ensures.value i)))

pub invariant_of-self : goal.invariant_of-self
invariant_of-self c =
    none_left c.clear.new.self.items c.commit_pending-end.new.pending _ c.self.inside.pending.len c.clear.ensures.items (omega (arith, c.commit_pending-end.auto.pending, c.as_mut_slice.ensures.len)) c.commit_pending-end.ensures.blank
