use Rattle.std.proofs.Common.{◌∙◌, sym, arith}
use Rattle.effect_cells.specs.Gathered.{listed_from}
use Rattle.effect_cells.proofs.Listed.{listed_touches, none_left}
use Rattle.effect_cells.proofs.gathering.Gathering.clear.Goals as goal

pub clear-requires : goal.clear-requires
clear-requires c =
    listed_touches c.as_slice.result.now c.as_mut_slice.result.now
    (c.as_slice.ensures.value ∙ c.self.invariant ∙ (λ i. listed_from 0 (sym c.as_mut_slice.ensures.value i)))

pub invariant_of-self : goal.invariant_of-self
invariant_of-self c =
    none_left c.clear-2.new.self.items c.clear.new.pending _ c.self.inside.pending.len c.clear-2.ensures.items (omega (arith, c.clear.ensures.same, c.as_mut_slice.ensures.len)) c.clear.ensures.blank
