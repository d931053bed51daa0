use Rattle.std.proofs.Common.{List, ℕ, subst}
use Rattle.effect_cells.specs.declared.effects.CellState.{CellState}
use Rattle.run_data.specs.declared.runs.Instant.{Instant}
use Rattle.resimulate.specs.LastChanges.{ChangeAtTime}
use Rattle.resimulate.proofs.CellChanges.{instants_none, instants_next}
use Rattle.resimulate.proofs.cells.note_instants.Goals as goal

pub loop-instant-init : goal.loop-instant-init
loop-instant-init c = instants_none c.args.last.now.items

pub loop-instant-preserved : goal.loop-instant-preserved
loop-instant-preserved c =
    instants_next c.loop-instant.instant-index c.args.instants.now c.instant-item.result _ _ _ c.loop-instant-test.true c.instant-item.is c.loop-instant.invariant
    (subst (λ (instant : Instant). ChangeAtTime instant.time instant.changed c.loop-instant.last.items c.note_changed.new.last.items) c.get-instant.ensures
    (subst (λ (changed : List (ℕ × CellState)). ChangeAtTime c.get-instant.result.now.time changed c.loop-instant.last.items c.note_changed.new.last.items) c.as_slice.ensures c.note_changed.ensures))
