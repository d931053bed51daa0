use Rattle.std.proofs.Common.{◌≡◌, get_or, subst, sym}
use Rattle.run_data.specs.declared.runs.Instant.{Instant}
use Rattle.profiles.specs.Followed.{ChangesRise}
use Rattle.profiles.specs.States.{RiseFrom}
use Rattle.profiles.specs.Touches.{HasNotedPosition}
use Rattle.profiles.proofs.FoundStates.{Changed}
use Rattle.profiles.proofs.Noting.{rise_at, touching_next}
use Rattle.profiles.proofs.Positions.{got}
use Rattle.profiles.proofs.touches.touches.Goals as goal

pub loop-at-preserved : goal.loop-at-preserved
loop-at-preserved c =
    let instants = c.as_slice-instants.result.now in
    let at = c.loop-at.at in
    let instant : Instant = c.instant_at.result.now in
    let is : instant ≡ get_or instants at instant = got instants at instant c.instant_at.ensures in
    let changes : ChangesRise instants = subst ChangesRise (sym c.as_slice-instants.ensures) c.can_be_followed.ensures.instants.changes in
    let rise : RiseFrom 0 instant.changed = rise_at instants at instant changes c.loop-at-test.true is in
    let noted : HasNotedPosition c.as_slice.result.now at c.loop-at.by_cell.items c.note_instant.new.by_cell.items =
    c.in_ok-note_instant.ensures (subst (λ (l : Changed). RiseFrom 0 l) (sym c.as_slice.ensures) rise) in
    touching_next instants at instant _ _ _ c.loop-at-test.true is c.loop-at.invariant
    (subst (λ (l : Changed). HasNotedPosition l at c.loop-at.by_cell.items c.note_instant.new.by_cell.items) c.as_slice.ensures noted)
