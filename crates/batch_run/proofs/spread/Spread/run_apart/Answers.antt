-- The wave of all pieces is that of all jobs.
use Rattle.std.proofs.Common.{◌≡◌, ◌∙◌}
use Rattle.run_data.specs.declared.steppers.Wave.{Wave}
use Rattle.run_data.specs.Waves.{wave_of}
use Rattle.batch_run.specs.Pieces.{HaveNoError, joined_wave}
use Rattle.batch_run.proofs.Joining.{joined_is}
use Rattle.batch_run.proofs.Opening.{if_both}
use Rattle.batch_run.proofs.spread.Spread.run_apart.Goals as goal

pub returns-clause-wave : goal.returns-clause-wave
returns-clause-wave g c =
    if_both (λ (wave : Wave). HaveNoError c.in_ok-pieces.pieces.items) (λ (wave : Wave). wave ≡ joined_wave c.args.fuel c.in_ok-pieces.pieces.items)
    (λ (wave : Wave). wave ≡ wave_of c.args.model.now c.args.fuel c.args.jobs.now)
    (λ wave done is. is ∙ joined_is c.args.model.now c.args.fuel c.args.size c.args.jobs.now c.in_ok-pieces.pieces.items c.in_ok-pieces.ensures.waves done) c.open_pieces.result c.open_pieces.ensures.done
    c.open_pieces.ensures.wave
