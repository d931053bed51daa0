use Rattle.run_data.proofs.FittingFrames.{fitting_wave, fitting_frames_are_made, made_frames_fit, committed_frames_fit}
use Rattle.run_data.proofs.laws.fits.fitting_frames_are_the_batch.Goals as goal

pub returns : goal.returns
returns c = record { wave = fitting_wave; made = fitting_frames_are_made; fit = made_frames_fit; committed = committed_frames_fit }
