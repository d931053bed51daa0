use Rattle.std.proofs.Common.{◌∙◌, List, ℕ, sym, ap, subst}
use Rattle.std.proofs.lemmas.Bool.{false≢true}
use Rattle.effect_cells.specs.declared.effects.CellState.{CellState}
use Rattle.run_data.specs.Frames.{room_of}
use Rattle.run_data.specs.laws.FittingFrames.{FitTree}
use Rattle.run_data.specs.laws.Trees.{frame_at}
use Rattle.fitting.specs.Fitting.{job_of_frame, FindsOrLacks, MaySee}
use Rattle.fitting.proofs.Children.{of_job, job_sees}
use Rattle.fitting.proofs.Finding.{found_there, none_there}
use Rattle.fitting.proofs.Parts.{lacks_path, lacks_frame}
use Rattle.fitting.proofs.Stepping.{may_see}
use Rattle.fitting.proofs.frames.fit_job.Goals as goal

pub returns-in_default : goal.returns-in_default
returns-in_default c =
    lacks_path c.args.model.now c.args.bound (room_of c.args.job.now.path) c.args.number c.args.old.now c.args.job.now
    (none_there c.args.old.now c.args.job.now.path (ap (λ (p : List ℕ). frame_at c.args.old.now p) (sym c.get-path.ensures) ∙ sym c.in_default.ensures))

pub returns-then-not-is_same : goal.returns-then-not-is_same
returns-then-not-is_same c =
    let there = found_there c.args.old.now c.args.job.now.path c.in-Some.frame.now (ap (λ (p : List ℕ). frame_at c.args.old.now p) (sym c.get-path.ensures) ∙ sym c.in-Some.ensures) in
    lacks_frame c.args.model.now c.args.bound (room_of c.args.job.now.path) c.args.number c.args.old.now c.args.job.now c.in-Some.frame.now there.0 there.1
    (λ fits. false≢true (sym c.if-not-is_same.true ∙ c.is_same.ensures.1 (c.before-state.ensures ∙ fits.state ∙ sym c.get.ensures)))

pub fit_frame-requires-clause-there : goal.fit_frame-requires-clause-there
fit_frame-requires-clause-there c =
    (found_there c.args.old.now c.args.job.now.path c.in-Some.frame.now (ap (λ (p : List ℕ). frame_at c.args.old.now p) (sym c.get-path.ensures) ∙ sym c.in-Some.ensures)).0

pub fit_frame-requires-clause-may : goal.fit_frame-requires-clause-may
fit_frame-requires-clause-may c =
    let there = found_there c.args.old.now c.args.job.now.path c.in-Some.frame.now (ap (λ (p : List ℕ). frame_at c.args.old.now p) (sym c.get-path.ensures) ∙ sym c.in-Some.ensures) in
    let state = sym c.before-state.ensures ∙ c.is_same.ensures.0 c.if-not-is_same.false ∙ c.get.ensures in
    subst (λ (v : List CellState). MaySee c.args.model.now (room_of c.in-Some.frame.now.path) (job_of_frame c.in-Some.frame.now v)) (sym c.get-view.ensures)
    (job_sees c.args.model.now c.in-Some.frame.now c.args.job.now there.1 state (may_see c.args.model.now (room_of c.args.job.now.path) c.args.job.now c.requires.within))

pub returns : goal.returns
returns c =
    let there = found_there c.args.old.now c.args.job.now.path c.in-Some.frame.now (ap (λ (p : List ℕ). frame_at c.args.old.now p) (sym c.get-path.ensures) ∙ sym c.in-Some.ensures) in
    let state = sym c.before-state.ensures ∙ c.is_same.ensures.0 c.if-not-is_same.false ∙ c.get.ensures in
    of_job c.args.model.now c.args.bound c.args.number c.args.old.now c.in-Some.frame.now c.args.job.now there.1 state c.in_ok-yes.yes c.args.found.now.items c.fit_frame.new.found.items
    (subst
    (λ (v : List CellState).
    FindsOrLacks (FitTree c.args.model.now c.args.bound (room_of c.in-Some.frame.now.path) c.args.number (job_of_frame c.in-Some.frame.now v)) c.args.old.now c.in_ok-yes.yes c.args.found.now.items
    c.fit_frame.new.found.items)
    c.get-view.ensures c.in_ok-yes.ensures)
