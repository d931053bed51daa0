-- The first instant that is not before the time is that at the time, if there is one.
use Rattle.std.proofs.Common.{◌∙◌, sym, ap, Some}
use Rattle.std.proofs.lemmas.Bool.{eqb-true, eqb-false}
use Rattle.run_data.specs.declared.runs.Instant.{Instant}
use Rattle.resimulate.proofs.OldInstants.{past_all, found_at, found_later}
use Rattle.resimulate.proofs.old_batches.instant_at.Goals as goal

pub returns-in_default : goal.returns-in_default
returns-in_default c = sym (past_all c.args.time c.args.instants.now c.requires.rise c.args.at c.requires.first c.in_default.ensures.lookup.3)

pub returns-then-is_at : goal.returns-then-is_at
returns-then-is_at c =
    let lookup = c.in-Some.ensures.lookup in
    let same = eqb-true _ _ (sym c.is_at.ensures ∙ c.if-is_at.true) in
    ap Some c.get-instant.ensures
    ∙ sym
    (found_at c.args.time c.args.instants.now c.requires.rise c.args.at c.requires.first c.in-Some.shared.now lookup.3.0 (lookup.3.1 c.in-Some.shared.now)
    (ap (λ (i : Instant). i.time) (sym c.get-instant.ensures) ∙ same))

pub returns-else-is_at : goal.returns-else-is_at
returns-else-is_at c =
    let lookup = c.in-Some.ensures.lookup in
    let differs = eqb-false _ _ (sym c.is_at.ensures ∙ c.if-is_at.false) in
    sym
    (found_later c.args.time c.args.instants.now c.requires.rise c.args.at c.requires.first c.in-Some.shared.now lookup.3.0 (lookup.3.1 c.in-Some.shared.now)
    (λ e. differs (ap (λ (i : Instant). i.time) c.get-instant.ensures ∙ e)))
