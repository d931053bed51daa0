use Rattle.std.proofs.Common.{ℕ, ◌≤◌, sym, subst}
use Rattle.session_reader.proofs.GoodSessions.{same_number}
use Rattle.session_reader.proofs.sessions.started.Goals as goal

pub plan-requires-clause-some_model : goal.plan-requires-clause-some_model
plan-requires-clause-some_model c =
    let good = c.requires.good in
    subst (λ (count : ℕ). 1 ≤ count) (sym (same_number c.args.models.now c.args.raw.now good)) good.limits.limits.some_models
