use Rattle.std.proofs.Common.{◌∙◌, ◌+◌, ◌≤◌, List, ◌++◌, length, ap, sym, subst}
use Rattle.std.proofs.lemmas.List.{take-append-drop}
use Rattle.run_data.specs.declared.runs.Instant.{Instant}
use Rattle.run_data.specs.laws.RunCosts.{cost_of_instants}
use Rattle.engine_core.specs.EngineStates.{instants_in, spent_in}
use Rattle.resimulate.specs.SharedEnds.{ShareFirst}
use Rattle.resimulate.proofs.EarlyEnds.{first_shared, rest_behind}
use Rattle.resimulate.proofs.EndsInCommon.{shares_both}
use Rattle.resimulate.proofs.InstantCosts.{cost_behind, parts_are_paid}
use Rattle.resimulate.proofs.early_ends.rest_if_alike.Goals as goal

pub is_alike_behind-requires-clause-parts : goal.is_alike_behind-requires-clause-parts
is_alike_behind-requires-clause-parts c = sym c.as_slice-olds.ensures ∙ sym (take-append-drop c.partition_point-at.result c.as_slice-olds.result.now) ∙ (λ i. sym c.split_at-parts.ensures.front i ++ sym c.split_at-parts.ensures.back i)

pub is_alike_behind-requires-clause-first : goal.is_alike_behind-requires-clause-first
is_alike_behind-requires-clause-first c =
    first_shared c.args.model.now c.args.plan.now c.args.bound c.args.old.now c.args.shared c.requires.may.shares c.args.engine.now c.ready.ensures.stands c.requires.model c.requires.plan c.requires.bound
    c.least-first.result c.least-first.ensures.one (subst (λ (l : List Instant). c.least-first.result ≤ length l) c.instants-instants.ensures c.least-first.ensures.other) c.split_at-parts.result.0.now c.split_at-parts.result.1.now
    (sym c.as_slice-olds.ensures ∙ sym (take-append-drop c.partition_point-at.result c.as_slice-olds.result.now) ∙ (λ i. sym c.split_at-parts.ensures.front i ++ sym c.split_at-parts.ensures.back i)) c.least-first.ensures.third

pub can_end-requires-clause-spent : goal.can_end-requires-clause-spent
can_end-requires-clause-spent c =
    c.spent.ensures
    ∙ cost_behind c.rest_of_old_run_is_taken_over.ensures.costs c.args.model.now c.args.plan.now c.args.old.now.plan c.args.bound c.args.old.now.bound (instants_in c.args.engine.now.point)
    (spent_in c.args.engine.now.point) c.split_at-parts.result.0.now (c.in_ok-alike.ensures c.if-not-alike.false)
    ∙ ap cost_of_instants (sym c.instants-instants.ensures)

pub can_end-requires-clause-first : goal.can_end-requires-clause-first
can_end-requires-clause-first c =
    subst (λ (l : List Instant). ShareFirst l c.split_at-parts.result.0.now c.least-first.result) (sym c.instants-instants.ensures)
    (first_shared c.args.model.now c.args.plan.now c.args.bound c.args.old.now c.args.shared c.requires.may.shares c.args.engine.now c.ready.ensures.stands c.requires.model c.requires.plan c.requires.bound
    c.least-first.result c.least-first.ensures.one (subst (λ (l : List Instant). c.least-first.result ≤ length l) c.instants-instants.ensures c.least-first.ensures.other) c.split_at-parts.result.0.now c.split_at-parts.result.1.now
    (sym c.as_slice-olds.ensures ∙ sym (take-append-drop c.partition_point-at.result c.as_slice-olds.result.now) ∙ (λ i. sym c.split_at-parts.ensures.front i ++ sym c.split_at-parts.ensures.back i)) c.least-first.ensures.third)

pub can_end-requires-clause-paid : goal.can_end-requires-clause-paid
can_end-requires-clause-paid c =
    parts_are_paid c.rest_of_old_run_is_taken_over.ensures.costs c.reached_states_are_of_the_model.ensures c.args.model.now c.cells.ensures.valid c.args.old.now.plan c.requires.old_plan c.args.old.now.bound
    c.tasks_are_traced_by_their_frames.ensures.settled c.args.old.now c.requires.fresh c.split_at-parts.result.0.now c.split_at-parts.result.1.now
    (sym c.as_slice-olds.ensures ∙ sym (take-append-drop c.partition_point-at.result c.as_slice-olds.result.now) ∙ (λ i. sym c.split_at-parts.ensures.front i ++ sym c.split_at-parts.ensures.back i))

pub returns-clause-rest : goal.returns-clause-rest
returns-clause-rest c =
    rest_behind c.rest_of_old_run_is_taken_over.ensures.settled c.args.model.now c.args.plan.now c.args.bound c.args.old.now c.requires.may.may c.requires.fresh c.split_at-parts.result.0.now c.split_at-parts.result.1.now
    (sym c.as_slice-olds.ensures ∙ sym (take-append-drop c.partition_point-at.result c.as_slice-olds.result.now) ∙ (λ i. sym c.split_at-parts.ensures.front i ++ sym c.split_at-parts.ensures.back i))
    (instants_in c.args.engine.now.point) (spent_in c.args.engine.now.point) (c.in_ok-alike.ensures c.if-not-alike.false)
    (subst (λ n. n + cost_of_instants c.split_at-parts.result.1.now ≤ c.args.bound) c.spent.ensures (c.can_end.ensures c.if-not-can_end.false))

pub returns-clause-shares : goal.returns-clause-shares
returns-clause-shares c =
    shares_both c.args.old.now.instants c.split_at-parts.result.0.now c.split_at-parts.result.1.now (instants_in c.args.engine.now.point) c.least-first.result
    (sym c.as_slice-olds.ensures ∙ sym (take-append-drop c.partition_point-at.result c.as_slice-olds.result.now) ∙ (λ i. sym c.split_at-parts.ensures.front i ++ sym c.split_at-parts.ensures.back i))
    (first_shared c.args.model.now c.args.plan.now c.args.bound c.args.old.now c.args.shared c.requires.may.shares c.args.engine.now c.ready.ensures.stands c.requires.model c.requires.plan c.requires.bound
    c.least-first.result c.least-first.ensures.one (subst (λ (l : List Instant). c.least-first.result ≤ length l) c.instants-instants.ensures c.least-first.ensures.other) c.split_at-parts.result.0.now c.split_at-parts.result.1.now
    (sym c.as_slice-olds.ensures ∙ sym (take-append-drop c.partition_point-at.result c.as_slice-olds.result.now) ∙ (λ i. sym c.split_at-parts.ensures.front i ++ sym c.split_at-parts.ensures.back i)) c.least-first.ensures.third)

pub returns-clause-first : goal.returns-clause-first
returns-clause-first c =
    first_shared c.args.model.now c.args.plan.now c.args.bound c.args.old.now c.args.shared c.requires.may.shares c.args.engine.now c.ready.ensures.stands c.requires.model c.requires.plan c.requires.bound
    c.least-first.result c.least-first.ensures.one (subst (λ (l : List Instant). c.least-first.result ≤ length l) c.instants-instants.ensures c.least-first.ensures.other) c.split_at-parts.result.0.now c.split_at-parts.result.1.now
    (sym c.as_slice-olds.ensures ∙ sym (take-append-drop c.partition_point-at.result c.as_slice-olds.result.now) ∙ (λ i. sym c.split_at-parts.ensures.front i ++ sym c.split_at-parts.ensures.back i)) c.least-first.ensures.third
