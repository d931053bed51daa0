use Rattle.std.proofs.Common.{ℕ, ◌<◌, ◌≤◌, length, arith}
use Rattle.std.proofs.lemmas.Result.{err_from_is_err_and}
use Rattle.aerie_base.specs.models.Limits.{type_limit}
use Rattle.plan_edit.proofs.Given.{item_read, given_refused, given_made, values_good}
use Rattle.plan_edit.proofs.Types.{type_good, requires_typed, few_types}
use Rattle.plan_edit.proofs.adding.given_to.Goals as goal

pub if_met-requires-clause-typed : goal.if_met-requires-clause-typed
if_met-requires-clause-typed c =
    let model = c.args.model.now in
    let there = item_read c.activities.result.now model.activities c.args.kind c.index-activities-kind.result c.activities.ensures.value c.requires c.index-activities-kind.is in
    let type = type_good model c.activities.ensures.valid c.args.kind c.index-activities-kind.result there in
    requires_typed model c.index-activities-kind.result c.in_ok-values.values
    (values_good model c.args.kind c.args.arguments.now c.index-activities-kind.result c.as_slice.result.now c.in_ok-values.values there c.as_slice.ensures c.in_ok-values.ensures type) type

pub if_met-requires-clause-few : goal.if_met-requires-clause-few
if_met-requires-clause-few c =
    let model = c.args.model.now in
    let there = item_read c.activities.result.now model.activities c.args.kind c.index-activities-kind.result c.activities.ensures.value c.requires c.index-activities-kind.is in
    (type_good model c.activities.ensures.valid c.args.kind c.index-activities-kind.result there).few

pub returns-in_err-arguments : goal.returns-in_err-arguments
returns-in_err-arguments c =
    let model = c.args.model.now in
    let there = item_read c.activities.result.now model.activities c.args.kind c.index-activities-kind.result c.activities.ensures.value c.requires c.index-activities-kind.is in
    let p = err_from_is_err_and c.from_residual-in_err-arguments.result c.from_residual-in_err-arguments.ensures.1 in
    rw (p.1, p.2)
    (given_refused model c.args.kind c.args.arguments.now c.index-activities-kind.result c.as_slice.result.now c.in_ok-values.values there c.as_slice.ensures c.in_ok-values.ensures
    c.in_err-arguments.field-0.0 c.in_err-arguments.ensures)

few : (kind count : ℕ) → kind < count → count ≤ type_limit → kind < 65_536
few kind count less most = omega (arith, less, most)

pub overflow_cast-result : goal.overflow_cast-result
overflow_cast-result c = let less = few c.args.kind (length c.args.model.now.activities) c.requires (few_types c.args.model.now c.activities.ensures.valid) in omega (arith, less)

pub returns : goal.returns
returns c =
    let model = c.args.model.now in
    let there = item_read c.activities.result.now model.activities c.args.kind c.index-activities-kind.result c.activities.ensures.value c.requires c.index-activities-kind.is in
    given_made model c.args.kind c.args.arguments.now c.index-activities-kind.result c.as_slice.result.now c.in_ok-values.values there c.as_slice.ensures c.in_ok-values.ensures
    c.in_ok-arguments.arguments c.in_ok-arguments.ensures
