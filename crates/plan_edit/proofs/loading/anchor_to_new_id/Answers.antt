use Rattle.std.proofs.Common.{ℕ, Option, unwrap_or, ap, ◌∙◌, arith}
use Rattle.std.specs.Ordering.{nat_cmp}
use Rattle.std.specs.BTreeMap.{get as noted_at}
use Rattle.plan_edit.proofs.Positions.{position_fits, position_by_index}
use Rattle.plan_edit.proofs.loading.anchor_to_new_id.Goals as goal

pub overflow_cast-result : goal.overflow_cast-result
overflow_cast-result c =
    let position = c.position_of.ensures ∙ position_by_index (noted_at nat_cmp c.args.index.now) c.args.all.now c.in-Some.anchor.to c.requires.index in
    let fits = position_fits c.args.all.now c.in-Some.anchor.to c.args.first 4_294_967_296 c.requires.few in
    let same = ap (λ (o : Option ℕ). unwrap_or o 0) position in
    let is = c.unwrap_or.ensures in
    omega (arith, fits, same, is)

pub overflow_add-result : goal.overflow_add-result
overflow_add-result c =
    let position = c.position_of.ensures ∙ position_by_index (noted_at nat_cmp c.args.index.now) c.args.all.now c.in-Some.anchor.to c.requires.index in
    let fits = position_fits c.args.all.now c.in-Some.anchor.to c.args.first 4_294_967_296 c.requires.few in
    let same = ap (λ (o : Option ℕ). unwrap_or o 0) position in
    let is = c.unwrap_or.ensures in
    omega (arith, fits, same, is)
