use Rattle.std.proofs.Common.{◌≡◌, ℕ, ◌<◌, ◌-◌, ◌^◌, ◌++◌, IsTrue, List, [], length, drop, sym, ap, subst, ◌∙◌, arith}
use Rattle.std.proofs.lemmas.List.{length-append}
use Rattle.std.proofs.Math.Seq.{drop-append_seam}
use Rattle.aerie_base.specs.declared.plans.Directive.{Directive}
use Rattle.aerie_base.specs.plans.OfModel.{rise_to, ids_of, with_id}
use Rattle.aerie_base.specs.declared.plans.Plan.{Plan}
use Rattle.plan_merge.specs.Plans.{AreMergeable}
use Rattle.plan_merge.specs.Renaming.{added, renamed_if_new}
use Rattle.plan_merge.specs.Merging.{left_of_target, left_by, merged, made_or_conflicts, next_after, unless, clashes}
use Rattle.plan_merge.specs.Answers.{UnlessOutOfMemory}
use Rattle.plan_merge.proofs.Rising.{merged_rise}
use Rattle.plan_merge.proofs.Merges.{judged_order, length_filter_map}
use Rattle.plan_merge.proofs.merging.merge.Goals as goal

-- how many are behind others
behind : (all kept new : List Directive) (n k : ℕ) → n ≡ length all → k ≡ length kept → all ≡ kept ++ new → n - k ≡ length new
behind all kept new n k n_is k_is are =
    let sum = ap length are ∙ length-append kept new in
    omega (arith, n_is, k_is, sum)

-- what is there when the directives are put together, told of the plans and the numbers alone
rising_of : (b s t : Plan) → AreMergeable b s t → (all kept : List Directive) (n k next : ℕ) → all ≡ kept ++ added b s t → kept ≡ left_of_target b s t → n ≡ length all → k ≡ length kept →
    next ≡ next_after b t (n - k) → (ds : List Directive) → ds ≡ all → IsTrue (rise_to next 0 (ids_of ds))
rising_of b s t order all kept n k next are kept_is n_is k_is next_is ds ds_are =
    subst (λ (ds : List Directive). IsTrue (rise_to next 0 (ids_of ds))) (sym (ds_are ∙ are ∙ ap (λ (kept : List Directive). kept ++ added b s t) kept_is))
    (subst (λ (m : ℕ). IsTrue (rise_to m 0 (ids_of (merged b s t)))) (sym (next_is ∙ ap (next_after b t) (behind all kept (added b s t) n k n_is k_is are)))
    (merged_rise b s t order.target.ids order.source.ids))

few_of : (b s t : Plan) → AreMergeable b s t → (kept all : List Directive) → kept ≡ left_of_target b s t → all ≡ kept ++ added b s t → length all < 2 ^ 32
few_of b s t order kept all kept_is are =
    let sum = ap length are ∙ length-append kept (added b s t) in
    let kept_long = ap length kept_is in
    let few = length_filter_map (renamed_if_new b s t) s.directives in
    let few_left = length_filter_map (λ (d : Directive). left_by b s t d (with_id b.directives d.id)) t.directives in
    let most = order.source.count in
    let most_left = order.target.count in
    omega (arith, sum, kept_long, few, few_left, most, most_left)

pub next_after-next-requires : goal.next_after-next-requires
next_after-next-requires c =
    let count = behind c.push_added.new.directives c.in_ok-directives.directives (added c.args.base.now c.args.source.now c.args.target.now) c.len.result c.len-kept.result c.len.ensures c.len-kept.ensures c.in_ok-push_added.ensures in
    let few = length_filter_map (renamed_if_new c.args.base.now c.args.source.now c.args.target.now) c.args.source.now.directives in
    let most = c.requires.order.source.count in
    record { few = omega (arith, count, few, most) }

pub judged-requires-clause-rising : goal.judged-requires-clause-rising
judged-requires-clause-rising c =
    rising_of c.args.base.now c.args.source.now c.args.target.now c.requires.order c.push_added.new.directives c.in_ok-directives.directives c.len.result c.len-kept.result c.next_after-next.result
    c.in_ok-push_added.ensures c.in_ok-directives.ensures c.len.ensures c.len-kept.ensures c.next_after-next.ensures c.as_slice-4.result.now c.as_slice-4.ensures

pub judged-requires-clause-few : goal.judged-requires-clause-few
judged-requires-clause-few c =
    few_of c.args.base.now c.args.source.now c.args.target.now c.requires.order c.in_ok-directives.directives c.as_slice-4.result.now c.in_ok-directives.ensures (c.as_slice-4.ensures ∙ c.in_ok-push_added.ensures)

pub returns-clause-exact : goal.returns-clause-exact
returns-clause-exact c =
    let b = c.args.base.now in
    let s = c.args.source.now in
    let t = c.args.target.now in
    let kept = c.in_ok-directives.directives in
    let count = behind c.push_added.new.directives kept (added b s t) c.len.result c.len-kept.result c.len.ensures c.len-kept.ensures c.in_ok-push_added.ensures in
    let all_are = c.as_slice-4.ensures ∙ c.in_ok-push_added.ensures in
    let new_are = ap (drop c.len-kept.result) all_are ∙ ap (λ (k : ℕ). drop k (kept ++ added b s t)) c.len-kept.ensures ∙ drop-append_seam kept (added b s t) in
    let none : clashes b s t ≡ [] = sym c.in_ok-conflicts.ensures ∙ c.is_empty.ensures.0 c.if-not-is_empty.false in
    subst (λ answer. UnlessOutOfMemory answer c.judged.result)
    (ap (λ (new : List Directive). made_or_conflicts t c.next_after-next.result c.as_slice-4.result.now new) new_are
    ∙ ap (λ (ds : List Directive). made_or_conflicts t c.next_after-next.result ds (added b s t)) (all_are ∙ ap (λ (l : List Directive). l ++ added b s t) c.in_ok-directives.ensures)
    ∙ ap (λ (n : ℕ). made_or_conflicts t n (merged b s t) (added b s t)) (c.next_after-next.ensures ∙ ap (next_after b t) count)
    ∙ sym (ap (λ cs. unless cs (made_or_conflicts t (next_after b t (length (added b s t))) (merged b s t) (added b s t))) none))
    c.judged.ensures

pub returns-clause-order : goal.returns-clause-order
returns-clause-order c =
    judged_order c.args.target.now c.next_after-next.result c.as_slice-4.result.now (drop c.len-kept.result c.as_slice-4.result.now)
    (rising_of c.args.base.now c.args.source.now c.args.target.now c.requires.order c.push_added.new.directives c.in_ok-directives.directives c.len.result c.len-kept.result c.next_after-next.result
    c.in_ok-push_added.ensures c.in_ok-directives.ensures c.len.ensures c.len-kept.ensures c.next_after-next.ensures c.as_slice-4.result.now c.as_slice-4.ensures)
    c.judged.result c.judged.ensures
