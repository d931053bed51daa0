use Rattle.std.proofs.Common.{◌≡◌, Bool, lit<, subst}
use Rattle.std.specs.Result.{IfOk}
use Rattle.std.proofs.lemmas.Str.Pattern.{split_once_first}
use Rattle.plan_edit.proofs.Variants.{matched, unmatched, two_names, no_dot}
use Rattle.plan_edit.proofs.forms.is_variant_text.Goals as goal

pub returns-in-Some : goal.returns-in-Some
returns-in-Some c =
    let first = split_once_first 46 c.args.text.now c.split_once.result c.split_once.ensures.cases (lit< tt) in
    let parts = matched _ _ c.split_once.result (c.in-Some.front, c.in-Some.behind) c.in-Some.is first in
    subst (λ (b : Bool). IfOk c.both_free.result (λ are. are ≡ b)) (two_names c.args.text.now c.in-Some.front.now c.in-Some.behind.now parts.0 parts.1 parts.2) c.both_free.ensures

pub returns-in-None : goal.returns-in-None
returns-in-None c =
    let first = split_once_first 46 c.args.text.now c.split_once.result c.split_once.ensures.cases (lit< tt) in
    no_dot c.args.text.now (unmatched _ _ c.split_once.result c.in-None.is first)
