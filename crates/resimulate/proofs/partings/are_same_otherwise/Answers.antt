use Rattle.std.proofs.Common.{◌∙◌, drop, ap, sym}
use Rattle.resimulate.proofs.CommonDirectives.{same_but_between}
use Rattle.resimulate.proofs.partings.are_same_otherwise.Goals as goal

pub returns : goal.returns
returns c = λ yes.
    let directives = c.args.directives.now in
    let others = c.args.others.now in
    let behind = c.args.behind in
    let here = c.is_at.ensures c.if-not-is_at.false in
    let there = c.is_at-2.ensures c.if-not-is_at-2.false in
    same_but_between c.args.parting.now.first c.args.parting.now.past directives others c.args.front c.next_other-next.result c.next_other-old_next.result c.requires.front
    (ap (λ n. drop n directives) here ∙ c.requires.behind ∙ ap (λ n. drop n others) (sym there)) c.next_other-next.ensures c.next_other-old_next.ensures
