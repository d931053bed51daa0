use Rattle.std.proofs.Common.{sym, ap, ◌∙◌, slice_get}
use Rattle.std.proofs.lemmas.Option.{get_or_from_slice_get}
use Rattle.plan_merge.specs.Renaming.{new_id}
use Rattle.plan_merge.proofs.Renames.{stays, given_from}
use Rattle.plan_merge.proofs.renaming.new_id.Goals as goal

pub returns-in-Some : goal.returns-in-Some
returns-in-Some c base first are =
    get_or_from_slice_get c.args.ids.now c.in-Some.at (new_id base first c.args.source.now c.args.id) 0
    (ap (λ ids. slice_get ids c.in-Some.at) are ∙ given_from (new_id base first c.args.source.now) c.args.source.now c.in-Some.at c.args.id c.in-Some.ensures.within c.in-Some.ensures.found)

pub returns-in-None : goal.returns-in-None
returns-in-None c base first are =
    c.from.ensures ∙ sym (stays base first c.args.source.now c.args.id (sym c.in-None.ensures.found))
