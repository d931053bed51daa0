use Rattle.std.proofs.Common.{List, ℕ, subst}
use Rattle.std.proofs.lemmas.Result.{IfOk-weaker}
use Rattle.span_table.specs.KnownTasks.{IsMaker, links_of}
use Rattle.span_table.proofs.NumberedPaths.{has_number, maker_may}
use Rattle.span_table.proofs.numbering.number_by_path.Goals as goal

pub returns-in-Some : goal.returns-in-Some
returns-in-Some c = λ linked.
    has_number c.args.tasks.now.entries c.in-Some.number c.args.path.now _ _ c.in-Some.ensures.key c.in-Some.ensures.entry linked

pub returns-in-Some-maker_near : goal.returns-in-Some-maker_near
returns-in-Some-maker_near c =
    IfOk-weaker c.add-in-Some-maker_near.result _ _
    (λ number numbered linked. numbered (maker_may c.args.tasks.now.entries c.args.path.now c.in-Some-maker_near.maker linked
    (subst (λ (path : List ℕ). IsMaker (links_of c.args.tasks.now.entries) c.in-Some-maker_near.maker path) c.get-2.ensures c.in-Some-maker_near.ensures)))
    c.add-in-Some-maker_near.ensures
