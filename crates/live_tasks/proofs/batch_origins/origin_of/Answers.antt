use Rattle.std.proofs.Common.{◌∙◌, Some, refl, sym, ap, subst}
use Rattle.std.proofs.lemmas.Bool.{false≢true}
use Rattle.live_tasks.specs.BatchOrigins.{HasSlotPath, of_ready, of_child}
use Rattle.live_tasks.specs.Slots.{slot_at}
use Rattle.live_tasks.proofs.Coming.{get_is}
use Rattle.live_tasks.proofs.FrameOrigins.{past_end, one_there}
use Rattle.live_tasks.proofs.batch_origins.origin_of.Goals as goal

pub returns-then-has_path : goal.returns-then-has_path
returns-then-has_path c =
    let lookup = c.in-Some.ensures.lookup in
    of_ready c.in-Some.number.now (get_is c.args.readies.now c.args.next c.in-Some.number.now lookup.3.0 ∙ ap Some (sym (lookup.3.1 c.in-Some.number.now))) (c.has_path.ensures.0 c.if-has_path.true) refl

pub returns-else-has_path : goal.returns-else-has_path
returns-else-has_path c =
    let lookup = c.in-Some.ensures.lookup in
    let here = get_is c.args.readies.now c.args.next c.in-Some.number.now lookup.3.0 ∙ ap Some (sym (lookup.3.1 c.in-Some.number.now)) in
    of_child
    (λ number at has.
    false≢true
    (sym c.if-has_path.false
    ∙ c.has_path.ensures.1 (subst (λ n. HasSlotPath c.args.path.now (slot_at c.args.slots.now.slots n)) (one_there c.args.readies.now c.args.next number c.in-Some.number.now at here) has)))
    c.of_child.ensures

pub returns-in-None : goal.returns-in-None
returns-in-None c = of_child (λ number at has. past_end c.args.readies.now c.args.next number c.in-None.ensures.lookup.3 at) c.of_child-in-None.ensures
