use Rattle.std.proofs.Common.{◌+◌, ◌++◌, ◌∷◌, [], ◌∙◌, ℕ, List, Some, IsTrue, length, set, sym, ap, subst}
use Rattle.aerie_base.specs.Paths.{children_of, is_path}
use Rattle.live_tasks.specs.BatchOrigins.{is_slot_below, AreBelow, IsFoundOrigin}
use Rattle.live_tasks.specs.Slots.{slot_at}
use Rattle.live_tasks.proofs.Coming.{get_is}
use Rattle.live_tasks.proofs.FrameOrigins.{HasFound, one_found}
use Rattle.live_tasks.proofs.batch_origins.put_origins.Goals as goal

pub loop-place-preserved : goal.loop-place-preserved
loop-place-preserved c =
    let slots = c.args.slots.now.slots in
    let readies = c.args.readies.now in
    let frames = c.args.frames.now in
    let place = c.loop-place.place in
    let frame = c.index-frames-place.result in
    let next = c.first_from-next.result in
    let makers = c.loop-place.makers in
    let here = get_is frames place frame c.loop-place-test.true ∙ ap Some (sym c.index-frames-place.is) in
    let found =
    one_found slots readies frames c.requires.live_ c.requires.ready c.requires.order c.requires.frames place c.loop-place.next makers c.loop-place.origins.items c.loop-place.invariant frame here
    (subst (λ p. IsTrue (is_path p)) c.path-path.ensures c.children.ensures.path) next c.first_from-next.ensures.later c.first_from-next.ensures.within
    (subst (λ p. AreBelow slots p readies c.loop-place.next next) c.path-path.ensures c.first_from-next.ensures.below)
    (λ number at. ap (λ p. is_slot_below p (slot_at slots number)) (sym c.path-path.ensures) ∙ c.first_from-next.ensures.first number at) c.origin_of.result
    (subst (λ p. IsFoundOrigin slots readies next p makers c.origin_of.result) c.path-path.ensures c.origin_of.ensures) in
    subst (λ items. HasFound slots readies frames (place + 1) next (set makers (length c.children.result.now) place) items) (sym c.in_ok-push.ensures.items)
    (subst (λ n. HasFound slots readies frames (place + 1) next (set makers n place) (c.loop-place.origins.items ++ c.origin_of.result ∷ []))
    (sym (ap (λ (l : List ℕ). length l) (c.children.ensures.children ∙ ap children_of c.path-path.ensures))) found)
