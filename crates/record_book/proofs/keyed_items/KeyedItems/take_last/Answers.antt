use Rattle.std.proofs.Common.{◌≡◌, ◌<◌, List, length, subst, ap, ◌∙◌, arith}
use Rattle.record_book.specs.Chains.{AreChained, bucket}
use Rattle.record_book.specs.declared.keyed_items.Keyed.{Keyed}
use Rattle.record_book.proofs.Chaining.{chained_popped}
use Rattle.record_book.proofs.keyed_items.KeyedItems.take_last.Goals as goal

pub invariant_of-self-2 : goal.invariant_of-self-2
invariant_of-self-2 g c =
    let chained = subst (λ (items : List (Keyed g.row.T.Denot)). AreChained items c.self.inside.newest.items) c.in-Some.ensures.items c.self.invariant in
    let len : c.len.result ≡ length c.self.inside.newest.items = omega (arith, c.len.ensures) in
    let within : c.bucket_of-at.result < length c.self.inside.newest.items = omega (arith, c.bucket_of-at.ensures.within) in
    chained_popped c.pop.new.self.items c.self.inside.newest.items c.bucket_of-at.result c.in-Some.last chained
    (c.bucket_of-at.ensures.value ∙ ap (λ n. bucket n c.in-Some.last.key) len) within
