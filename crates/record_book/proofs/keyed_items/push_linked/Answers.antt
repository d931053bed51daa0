use Rattle.std.proofs.Common.{◌≡◌, ◌<◌, ◌^◌, ◌++◌, ◌∷◌, [], List, Some, length, sym, subst, ap, ◌∙◌, arith}
use Rattle.std.specs.Prelude.{slice_set}
use Rattle.record_book.specs.Chains.{AreChained, bucket}
use Rattle.record_book.specs.declared.keyed_items.Keyed.{Keyed}
use Rattle.record_book.proofs.Chaining.{chained_pushed}
use Rattle.record_book.proofs.keyed_items.push_linked.Goals as goal

pub returns-clause-chained : goal.returns-clause-chained
returns-clause-chained g c =
    let keyed : Keyed g.row.T.Denot = record { key = c.args.key; item = c.args.item; older = c.index-older.result.now } in
    let len : c.len-2.result ≡ length c.args.newest.now.items = omega (arith, c.len-2.ensures) in
    let within : c.bucket_of-at.result < length c.args.newest.now.items = omega (arith, c.bucket_of-at.ensures.within) in
    let place : c.in-Ok.place ≡ length c.args.items.now.items = omega (arith, c.in-Ok.ensures, c.len.ensures) in
    let few : length c.args.items.now.items < 2 ^ 32 = omega (arith, c.in-Ok.ensures) in
    subst (λ (items : List (Keyed g.row.T.Denot)). AreChained items (slice_set c.args.newest.now.items c.bucket_of-at.result (Some c.in-Ok.place))) (sym c.in_ok-push.ensures.items)
    (subst (λ n. AreChained (c.args.items.now.items ++ keyed ∷ []) (slice_set c.args.newest.now.items c.bucket_of-at.result (Some n))) (sym place)
    (chained_pushed c.args.items.now.items c.args.newest.now.items c.requires.chained c.bucket_of-at.result keyed c.requires.room few
    (c.bucket_of-at.ensures.value ∙ ap (λ n. bucket n c.args.key) len) within c.index-older.ensures))
