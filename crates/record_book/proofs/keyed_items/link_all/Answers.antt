use Rattle.std.proofs.Common.{◌≡◌, ℕ, ◌<◌, List, Option, Some, None, length, refl, sym, ◌∙◌, arith}
use Rattle.std.specs.Prelude.{slice_get, slice_index_or}
use Rattle.std.proofs.lemmas.List.{length-set}
use Rattle.std.proofs.lemmas.Option.{same_Some, slice_get-get_or}
use Rattle.record_book.specs.Chains.{bucket}
use Rattle.record_book.specs.declared.keyed_items.Keyed.{Keyed}
use Rattle.record_book.proofs.Chaining.{linked_more, same_keys}
use Rattle.record_book.proofs.keyed_items.link_all.Goals as goal

pub loop-at-preserved : goal.loop-at-preserved
loop-at-preserved g c =
    let items : List (Keyed g.row.T.Denot) = c.loop-at.items in
    let newest : List (Option ℕ) = c.loop-at.newest in
    let at : ℕ = c.loop-at.at in
    let b : ℕ = c.bucket_of-bucket.result in
    let within : at < length items = omega (arith, c.loop-at.invariant.many, c.loop-at-test.true) in
    let in_newest : b < length newest = c.bucket_of-bucket.ensures.within in
    let in_count : b < length c.args.newest.now = omega (arith, c.loop-at.invariant.len) in
    let keyed : Keyed g.row.T.Denot = slice_index_or items at c.index-items-at-in-loop-at.result in
    let made : Keyed g.row.T.Denot = record { key = keyed.key; item = keyed.item; older = slice_index_or newest b None } in
    let there : slice_get items at ≡ Some keyed = slice_get-get_or items at c.index-items-at-in-loop-at.result within in
    let read : Keyed g.row.T.Denot = slice_index_or items at c.index-items-at.result in
    let is_read : read ≡ keyed = same_Some read keyed (sym (slice_get-get_or items at c.index-items-at.result within) ∙ there) in
    let is_b : b ≡ bucket (length c.args.newest.now) keyed.key =
    c.bucket_of-bucket.ensures.value ∙ (λ i. bucket (c.loop-at.invariant.len i) ((is_read i).key)) in
    record {
      linked =
          linked_more (length c.args.newest.now) b items newest in_count c.loop-at.invariant.len at keyed made there refl c.loop-at.invariant.linked
          (slice_get-get_or newest b None in_newest) is_b;
      same = same_keys (length c.args.newest.now) b items newest in_count c.loop-at.invariant.len at keyed made there refl ∙ c.loop-at.invariant.same;
      len = length-set newest b (Some at) ∙ c.loop-at.invariant.len;
      many = length-set items at made ∙ c.loop-at.invariant.many;
    }
