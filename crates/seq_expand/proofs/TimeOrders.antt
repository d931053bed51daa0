-- A stable sort by time gives what the definition gives.
use Rattle.std.proofs.Common.{◌≡◌, ℤ, Bool, true, false, cond, List, [], ◌∷◌, refl, ap, ◌∙◌}
use Rattle.std.specs.Cmp.{IsStrictWeakOrder}
use Rattle.std.specs.Int.RustNames.{int_lt}
use Rattle.std.specs.List.Sorted.{IsStableBy, IsSortedBy}
use Rattle.std.specs.Ordering.{int_cmp, is_lt}
use Rattle.std.specs.declared.cmp.Ordering.TheVariants.{Less, Equal, Greater}
use Rattle.std.proofs.lemmas.Cmp.{int_cmp_total, on_total}
use Rattle.std.proofs.lemmas.List.Sorted.{ranks_by}
use Rattle.seq_expand.specs.declared.sequence.Sent.{Sent}
use Rattle.seq_expand.specs.Expanding.{put_sent, by_time}
use Rattle.span_table.proofs.Sorting.{put, all_put, sorted_is}

abbrev pub is_earlier : Sent → Sent → Bool
is_earlier sent other = is_lt (int_cmp sent.at other.at)

pub time_order : IsStrictWeakOrder is_earlier
time_order = ranks_by (on_total (λ (s : Sent). s.at) int_cmp_total) (λ (s : Sent). s)

less_is : (a b : ℤ) → is_lt (int_cmp a b) ≡ int_lt a b
less_is a b = go (int_lt a b) (int_lt b a)
  where
    go : (less more : Bool) → is_lt (cond less Less (cond more Greater Equal)) ≡ less
    go true more = refl
    go false true = refl
    go false false = refl

put_is : (a : Sent) (sent : List Sent) → put Sent is_earlier time_order a sent ≡ put_sent a sent
put_is a [] = refl
put_is a (b ∷ rest) =
    ap (λ l. cond (is_earlier b a) (b ∷ l) (a ∷ b ∷ rest)) (put_is a rest)
    ∙ ap (λ t. cond t (b ∷ put_sent a rest) (a ∷ b ∷ rest)) (less_is b.at a.at)

all_is : (sent : List Sent) → all_put Sent is_earlier time_order sent ≡ by_time sent
all_is [] = refl
all_is (one ∷ rest) = put_is one (all_put Sent is_earlier time_order rest) ∙ ap (put_sent one) (all_is rest)

pub sort_gives : (sent sorted : List Sent) → IsSortedBy is_earlier sorted → IsStableBy is_earlier sent sorted → sorted ≡ by_time sent
sort_gives sent sorted up stable = sorted_is Sent is_earlier time_order sent sorted up stable ∙ all_is sent
