-- The sums over what is watched, one after another.
use Rattle.std.proofs.Common.{◌≡◌, ℕ, ◌+◌, ◌<◌, ℤ, ◌+ℤ◌, ◌*ℤ◌, List, ◌∷◌, length, drop, get_or, arith, add-one, drop-cons}
use Rattle.std.proofs.lemmas.Int.{ints}
use Rattle.profiles.specs.declared.watching.Watched.{Watched}
use Rattle.profiles.specs.Watching.{read_number, read_rate, values_sum, rates_sum}

cut_at : (watched : List Watched) (i : ℕ) (one : Watched) → i < length watched → one ≡ get_or watched i one → drop i watched ≡ one ∷ drop (i + 1) watched
cut_at watched i one within is = rw (add-one, is) (drop-cons watched i one within)

pub values_next : (watched : List Watched) (i : ℕ) (one : Watched) (sum more whole : ℤ) → i < length watched → one ≡ get_or watched i one →
    more ≡ one.coefficient *ℤ read_number one.read one.state → sum +ℤ values_sum (drop i watched) ≡ whole → (sum +ℤ more) +ℤ values_sum (drop (i + 1) watched) ≡ whole
values_next watched i one sum more whole within is product before =
    let cut = cut_at watched i one within is in
    let there : sum +ℤ ((one.coefficient *ℤ read_number one.read one.state) +ℤ values_sum (drop (i + 1) watched)) ≡ whole = rw cut at before in
    omega (arith, ints, product, there)

pub rates_next : (watched : List Watched) (i : ℕ) (one : Watched) (sum more whole : ℤ) → i < length watched → one ≡ get_or watched i one →
    more ≡ one.coefficient *ℤ read_rate one.read one.state → sum +ℤ rates_sum (drop i watched) ≡ whole → (sum +ℤ more) +ℤ rates_sum (drop (i + 1) watched) ≡ whole
rates_next watched i one sum more whole within is product before =
    let cut = cut_at watched i one within is in
    let there : sum +ℤ ((one.coefficient *ℤ read_rate one.read one.state) +ℤ rates_sum (drop (i + 1) watched)) ≡ whole = rw cut at before in
    omega (arith, ints, product, there)
