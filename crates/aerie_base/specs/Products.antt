-- A file of lemmas: what it proves need not be read to trust a clause.
--
-- Products of whole numbers spread over sums, and how great they are.
use Rattle.std.proofs.Common.{◌≡◌, ℕ, zero, suc, ◌*◌, ◌^◌, ◌<◌, ◌≤◌, ℤ, pos, negsuc, ◌+ℤ◌, ◌-ℤ◌, ◌*ℤ◌, ap, sym, ◌∙◌, arith}
use Rattle.std.specs.Int.RustNames.{unsigned_abs}
use Rattle.std.proofs.lemmas.Int.{ints, unsigned_abs-mul}
use Rattle.std.proofs.lemmas.Nat.{mul-le}
use Rattle.std.proofs.Math.IntN.{suc_ℤ-*ℤ, *ℤ-zero, *ℤ_comm, *ℤ-negsuc}

-- one time more
pub times_more : (a : ℤ) (n : ℕ) → a *ℤ pos (suc n) ≡ a *ℤ pos n +ℤ a
times_more a n = *ℤ_comm a (pos (suc n)) ∙ suc_ℤ-*ℤ (pos n) a ∙ ap (λ (z : ℤ). z +ℤ a) (*ℤ_comm (pos n) a)

pub sum_times : (a b : ℤ) (n : ℕ) → (a +ℤ b) *ℤ pos n ≡ a *ℤ pos n +ℤ b *ℤ pos n
sum_times a b zero =
    let left = *ℤ-zero a in
    let right = *ℤ-zero b in
    let both = *ℤ-zero (a +ℤ b) in
    omega (arith, ints, left, right, both)
sum_times a b (suc n) =
    let left = times_more a n in
    let right = times_more b n in
    let both = times_more (a +ℤ b) n in
    let before = sum_times a b n in
    omega (arith, ints, left, right, both, before)

pub difference_times : (a b : ℤ) (n : ℕ) → (a -ℤ b) *ℤ pos n ≡ a *ℤ pos n -ℤ b *ℤ pos n
difference_times a b zero =
    let left = *ℤ-zero a in
    let right = *ℤ-zero b in
    let both = *ℤ-zero (a -ℤ b) in
    omega (arith, ints, left, right, both)
difference_times a b (suc n) =
    let left = times_more a n in
    let right = times_more b n in
    let both = times_more (a -ℤ b) n in
    let before = difference_times a b n in
    omega (arith, ints, left, right, both, before)

pub times_sum : (c a b : ℤ) → c *ℤ (a +ℤ b) ≡ c *ℤ a +ℤ c *ℤ b
times_sum (pos n) a b =
    let both = *ℤ_comm (pos n) (a +ℤ b) in
    let left = *ℤ_comm (pos n) a in
    let right = *ℤ_comm (pos n) b in
    let spread = sum_times a b n in
    omega (arith, ints, both, left, right, spread)
times_sum (negsuc n) a b =
    let both = *ℤ_comm (negsuc n) (a +ℤ b) ∙ *ℤ-negsuc (a +ℤ b) n in
    let left = *ℤ_comm (negsuc n) a ∙ *ℤ-negsuc a n in
    let right = *ℤ_comm (negsuc n) b ∙ *ℤ-negsuc b n in
    let spread = sum_times a b (suc n) in
    omega (arith, ints, both, left, right, spread)

pub times_times : (c a : ℤ) (n : ℕ) → c *ℤ (a *ℤ pos n) ≡ (c *ℤ a) *ℤ pos n
times_times c a zero = ap (λ (z : ℤ). c *ℤ z) (*ℤ-zero a) ∙ *ℤ-zero c ∙ sym (*ℤ-zero (c *ℤ a))
times_times c a (suc n) =
    ap (λ (z : ℤ). c *ℤ z) (times_more a n)
    ∙ times_sum c (a *ℤ pos n) a
    ∙ ap (λ (z : ℤ). z +ℤ c *ℤ a) (times_times c a n)
    ∙ sym (times_more (c *ℤ a) n)

-- a coefficient of at most a million makes a number at most a million times as great
pub product_within : (a b : ℤ) → unsigned_abs a ≤ 1_000_000 → unsigned_abs (a *ℤ b) ≤ 1_000_000 * unsigned_abs b
product_within a b small =
    let product = unsigned_abs-mul a b in
    let most = mul-le (unsigned_abs a) (unsigned_abs b) 1_000_000 (unsigned_abs b) small (omega arith) in
    omega (arith, product, most)

-- a number is no greater than a product of it with some time
pub no_greater : (rate : ℤ) (dt limit : ℕ) → 1 ≤ dt → unsigned_abs (rate *ℤ pos dt) < limit → unsigned_abs rate < limit
no_greater rate dt limit some small =
    let product = unsigned_abs-mul rate (pos dt) in
    let most = mul-le (unsigned_abs rate) 1 (unsigned_abs rate) dt (omega arith) some in
    omega (arith, product, most, small)

-- the difference of two numbers below a limit
pub between_sums : (value product : ℤ) → unsigned_abs value < 2 ^ 120 → unsigned_abs (value +ℤ product) < 2 ^ 120 → unsigned_abs product < 2 ^ 121
between_sums value product before after = omega (arith, ints)
