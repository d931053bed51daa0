-- A line by whole steps: below a number before the step at which they meet, and above it after, or the other way round.
use Rattle.std.proofs.Common.{◌≡◌, ℕ, zero, suc, ◌*◌, ◌/◌, ◌<◌, ◌≤◌, Bool, true, false, cond, ℤ, pos, negsuc, ◌+ℤ◌, ◌-ℤ◌, ◌*ℤ◌, neg_ℤ, ◌≤ℤ◌, ◌<ℤ◌, nat_abs, refl, sym, ap, subst, ◌∙◌, arith}
use Rattle.std.specs.Int.RustNames.{int_lt, int_div, int_rem, unsigned_abs}
use Rattle.std.specs.declared.cmp.Ordering.{Ordering}
use Rattle.std.specs.declared.cmp.Ordering.TheVariants.{Less, Equal, Greater}
use Rattle.std.specs.Ordering.{int_cmp, MatchOrdering}
use Rattle.std.specs.Cmp.{int_ranks, int_cmp_is}
use Rattle.std.proofs.Math.IntN.{suc_ℤ-*ℤ, +ℤ-suc_ℤ, zero-*ℤ, *ℤ_comm, *ℤ-negsuc, pos-*ℤ-pos}
use Rattle.std.proofs.lemmas.Int.{ints, quot-rem, rem_below}
use Rattle.std.proofs.Math.Nat.{div-le_self}
use Rattle.std.proofs.lemmas.Grind.{common_steps}

mul_more : (k r : ℤ) (n : ℕ) → (k +ℤ pos n) *ℤ r ≡ k *ℤ r +ℤ pos n *ℤ r
mul_more k r zero =
    let none = zero-*ℤ r in
    let same : k +ℤ pos 0 ≡ k = omega (arith, ints) in
    ap (λ (z : ℤ). z *ℤ r) same ∙ omega (arith, ints, none)
mul_more k r (suc n) =
    let step : (k +ℤ pos (suc n)) *ℤ r ≡ (k +ℤ pos n) *ℤ r +ℤ r = ap (λ (z : ℤ). z *ℤ r) (+ℤ-suc_ℤ k (pos n)) ∙ suc_ℤ-*ℤ (k +ℤ pos n) r in
    let before = mul_more k r n in
    let more : pos (suc n) *ℤ r ≡ pos n *ℤ r +ℤ r = suc_ℤ-*ℤ (pos n) r in
    omega (arith, ints, step, before, more)

-- how far the one number is past the other
far : (k q : ℤ) → k <ℤ q → k +ℤ pos (suc (nat_abs (q -ℤ k -ℤ pos 1))) ≡ q
far k q below = by_difference (q -ℤ k -ℤ pos 1) refl
  where
    by_difference : (d : ℤ) → d ≡ q -ℤ k -ℤ pos 1 → k +ℤ pos (suc (nat_abs (q -ℤ k -ℤ pos 1))) ≡ q
    by_difference (pos n) e = subst (λ (z : ℤ). k +ℤ pos (suc (nat_abs z)) ≡ q) e (omega (arith, ints))
    by_difference (negsuc n) e = absurd (omega (arith, ints))

-- a step earlier is lower by at least the rate
steps_below : (m : ℕ) (k q : ℤ) → k <ℤ q → (k *ℤ pos (suc m) +ℤ pos (suc m)) ≤ℤ (q *ℤ pos (suc m))
steps_below m k q below = subst (λ (z : ℤ). (k *ℤ pos (suc m) +ℤ pos (suc m)) ≤ℤ (z *ℤ pos (suc m))) (far k q below) (by_steps (nat_abs (q -ℤ k -ℤ pos 1)))
  where
    by_steps : (n : ℕ) → (k *ℤ pos (suc m) +ℤ pos (suc m)) ≤ℤ ((k +ℤ pos (suc n)) *ℤ pos (suc m))
    by_steps n =
        let whole = mul_more k (pos (suc m)) (suc n) in
        let more : pos (suc n) *ℤ pos (suc m) ≡ pos (suc n * suc m) = pos-*ℤ-pos (suc n) (suc m) in
        let enough : suc m ≤ suc n * suc m = grind (arith, common_steps) in
        omega (arith, ints, whole, more, enough)

rising_before : (m : ℕ) (k q rest away : ℤ) → q *ℤ pos (suc m) +ℤ rest ≡ away → unsigned_abs rest < suc m → k <ℤ q → (k *ℤ pos (suc m)) <ℤ away
rising_before m k q rest away whole small below =
    let step = steps_below m k q below in
    let lower : (neg_ℤ (pos (suc m))) <ℤ rest = omega (arith, ints) in
    omega (arith, ints, step, whole, lower)

rising_after : (m : ℕ) (k q rest away : ℤ) → q *ℤ pos (suc m) +ℤ rest ≡ away → unsigned_abs rest < suc m → q <ℤ k → away <ℤ (k *ℤ pos (suc m))
rising_after m k q rest away whole small below =
    let step = steps_below m q k below in
    let upper : rest <ℤ pos (suc m) = omega (arith, ints) in
    omega (arith, ints, step, whole, upper)

-- where they meet, the rest decides
at_meeting : (x rest away : ℤ) → x +ℤ rest ≡ away → int_cmp x away ≡ int_cmp (pos 0) rest
at_meeting x rest away whole = sym (int_cmp_is x away (int_cmp (pos 0) rest) (moved (int_cmp (pos 0) rest) (int_ranks (pos 0) rest)))
  where
    moved : (o : Ordering) → MatchOrdering o (pos 0 <ℤ rest) (pos 0 ≡ rest) (rest <ℤ pos 0) → MatchOrdering o (x <ℤ away) (x ≡ away) (away <ℤ x)
    moved Less below = omega (arith, ints)
    moved Equal same = omega (arith, ints)
    moved Greater above = omega (arith, ints)

less_is : (x y : ℤ) → x <ℤ y → int_cmp x y ≡ Less
less_is x y below = sym (int_cmp_is x y Less below)

greater_is : (x y : ℤ) → y <ℤ x → int_cmp x y ≡ Greater
greater_is x y above = sym (int_cmp_is x y Greater above)

by_place : (at step : ℤ) (before there after result : Ordering) → (step <ℤ at → result ≡ before) → (step ≡ at → result ≡ there) → (at <ℤ step → result ≡ after) →
    result ≡ cond (int_lt step at) before (cond (int_lt at step) after there)
by_place at step before there after result earlier same later = go (int_lt step at) refl (int_lt at step) refl
  where
    go : (a : Bool) → int_lt step at ≡ a → (b : Bool) → int_lt at step ≡ b → result ≡ cond a before (cond b after there)
    go true below b second = earlier (grind (arith, ints))
    go false first true above = later (grind (arith, ints))
    go false first false second = same (let not_below : at ≤ℤ step = grind (arith, ints) in let not_above : step ≤ℤ at = grind (arith, ints) in omega (arith, ints))

pub rising : (m : ℕ) (step q rest away : ℤ) → q *ℤ pos (suc m) +ℤ rest ≡ away → unsigned_abs rest < suc m →
    int_cmp (pos (suc m) *ℤ step) away ≡ cond (int_lt step q) Less (cond (int_lt q step) Greater (int_cmp (pos 0) rest))
rising m step q rest away whole small =
    let swapped = *ℤ_comm (pos (suc m)) step in
    ap (λ (z : ℤ). int_cmp z away) swapped
    ∙ by_place q step Less (int_cmp (pos 0) rest) Greater (int_cmp (step *ℤ pos (suc m)) away)
    (λ below. less_is _ _ (rising_before m step q rest away whole small below))
    (λ same. at_meeting _ rest away (ap (λ (z : ℤ). z *ℤ pos (suc m) +ℤ rest) same ∙ whole))
    (λ above. greater_is _ _ (rising_after m step q rest away whole small above))

pub falling : (m : ℕ) (step q rest away : ℤ) → q *ℤ negsuc m +ℤ rest ≡ away → unsigned_abs rest < suc m →
    int_cmp (negsuc m *ℤ step) away ≡ cond (int_lt step q) Greater (cond (int_lt q step) Less (int_cmp (pos 0) rest))
falling m step q rest away whole small =
    let swapped = *ℤ_comm (negsuc m) step in
    let down = *ℤ-negsuc step m in
    let down_there = *ℤ-negsuc q m in
    let mirrored : q *ℤ pos (suc m) +ℤ neg_ℤ rest ≡ neg_ℤ away = omega (arith, ints, whole, down_there) in
    let small_too : unsigned_abs (neg_ℤ rest) < suc m = omega (arith, ints) in
    ap (λ (z : ℤ). int_cmp z away) swapped
    ∙ by_place q step Greater (int_cmp (pos 0) rest) Less (int_cmp (step *ℤ negsuc m) away)
    (λ below. greater_is (step *ℤ negsuc m) away (let up = rising_before m step q (neg_ℤ rest) (neg_ℤ away) mirrored small_too below in omega (arith, ints, up, down)))
    (λ same. at_meeting _ rest away (ap (λ (z : ℤ). z *ℤ negsuc m +ℤ rest) same ∙ whole))
    (λ above. less_is (step *ℤ negsuc m) away (let up = rising_after m step q (neg_ℤ rest) (neg_ℤ away) mirrored small_too above in omega (arith, ints, up, down)))

pub level : (step away : ℤ) → int_cmp (pos 0 *ℤ step) away ≡ int_cmp (pos 0) away
level step away = ap (λ (z : ℤ). int_cmp z away) (zero-*ℤ step)

-- the quotient is no further from 0 than what is divided
abs_neg : (n : ℕ) → unsigned_abs (neg_ℤ (pos n)) ≡ n
abs_neg zero = refl
abs_neg (suc n) = refl

quotient_within : (a d : ℤ) → unsigned_abs (int_div a d) ≤ unsigned_abs a
quotient_within (pos a) (pos b) = div-le_self a b
quotient_within (pos a) (negsuc b) = omega (arith, abs_neg (a / suc b), div-le_self a (suc b))
quotient_within (negsuc a) (pos b) = omega (arith, abs_neg (suc a / b), div-le_self (suc a) b)
quotient_within (negsuc a) (negsuc b) = div-le_self (suc a) (suc b)

pub near : (a d : ℤ) (limit : ℕ) → unsigned_abs a < limit → unsigned_abs (int_div a d) < limit
near a d limit below = let within = quotient_within a d in omega arith

above_zero : (m : ℕ) → int_lt (pos 0) (pos (suc m)) ≡ true
above_zero m = grind (arith, ints)

-- what the code divides and compares
pub crosses_rising : (rate away at : ℤ) (there : Ordering) → at ≡ int_div away rate → there ≡ int_cmp (pos 0) (int_rem away rate) → int_lt (pos 0) rate ≡ true → (step : ℤ) →
    int_cmp (rate *ℤ step) away ≡ cond (int_lt step at) Less (cond (int_lt at step) Greater there)
crosses_rising (pos zero) away at there at_is there_is rises step = absurd (cc)
crosses_rising (negsuc m) away at there at_is there_is rises step = absurd (cc)
crosses_rising (pos (suc m)) away at there at_is there_is rises step =
    rw (at_is, there_is) (rising m step (int_div away (pos (suc m))) (int_rem away (pos (suc m))) away (quot-rem away (pos (suc m))) (rem_below away (pos (suc m)) (omega arith)))

pub crosses_falling : (rate away at : ℤ) (there : Ordering) → at ≡ int_div away rate → there ≡ int_cmp (pos 0) (int_rem away rate) → int_lt (pos 0) rate ≡ false → (rate ≡ pos 0 → ⊥) → (step : ℤ) →
    int_cmp (rate *ℤ step) away ≡ cond (int_lt step at) Greater (cond (int_lt at step) Less there)
crosses_falling (pos zero) away at there at_is there_is falls moves step = absurd (moves refl)
crosses_falling (pos (suc m)) away at there at_is there_is falls moves step = let rises = above_zero m in absurd (cc)
crosses_falling (negsuc m) away at there at_is there_is falls moves step =
    rw (at_is, there_is) (falling m step (int_div away (negsuc m)) (int_rem away (negsuc m)) away (quot-rem away (negsuc m)) (rem_below away (negsuc m) (omega arith)))
