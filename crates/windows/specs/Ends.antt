-- Times brought into a span.
use Rattle.std.specs.Prelude.{ℕ, ℤ, pos, cond, int_lt, nat_abs}

-- the number itself where it lies from `low` to `high`, and else the nearer of the two
abbrev pub clipped : ℕ → ℕ → ℤ → ℕ
clipped low high number = cond (int_lt number (pos low)) low (cond (int_lt (pos high) number) high (nat_abs number))
