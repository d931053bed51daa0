-- A search for the least number that passes a test.
use Rattle.std.specs.Prelude.{ℕ, zero, suc, ◌+◌, Bool, true, false, Option, Some, None}

-- a number where it passes, else what a further search finds
abbrev pub found_or : ℕ → Bool → (Unit {0} → Option ℕ) → Option ℕ
found_or here true further = Some here
found_or here false further = further tt

-- the first of so many numbers from one on that passes a test
abbrev pub least_from : (ℕ → Bool) → ℕ → ℕ → Option ℕ
least_from test from zero = None
least_from test from (suc count) = found_or from (test from) (λ _. least_from test (from + 1) count)
