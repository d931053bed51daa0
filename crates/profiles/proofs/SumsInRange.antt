-- How great the sums of a linear resource are.
use Rattle.std.proofs.Common.{◌≡◌, ℕ, suc, ◌*◌, ◌<◌, ◌≤◌, ℤ, ◌+ℤ◌, ◌*ℤ◌, true, List, [], ◌∷◌, length, All, subst, sym, arith, unsigned_abs}
use Rattle.std.proofs.lemmas.Bool.{leb-true}
use Rattle.std.proofs.lemmas.Int.{ints}
use Rattle.std.proofs.lemmas.List.Elements.{All-head, All-tail}
use Rattle.aerie_base.specs.declared.linear.Linear.{Linear}
use Rattle.aerie_base.specs.declared.models.model.Parts.{Parts}
use Rattle.aerie_base.specs.declared.operands.CellRead.{CellRead}
use Rattle.aerie_base.specs.declared.operands.CellRead.TheVariants as read
use Rattle.effect_cells.specs.declared.effects.CellState.{CellState}
use Rattle.effect_cells.specs.declared.effects.CellState.TheVariants.{Counter, Register, Volume}
use Rattle.effect_cells.specs.States.{is_in_range}
use Rattle.run_data.specs.declared.runs.Run.{Run}
use Rattle.run_data.specs.Values.{cells_at}
use Rattle.windows.specs.Linear.{IsSum}
use Rattle.profiles.specs.declared.watching.Watched.{Watched}
use Rattle.profiles.specs.Followed.{InRangeBelow}
use Rattle.profiles.specs.GivenValues.{summed_most}
use Rattle.profiles.specs.Profiles.{resource_sum}
use Rattle.profiles.specs.Watching.{IsSummed, IsWatchable, read_number, values_sum, watched_on}
use Rattle.profiles.proofs.LineWalks.{sum_on}
use Rattle.aerie_base.specs.Products.{product_within}
use Rattle.profiles.proofs.Terms.{IsFormOf, all_watchable, watched_few}

number_small : (one : CellRead) (state : CellState) → IsSummed one → is_in_range state ≡ true → unsigned_abs (read_number one state) ≤ 1_000_000_000_000_000_000
number_small (read.Counter cell) (Counter number) is good = leb-true (unsigned_abs number) 1_000_000_000_000_000_000 good
number_small (read.Counter cell) (Register value flag) is good = omega arith
number_small (read.Counter cell) (Volume volume rate) is good = omega arith
number_small (read.Volume cell) (Counter number) is good = omega arith
number_small (read.Volume cell) (Register value flag) is good = omega arith
number_small (read.Volume cell) (Volume volume rate) is good = leb-true (unsigned_abs volume) 1_000_000_000_000_000_000 (grind arith)
number_small (read.Register cell) state is good = absurd is
number_small (read.Conflicted cell) state is good = absurd is
number_small (read.Rate cell) state is good = absurd is

sum_within : (a b : ℤ) (n : ℕ) → unsigned_abs a ≤ 1_000_000_000_000_000_000_000_000 → unsigned_abs b ≤ 1_000_000_000_000_000_000_000_000 * n →
    unsigned_abs (a +ℤ b) ≤ 1_000_000_000_000_000_000_000_000 * suc n
sum_within a b n one rest = omega (arith, ints, one, rest)

values_small : (watched : List Watched) → All IsWatchable watched → unsigned_abs (values_sum watched) ≤ 1_000_000_000_000_000_000_000_000 * length watched
values_small [] all = omega arith
values_small (one ∷ rest) all =
    let head = All-head IsWatchable one rest all in
    let number = number_small one.read one.state head.summed head.in_range in
    let product = product_within one.coefficient (read_number one.read one.state) head.coefficient in
    let part : unsigned_abs (one.coefficient *ℤ read_number one.read one.state) ≤ 1_000_000_000_000_000_000_000_000 = omega (arith, number, product) in
    sum_within (one.coefficient *ℤ read_number one.read one.state) (values_sum rest) (length rest) part (values_small rest (All-tail IsWatchable one rest all))

-- at each time below the reach the sum is at most 16 * 10^24 from 0
pub sums_stay : (model : Parts) (run : Run) (form : Linear) → IsFormOf model.cells form → InRangeBelow model run → (t : ℕ) → t < run.reach →
    unsigned_abs (resource_sum model run form t) ≤ summed_most
sums_stay model run form known good t below =
    let cells = cells_at model run t in
    let few = watched_few cells form.terms in
    let small = values_small (watched_on cells form.terms) (all_watchable (length model.cells) cells form.terms known.terms (good t below)) in
    subst (λ (z : ℤ). unsigned_abs z ≤ summed_most) (sym (sum_on model run form known cells)) (omega (arith, few, known.few, small))

-- so it is far below 2^120
pub sums_in_range : (model : Parts) (run : Run) (form : Linear) → IsFormOf model.cells form → InRangeBelow model run → (t : ℕ) → t < run.reach → IsSum (resource_sum model run form t)
sums_in_range model run form known good t below = let small = sums_stay model run form known good t below in omega (arith, small)
