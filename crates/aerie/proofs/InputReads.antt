-- A read after other reads.
use Rattle.std.proofs.Common.{◌≡◌, ℕ, ◌+◌, ◌<◌, ◌≤◌, List, ◌++◌, length, Option, Result, Ok, sym, subst, ◌∙◌, ap, arith, length-append}
use Rattle.std.specs.Io.KnownBytes.{Consumes, IsAtEnd}
use Rattle.std.proofs.KnownBytes.{Consumes-trans}
use Rattle.aerie.specs.Input.{HasRead, ReadsMore, most_read}

-- whatever a read answers, what was read so far is read, and what it took
pub read_on : {E : Type 0} (a b c : Option (List ℕ)) (room : ℕ) (bytes new : List ℕ) (result : Result ℕ E)
    → Consumes a b bytes → ReadsMore b c room bytes new result → room + length bytes ≤ most_read → (all : List ℕ) × HasRead a c all
read_on a b c room bytes new result so_far more fits = (
  bytes ++ more.part,
  record {
    taken = Consumes-trans a b c bytes more.part so_far more.taken;
    most = omega (arith, length-append bytes more.part, more.most, fits);
  },
)

-- what a read that succeeded leaves
pub record Read (a c : Option (List ℕ)) (room : ℕ) (bytes new : List ℕ) (count : ℕ) : Type 0 where
  pub taken : Consumes a c new
  pub len : length new ≡ length bytes + count
  pub most : count ≤ room
  pub ended : count ≡ 0 → 0 < room → IsAtEnd c

pub read_more : {E : Type 0} (a b c : Option (List ℕ)) (room : ℕ) (bytes new : List ℕ) (count : ℕ)
    → Consumes a b bytes → ReadsMore {E = E} b c room bytes new (Ok count) → Read a c room bytes new count
read_more a b c room bytes new count so_far more = record {
  taken = subst (Consumes a c) (sym more.behind.0) (Consumes-trans a b c bytes more.part so_far more.taken);
  len = ap length more.behind.0 ∙ length-append bytes more.part ∙ ap (λ (n : ℕ). length bytes + n) (sym more.behind.1);
  most = omega (arith, more.most, more.behind.1);
  ended = more.behind.2;
}
