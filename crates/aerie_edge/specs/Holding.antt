-- Which client's simulation is held, until whose has ended, and for how many iterations at most.
use Rattle.std.specs.Prelude.{ℕ}

pub record Held : Type 0 where
  pub held : ℕ
  pub until : ℕ
  pub iterations : ℕ
