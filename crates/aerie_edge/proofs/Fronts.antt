-- What a front of the bytes, put into the front of a room, takes from them.
use Rattle.std.proofs.Common.{◌≡◌, ℕ, ◌≤◌, List, ◌++◌, length, take, drop, take-append-drop, sym, arith}
use Rattle.std.proofs.lemmas.Grind.{common_steps}

pub front_given : (bytes room new : List ℕ) (n : ℕ) → n ≤ length bytes → new ≡ take n bytes ++ drop n room → take n new ≡ take n bytes
front_given bytes room new n h e = grind (arith, common_steps)

-- the bytes begin with those that were given
pub front_consumed : (bytes room new : List ℕ) (n : ℕ) → n ≤ length bytes → new ≡ take n bytes ++ drop n room → bytes ≡ take n new ++ drop n bytes
front_consumed bytes room new n h e = rw (front_given bytes room new n h e) (sym (take-append-drop n bytes))
