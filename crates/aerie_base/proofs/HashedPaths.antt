-- What is hashed of a path, written number by number.
use Rattle.std.proofs.Common.{◌≡◌, ℕ, ◌+◌, ◌<◌, ◌≤◌, List, length, get_or, drop, sym, ap, ◌∙◌}
use Rattle.std.proofs.lemmas.List.{drop_all, drop_more}
use Rattle.std.specs.List.{flat_map, fold}
use Rattle.std.specs.Hash.{le_bytes}
use Rattle.std.specs.Hash as fed

-- what is written from a child on
abbrev pub rest_written : {S : Type 0} → (S → List ℕ → S) → List ℕ → ℕ → S → S
rest_written write children index state = fold write state (flat_map fed.u32 (drop index children))

pub child_written : {S : Type 0} (write : S → List ℕ → S) (children : List ℕ) (index : ℕ) (state next whole : S) → index < length children → next ≡ write state (le_bytes 4 (get_or children index 0)) →
    rest_written write children index state ≡ whole → rest_written write children (index + 1) next ≡ whole
child_written {S} write children index state next whole within is before =
    ap (rest_written write children (index + 1)) is
    ∙ sym (ap (λ (l : List ℕ). fold write state (flat_map fed.u32 l)) (drop_more children index 0 within))
    ∙ before

pub all_written : {S : Type 0} (write : S → List ℕ → S) (children : List ℕ) (index : ℕ) (state whole : S) → length children ≤ index → rest_written write children index state ≡ whole → state ≡ whole
all_written write children index state whole past before =
    sym (ap (λ (l : List ℕ). fold write state (flat_map fed.u32 l)) (drop_all index children past)) ∙ before
