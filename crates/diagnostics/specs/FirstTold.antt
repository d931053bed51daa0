-- What comes first of several diagnostics.
use Rattle.std.specs.Prelude.{◌≡◌, ℕ, false, List, ◌∷◌, ◌++◌}
use Rattle.std.specs.List.{AllByRecursion}
use Rattle.diagnostics.specs.declared.diagnostic.Diagnostic.{Diagnostic}
use Rattle.diagnostics.specs.Diagnostics.{is_told_before}

-- one of these
abbrev pub StandsAmong : {C : Type 0} → Diagnostic C → List (Diagnostic C) → Type 0
StandsAmong {C} one all = (front behind : List (Diagnostic C)) × (all ≡ front ++ (one ∷ behind))

-- one of these, before which no other comes by place, nor at its place by rank
abbrev pub IsToldFirst : {C : Type 0} → (C → ℕ) → Diagnostic C → List (Diagnostic C) → Type 0
IsToldFirst rank first all = AllByRecursion (λ other. is_told_before rank other first ≡ false) all × StandsAmong first all
