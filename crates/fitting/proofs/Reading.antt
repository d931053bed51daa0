-- Whether a view agrees with reads, one after another.
use Rattle.std.proofs.Common.{◌≡◌, ℕ, zero, suc, ◌+◌, ◌<◌, List, [], ◌∷◌, length, get_or, take, sym, subst, arith}
use Rattle.effect_cells.specs.declared.effects.CellState.{CellState}
use Rattle.run_data.specs.Records.{Agrees}

-- all of them agree, so each does
pub agrees_at : (view : List CellState) (reads : List (ℕ × CellState)) (at : ℕ) (read : ℕ × CellState) → at < length reads → read ≡ get_or reads at read → Agrees view reads → Agrees view (read ∷ [])
agrees_at view [] at read less is agrees = absurd (omega (arith, less))
agrees_at view (first ∷ rest) zero read less is agrees = subst (λ (r : ℕ × CellState). Agrees view (r ∷ [])) (sym is) (agrees.0, tt)
agrees_at view (first ∷ rest) (suc at) read less is agrees = agrees_at view rest at read (omega (arith, less)) is agrees.1

-- one more of them
pub agrees_more : (view : List CellState) (reads : List (ℕ × CellState)) (at : ℕ) (read : ℕ × CellState) → at < length reads → read ≡ get_or reads at read → Agrees view (take at reads) →
    Agrees view (read ∷ []) → Agrees view (take (at + 1) reads)
agrees_more view [] at read less is so_far one = absurd (omega (arith, less))
agrees_more view (first ∷ rest) zero read less is so_far one = subst (λ (r : ℕ × CellState). Agrees view (r ∷ [])) is one
agrees_more view (first ∷ rest) (suc at) read less is so_far one =
    let further = agrees_more view rest at read (omega (arith, less)) is so_far.1 one in
    let sum : suc at + 1 ≡ suc (at + 1) = omega arith in
    subst (λ n. Agrees view (take n (first ∷ rest))) (sym sum) (so_far.0, further)
