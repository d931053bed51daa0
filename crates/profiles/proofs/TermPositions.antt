-- The positions of the instants that touch a cell which some terms read.
use Rattle.std.proofs.Common.{◌≡◌, ◌⊎◌, inl, inr, ℕ, ◌<◌, List, [], ◌∷◌, slice_get, refl, sym, ap, subst, ◌∙◌}
use Rattle.aerie_base.specs.declared.linear.Term.{Term}
use Rattle.aerie_base.specs.declared.operands.Operand.{Operand}
use Rattle.aerie_base.specs.declared.operands.Operand.TheVariants.{Read, Local}
use Rattle.aerie_base.specs.expressions.Readings.{cell_of}
use Rattle.run_data.specs.declared.runs.Instant.{Instant}
use Rattle.profiles.specs.Touches.{AreTouching, CoversTouches, IsReadBy, IsReadIn, merge, positions_from, positions_if, positions_read, touching}
use Rattle.profiles.proofs.Positions.{covers_less, covers_merge, covers_nothing, covers_touching}
use Rattle.profiles.proofs.Terms.{AreTermsOf, IsOperandOf}

module _ (instants : List Instant) (count : ℕ) (by_cell : List (List ℕ)) (are : AreTouching instants count by_cell) where
  pub read_there : (cell : ℕ) → cell < count → positions_if (slice_get by_cell cell) ≡ touching instants cell
  read_there cell within = ap positions_if (are.each cell within)

  pub covers_cell : (cell : ℕ) (positions : List ℕ) → cell < count → positions ≡ positions_if (slice_get by_cell cell) → CoversTouches (λ k. k ≡ cell) 0 instants positions
  covers_cell cell positions within is = subst (CoversTouches (λ k. k ≡ cell) 0 instants) (sym (is ∙ read_there cell within)) (covers_touching cell 0 instants)

  covers_operand : (operand : Operand) → IsOperandOf count operand → CoversTouches (IsReadIn operand) 0 instants (positions_read by_cell operand)
  covers_operand (Read one) is = covers_cell (cell_of one) (positions_if (slice_get by_cell (cell_of one))) is.1 refl
  covers_operand (Local slot) is = absurd is

  covers_more : (On : ℕ → Type 0) (positions : List ℕ) (terms : List Term) → AreTermsOf count terms → CoversTouches On 0 instants positions →
      CoversTouches (λ k. On k ⊎ IsReadBy terms k) 0 instants (positions_from positions by_cell terms)
  covers_more On positions [] of covers = covers_less On (λ k. On k ⊎ ⊥) less 0 instants positions covers
    where
      less : (k : ℕ) → (On k ⊎ ⊥) → On k
      less k (inl is) = is
      less k (inr is) = absurd is
  covers_more On positions (term ∷ rest) of covers =
      covers_less (λ k. (On k ⊎ IsReadIn term.operand k) ⊎ IsReadBy rest k) (λ k. On k ⊎ (IsReadIn term.operand k ⊎ IsReadBy rest k)) regrouped 0 instants
      (positions_from (merge positions (positions_read by_cell term.operand)) by_cell rest)
      (covers_more (λ k. On k ⊎ IsReadIn term.operand k) (merge positions (positions_read by_cell term.operand)) rest of.2
      (covers_merge On (IsReadIn term.operand) 0 instants positions (positions_read by_cell term.operand) covers (covers_operand term.operand of.0)))
    where
      regrouped : (k : ℕ) → (On k ⊎ (IsReadIn term.operand k ⊎ IsReadBy rest k)) → (On k ⊎ IsReadIn term.operand k) ⊎ IsReadBy rest k
      regrouped k (inl is) = inl (inl is)
      regrouped k (inr (inl is)) = inl (inr is)
      regrouped k (inr (inr is)) = inr is

  pub covers_terms : (terms : List Term) (positions : List ℕ) → AreTermsOf count terms → positions ≡ positions_from [] by_cell terms → CoversTouches (IsReadBy terms) 0 instants positions
  covers_terms terms positions of is =
      subst (CoversTouches (IsReadBy terms) 0 instants) (sym is)
      (covers_less (λ k. ⊥ ⊎ IsReadBy terms k) (IsReadBy terms) (λ k is. inr is) 0 instants (positions_from [] by_cell terms)
      (covers_more (λ k. ⊥) [] terms of (covers_nothing 0 instants)))
