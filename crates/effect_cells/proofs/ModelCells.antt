-- The cells of a valid model begin in range, and are few.
use Rattle.std.proofs.Common.{◌≡◌, ℕ, ◌<◌, ◌≤◌, ◌&&◌, List, [], ◌∷◌, length, Bool, true, false, IsTrue, get_or, nat_le, refl, arith, zero, suc, ◌+◌, ◌++◌, map, take, ap}
use Rattle.std.specs.List.{list_all}
use Rattle.std.proofs.lemmas.Bool.{false≢true}
use Rattle.std.proofs.lemmas.Bool.Decides.{nat_tests}
use Rattle.aerie_base.specs.declared.names.Name.{Name}
use Rattle.aerie_base.specs.declared.models.EnumType.{EnumType}
use Rattle.aerie_base.specs.declared.models.CellStart.{CellStart}
use Rattle.aerie_base.specs.declared.models.CellStart.TheVariants.{Counter, Register, Accumulator}
use Rattle.aerie_base.specs.declared.models.model.Parts.{Parts}
use Rattle.aerie_base.specs.Ranges.{is_number, is_rate}
use Rattle.aerie_base.specs.models.Cells.{is_cell}
use Rattle.aerie_base.specs.models.ValidModel.{valid_model, has_good_cells}
use Rattle.aerie_base.specs.models.ValidParts.{are_good}
use Rattle.effect_cells.specs.Cells.{begins_in_range, first_state}
use Rattle.effect_cells.specs.declared.effects.CellState.{CellState}

both : (a b : Bool) → IsTrue (a && b) → (a ≡ true) × (b ≡ true)
both a b h = (grind arith, grind arith)

begins : (enums : List EnumType) (cell : CellStart) → is_cell enums cell ≡ true → begins_in_range cell ≡ true
begins enums (Counter number) good = refl
begins enums (Register kind value) good = refl
begins enums (Accumulator volume rate) good = (both (is_number volume) (is_rate rate) good).1

all_begin : (enums : List EnumType) (cells : List (Name × CellStart)) → list_all (λ cell. is_cell enums cell.1) cells ≡ true → list_all (λ cell. begins_in_range cell.1) cells ≡ true
all_begin enums [] good = refl
all_begin enums (cell ∷ rest) good = go (is_cell enums cell.1) refl (λ others. all_begin enums rest others)
  where
    go : (v : Bool) → is_cell enums cell.1 ≡ v →
        (list_all (λ cell. is_cell enums cell.1) rest ≡ true → list_all (λ cell. begins_in_range cell.1) rest ≡ true) →
        list_all (λ cell. begins_in_range cell.1) (cell ∷ rest) ≡ true
    go true e rest_begins = let others : list_all (λ cell. is_cell enums cell.1) rest ≡ true = rw e at good in rw (begins enums cell.1 e) (rest_begins others)
    go false e rest_begins = absurd (false≢true (rw e at good))

pub model_begins : (model : Parts) → IsTrue (valid_model model) → list_all (λ cell. begins_in_range cell.1) model.cells ≡ true
unfolding has_good_cells
model_begins model valid = all_begin model.enums model.cells ((both _ _ (are_good model valid).cells).1)

pub few_cells : (model : Parts) → IsTrue (valid_model model) → length model.cells ≤ 256
unfolding has_good_cells
few_cells model valid = let few : nat_le (length model.cells) 256 ≡ true = (both _ _ (are_good model valid).cells).0 in grind (arith, nat_tests)

first_begins : (x : Name × CellStart) (xs : List (Name × CellStart)) → list_all (λ cell. begins_in_range cell.1) (x ∷ xs) ≡ true → begins_in_range x.1 ≡ true
first_begins x xs good = go (begins_in_range x.1) refl
  where
    go : (v : Bool) → begins_in_range x.1 ≡ v → begins_in_range x.1 ≡ true
    go true e = e
    go false e = absurd (false≢true (rw e at good))

rest_begins : (x : Name × CellStart) (xs : List (Name × CellStart)) → list_all (λ cell. begins_in_range cell.1) (x ∷ xs) ≡ true → list_all (λ cell. begins_in_range cell.1) xs ≡ true
rest_begins x xs good = let first : begins_in_range x.1 ≡ true = first_begins x xs good in rw first at good

-- each of them
pub each_begins : (cells : List (Name × CellStart)) (i : ℕ) (cell : Name × CellStart) → list_all (λ cell. begins_in_range cell.1) cells ≡ true → i < length cells → cell ≡ get_or cells i cell →
    begins_in_range cell.1 ≡ true
each_begins [] i cell good within e = absurd (omega arith)
each_begins (x ∷ xs) zero cell good within e = rw e (first_begins x xs good)
each_begins (x ∷ xs) (suc i) cell good within e = each_begins xs i cell (rest_begins x xs good) (omega arith) e

-- one cell more as it is declared
next_state : (starts : List (Name × CellStart)) (i : ℕ) (cell : Name × CellStart) → i < length starts → cell ≡ get_or starts i cell →
    map (λ cell. first_state cell.1) (take i starts) ++ first_state cell.1 ∷ [] ≡ map (λ cell. first_state cell.1) (take (suc i) starts)
next_state [] i cell within e = absurd (omega arith)
next_state (x ∷ xs) zero cell within e = rw e refl
next_state (x ∷ xs) (suc i) cell within e = ap (λ (rest : List CellState). first_state x.1 ∷ rest) (next_state xs i cell (omega arith) e)

pub states_more : (starts : List (Name × CellStart)) (i : ℕ) (cell : Name × CellStart) (states more : List CellState) (state : CellState) → i < length starts → cell ≡ get_or starts i cell →
    states ≡ map (λ cell. first_state cell.1) (take i starts) → state ≡ first_state cell.1 → more ≡ states ++ state ∷ [] → more ≡ map (λ cell. first_state cell.1) (take (i + 1) starts)
states_more starts i cell states more state within e s f m = let next : i + 1 ≡ suc i = omega arith in rw (m, s, f, next) (next_state starts i cell within e)
