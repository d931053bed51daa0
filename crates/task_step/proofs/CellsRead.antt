-- The list of the cells that were read, from the front.
use Rattle.std.proofs.Common.{◌≡◌, get_or, ◌-◌, ◌≤◌, append-nil, add-zero, if◌then◌else◌, ℕ, zero, suc, ◌+◌, ◌<◌, List, [], ◌∷◌, ◌++◌, Bool, true, false, Some, refl, sym, ap, ◌∙◌, arith, length, append_assoc, drop, drop-cons, add-one}
use Rattle.std.specs.Prelude.{slice_get}
use Rattle.std.proofs.lemmas.List.{drop_all}
use Rattle.effect_cells.specs.declared.effects.CellState.{CellState}
use Rattle.run_data.specs.Frames.{read_from}

cut : {A : Type 0} (xs : List A) (i : ℕ) (x : A) → i < length xs → drop i xs ≡ get_or xs i x ∷ drop (i + 1) xs
cut xs i x lt = rw (add-one, drop-cons xs i x) refl

there' : {A : Type 0} (xs : List A) (i : ℕ) (x : A) → slice_get xs i ≡ Some x → drop i xs ≡ x ∷ drop (suc i) xs
there' [] i x e = absurd (cc)
there' (y ∷ xs) zero x e = (let k : y ≡ x = cc in ap (λ z. z ∷ xs) k)
there' (y ∷ xs) (suc i) x e = there' xs i x e

there : {A : Type 0} (xs : List A) (i : ℕ) (x : A) → slice_get xs i ≡ Some x → drop i xs ≡ x ∷ drop (i + 1) xs
there xs i x e = rw add-one (there' xs i x e)

-- a cell that was read
pub read_in : (read_flags : List Bool) (view : List CellState) (i : ℕ) (state : CellState) (before after after' all : List (ℕ × CellState)) →
    i < length read_flags → get_or read_flags i false ≡ true → slice_get view i ≡ Some state → after' ≡ after → after ≡ before ++ (i, state) ∷ [] →
    before ++ read_from i (drop i read_flags) (drop i view) ≡ all → after' ++ read_from (i + 1) (drop (i + 1) read_flags) (drop (i + 1) view) ≡ all
read_in read_flags view i state before after after' all lt is_read at_i e j h =
    let rest = read_from (i + 1) (drop (i + 1) read_flags) (drop (i + 1) view) in
    ap (λ l. l ++ rest) (e ∙ j)
    ∙ append_assoc before ((i, state) ∷ []) rest
    ∙ sym (ap (λ c. before ++ (if c then (i, state) ∷ rest else rest)) is_read)
    ∙ sym (λ k. before ++ read_from i (cut read_flags i false lt k) (there view i state at_i k))
    ∙ h

one_less : (read_flags : List Bool) (view : List CellState) (i : ℕ) → length read_flags ≡ length view → i < length read_flags → get_or read_flags i false ≡ false →
    read_from i (drop i read_flags) (drop i view) ≡ read_from (i + 1) (drop (i + 1) read_flags) (drop (i + 1) view)
one_less read_flags [] i same lt not_read = absurd (omega arith)
one_less read_flags (state ∷ view) i same lt not_read =
    let all : List CellState = state ∷ view in
    let rest = read_from (i + 1) (drop (i + 1) read_flags) (drop (i + 1) all) in
    (λ k. read_from i (cut read_flags i false lt k) (cut all i state (omega (arith, same, lt)) k))
    ∙ ap (λ c. if c then (i, get_or all i state) ∷ rest else rest) not_read

-- a cell that was not read
pub read_out : (read_flags : List Bool) (view : List CellState) (i : ℕ) (before after all : List (ℕ × CellState)) →
    length read_flags ≡ length view → i < length read_flags → get_or read_flags i false ≡ false → after ≡ before →
    before ++ read_from i (drop i read_flags) (drop i view) ≡ all → after ++ read_from (i + 1) (drop (i + 1) read_flags) (drop (i + 1) view) ≡ all
read_out read_flags view i before after all same lt not_read e h =
    ap (λ l. l ++ read_from (i + 1) (drop (i + 1) read_flags) (drop (i + 1) view)) e
    ∙ sym (ap (λ l. before ++ l) (one_less read_flags view i same lt not_read))
    ∙ h

-- ---- from a cell up to another

-- what is read from a cell on
abbrev pub rest_from : List Bool → List CellState → ℕ → List (ℕ × CellState)
rest_from read_flags view from = read_from from (drop from read_flags) (drop from view)

skip_by : (count from : ℕ) (read_flags : List Bool) (view : List CellState) → length read_flags ≡ length view → from + count ≤ length read_flags →
    ((cell : ℕ) → from ≤ cell → cell < from + count → get_or read_flags cell false ≡ false) → rest_from read_flags view from ≡ rest_from read_flags view (from + count)
skip_by zero from read_flags view same le none = ap (rest_from read_flags view) (sym (add-zero from))
skip_by (suc count) from read_flags view same le none =
    let further : from + 1 + count ≡ from + suc count = omega arith in
    one_less read_flags view from same (omega arith) (none from (omega arith) (omega arith))
    ∙ skip_by count (from + 1) read_flags view same (omega arith) (λ cell a b. none cell (omega arith) (omega arith))
    ∙ ap (rest_from read_flags view) further

-- cells of which none was read
skip : (from end : ℕ) (read_flags : List Bool) (view : List CellState) → length read_flags ≡ length view → from ≤ end → end ≤ length read_flags →
    ((cell : ℕ) → from ≤ cell → cell < end → get_or read_flags cell false ≡ false) → rest_from read_flags view from ≡ rest_from read_flags view end
skip from end read_flags view same le within none =
    let count : from + (end - from) ≡ end = omega arith in
    skip_by (end - from) from read_flags view same (omega arith) (λ cell a b. none cell a (omega (arith, b, count))) ∙ ap (rest_from read_flags view) count

-- ---- from a cell that was read to the next

-- behind a cell come those that were not read
pub then_next : (read_flags : List Bool) (view : List CellState) (from to : ℕ) (before all : List (ℕ × CellState)) → length read_flags ≡ length view → from ≤ to → to ≤ length read_flags →
    ((cell : ℕ) → from ≤ cell → cell < to → get_or read_flags cell false ≡ false) →
    before ++ rest_from read_flags view from ≡ all → before ++ rest_from read_flags view to ≡ all
then_next read_flags view from to before all same le within none h = sym (ap (λ l. before ++ l) (skip from to read_flags view same le within none)) ∙ h

-- behind the last cell
pub none_left : (read_flags : List Bool) (view : List CellState) (end : ℕ) (reads all : List (ℕ × CellState)) → length read_flags ≤ end →
    reads ++ rest_from read_flags view end ≡ all → reads ≡ all
none_left read_flags view end reads all le h =
    let nothing : rest_from read_flags view end ≡ [] = ap (λ l. read_from end l (drop end view)) (drop_all end read_flags le) in
    sym (append-nil reads) ∙ sym (ap (λ l. reads ++ l) nothing) ∙ h
