-- A file of lemmas: what it proves need not be read to trust a clause.
--
-- What the outcome of an expression depends on: what is read of the cells whose read flag is then set, and nothing else of the
-- cells. Flags only rise.
use Rattle.std.specs.Prelude.{◌≡◌, ℕ, zero, suc, Bool, true, List, [], ◌∷◌, length, get_or, Option, Some, None, Ok, Err}
use mathlib.Core.Path.{refl, ap, ◌∙◌}
use Rattle.aerie_base.specs.expressions.Arithmetic.{ValueOrFault, combined, decided, negated, denied}
use Rattle.aerie_base.specs.expressions.Readings.{reading, cell_of, also}
use Rattle.aerie_base.specs.expressions.Evaluation.{Evaluated, evaluated, then_made, on_value, unless_decided, left_to_right}
use Rattle.aerie_base.specs.declared.values.Value.{Value}
use Rattle.aerie_base.specs.declared.operands.CellRead.{CellRead}
use Rattle.aerie_base.specs.declared.operands.Operand.TheVariants.{Read, Local}
use Rattle.aerie_base.specs.declared.expressions.Operator.{Operator}
use Rattle.aerie_base.specs.declared.expressions.Expr.{Expr, Literal, Operand, Not', Negate', Binary', end_of-Expr, more_of-Expr}

-- the flag of the cell is set; a cell for which there is no flag counts as read
abbrev pub IsNoted : List Bool → ℕ → Type 0
IsNoted read_flags cell = get_or read_flags cell true ≡ true

-- there are as many flags, and a flag that was set is set
pub record Grows (before after : List Bool) : Type 0 where
  pub same_length : length after ≡ length before
  pub stays : (cell : ℕ) → IsNoted before cell → IsNoted after cell

-- reads of the cells whose flags are set have the same values
abbrev pub Agree : List Bool → (CellRead → Value) → (CellRead → Value) → Type 0
Agree read_flags values other = (read : CellRead) → IsNoted read_flags (cell_of read) → other read ≡ values read

pub unchanged : (read_flags : List Bool) → Grows read_flags read_flags
unchanged read_flags = record { same_length = refl; stays = λ cell h. h }

pub in_turn : {first second third : List Bool} → Grows first second → Grows second third → Grows first third
in_turn g h = record { same_length = h.same_length ∙ g.same_length; stays = λ cell k. h.stays cell (g.stays cell k) }

pub agree_before : {before after : List Bool} (values other : CellRead → Value) → Grows before after → Agree after values other → Agree before values other
agree_before values other g agree = λ read h. agree read (g.stays (cell_of read) h)

-- ---- noting a cell

also_length : (read_flags : List Bool) (cell : ℕ) → length (also cell read_flags) ≡ length read_flags
also_length [] cell = refl
also_length (flag ∷ flags) zero = refl
also_length (flag ∷ flags) (suc cell) = ap suc (also_length flags cell)

also_stays : (read_flags : List Bool) (cell other : ℕ) → IsNoted read_flags other → IsNoted (also cell read_flags) other
also_stays [] cell other h = h
also_stays (flag ∷ flags) zero zero h = refl
also_stays (flag ∷ flags) zero (suc other) h = h
also_stays (flag ∷ flags) (suc cell) zero h = h
also_stays (flag ∷ flags) (suc cell) (suc other) h = also_stays flags cell other h

-- the flag of the cell is then set
pub also_notes : (read_flags : List Bool) (cell : ℕ) → IsNoted (also cell read_flags) cell
also_notes [] cell = refl
also_notes (flag ∷ flags) zero = refl
also_notes (flag ∷ flags) (suc cell) = also_notes flags cell

pub also_grows : (read_flags : List Bool) (cell : ℕ) → Grows read_flags (also cell read_flags)
also_grows read_flags cell = record { same_length = also_length read_flags cell; stays = also_stays read_flags cell }

-- ---- the flags of an expression only rise

unless_grows : (d : Option Value) (go : List Bool → Evaluated) (read_flags : List Bool) → Grows read_flags (go read_flags).1 → Grows read_flags (unless_decided d go read_flags).1
unless_grows None go read_flags h = h
unless_grows (Some value) go read_flags h = unchanged read_flags

order_grows : (o : Operator) (left : Evaluated) (go : List Bool → Evaluated) → ((read_flags : List Bool) → Grows read_flags (go read_flags).1) → Grows left.1 (left_to_right o left go).1
order_grows o (Ok value, read_flags) go h = unless_grows (decided o value) _ read_flags (h read_flags)
order_grows o (Err fault, read_flags) go h = unchanged read_flags

pub grows : (expr : Expr) (locals : List Value) (values : CellRead → Value) (read_flags : List Bool) → Grows read_flags (evaluated expr locals values read_flags).1
unfolding evaluated
grows (Literal value) locals values read_flags = unchanged read_flags
grows (Operand (Local slot)) locals values read_flags = unchanged read_flags
grows (Operand (Read read)) locals values read_flags = also_grows read_flags (cell_of read)
grows (Not' s (more_of-Expr inner end_of-Expr)) locals values read_flags = grows inner locals values read_flags
grows (Negate' s (more_of-Expr inner end_of-Expr)) locals values read_flags = grows inner locals values read_flags
grows (Binary' o s (more_of-Expr left end_of-Expr) t (more_of-Expr right end_of-Expr)) locals values read_flags =
    in_turn (grows left locals values read_flags)
    (order_grows o (evaluated left locals values read_flags) (evaluated right locals values) (grows right locals values))

-- ---- what the outcome depends on

unless_same : (d : Option Value) (f : Value → ValueOrFault) (go other_go : List Bool → Evaluated) (read_flags : List Bool) (values other : CellRead → Value) →
    (Agree (go read_flags).1 values other → other_go read_flags ≡ go read_flags) →
    Agree (unless_decided d (λ then_read. on_value f (go then_read)) read_flags).1 values other →
    unless_decided d (λ then_read. on_value f (other_go then_read)) read_flags ≡ unless_decided d (λ then_read. on_value f (go then_read)) read_flags
unless_same None f go other_go read_flags values other h agree = ap (on_value f) (h agree)
unless_same (Some value) f go other_go read_flags values other h agree = refl

order_same : (o : Operator) (left : Evaluated) (go other_go : List Bool → Evaluated) (values other : CellRead → Value) →
    ((read_flags : List Bool) → Agree (go read_flags).1 values other → other_go read_flags ≡ go read_flags) →
    Agree (left_to_right o left go).1 values other → left_to_right o left other_go ≡ left_to_right o left go
order_same o (Ok value, read_flags) go other_go values other h agree =
    unless_same (decided o value) (combined o value) go other_go read_flags values other (h read_flags) agree
order_same o (Err fault, read_flags) go other_go values other h agree = refl

-- where others agree on the cells whose flags are set in the end, they give the same outcome and the same flags
pub depends : (expr : Expr) (locals : List Value) (values other : CellRead → Value) (read_flags : List Bool) →
    Agree (evaluated expr locals values read_flags).1 values other → evaluated expr locals other read_flags ≡ evaluated expr locals values read_flags
unfolding evaluated
depends (Literal value) locals values other read_flags agree = refl
depends (Operand (Local slot)) locals values other read_flags agree = refl
depends (Operand (Read read)) locals values other read_flags agree =
    ap (λ value. (reading read value, also (cell_of read) read_flags)) (agree read (also_notes read_flags (cell_of read)))
depends (Not' s (more_of-Expr inner end_of-Expr)) locals values other read_flags agree =
    ap (on_value denied) (depends inner locals values other read_flags agree)
depends (Negate' s (more_of-Expr inner end_of-Expr)) locals values other read_flags agree =
    ap (on_value negated) (depends inner locals values other read_flags agree)
depends (Binary' o s (more_of-Expr left end_of-Expr) t (more_of-Expr right end_of-Expr)) locals values other read_flags agree =
    ap (λ first. left_to_right o first (evaluated right locals other))
    (depends left locals values other read_flags
    (agree_before values other
    (order_grows o (evaluated left locals values read_flags) (evaluated right locals values) (grows right locals values)) agree))
    ∙ order_same o (evaluated left locals values read_flags) (evaluated right locals values) (evaluated right locals other) values other
    (λ then_read. depends right locals values other then_read) agree

-- ---- the outcome does not depend on which cells were read before

unless_apart : (d : Option Value) (f : Value → ValueOrFault) (go : List Bool → Evaluated) (read_flags other : List Bool) → (go other).0 ≡ (go read_flags).0 →
    (unless_decided d (λ then_read. on_value f (go then_read)) other).0 ≡ (unless_decided d (λ then_read. on_value f (go then_read)) read_flags).0
unless_apart None f go read_flags other h = ap (then_made f) h
unless_apart (Some value) f go read_flags other h = refl

order_apart : (o : Operator) (left other : Evaluated) (go : List Bool → Evaluated) → ((read_flags other : List Bool) → (go other).0 ≡ (go read_flags).0) →
    other.0 ≡ left.0 → (left_to_right o other go).0 ≡ (left_to_right o left go).0
order_apart o (outcome, read_flags) (again, other) go h e =
    ap (λ first. (left_to_right o (first, other) go).0) e ∙ same_first outcome
  where
    same_first : (first : ValueOrFault) → (left_to_right o (first, other) go).0 ≡ (left_to_right o (first, read_flags) go).0
    same_first (Ok value) = unless_apart (decided o value) (combined o value) go read_flags other (h read_flags other)
    same_first (Err fault) = refl

pub apart : (expr : Expr) (locals : List Value) (values : CellRead → Value) (read_flags other : List Bool) →
    (evaluated expr locals values other).0 ≡ (evaluated expr locals values read_flags).0
unfolding evaluated
apart (Literal value) locals values read_flags other = refl
apart (Operand (Local slot)) locals values read_flags other = refl
apart (Operand (Read read)) locals values read_flags other = refl
apart (Not' s (more_of-Expr inner end_of-Expr)) locals values read_flags other = ap (then_made denied) (apart inner locals values read_flags other)
apart (Negate' s (more_of-Expr inner end_of-Expr)) locals values read_flags other = ap (then_made negated) (apart inner locals values read_flags other)
apart (Binary' o s (more_of-Expr left end_of-Expr) t (more_of-Expr right end_of-Expr)) locals values read_flags other =
    order_apart o (evaluated left locals values read_flags) (evaluated left locals values other) (evaluated right locals values)
    (apart right locals values) (apart left locals values read_flags other)
