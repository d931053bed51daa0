-- A file of lemmas: what it proves need not be read to trust a clause.
--
-- What the type of an expression says: its value has that type.
use Rattle.std.specs.Prelude.{◌≡◌, ℕ, ℤ, ◌+ℤ◌, ◌-ℤ◌, ◌*ℤ◌, neg_ℤ, Bool, true, false, ◌&&◌, List, [], ◌∷◌, Option, Some, None, is_some, IsSome, Ok, Err, IfOk, zero, suc, if◌then◌else◌, slice_index_or, pos}
use Rattle.std.specs.Int.RustNames.{int_div, int_rem}
use mathlib.Core.Path.{refl, sym, ap, subst, ◌∙◌}
use mathlib.Core.Bool.{true≢false}
use Rattle.aerie_base.specs.expressions.Arithmetic.{ValueOrFault, value_kind, number_in, truth_in, ranged, is_zero, combined, decided, negated, denied}
use Rattle.aerie_base.specs.expressions.Readings.{reading, on_number, rate_ranged, AreReadings}
use Rattle.aerie_base.specs.expressions.Evaluation.{Evaluated, evaluated, then_made, on_value, unless_decided, left_to_right}
use Rattle.aerie_base.specs.expressions.Typing.{kind_of, kind_if, same_kind_if, may_compare, same_kind, combined_kind, of_both, slot_kinds}
use Rattle.aerie_base.specs.Ranges.{is_number, is_rate}
use Rattle.aerie_base.specs.declared.values.Kind.{Kind}
use Rattle.aerie_base.specs.declared.values.Kind.TheVariants as kind
use Rattle.aerie_base.specs.declared.values.Value.{Value}
use Rattle.aerie_base.specs.declared.values.Value.TheVariants.{Int, Truth, Variant}
use Rattle.aerie_base.specs.declared.faults.Fault.TheVariants.{Range, Divide}
use Rattle.aerie_base.specs.declared.operands.CellRead.{CellRead}
use Rattle.aerie_base.specs.declared.operands.CellRead.TheVariants as read
use Rattle.aerie_base.specs.declared.operands.Operand.TheVariants.{Read, Local}
use Rattle.aerie_base.specs.declared.expressions.Operator.{Operator}
use Rattle.aerie_base.specs.declared.expressions.Operator.TheVariants as operator
use Rattle.aerie_base.specs.declared.expressions.Expr.{Expr, Literal, Operand, Not', Negate', Binary', end_of-Expr, more_of-Expr}

-- a value of this type, or a fault
abbrev pub Gives : Kind → ValueOrFault → Type 0
Gives of outcome = IfOk outcome (λ value. value_kind value ≡ of)

-- ---- none is not some

nothing : {A : Type 0} (x : A) → None ≡ Some x → ⊥
nothing x e = true≢false (sym (ap is_some e))

abbrev or_else : {A : Type 0} → A → Option A → A
or_else x None = x
or_else x (Some y) = y

the_one : {A : Type 0} (x y : A) → Some x ≡ Some y → x ≡ y
the_one x y e = ap (or_else x) e

-- ---- what the operators give

-- the type of an operator's results
abbrev pub operator_kind : Operator → Kind
operator_kind operator.Or = kind.Truth
operator_kind operator.And = kind.Truth
operator_kind (operator.Compare how) = kind.Truth
operator_kind operator.Plus = kind.Int
operator_kind operator.Minus = kind.Int
operator_kind operator.Times = kind.Int
operator_kind operator.Divide = kind.Int
operator_kind operator.Remainder = kind.Int

if_in_range : (b : Bool) (number : ℤ) → Gives kind.Int (if b then Ok (Int number) else Err Range)
if_in_range true number = refl
if_in_range false number = tt

ranged_gives : (number : ℤ) → Gives kind.Int (ranged number)
ranged_gives number = if_in_range (is_number number) number

if_divided : (b : Bool) (number : ℤ) → Gives kind.Int (if b then Err Divide else ranged number)
if_divided true number = tt
if_divided false number = ranged_gives number

combined_gives : (o : Operator) (left right : Value) → Gives (operator_kind o) (combined o left right)
combined_gives operator.Or left right = refl
combined_gives operator.And left right = refl
combined_gives (operator.Compare how) left right = refl
combined_gives operator.Plus left right = ranged_gives (number_in left +ℤ number_in right)
combined_gives operator.Minus left right = ranged_gives (number_in left -ℤ number_in right)
combined_gives operator.Times left right = ranged_gives (number_in left *ℤ number_in right)
combined_gives operator.Divide left right = if_divided (is_zero (number_in right)) (int_div (number_in left) (number_in right))
combined_gives operator.Remainder left right = if_divided (is_zero (number_in right)) (int_rem (number_in left) (number_in right))

then_gives : (of : Kind) (f : Value → ValueOrFault) (outcome : ValueOrFault) → ((value : Value) → Gives of (f value)) → Gives of (then_made f outcome)
then_gives of f (Ok value) h = h value
then_gives of f (Err fault) h = tt

if_or : (b : Bool) (value : Value) → (if b then Some (Truth true) else None) ≡ Some value → value_kind value ≡ kind.Truth
if_or true value e = sym (ap value_kind (the_one (Truth true) value e))
if_or false value e = absurd (nothing value e)

if_and : (b : Bool) (value : Value) → (if b then None else Some (Truth false)) ≡ Some value → value_kind value ≡ kind.Truth
if_and true value e = absurd (nothing value e)
if_and false value e = sym (ap value_kind (the_one (Truth false) value e))

decided_gives : (o : Operator) (left value : Value) → decided o left ≡ Some value → value_kind value ≡ operator_kind o
decided_gives operator.Or left value e = if_or (truth_in left) value e
decided_gives operator.And left value e = if_and (truth_in left) value e
decided_gives (operator.Compare how) left value e = absurd (nothing value e)
decided_gives operator.Plus left value e = absurd (nothing value e)
decided_gives operator.Minus left value e = absurd (nothing value e)
decided_gives operator.Times left value e = absurd (nothing value e)
decided_gives operator.Divide left value e = absurd (nothing value e)
decided_gives operator.Remainder left value e = absurd (nothing value e)

unless_gives : (o : Operator) (left : Value) (d : Option Value) (go : List Bool → Evaluated) (read_flags : List Bool) →
    ((value : Value) → d ≡ Some value → value_kind value ≡ operator_kind o) →
    Gives (operator_kind o) (unless_decided d (λ then_read. on_value (combined o left) (go then_read)) read_flags).0
unless_gives o left None go read_flags h = then_gives (operator_kind o) (combined o left) (go read_flags).0 (combined_gives o left)
unless_gives o left (Some value) go read_flags h = h value refl

order_gives : (o : Operator) (left : Evaluated) (go : List Bool → Evaluated) → Gives (operator_kind o) (left_to_right o left go).0
order_gives o (Ok value, read_flags) go = unless_gives o value (decided o value) go read_flags (decided_gives o value)
order_gives o (Err fault, read_flags) go = tt

-- ---- what is read

on_number_gives : (f : ℤ → ValueOrFault) (value : Value) → ((number : ℤ) → Gives kind.Int (f number)) → Gives (value_kind value) (on_number f value)
on_number_gives f (Int number) h = h number
on_number_gives f (Truth truth) h = refl
on_number_gives f (Variant of number) h = refl

reading_gives : (what : CellRead) (value : Value) → Gives (value_kind value) (reading what value)
reading_gives (read.Counter cell) value = on_number_gives ranged value ranged_gives
reading_gives (read.Register cell) value = on_number_gives ranged value ranged_gives
reading_gives (read.Conflicted cell) value = on_number_gives ranged value ranged_gives
reading_gives (read.Volume cell) value = on_number_gives ranged value ranged_gives
reading_gives (read.Rate cell) value = on_number_gives rate_ranged value (λ number. if_in_range (is_rate number) number)

in_slot : (locals : List Value) (slot : ℕ) (other : Value) (of : Kind) → slot_kinds locals slot ≡ Some of → value_kind (slice_index_or locals slot other) ≡ of
in_slot [] slot other of e = absurd (nothing of e)
in_slot (value ∷ values) zero other of e = the_one (value_kind value) of e
in_slot (value ∷ values) (suc slot) other of e = in_slot values slot other of e

-- ---- the types

given_is : (b : Bool) (what of : Kind) → kind_if b what ≡ Some of → what ≡ of
given_is true what of e = the_one what of e
given_is false what of e = absurd (nothing of e)

kept_is : (what : Kind) (inner : Option Kind) (of : Kind) → same_kind_if what inner ≡ Some of → what ≡ of
kept_is what None of e = absurd (nothing of e)
kept_is what (Some inner) of e = given_is (same_kind inner what) what of e

combined_is : (o : Operator) (left right of : Kind) → combined_kind o left right ≡ Some of → operator_kind o ≡ of
combined_is operator.Or left right of e = given_is (same_kind left kind.Truth && same_kind right kind.Truth) kind.Truth of e
combined_is operator.And left right of e = given_is (same_kind left kind.Truth && same_kind right kind.Truth) kind.Truth of e
combined_is (operator.Compare how) left right of e = given_is (may_compare how left right) kind.Truth of e
combined_is operator.Plus left right of e = given_is (same_kind left kind.Int && same_kind right kind.Int) kind.Int of e
combined_is operator.Minus left right of e = given_is (same_kind left kind.Int && same_kind right kind.Int) kind.Int of e
combined_is operator.Times left right of e = given_is (same_kind left kind.Int && same_kind right kind.Int) kind.Int of e
combined_is operator.Divide left right of e = given_is (same_kind left kind.Int && same_kind right kind.Int) kind.Int of e
combined_is operator.Remainder left right of e = given_is (same_kind left kind.Int && same_kind right kind.Int) kind.Int of e

both_is : (o : Operator) (left right : Option Kind) (of : Kind) → of_both o left right ≡ Some of → operator_kind o ≡ of
both_is o None right of e = absurd (nothing of e)
both_is o (Some left) None of e = absurd (nothing of e)
both_is o (Some left) (Some right) of e = combined_is o left right of e

-- ---- a well-typed expression has a value of its type, or a fault

pub sound : (expr : Expr) (locals : List Value) (kinds : CellRead → Option Kind) (values : CellRead → Value) (read_flags : List Bool) (of : Kind) →
    AreReadings kinds values → kind_of expr (slot_kinds locals) kinds ≡ Some of → Gives of (evaluated expr locals values read_flags).0
unfolding kind_of evaluated
sound (Literal value) locals kinds values read_flags of r e = the_one (value_kind value) of e
sound (Operand (Local slot)) locals kinds values read_flags of r e = in_slot locals slot (Int (pos 0)) of e
sound (Operand (Read what)) locals kinds values read_flags of r e =
    subst (λ k. Gives k (reading what (values what))) (r.of_kind what of e) (reading_gives what (values what))
sound (Not' s (more_of-Expr inner end_of-Expr)) locals kinds values read_flags of r e =
    subst (λ k. Gives k (then_made denied (evaluated inner locals values read_flags).0))
    (kept_is kind.Truth (kind_of inner (slot_kinds locals) kinds) of e)
    (then_gives kind.Truth denied (evaluated inner locals values read_flags).0 (λ value. refl))
sound (Negate' s (more_of-Expr inner end_of-Expr)) locals kinds values read_flags of r e =
    subst (λ k. Gives k (then_made negated (evaluated inner locals values read_flags).0))
    (kept_is kind.Int (kind_of inner (slot_kinds locals) kinds) of e)
    (then_gives kind.Int negated (evaluated inner locals values read_flags).0 (λ value. ranged_gives (neg_ℤ (number_in value))))
sound (Binary' o s (more_of-Expr left end_of-Expr) t (more_of-Expr right end_of-Expr)) locals kinds values read_flags of r e =
    subst (λ k. Gives k (left_to_right o (evaluated left locals values read_flags) (evaluated right locals values)).0)
    (both_is o (kind_of left (slot_kinds locals) kinds) (kind_of right (slot_kinds locals) kinds) of e)
    (order_gives o (evaluated left locals values read_flags) (evaluated right locals values))

-- ---- more slots and more reads

-- what is known of the first is known of the second
abbrev pub Within : {A : Type 0} → (A → Option Kind) → (A → Option Kind) → Type 0
Within {A} some more = (what : A) (of : Kind) → some what ≡ Some of → more what ≡ Some of

kept_within : (what : Kind) (inner other : Option Kind) (of : Kind) → ((k : Kind) → inner ≡ Some k → other ≡ Some k) →
    same_kind_if what inner ≡ Some of → same_kind_if what other ≡ Some of
kept_within what None other of h e = absurd (nothing of e)
kept_within what (Some inner) other of h e = ap (same_kind_if what) (h inner refl) ∙ e

both_within : (o : Operator) (left right left_other right_other : Option Kind) (of : Kind) →
    ((k : Kind) → left ≡ Some k → left_other ≡ Some k) → ((k : Kind) → right ≡ Some k → right_other ≡ Some k) →
    of_both o left right ≡ Some of → of_both o left_other right_other ≡ Some of
both_within o None right left_other right_other of h k e = absurd (nothing of e)
both_within o (Some left) None left_other right_other of h k e = absurd (nothing of e)
both_within o (Some left) (Some right) left_other right_other of h k e =
    (λ i. of_both o (h left refl i) (k right refl i)) ∙ e

-- an expression that is well typed where some slots and reads are known has the same type where more are
pub more_known : (expr : Expr) (slots more_slots : ℕ → Option Kind) (reads more_reads : CellRead → Option Kind) (of : Kind) →
    Within slots more_slots → Within reads more_reads → kind_of expr slots reads ≡ Some of → kind_of expr more_slots more_reads ≡ Some of
unfolding kind_of
more_known (Literal value) slots more_slots reads more_reads of s r e = e
more_known (Operand (Local slot)) slots more_slots reads more_reads of s r e = s slot of e
more_known (Operand (Read what)) slots more_slots reads more_reads of s r e = r what of e
more_known (Not' a (more_of-Expr inner end_of-Expr)) slots more_slots reads more_reads of s r e =
    kept_within kind.Truth (kind_of inner slots reads) (kind_of inner more_slots more_reads) of
    (λ k. more_known inner slots more_slots reads more_reads k s r) e
more_known (Negate' a (more_of-Expr inner end_of-Expr)) slots more_slots reads more_reads of s r e =
    kept_within kind.Int (kind_of inner slots reads) (kind_of inner more_slots more_reads) of
    (λ k. more_known inner slots more_slots reads more_reads k s r) e
more_known (Binary' o a (more_of-Expr left end_of-Expr) b (more_of-Expr right end_of-Expr)) slots more_slots reads more_reads of s r e =
    both_within o (kind_of left slots reads) (kind_of right slots reads) (kind_of left more_slots more_reads) (kind_of right more_slots more_reads) of
    (λ k. more_known left slots more_slots reads more_reads k s r) (λ k. more_known right slots more_slots reads more_reads k s r) e

typed_as : (outcome : ValueOrFault) (known : Option Kind) (of : Kind) → known ≡ Some of → Gives of outcome → IfOk outcome (λ value. known ≡ Some (value_kind value))
typed_as (Ok value) known of e h = e ∙ ap Some (sym h)
typed_as (Err fault) known of e h = tt

-- the value of a well-typed expression has the expression's type
pub value_has_kind : (expr : Expr) (locals : List Value) (kinds : CellRead → Option Kind) (values : CellRead → Value) (read_flags : List Bool) →
    AreReadings kinds values → IsSome (kind_of expr (slot_kinds locals) kinds) →
    IfOk (evaluated expr locals values read_flags).0 (λ value. kind_of expr (slot_kinds locals) kinds ≡ Some (value_kind value))
value_has_kind expr locals kinds values read_flags r s = go (kind_of expr (slot_kinds locals) kinds) refl s where
  go : (known : Option Kind) → kind_of expr (slot_kinds locals) kinds ≡ known → IsSome known →
      IfOk (evaluated expr locals values read_flags).0 (λ value. kind_of expr (slot_kinds locals) kinds ≡ Some (value_kind value))
  go None e h = absurd (true≢false (sym h))
  go (Some of) e h =
      typed_as (evaluated expr locals values read_flags).0 (kind_of expr (slot_kinds locals) kinds) of e
      (sound expr locals kinds values read_flags of r e)
