-- What is read of literals has its range; names, types and reads have no number.
use Rattle.std.proofs.Common.{◌≡◌, ℕ, zero, suc, ◌≤◌, ℤ, pos, negsuc, neg_ℤ, Bool, true, false, List, Option, Some, None, refl, subst, sym}
use Rattle.std.specs.Int.RustNames.{unsigned_abs}
use Rattle.aerie_base.specs.Ranges.{IsNumber, number_limit}
use Rattle.aerie_base.specs.declared.places.Place.{Place}
use Rattle.aerie_text.specs.declared.sorts.Sort.{Sort}
use Rattle.aerie_text.specs.declared.sorts.Sort.TheVariants as sort
use Rattle.readers.specs.Marks.{Mark}
use Rattle.readers.specs.Parsed.{next_is, next_fits}
use Rattle.model_reader.specs.declared.raw.literals.RawLiteral.{RawLiteral}
use Rattle.model_reader.specs.Limits.{CountNumbers, IsLiteralInRange}
use Rattle.model_reader.specs.reading.Literals.{minus_at, sign_at, with_minus, int_at, amount_at, amount_literal_at, truth_literal_at, variant_literal_at, begins_amount, literal_at}
use Rattle.model_reader.specs.reading.Names.{raw_name_at, one_standing_for, standing_for}
use Rattle.model_reader.specs.reading.Types.{named_type_at, type_at, part_at, dotted_part_at, read_part_at, read_at}
use Rattle.model_reader.proofs.Limited.Keeping.{Nothing, Keeps, gives, and_then, one_of_two, take_keeps, name_keeps, number_keeps, one_of_keeps}

-- ---- names

pub raw_name_keeps : (marks : List Mark) → CountNumbers marks → Keeps Nothing (raw_name_at marks)
unfolding raw_name_at
raw_name_keeps marks count = and_then _ (name_keeps marks count) (λ name rest unit left. gives tt left)

pub one_standing_for_keeps : {A : Type 0} (table : List (Sort × A)) (marks : List Mark) → CountNumbers marks → Keeps Nothing (one_standing_for table marks)
unfolding one_standing_for
one_standing_for_keeps table marks count = and_then _ (one_of_keeps table marks count) (λ found rest unit left. gives tt left)

pub standing_for_keeps : {A : Type 0} (sort : Sort) (value : A) (marks : List Mark) → CountNumbers marks → Keeps Nothing (standing_for sort value marks)
unfolding standing_for
standing_for_keeps sort value marks count = and_then _ (take_keeps sort marks count) (λ word rest unit left. gives tt left)

-- ---- types and reads

named_type_keeps : (marks : List Mark) → CountNumbers marks → Keeps Nothing (named_type_at marks)
unfolding named_type_at
named_type_keeps marks count = and_then _ (raw_name_keeps marks count) (λ name rest unit left. gives tt left)

pub type_keeps : (marks : List Mark) → CountNumbers marks → Keeps Nothing (type_at marks)
unfolding type_at
type_keeps marks count =
    one_of_two (next_is sort.Int marks) _ _ (standing_for_keeps sort.Int _ marks count)
    (one_of_two (next_is sort.Duration marks) _ _ (standing_for_keeps sort.Duration _ marks count)
    (one_of_two (next_is sort.Truth marks) _ _ (standing_for_keeps sort.Truth _ marks count) (named_type_keeps marks count)))

pub part_keeps : (marks : List Mark) → CountNumbers marks → Keeps Nothing (part_at marks)
unfolding part_at
part_keeps marks count = one_standing_for_keeps _ marks count

dotted_part_keeps : (marks : List Mark) → CountNumbers marks → Keeps Nothing (dotted_part_at marks)
unfolding dotted_part_at
dotted_part_keeps marks count = and_then _ (take_keeps sort.Dot marks count) (λ dot rest unit left. part_keeps rest left)

read_part_keeps : (marks : List Mark) → CountNumbers marks → Keeps Nothing (read_part_at marks)
unfolding read_part_at
read_part_keeps marks count = one_of_two (next_is sort.Dot marks) _ _ (dotted_part_keeps marks count) (gives tt count)

pub read_keeps : (marks : List Mark) → CountNumbers marks → Keeps Nothing (read_at marks)
unfolding read_at
read_keeps marks count =
    and_then _ (raw_name_keeps marks count) (λ name rest unit left. and_then _ (read_part_keeps rest left) (λ part behind unit_ from. gives tt from))

-- ---- numbers

minus_keeps : (marks : List Mark) → CountNumbers marks → Keeps Nothing (minus_at marks)
unfolding minus_at
minus_keeps marks count = and_then _ (take_keeps sort.Minus marks count) (λ minus rest unit left. gives tt left)

sign_keeps : (marks : List Mark) → CountNumbers marks → Keeps Nothing (sign_at marks)
unfolding sign_at
sign_keeps marks count = one_of_two (next_is sort.Minus marks) _ _ (minus_keeps marks count) (gives tt count)

pub same_size : (number : ℤ) → unsigned_abs (neg_ℤ number) ≡ unsigned_abs number
same_size (pos zero) = refl
same_size (pos (suc n)) = refl
same_size (negsuc n) = refl

signed : (sign : Option Place) (number : Place × ℤ) → IsNumber number.1 → IsNumber (with_minus sign number).1
signed None number is = is
signed (Some minus) number is = subst (λ (size : ℕ). size ≤ number_limit) (sym (same_size number.1)) is

pub int_keeps : (marks : List Mark) → CountNumbers marks → Keeps (λ number. IsNumber number.1) (int_at marks)
unfolding int_at
int_keeps marks count =
    and_then _ (sign_keeps marks count) (λ sign rest unit left. and_then _ (number_keeps sort.Number rest left)
    (λ number behind is from. gives (signed sign number is) from))

pub amount_keeps : (marks : List Mark) → CountNumbers marks → Keeps (λ number. IsNumber number.1) (amount_at marks)
unfolding amount_at
amount_keeps marks count = one_of_two (next_is sort.Number marks) _ _ (number_keeps sort.Number marks count) (number_keeps sort.Time marks count)

-- ---- literals

abbrev pub InRange : RawLiteral → Type 0
InRange literal = IsLiteralInRange literal.what

amount_literal_keeps : (marks : List Mark) → CountNumbers marks → Keeps InRange (amount_literal_at marks)
unfolding amount_literal_at
amount_literal_keeps marks count =
    and_then _ (sign_keeps marks count) (λ sign rest unit left. and_then _ (amount_keeps rest left) (λ amount behind is from. gives (signed sign amount is) from))

truth_literal_keeps : (of : Sort) (truth : Bool) (marks : List Mark) → CountNumbers marks → Keeps InRange (truth_literal_at of truth marks)
unfolding truth_literal_at
truth_literal_keeps of truth marks count = and_then _ (take_keeps of marks count) (λ word rest unit left. gives tt left)

variant_literal_keeps : (marks : List Mark) → CountNumbers marks → Keeps InRange (variant_literal_at marks)
unfolding variant_literal_at
variant_literal_keeps marks count =
    and_then _ (raw_name_keeps marks count) (λ name rest unit left. and_then _ (take_keeps sort.Dot rest left)
    (λ dot behind unit_ from. and_then _ (raw_name_keeps behind from) (λ variant last unit__ after. gives tt after)))

pub literal_keeps : (marks : List Mark) → CountNumbers marks → Keeps InRange (literal_at marks)
unfolding literal_at
literal_keeps marks count =
    one_of_two (next_fits begins_amount marks) _ _ (amount_literal_keeps marks count)
    (one_of_two (next_is sort.True marks) _ _ (truth_literal_keeps sort.True true marks count)
    (one_of_two (next_is sort.False marks) _ _ (truth_literal_keeps sort.False false marks count) (variant_literal_keeps marks count)))
