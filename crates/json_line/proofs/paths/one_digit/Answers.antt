-- The digit of each number below ten is its decimal text.
use Rattle.std.proofs.Common.{◌≡◌, ◌∙◌, [], ◌∷◌, ap, sym, refl}
use Rattle.std.specs.Prelude.{decimal}
use Rattle.std.specs.Fmt.{digits}
use Rattle.json_line.proofs.paths.one_digit.Goals as goal

zero : 48 ∷ [] ≡ decimal 0
unfolding digits
zero = refl

one : 49 ∷ [] ≡ decimal 1
unfolding digits
one = refl

two : 50 ∷ [] ≡ decimal 2
unfolding digits
two = refl

three : 51 ∷ [] ≡ decimal 3
unfolding digits
three = refl

four : 52 ∷ [] ≡ decimal 4
unfolding digits
four = refl

five : 53 ∷ [] ≡ decimal 5
unfolding digits
five = refl

six : 54 ∷ [] ≡ decimal 6
unfolding digits
six = refl

seven : 55 ∷ [] ≡ decimal 7
unfolding digits
seven = refl

eight : 56 ∷ [] ≡ decimal 8
unfolding digits
eight = refl

nine : 57 ∷ [] ≡ decimal 9
unfolding digits
nine = refl

pub returns-in-0 : goal.returns-in-0
returns-in-0 c = zero ∙ ap decimal (sym c.in-0.is)

pub returns-in-1 : goal.returns-in-1
returns-in-1 c = one ∙ ap decimal (sym c.in-1.is)

pub returns-in-2 : goal.returns-in-2
returns-in-2 c = two ∙ ap decimal (sym c.in-2.is)

pub returns-in-3 : goal.returns-in-3
returns-in-3 c = three ∙ ap decimal (sym c.in-3.is)

pub returns-in-4 : goal.returns-in-4
returns-in-4 c = four ∙ ap decimal (sym c.in-4.is)

pub returns-in-5 : goal.returns-in-5
returns-in-5 c = five ∙ ap decimal (sym c.in-5.is)

pub returns-in-6 : goal.returns-in-6
returns-in-6 c = six ∙ ap decimal (sym c.in-6.is)

pub returns-in-7 : goal.returns-in-7
returns-in-7 c = seven ∙ ap decimal (sym c.in-7.is)

pub returns-in-8 : goal.returns-in-8
returns-in-8 c = eight ∙ ap decimal (sym c.in-8.is)

pub returns-in-9 : goal.returns-in-9
returns-in-9 c = nine ∙ ap decimal (sym c.in-9.is)
