-- Reading, mark by mark: what stands in front of the marks that are left.
use Rattle.std.specs.Prelude.{ℕ, zero, suc, ℤ, Bool, true, false, ◌||◌, List, [], ◌∷◌, Option, Some, None, length}
use Rattle.aerie_base.specs.declared.places.Place.{Place}
use Rattle.aerie_text.specs.Sorts.{same_sort}
use Rattle.aerie_text.specs.declared.sorts.Sort.{Sort}
use Rattle.aerie_text.specs.declared.sorts.Sort.TheVariants.{Name}
use Rattle.readers.specs.Marks.{Mark}
use Rattle.readers.specs.declared.limits.Limit.{Limit}

-- What reading gives: a part, and the marks behind it; or it fails, since the first of these marks, or the end, goes on
-- with no reading; or the first of these marks is over a limit.
pub data Parsed (A : Type 0) : Type 0 where
  parsed : A → List Mark → Parsed A
  failed : List Mark → Parsed A
  over_limit : Limit → List Mark → Parsed A

-- What is read after something is read, from the marks that that left.
infixl 10 ◌>>=◌
abbrev pub ◌>>=◌ : {A B : Type 0} → Parsed A → (A × List Mark → Parsed B) → Parsed B
(parsed part rest) >>= f = f (part, rest)
(failed rest) >>= f = failed rest
(over_limit limit rest) >>= f = over_limit limit rest

-- ---- looking at the next mark

-- the next mark fits the test; at the end there is none
abbrev pub next_fits : (Mark → Bool) → List Mark → Bool
next_fits test [] = false
next_fits test (mark ∷ rest) = test mark

-- the place of the next mark, where there is one
abbrev pub next_place : List Mark → Option Place
next_place [] = None
next_place (mark ∷ rest) = Some mark.at

-- the mark is of the sort
abbrev pub is_of : Sort → Mark → Bool
is_of sort mark = same_sort sort mark.sort

-- the sort is one of these
abbrev pub is_sort_among : List Sort → Sort → Bool
is_sort_among [] here = false
is_sort_among (sort ∷ []) here = same_sort sort here
is_sort_among (sort ∷ (other ∷ others)) here = same_sort sort here || is_sort_among (other ∷ others) here

-- the mark is of one of the sorts
abbrev pub is_one_of : List Sort → Mark → Bool
is_one_of sorts mark = is_sort_among sorts mark.sort

-- the next mark is of the sort
abbrev pub next_is : Sort → List Mark → Bool
next_is sort marks = next_fits (is_of sort) marks

-- the next mark is of one of the sorts
abbrev pub next_is_one_of : List Sort → List Mark → Bool
next_is_one_of sorts marks = next_fits (is_one_of sorts) marks

-- the first where the test holds, else the second
abbrev pub chosen : {A : Type 0} → Bool → (List Mark → Parsed A) → (List Mark → Parsed A) → List Mark → Parsed A
chosen true first second marks = first marks
chosen false first second marks = second marks

-- ---- one mark

-- the part and the rest, if the mark is wanted; else reading fails at these marks
abbrev pub taken : {A : Type 0} → Bool → A → List Mark → List Mark → Parsed A
taken true part marks rest = parsed part rest
taken false part marks rest = failed marks

-- the next mark, which is of this sort, and what it says
abbrev pub mark_at : {A : Type 0} → Sort → (Mark → A) → List Mark → Parsed A
mark_at sort says [] = failed []
mark_at sort says (mark ∷ rest) = taken (is_of sort mark) (says mark) (mark ∷ rest) rest

-- a mark of this sort: its place
abbrev pub take_at : Sort → List Mark → Parsed Place
take_at sort marks = mark_at sort (λ mark. mark.at) marks

-- a mark of this sort: its place and what it counts
abbrev pub number_at : Sort → List Mark → Parsed (Place × ℤ)
number_at sort marks = mark_at sort (λ mark. (mark.at, mark.number)) marks

-- a mark of this sort: its place and its bytes
abbrev pub word_at : Sort → List Mark → Parsed (Place × List ℕ)
word_at sort marks = mark_at sort (λ mark. (mark.at, mark.word)) marks

-- NAME: its place and its bytes
abbrev pub name_at : List Mark → Parsed (Place × List ℕ)
name_at marks = word_at Name marks

-- one of these words or symbols: its place, and what it stands for
abbrev pub one_of_at : {A : Type 0} → List (Sort × A) → List Mark → Parsed (Place × A)
one_of_at [] marks = failed marks
one_of_at (entry ∷ others) marks = chosen (next_is entry.0 marks) (mark_at entry.0 (λ mark. (mark.at, entry.1))) (one_of_at others) marks

-- whether the mark is wanted; it is read where it is
abbrev pub had : Bool → List Mark → List Mark → Parsed Bool
had true marks rest = parsed true rest
had false marks rest = parsed false marks

-- an option: whether the next mark is of this sort; it is read where it is
abbrev pub has_at : Sort → List Mark → Parsed Bool
has_at sort [] = parsed false []
has_at sort (mark ∷ rest) = had (is_of sort mark) (mark ∷ rest) rest

-- ---- limits

-- the next mark is over the limit where the test holds; else the part is read. It stands where the next mark is known
-- to begin the part, so that some reading reads the mark that is over the limit.
abbrev pub limited : {A : Type 0} → Bool → Limit → (List Mark → Parsed A) → List Mark → Parsed A
limited true limit part marks = over_limit limit marks
limited false limit part marks = part marks

-- ---- iterations

-- Iterations, each with what was read before, while the next mark fits the test; so many at most.
abbrev pub iterations_at : {S : Type 0} → (Mark → Bool) → (S → List Mark → Parsed S) → ℕ → S → List Mark → Parsed S
iterations_at test iteration zero state marks = parsed state marks
iterations_at test iteration (suc most) state marks =
    chosen (next_fits test marks) (λ here. iteration state here >>= λ after. iterations_at test iteration most after.0 after.1) (parsed state) marks

-- Iterations, while the next mark fits the test. Each reads a mark at least, so there are at most as many as marks.
abbrev pub repeated : {S : Type 0} → (Mark → Bool) → (S → List Mark → Parsed S) → S → List Mark → Parsed S
repeated test iteration state marks = iterations_at test iteration (length marks) state marks

-- a iteration behind a mark of this sort
abbrev pub behind_at : {S : Type 0} → Sort → (S → List Mark → Parsed S) → S → List Mark → Parsed S
behind_at sort iteration state marks = take_at sort marks >>= λ mark. iteration state mark.1

-- one iteration or more, with a mark of this sort before each further one
abbrev pub separated_at : {S : Type 0} → Sort → (S → List Mark → Parsed S) → S → List Mark → Parsed S
separated_at sort iteration state marks = iteration state marks >>= λ first. repeated (is_of sort) (behind_at sort iteration) first.0 first.1
