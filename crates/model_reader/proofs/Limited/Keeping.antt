-- What holds of a part that is read, where each mark counts a number: one law for each way in which readings are made of
-- others, so that the law of a reader is one term with the shape of its definition.
use Rattle.std.proofs.Common.{◌≡◌, ℕ, zero, suc, Bool, true, false, List, [], ◌∷◌, length, refl}
use Rattle.aerie_base.specs.Ranges.{IsNumber}
use Rattle.aerie_text.specs.declared.sorts.Sort.{Sort}
use Rattle.aerie_text.specs.declared.sorts.Sort.TheVariants.{Name}
use Rattle.readers.specs.Marks.{Mark}
use Rattle.readers.specs.Parsed.{Parsed, parsed, failed, over_limit, ◌>>=◌, next_fits, next_is, is_of, one_of_at, chosen, taken, mark_at, take_at, name_at, number_at, limited, iterations_at, repeated}
use Rattle.readers.specs.declared.limits.Limit.{Limit}
use Rattle.model_reader.specs.Limits.{CountNumbers}

abbrev pub Nothing : {A : Type 0} → A → Type 0
Nothing part = Unit {0}

abbrev Holds : {A : Type 0} → (A → Type 0) → Parsed A → Type 0
Holds P (parsed part rest) = P part × CountNumbers rest
Holds P (failed rest) = Unit {0}
Holds P (over_limit limit rest) = Unit {0}

-- where a part is read, this holds of it, and the marks that are left count numbers
pub record Keeps {A : Type 0} (P : A → Type 0) (reading : Parsed A) : Type 0 where
  pub holds : Holds P reading

pub gives : {A : Type 0} {P : A → Type 0} {part : A} {rest : List Mark} → P part → CountNumbers rest → Keeps P (parsed part rest)
gives is left = record { holds = (is, left) }

pub fails : {A : Type 0} {P : A → Type 0} {rest : List Mark} → Keeps P (failed rest)
fails = record { holds = tt }

pub passes : {A : Type 0} {P : A → Type 0} {limit : Limit} {rest : List Mark} → Keeps P (over_limit limit rest)
passes = record { holds = tt }

-- what is read after something is read
then_holds : {A B : Type 0} (P : A → Type 0) (Q : B → Type 0) (reading : Parsed A) (next : A × List Mark → Parsed B) → Holds P reading
    → ((part : A) (rest : List Mark) → P part → CountNumbers rest → Holds Q (next (part, rest))) → Holds Q (reading >>= next)
then_holds P Q (parsed part rest) next is more = more part rest is.0 is.1
then_holds P Q (failed rest) next is more = tt
then_holds P Q (over_limit limit rest) next is more = tt

pub and_then : {A B : Type 0} {P : A → Type 0} {Q : B → Type 0} {reading : Parsed A} (next : A × List Mark → Parsed B) → Keeps P reading
    → ((part : A) (rest : List Mark) → P part → CountNumbers rest → Keeps Q (next (part, rest))) → Keeps Q (reading >>= next)
and_then {P = P} {Q = Q} {reading = reading} next is more =
    record { holds = then_holds P Q reading next is.holds (λ part rest here left. let after = more part rest here left in after.holds) }

weakened_holds : {A : Type 0} (P Q : A → Type 0) (reading : Parsed A) → ((part : A) → P part → Q part) → Holds P reading → Holds Q reading
weakened_holds P Q (parsed part rest) onward is = (onward part is.0, is.1)
weakened_holds P Q (failed rest) onward is = tt
weakened_holds P Q (over_limit limit rest) onward is = tt

-- the same of what follows from it
pub weakened : {A : Type 0} {P Q : A → Type 0} {reading : Parsed A} → ((part : A) → P part → Q part) → Keeps P reading → Keeps Q reading
weakened {P = P} {Q = Q} {reading = reading} onward is = record { holds = weakened_holds P Q reading onward is.holds }

-- ---- choices and limits

pub one_of_two : {A : Type 0} {P : A → Type 0} {marks : List Mark} (test : Bool) (first second : List Mark → Parsed A) → Keeps P (first marks) → Keeps P (second marks)
    → Keeps P (chosen test first second marks)
one_of_two true first second is other = is
one_of_two false first second is other = other

pub unless_over : {A : Type 0} {P : A → Type 0} {marks : List Mark} (test : Bool) (limit : Limit) (part : List Mark → Parsed A) → (test ≡ false → Keeps P (part marks))
    → Keeps P (limited test limit part marks)
unless_over true limit part is = passes
unless_over false limit part is = is refl

-- ---- one mark

taken_keeps : {A : Type 0} {P : A → Type 0} (test : Bool) (part : A) (marks rest : List Mark) → P part → CountNumbers rest → Keeps P (taken test part marks rest)
taken_keeps true part marks rest is left = gives is left
taken_keeps false part marks rest is left = fails

-- a mark, where this holds of what it says
pub mark_keeps : {A : Type 0} {P : A → Type 0} (sort : Sort) (says : Mark → A) → ((mark : Mark) → IsNumber mark.number → P (says mark)) → (marks : List Mark) → CountNumbers marks
    → Keeps P (mark_at sort says marks)
mark_keeps sort says is [] count = fails
mark_keeps sort says is (mark ∷ rest) count = taken_keeps (is_of sort mark) (says mark) (mark ∷ rest) rest (is mark count.0) count.1

pub take_keeps : (sort : Sort) (marks : List Mark) → CountNumbers marks → Keeps Nothing (take_at sort marks)
take_keeps sort marks count = mark_keeps sort (λ mark. mark.at) (λ mark is. tt) marks count

pub name_keeps : (marks : List Mark) → CountNumbers marks → Keeps Nothing (name_at marks)
name_keeps marks count = mark_keeps Name (λ mark. (mark.at, mark.word)) (λ mark is. tt) marks count

pub number_keeps : (sort : Sort) (marks : List Mark) → CountNumbers marks → Keeps (λ number. IsNumber number.1) (number_at sort marks)
number_keeps sort marks count = mark_keeps sort (λ mark. (mark.at, mark.number)) (λ mark is. is) marks count

pub one_of_keeps : {A : Type 0} (table : List (Sort × A)) (marks : List Mark) → CountNumbers marks → Keeps Nothing (one_of_at table marks)
one_of_keeps [] marks count = fails
one_of_keeps (entry ∷ others) marks count =
    one_of_two (next_is entry.0 marks) _ _ (mark_keeps entry.0 (λ mark. (mark.at, entry.1)) (λ mark is. tt) marks count) (one_of_keeps others marks count)

-- ---- iterations

module _ {S : Type 0} {P : S → Type 0} (test : Mark → Bool) (iteration : S → List Mark → Parsed S)
    (iteration_keeps : (state : S) (marks : List Mark) → P state → CountNumbers marks → Keeps P (iteration state marks)) where
  pub iterations_keep : (most : ℕ) (state : S) (marks : List Mark) → P state → CountNumbers marks → Keeps P (iterations_at test iteration most state marks)
  iterations_keep zero state marks is count = gives is count
  iterations_keep (suc most) state marks is count =
      one_of_two (next_fits test marks) _ _ (and_then _ (iteration_keeps state marks is count) (λ after rest here left. iterations_keep most after rest here left)) (gives is count)

  pub repeated_keeps : (state : S) (marks : List Mark) → P state → CountNumbers marks → Keeps P (repeated test iteration state marks)
  repeated_keeps state marks is count = iterations_keep (length marks) state marks is count
