-- What an edit answers: what is made, or the refusal with the smallest number of those that apply.
use Rattle.std.specs.Prelude.{◌≡◌, Bool, List, [], ◌∷◌, Result, Ok, Err, if◌then◌else◌}
use Rattle.plan_edit.specs.declared.errors.EditError.{EditError}
use Rattle.plan_edit.specs.declared.errors.EditError.TheVariants.{OutOfMemory}

-- whether a refusal applies, and which it is
abbrev pub PossibleRefusal : Type 0
PossibleRefusal = Bool × EditError

-- the first of some refusals that applies, in the order of their numbers, or else what is made
abbrev pub unless_refused : {A : Type 0} → List PossibleRefusal → Result A EditError → Result A EditError
unless_refused [] made = made
unless_refused ((applies, refusal) ∷ rest) made = if applies then Err refusal else unless_refused rest made

-- what is made of a part, or the part's refusal
abbrev pub then_made_of : {A B : Type 0} → (A → Result B EditError) → Result A EditError → Result B EditError
then_made_of make (Ok part) = make part
then_made_of make (Err refusal) = Err refusal

-- one in front of others, or the first refusal
abbrev pub put_in_front : {A E : Type 0} → Result A E → Result (List A) E → Result (List A) E
put_in_front (Err refusal) rest = Err refusal
put_in_front (Ok one) (Err refusal) = Err refusal
put_in_front (Ok one) (Ok rest) = Ok (one ∷ rest)

-- this is why nothing is made: the refusal, or want of memory
abbrev pub IsRefusal : {A : Type 0} → Result A EditError → EditError → Type 0
IsRefusal made OutOfMemory = Unit {0}
IsRefusal made refusal = made ≡ Err refusal

-- this is what is made, or why nothing is made
abbrev pub IsMade : {A : Type 0} → Result A EditError → Result A EditError → Type 0
IsMade made (Ok part) = made ≡ Ok part
IsMade made (Err refusal) = IsRefusal made refusal
