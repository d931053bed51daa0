-- What a parse tells, by the words of the command line.
use Rattle.std.proofs.Common.{◌≡◌, ℕ, true, List, [], ◌∷◌, Result, Ok, Err, IfOk, IfErr, refl, subst, inl, inr}
use Rattle.clap.specs.Words.{App, FailsBy, HasKind, HasMatchesOf, Kinds, fault_of, found_of, is_simple_and_free, is_simple, kind_of, rows_of}
use Rattle.clap.specs.declared.error.Error.{Error}
use Rattle.clap.specs.declared.error.kind.ErrorKind.TheVariants as kind
use Rattle.clap.specs.declared.parser.matches.ArgMatches.{ArgMatches}
use Rattle.command_line.specs.Commands.{are_taken, command, given, is_no_fault}

-- the command is one of which clap tells all
simple_and_free : is_simple_and_free command ≡ true
simple_and_free = refl

simple : is_simple command ≡ true
simple = refl

no_fault : (kinds : Kinds) → kinds ≡ [] → is_no_fault kinds ≡ true
no_fault [] e = refl
no_fault (k ∷ ks) e = absurd cc

taken_by : (words : List (List ℕ)) (r : Result ArgMatches Error) → FailsBy (fault_of command words) r → IfOk r (λ matches. are_taken words ≡ true)
unfolding are_taken
taken_by words (Ok matches) none = no_fault (fault_of command words) none
taken_by words (Err error) kinds = tt

-- words that are read are in the form of the command
pub taken : (app : App) (words : List (List ℕ)) (r : Result ArgMatches Error) → app ≡ command
    → (is_simple_and_free app ≡ true → FailsBy (fault_of app words) r) → IfOk r (λ matches. are_taken words ≡ true)
taken app words r is tells = taken_by words r (subst (λ (a : App). is_simple_and_free a ≡ true → FailsBy (fault_of a words) r) is tells simple_and_free)

given_by : (words : List (List ℕ)) (r : Result ArgMatches Error) → IfOk r (HasMatchesOf command words) → IfOk r (λ matches. rows_of (found_of matches) ≡ given words)
unfolding given
given_by words (Ok matches) has = (has simple).0
given_by words (Err error) has = tt

-- what is read is what they give
pub given_of : (app : App) (words : List (List ℕ)) (r : Result ArgMatches Error) → app ≡ command
    → IfOk r (HasMatchesOf app words) → IfOk r (λ matches. rows_of (found_of matches) ≡ given words)
given_of app words r is has = given_by words r (subst (λ (a : App). IfOk r (HasMatchesOf a words)) is has)

only_memory : (kinds : Kinds) (error : Error) → HasKind kinds error → is_no_fault kinds ≡ true → kind_of error ≡ kind.OutOfMemory
only_memory [] error (inl memory) e = memory
only_memory [] error (inr among) e = absurd among
only_memory (k ∷ ks) error has e = absurd cc

refused_by : (words : List (List ℕ)) (r : Result ArgMatches Error) → FailsBy (fault_of command words) r → IfErr r (λ error. are_taken words ≡ true → kind_of error ≡ kind.OutOfMemory)
unfolding are_taken
refused_by words (Ok matches) none = tt
refused_by words (Err error) kinds = only_memory (fault_of command words) error kinds

-- words that are in the form are refused for want of memory alone
pub refused : (app : App) (words : List (List ℕ)) (r : Result ArgMatches Error) → app ≡ command
    → (is_simple_and_free app ≡ true → FailsBy (fault_of app words) r) → IfErr r (λ error. are_taken words ≡ true → kind_of error ≡ kind.OutOfMemory)
refused app words r is tells = refused_by words r (subst (λ (a : App). is_simple_and_free a ≡ true → FailsBy (fault_of a words) r) is tells simple_and_free)
