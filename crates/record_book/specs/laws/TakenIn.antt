-- What holds of records with more of them.
use Rattle.std.specs.Prelude.{◌⊎◌, IsTrue, List}
use Rattle.std.specs.List.{All, Contains}
use Rattle.run_data.specs.declared.frames.Record.{Record}
use Rattle.record_book.specs.StoredSteps.{has_record, with_records, HasNoneTwice}

-- for each of those that were taken in there is a record with its state and its reads
abbrev pub TakenAreHeld : Type 0
TakenAreHeld = (records more : List Record) → All (λ of. IsTrue (has_record (with_records records more) of.before of.reads)) more

-- all that were held still are
abbrev pub HeldStay : Type 0
HeldStay = (records more : List Record) (of : Record) → Contains records of → Contains (with_records records more) of

-- and there are no others
abbrev pub NoOthersAreHeld : Type 0
NoOthersAreHeld = (records more : List Record) (of : Record) → Contains (with_records records more) of → Contains records of ⊎ Contains more of

-- no two of them have the same state and the same reads, where no two had before
abbrev pub NoneIsHeldTwice : Type 0
NoneIsHeldTwice = (records more : List Record) → HasNoneTwice records → HasNoneTwice (with_records records more)
