-- The datasets of a session, each read for itself.
use Rattle.std.specs.Prelude.{ℕ, ◌+◌, List, [], ◌∷◌, Result, Ok, Err}
use Rattle.std.specs.List.{AllByRecursion}
use Rattle.dataset_in.specs.declared.dataset_error.DatasetError.{DatasetError}
use Rattle.dataset_in.specs.declared.dataset_error.DatasetError.TheVariants as fault
use Rattle.dataset_in.specs.declared.series.Series.{Series}
use Rattle.dataset_in.specs.Datasets.{dataset_of}
use Rattle.dataset_in.specs.Series.{IsSeries}
use Rattle.session_grammar.specs.declared.raw.plans.RawDataset.{RawDataset}
use Rattle.session_reader.specs.declared.session_error.SessionError.{SessionError}
use Rattle.session_reader.specs.declared.session_error.SessionError.TheVariants.{Dataset, OutOfMemory}
use Rattle.session_reader.specs.Answers.{Answer, in_front}
use Rattle.session_reader.specs.Quotes.{unquoted}

-- a series with its name
abbrev pub NamedSeries : Type 0
NamedSeries = List ℕ × Series

-- the refusal of the dataset of this number; want of memory is that of the session
abbrev pub fault_refusal : ℕ → DatasetError → SessionError
fault_refusal number fault.NotADataset = Dataset number fault.NotADataset
fault_refusal number fault.TooMany = Dataset number fault.TooMany
fault_refusal number (fault.BadSegment segment) = Dataset number (fault.BadSegment segment)
fault_refusal number fault.OutOfMemory = OutOfMemory

abbrev pub of_series : ℕ → List ℕ → Result Series DatasetError → Answer NamedSeries
of_series number name (Ok series) = Ok (name, series)
of_series number name (Err fault) = Err (Dataset number fault)

-- the series of the dataset of this number, by the text between its backquotes
abbrev pub dataset_answer : ℕ → RawDataset → Answer NamedSeries
dataset_answer number raw = of_series number raw.name.name (dataset_of (unquoted 96 raw.text))

-- the datasets, the first of which has this number; or the first one that is refused
abbrev pub datasets_answer : ℕ → List RawDataset → Answer (List NamedSeries)
datasets_answer number [] = Ok []
datasets_answer number (raw ∷ rest) = in_front (dataset_answer number raw) (datasets_answer (number + 1) rest)

-- each of them has the form of a series
abbrev pub AreSeries : List NamedSeries → Type 0
AreSeries = AllByRecursion (λ named. IsSeries named.1)
