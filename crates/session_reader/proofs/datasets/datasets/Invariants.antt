use Rattle.std.proofs.Common.{◌≡◌, drop}
use Rattle.session_reader.specs.DatasetAnswers.{AreSeries, datasets_answer}
use Rattle.session_reader.proofs.Joined.{joined_on}
use Rattle.session_reader.proofs.datasets.datasets.Given as goal

-- those so far, and those behind
abbrev pub invariant-loop-number : goal.invariant-loop-number
invariant-loop-number l = (datasets_answer 0 l.raw ≡ joined_on l.made (datasets_answer l.number (drop l.number l.raw))) × AreSeries l.made
