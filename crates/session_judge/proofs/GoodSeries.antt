-- The datasets of a session are series.
use Rattle.std.proofs.Common.{◌≡◌, IsTrue, Bool, true, false, ◌&&◌, List, [], ◌∷◌, refl}
use Rattle.std.specs.List.{list_all}
use Rattle.dataset_in.specs.declared.series.Series.{Series}
use Rattle.dataset_in.specs.Series.{IsSeries}
use Rattle.constraints.specs.GivenSeries.{is_series}
use Rattle.session_reader.specs.DatasetAnswers.{AreSeries, NamedSeries}

both_true : (a b : Bool) → a ≡ true → b ≡ true → (a && b) ≡ true
both_true true b e h = h
both_true false b e h = absurd cc

-- each dataset passes the test of series, since one that was read may be given
pub good_series : ((series : Series) → IsSeries series → IsTrue (is_series series)) → (datasets : List NamedSeries) → AreSeries datasets →
    IsTrue (list_all (λ dataset. is_series dataset.1) datasets)
good_series given [] are = refl
good_series given (dataset ∷ rest) are =
    both_true (is_series dataset.1) (list_all (λ dataset. is_series dataset.1) rest) (given dataset.1 are.0) (good_series given rest are.1)
