-- Lists of benches: one of them changed, or one more behind them.
use Rattle.std.proofs.Common.{◌≡◌, ℕ, zero, suc, ◌+◌, ◌-◌, ◌<◌, List, [], ◌∷◌, ◌++◌, Option, Some, None, length, get_or, slice_get, slice_set, refl, sym, ap, subst, ◌∙◌, arith}
use Rattle.std.specs.List.{AllByRecursion}
use Rattle.std.proofs.lemmas.Option.{none-some, same_Some, slice_get-get_or}
use Rattle.aerie_base.specs.declared.models.model.Parts.{Parts}
use Rattle.bench.specs.Benches.{BenchOf, IsSameBench}
use Rattle.client_work.specs.Benches.{AreBenches, IsBenchAt}

-- ---- one of them changed

set_alike : (bound : ℕ) (benches : List BenchOf) (at : ℕ) (bench : BenchOf) → bench.bound ≡ bound → AllByRecursion (λ (each : BenchOf). each.bound ≡ bound) benches →
    AllByRecursion (λ (each : BenchOf). each.bound ≡ bound) (slice_set benches at bench)
set_alike bound [] at bench is all = tt
set_alike bound (first ∷ benches) zero bench is all = (is, all.1)
set_alike bound (first ∷ benches) (suc at) bench is all = (all.0, set_alike bound benches at bench is all.1)

bound_at : (bound : ℕ) (benches : List BenchOf) (at : ℕ) (bench : BenchOf) → slice_get benches at ≡ Some bench → AllByRecursion (λ (each : BenchOf). each.bound ≡ bound) benches →
    bench.bound ≡ bound
bound_at bound [] at bench is all = absurd (none-some bench is)
bound_at bound (first ∷ benches) zero bench is all = ap (λ (each : BenchOf). each.bound) (sym (same_Some first bench is)) ∙ all.0
bound_at bound (first ∷ benches) (suc at) bench is all = bound_at bound benches at bench is all.1

module _ (bound pieces : ℕ) (benches : List BenchOf) (model : Parts) (at : ℕ) (are : AreBenches bound pieces benches) (place : IsBenchAt benches model at) where
  pub model_of : (bench : BenchOf) → bench ≡ get_or benches at bench → at < length benches → bench.model ≡ model
  model_of bench is within =
      ap (λ (each : BenchOf). each.model) (same_Some bench place.bench (sym (slice_get-get_or benches at bench within ∙ ap Some (sym is)) ∙ place.there)) ∙ place.of_model

  pub bound_of : (bench : BenchOf) → bench ≡ get_or benches at bench → at < length benches → bench.bound ≡ bound
  bound_of bench is within = bound_at bound benches at bench (slice_get-get_or benches at bench within ∙ ap Some (sym is)) are.alike

  pub still : (bench changed : BenchOf) → bench ≡ get_or benches at bench → at < length benches → IsSameBench bench changed → AreBenches bound pieces (slice_set benches at changed)
  still bench changed is within same = record {
    within = are.within;
    some = are.some;
    few = are.few;
    alike = set_alike bound benches at changed (same.bound ∙ bound_of bench is within) are.alike;
  }

-- ---- one more

more_alike : (bound : ℕ) (benches : List BenchOf) (bench : BenchOf) → bench.bound ≡ bound → AllByRecursion (λ (each : BenchOf). each.bound ≡ bound) benches →
    AllByRecursion (λ (each : BenchOf). each.bound ≡ bound) (benches ++ (bench ∷ []))
more_alike bound [] bench is all = (is, tt)
more_alike bound (first ∷ benches) bench is all = (all.0, more_alike bound benches bench is all.1)

last_there : (benches : List BenchOf) (bench : BenchOf) → slice_get (benches ++ (bench ∷ [])) (length benches) ≡ Some bench
last_there [] bench = refl
last_there (first ∷ benches) bench = last_there benches bench

many : (benches : List BenchOf) (bench : BenchOf) → length (benches ++ (bench ∷ [])) ≡ length benches + 1
many [] bench = refl
many (first ∷ benches) bench = let rest = many benches bench in omega (arith, rest)

module _ (bound pieces : ℕ) (benches more : List BenchOf) (bench : BenchOf) (is : more ≡ benches ++ (bench ∷ [])) where
  pub one_more : AreBenches bound pieces benches → bench.bound ≡ bound → AreBenches bound pieces more
  one_more are same = record {
    within = are.within;
    some = are.some;
    few = are.few;
    alike = subst (AllByRecursion (λ (each : BenchOf). each.bound ≡ bound)) (sym is) (more_alike bound benches bench same are.alike);
  }

  pub last_is : (model : Parts) (count : ℕ) → count ≡ length more → bench.model ≡ model → IsBenchAt more model (count - 1)
  last_is model count counted of_model =
      let long : length more ≡ length benches + 1 = ap length is ∙ many benches bench in
      let at : length benches ≡ count - 1 = omega (arith, long, counted) in
      record {
        bench = bench;
        there = subst (λ (n : ℕ). slice_get more n ≡ Some bench) at (subst (λ (all : List BenchOf). slice_get all (length benches) ≡ Some bench) (sym is) (last_there benches bench));
        of_model = of_model;
      }

-- ---- one that is found

pub found_there : (benches : List BenchOf) (model : Parts) (at : ℕ) (bench : BenchOf) → at < length benches → bench ≡ get_or benches at bench → bench.model ≡ model →
    IsBenchAt benches model at
found_there benches model at bench within is of_model = record { bench = bench; there = slice_get-get_or benches at bench within ∙ ap Some (sym is); of_model = of_model }
