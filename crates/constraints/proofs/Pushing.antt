-- Entries of a list by their places, with one more behind them.
use Rattle.std.proofs.Common.{◌≡◌, ℕ, zero, suc, ◌+◌, List, [], ◌∷◌, ◌++◌, length, Option, Some, None, IfSome, slice_get, refl, sym, ap, subst, ◌∙◌, arith}
use Rattle.std.proofs.lemmas.Option.{same_Some, none-some}
use Rattle.aerie_base.specs.declared.models.model.Parts.{Parts}
use Rattle.run_data.specs.declared.runs.Run.{Run}
use Rattle.run_data.specs.Spans.{SpanOf}
use Rattle.profiles.specs.declared.sampling.Profile.{Profile}
use Rattle.windows.specs.Times.{TimeSet}
use Rattle.constraints.specs.Sources.{AreProfiles, AreTimesIn, IsProfile, IsTimesIn}

module _ {A : Type 0} (P : ℕ → A → Type 0) where
  -- each entry that is there
  abbrev Each : ℕ → List (Option A) → Type 0
  Each from entries = (n : ℕ) (x : A) → slice_get entries n ≡ Some (Some x) → P (from + n) x

  each_more : (from : ℕ) (entries : List (Option A)) (one : Option A) → Each from entries → IfSome one (λ x. P (from + length entries) x) → Each from (entries ++ one ∷ [])
  each_more from [] None each last zero x is = absurd (none-some _ (same_Some _ _ is))
  each_more from [] (Some y) each last zero x is = subst (λ z. P (from + 0) z) (same_Some _ _ (same_Some _ _ is)) last
  each_more from [] one each last (suc n) x is = absurd (none-some _ is)
  each_more from (first ∷ rest) one each last zero x is = each zero x is
  each_more from (first ∷ rest) one each last (suc n) x is =
      let same : suc from + n ≡ from + suc n = omega arith in
      let at : from + length (first ∷ rest) ≡ suc from + length rest = omega arith in
      subst (λ k. P k x) same
      (each_more (suc from) rest one (λ m y there. subst (λ k. P k y) (move m) (each (suc m) y there)) (subst (λ k. IfSome one (λ x. P k x)) at last) n x is)
    where
      move : (m : ℕ) → from + suc m ≡ suc from + m
      move m = omega arith

  plus : (n : ℕ) → 0 + n ≡ n
  plus n = omega arith

  each_at : (entries : List (Option A)) (one : Option A) → ((n : ℕ) (x : A) → slice_get entries n ≡ Some (Some x) → P n x) → IfSome one (λ x. P (length entries) x) →
      (n : ℕ) (x : A) → slice_get (entries ++ one ∷ []) n ≡ Some (Some x) → P n x
  each_at entries one each last n x is =
      subst (λ k. P k x) (plus n)
      (each_more 0 entries one (λ m y there. subst (λ k. P k y) (sym (plus m)) (each m y there)) (subst (λ k. IfSome one (λ x. P k x)) (sym (plus (length entries))) last) n x is)

pub profiles_none : (model : Parts) (run : Run) → AreProfiles model run []
profiles_none model run zero profile is = absurd (none-some _ is)
profiles_none model run (suc n) profile is = absurd (none-some _ is)

pub times_none : (reach : ℕ) (spans : List SpanOf) → AreTimesIn reach spans []
times_none reach spans zero made is = absurd (none-some _ is)
times_none reach spans (suc n) made is = absurd (none-some _ is)

pub profiles_more : (model : Parts) (run : Run) (made new : List (Option Profile)) (one : Option Profile) (number : ℕ) → AreProfiles model run made → length made ≡ number → IfSome one (λ x. IsProfile model run number x) →
    new ≡ made ++ one ∷ [] → AreProfiles model run new
profiles_more model run made new one number each count last pushed =
    subst (AreProfiles model run) (sym pushed) (each_at (IsProfile model run) made one each (subst (λ k. IfSome one (λ x. IsProfile model run k x)) (sym count) last))

pub times_more : (reach : ℕ) (spans : List SpanOf) (made new : List (Option TimeSet)) (one : Option TimeSet) (kind : ℕ) → AreTimesIn reach spans made → length made ≡ kind → IfSome one (λ x. IsTimesIn reach spans kind x) →
    new ≡ made ++ one ∷ [] → AreTimesIn reach spans new
times_more reach spans made new one kind each count last pushed =
    subst (AreTimesIn reach spans) (sym pushed) (each_at (IsTimesIn reach spans) made one each (subst (λ k. IfSome one (λ x. IsTimesIn reach spans k x)) (sym count) last))

pub count_more : {A : Type 0} (made new : List A) (one : A) (n : ℕ) → length made ≡ n → new ≡ made ++ one ∷ [] → length new ≡ n + 1
count_more made new one n count pushed = ap length pushed ∙ longer made ∙ ap (λ k. k + 1) count
  where
    longer : (made : List _) → length (made ++ one ∷ []) ≡ length made + 1
    longer [] = refl
    longer (x ∷ xs) = let rest = longer xs in omega (arith, rest)
