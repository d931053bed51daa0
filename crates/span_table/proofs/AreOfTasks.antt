-- Spans with the numbers of their tasks.
use Rattle.std.proofs.Common.{◌≡◌, ℕ, zero, suc, ◌<◌, length, get_or, map, take, drop, ap, ◌∙◌, arith, refl, List, [], ◌∷◌, ◌++◌, Option, Some, slice_get}
use Rattle.span_table.specs.declared.span.Span.{Span}
use Rattle.span_table.specs.KnownTasks.{IsPathAt, Links}
use Rattle.span_table.specs.Progress.{AreNumbersOf}

pub one_more : (links : Links) (spans : List Span) (numbers : List ℕ) (span : Span) (number : ℕ) → AreNumbersOf links spans numbers → IsPathAt links number span.path →
    AreNumbersOf links (spans ++ span ∷ []) (numbers ++ number ∷ [])
one_more links [] [] span number are is = (is, tt)
one_more links [] (other ∷ numbers) span number are is = absurd are
one_more links (other ∷ spans) [] span number are is = absurd are
one_more links (first ∷ spans) (other ∷ numbers) span number are is = (are.0, one_more links spans numbers span number are.1 is)

-- more links keep them
pub stay : (links more : Links) → ((k : ℕ) (link : List ℕ × Option ℕ) → slice_get links k ≡ Some link → slice_get more k ≡ Some link) →
    (spans : List Span) (numbers : List ℕ) → AreNumbersOf links spans numbers → AreNumbersOf more spans numbers
stay links more keeps [] [] are = tt
stay links more keeps [] (number ∷ numbers) are = absurd are
stay links more keeps (span ∷ spans) [] are = absurd are
stay links more keeps (span ∷ spans) (number ∷ numbers) are = ((are.0.0, keeps number (span.path, are.0.0) are.0.1), stay links more keeps spans numbers are.1)

-- the number of each
pub number_at : (links : Links) (spans : List Span) (numbers : List ℕ) (i : ℕ) (none : Span) → AreNumbersOf links spans numbers → i < length spans →
    (number : ℕ) × (slice_get numbers i ≡ Some number) × IsPathAt links number (get_or spans i none).path
number_at links [] numbers i none are within = absurd (omega (arith, within))
number_at links (span ∷ spans) [] i none are within = absurd are
number_at links (span ∷ spans) (number ∷ numbers) zero none are within = (number, refl, are.0)
number_at links (span ∷ spans) (number ∷ numbers) (suc i) none are within = number_at links spans numbers i none are.1 (omega (arith, within))

-- an item that has not changed yet is that of the start
pub untouched : {A : Type 0} (f : A → A) (items mixed : List A) (i : ℕ) (x : A) → i < length items → mixed ≡ map f (take i items) ++ drop i items → x ≡ get_or mixed i x → x ≡ get_or items i x
untouched f [] mixed i x within m e = absurd (omega arith)
untouched f (first ∷ items) mixed zero x within m e = e ∙ ap (λ l. get_or l 0 x) m
untouched f (first ∷ items) mixed (suc i) x within m e = untouched f items (map f (take i items) ++ drop i items) i x (omega arith) refl (e ∙ ap (λ l. get_or l (suc i) x) m)
