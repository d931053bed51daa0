-- The cells that a resource reads, one after another.
use Rattle.std.proofs.Common.{◌≡◌, ℕ, zero, suc, ◌+◌, ◌<◌, List, [], ◌∷◌, ◌++◌, length, map, take, drop, get_or, refl, sym, ap, ◌∙◌, append_assoc, add-one, arith}
use Rattle.std.proofs.Math.Seq.{take-suc}
use Rattle.aerie_base.specs.declared.linear.Term.{Term}
use Rattle.effect_cells.specs.declared.effects.CellState.{CellState}
use Rattle.profiles.specs.declared.watching.Watched.{Watched}
use Rattle.profiles.specs.Watching.{watched_term, watched_on}

no_more : (watched : List Watched) → watched ++ [] ≡ watched
no_more [] = refl
no_more (one ∷ rest) = ap (λ l. one ∷ l) (no_more rest)

watched_after : (cells : List CellState) (terms : List Term) (term : Term) → watched_on cells (terms ++ term ∷ []) ≡ watched_on cells terms ++ watched_term cells term
watched_after cells [] term = no_more (watched_term cells term)
watched_after cells (first ∷ terms) term =
    ap (λ l. watched_term cells first ++ l) (watched_after cells terms term)
    ∙ sym (append_assoc (watched_term cells first) (watched_on cells terms) (watched_term cells term))

-- one term more is watched
pub watched_more : (cells : List CellState) (terms : List Term) (i : ℕ) (none : Term) (old new : List Watched) → i < length terms →
    old ≡ watched_on cells (take i terms) → new ≡ old ++ watched_term cells (get_or terms i none) → new ≡ watched_on cells (take (i + 1) terms)
watched_more cells terms i none old new within before put =
    let next : take i terms ++ get_or terms i none ∷ [] ≡ take (i + 1) terms = sym (rw add-one (take-suc terms i none within)) in
    put ∙ (ap (λ l. l ++ watched_term cells (get_or terms i none)) before ∙ (sym (watched_after cells (take i terms) (get_or terms i none)) ∙ ap (watched_on cells) next))

-- an item that has not changed yet is that of the start
pub untouched : {A : Type 0} (f : A → A) (items mixed : List A) (i : ℕ) (x : A) → i < length items → mixed ≡ map f (take i items) ++ drop i items → x ≡ get_or mixed i x → x ≡ get_or items i x
untouched f [] mixed i x within m e = absurd (omega arith)
untouched f (first ∷ items) mixed zero x within m e = e ∙ ap (λ l. get_or l 0 x) m
untouched f (first ∷ items) mixed (suc i) x within m e = untouched f items (map f (take i items) ++ drop i items) i x (omega arith) refl (e ∙ ap (λ l. get_or l (suc i) x) m)
