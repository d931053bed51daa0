-- Two lists side by side.
use Rattle.std.proofs.Common.{◌≡◌, ℕ, ◌<◌, ◌∙◌, List, get_or, length, min, sym, subst}
use Rattle.std.specs.List.{zip}
use Rattle.std.proofs.lemmas.Slice.Zip.{get_or-zip, length-zip}

pub pair_at : {A B : Type 0} (first : List A) (second : List B) (at : ℕ) (one : A) (other : B) → at < length first → at < length second →
    one ≡ get_or first at one → other ≡ get_or second at other → (one, other) ≡ get_or (zip first second) at (one, other)
pair_at first second at one other within beside here there = (λ i. (here i, there i)) ∙ sym (get_or-zip first second at (one, other) within beside)

pub zip_within : {A B : Type 0} (first : List A) (second : List B) (at : ℕ) → at < min (length first) (length second) → at < length (zip first second)
zip_within first second at within = subst (λ (n : ℕ). at < n) (sym (length-zip first second)) within
