-- No task is noted exactly where there is none.
use Rattle.std.proofs.Common.{◌≡◌, ℕ, Bool, false, ◌||◌, List, [], ◌∷◌, length, refl, sym, ap, ◌∙◌, arith}
use Rattle.std.specs.List.{list_any}
use Rattle.std.specs.Cmp.Lexicographic.{nat_list_eq_equiv}
use Rattle.std.proofs.lemmas.Bool.{false≢true}
use Rattle.run_data.specs.Spans.{same_path}

pub none_noted : (tasks : List (List ℕ)) → length tasks ≡ 0 → (path : List ℕ) → list_any (same_path path) tasks ≡ false
none_noted [] none path = refl
none_noted (first ∷ rest) none path = absurd (omega (arith, none))

pub none_there : (tasks : List (List ℕ)) → ((path : List ℕ) → list_any (same_path path) tasks ≡ false) → length tasks ≡ 0
none_there [] none = refl
none_there (first ∷ rest) none =
    absurd (false≢true (sym (none first) ∙ ap (λ (b : Bool). b || list_any (same_path first) rest) (nat_list_eq_equiv.refl first)))
