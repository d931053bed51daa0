-- A word that is a front, a dot and a name.
use Rattle.std.proofs.Common.{◌≡◌, ◌≢◌, ℕ, Bool, false, List, ◌∷◌, ◌++◌, sym, ap, ◌∙◌}
use Rattle.std.specs.Bool.{Decides, one_answer}
use Rattle.std.specs.Cmp.Lexicographic.{bytes_decides}
use Rattle.std.proofs.lemmas.List.{append_cancel_left}
use Rattle.aerie_base.specs.models.Names.{same_name}

pub written_so : (word name variant rest : List ℕ) (r : Bool) → word ≡ name ++ rest → Decides r (rest ≡ 46 ∷ variant) → r ≡ same_name (name ++ 46 ∷ variant) word
written_so word name variant rest r split dotted =
    one_answer r (same_name (name ++ 46 ∷ variant) word)
    ((λ h. ap (λ (behind : List ℕ). name ++ behind) (sym (dotted.0 h)) ∙ sym split), (λ h. dotted.1 (sym (append_cancel_left name (46 ∷ variant) rest (h ∙ split)))))
    (bytes_decides (name ++ 46 ∷ variant) word)

pub not_written : (word name variant : List ℕ) → ((rest : List ℕ) → word ≢ name ++ rest) → false ≡ same_name (name ++ 46 ∷ variant) word
not_written word name variant none =
    one_answer false (same_name (name ++ 46 ∷ variant) word) ((λ h. absurd (cc)), (λ h. absurd (none (46 ∷ variant) (sym h)))) (bytes_decides (name ++ 46 ∷ variant) word)
