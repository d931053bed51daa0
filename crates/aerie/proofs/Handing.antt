-- How the pieces that a sink was handed grow, write by write.
use Rattle.std.proofs.Common.{◌≡◌, ℕ, ◌+◌, ◌<◌, List, [], ◌∷◌, ◌++◌, length, drop, Option, Some, None, sym, ap, ◌∙◌, append_assoc, append-nil, length-drop, arith}
use Rattle.aerie_edge.specs.Written.{Hands}
use Rattle.aerie.specs.Output.{HandsOver}
use Rattle.aerie.specs.Output.HandsRests.{nothing, more}

-- nothing is handed over yet
pub handed_nothing : (a : Option (List (List ℕ))) (text : List ℕ) → HandsOver a a text 0 []
handed_nothing None text = tt
handed_nothing (Some before) text = ([], ap Some (sym (append-nil (before ++ []) ∙ append-nil before)), nothing)

-- one more piece was handed over
pub handed_last : (a b c : Option (List (List ℕ))) (text piece : List ℕ) (at : ℕ) → HandsOver a b text at [] → Hands b c piece → HandsOver a c text at (piece ∷ [])
handed_last None b c text piece at so_far one = tt
handed_last (Some before) None c text piece at so_far one = absurd (none_is_some so_far.1)
  where
    none_is_some : {x : List (List ℕ)} → None ≡ Some x → ⊥
    none_is_some e = cc
handed_last (Some before) (Some now) c text piece at so_far one =
    (so_far.0, one ∙ ap Some (ap (λ (l : List (List ℕ)). l ++ piece ∷ []) (inner so_far.1 ∙ append-nil (before ++ so_far.0))), so_far.2)
  where
    inner : {x y : List (List ℕ)} → Some x ≡ Some y → x ≡ y
    inner e = cc

-- something of the last piece was taken
pub handed_more : (a c : Option (List (List ℕ))) (text : List ℕ) (at count : ℕ) → HandsOver a c text at (drop at text ∷ []) → at < length text → (0 < length (drop at text) → 0 < count) → HandsOver a c text (at + count) []
handed_more None c text at count handed within some = tt
handed_more (Some before) c text at count handed within some =
    (handed.0 ++ drop at text ∷ [], handed.1 ∙ ap Some (append_assoc before handed.0 (drop at text ∷ []) ∙ sym (append-nil (before ++ (handed.0 ++ drop at text ∷ [])))), more at count handed.0 handed.2 within (some (omega (arith, length-drop at text))))
