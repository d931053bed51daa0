-- What the program writes to its sink.
use Rattle.std.specs.Prelude.{◌≡◌, ℕ, ◌+◌, ◌<◌, List, [], ◌∷◌, ◌++◌, length, take, drop, Option, Some, IfSome}
use Rattle.aerie_edge.specs.Written.{Receives}

-- these pieces were handed over while so many bytes of the text were taken: each is all that was left of the text then,
-- which was something, and something of it was taken
pub data HandsRests (text : List ℕ) : ℕ → List (List ℕ) → Type 0 where
  nothing : HandsRests text 0 []
  more : (taken count : ℕ) (pieces : List (List ℕ)) → HandsRests text taken pieces → taken < length text → 0 < count → HandsRests text (taken + count) (pieces ++ drop taken text ∷ [])

-- a sink that tells its pieces was handed such pieces, and then these
abbrev pub HandsOver : Option (List (List ℕ)) → Option (List (List ℕ)) → List ℕ → ℕ → List (List ℕ) → Type 0
HandsOver before after text taken last = IfSome before (λ pieces. (rests : List (List ℕ)) × (after ≡ Some (pieces ++ rests ++ last)) × HandsRests text taken rests)

-- the whole text was written, and each time all that was left was handed over; no write failed
pub record WritesAll (before after : Option (List ℕ)) (pieces pieces' : Option (List (List ℕ))) (text : List ℕ) : Type 0 where
  pub received : Receives before after text
  pub rests : HandsOver pieces pieces' text (length text) []

-- exactly a front of the text was written, and each time all that was left was handed over; the last write failed
pub record WritesFront (before after : Option (List ℕ)) (pieces pieces' : Option (List (List ℕ))) (text : List ℕ) : Type 0 where
  pub len : ℕ
  pub within : len < length text
  pub received : Receives before after (take len text)
  pub rests : HandsOver pieces pieces' text len (drop len text ∷ [])
