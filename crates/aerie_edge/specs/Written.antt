-- What a sink holds, where it tells: it may stop telling, and one that told nothing never tells again.
use Rattle.std.specs.Prelude.{◌≡◌, ℕ, ◌+◌, List, [], ◌∷◌, ◌++◌, take, ⊤, Option, None, Some, Result, MatchResult}

-- these bytes came behind what was told before, if the sink still tells
abbrev pub Receives : Option (List ℕ) → Option (List ℕ) → List ℕ → Type 0
Receives None None bytes = ⊤
Receives None (Some after) bytes = ⊥
Receives (Some before) None bytes = ⊤
Receives (Some before) (Some after) bytes = after ≡ before ++ bytes

-- `write(piece)` put the n bytes that it took behind the others at `Ok(n)`, and changed nothing at `Err`
abbrev pub WriteReceives : {E : Type 0} → Option (List ℕ) → Option (List ℕ) → Result ℕ E → List ℕ → Type 0
WriteReceives before after result piece = MatchResult result (λ n. Receives before after (take n piece)) (λ _. after ≡ before)

-- the pieces that a sink was handed, one for each write, where it tells them: this piece is one more
abbrev pub Hands : Option (List (List ℕ)) → Option (List (List ℕ)) → List ℕ → Type 0
Hands None after piece = ⊤
Hands (Some before) after piece = after ≡ Some (before ++ piece ∷ [])
