use Rattle.std.proofs.Common.{◌≡◌, drop}
use Rattle.std.specs.Str.{IsCharBoundary}
use Rattle.aerie_text.specs.Places.{place_of}
use Rattle.session_judge.specs.Telling.{word_standing_at}
use Rattle.session_judge.proofs.words.word_standing_at.Given as goal

-- the place is known, and no token so far stands at the one that is looked for
abbrev pub invariant-loop-token : goal.invariant-loop-token
invariant-loop-token l = record {
  edge : IsCharBoundary l.text l.from;
  at : l.at ≡ place_of l.text l.from;
  rest : word_standing_at l.text l.place (drop l.token-index l.tokens) ≡ word_standing_at l.text l.place l.tokens;
}
