use Rattle.std.proofs.Common.{refl}
use Rattle.std.proofs.lemmas.Str.{IsCharBoundary-start}
use Rattle.session_judge.proofs.Beginning.{begins}
use Rattle.session_judge.proofs.words.word_standing_at.Goals as goal

pub loop-token-init : goal.loop-token-init
loop-token-init c = record { edge = IsCharBoundary-start c.args.text.now c.utf8.text; at = begins c.args.text.now; rest = refl }
