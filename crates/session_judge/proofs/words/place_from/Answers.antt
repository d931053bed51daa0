-- A token stands at the edges of characters.
use Rattle.std.proofs.Common.{rules}
use Rattle.aerie_text.proofs.Cuts.{token_edges}
use Rattle.session_judge.proofs.words.place_from.Goals as goal

pub place_on-requires-clause-ends : goal.place_on-requires-clause-ends
place_on-requires-clause-ends c = let edge = (token_edges c.args.text.now c.args.token c.utf8.text c.requires.token).0 in search rules

pub place_of-requires-clause-edge : goal.place_of-requires-clause-edge
place_of-requires-clause-edge c = let edge = (token_edges c.args.text.now c.args.token c.utf8.text c.requires.token).0 in search rules

pub returns-then-from-token-clause-edge : goal.returns-then-from-token-clause-edge
returns-then-from-token-clause-edge c = let edge = (token_edges c.args.text.now c.args.token c.utf8.text c.requires.token).0 in search rules

pub returns-else-from-token-clause-edge : goal.returns-else-from-token-clause-edge
returns-else-from-token-clause-edge c = let edge = (token_edges c.args.text.now c.args.token c.utf8.text c.requires.token).0 in search rules
