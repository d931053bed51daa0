-- A token stands at the edges of characters.
use Rattle.std.proofs.Common.{rules}
use Rattle.aerie_text.proofs.Cuts.{token_edges}
use Rattle.explain.proofs.sorted.sorted_token.Goals as goal

pub range-requires-clause-start_boundary : goal.range-requires-clause-start_boundary
range-requires-clause-start_boundary c = let edge = (token_edges c.args.text.now c.args.token c.utf8.text c.requires).0 in search rules

pub range-requires-clause-end_boundary : goal.range-requires-clause-end_boundary
range-requires-clause-end_boundary c = let edge = (token_edges c.args.text.now c.args.token c.utf8.text c.requires).1 in search rules
