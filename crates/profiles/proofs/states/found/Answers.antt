use Rattle.std.proofs.Common.{ℕ, ◌∙◌, rules, nat_lt}
use Rattle.std.proofs.lemmas.List.Sorted.{IsPartitionPoint-from_clause}
use Rattle.effect_cells.specs.declared.effects.CellState.{CellState}
use Rattle.profiles.proofs.FoundStates.{parted, found_there, found_none}
use Rattle.profiles.proofs.states.found.Goals as goal

pub returns-in-Some : goal.returns-in-Some
returns-in-Some c =
    let changed = c.args.changed.now in
    let point = IsPartitionPoint-from_clause (λ (entry : ℕ × CellState). nat_lt entry.0 c.args.cell) _ _ c.partition_point-at.ensures.partitioned (parted 0 c.args.cell changed c.requires) (λ a r q k. search rules) in
    let lookup = c.in-Some.ensures.lookup in
    c.state_if.ensures ∙ found_there c.args.cell changed _ c.in-Some.entry.now c.requires point lookup.3.0 (lookup.3.1 c.in-Some.entry.now)

pub returns-in-None : goal.returns-in-None
returns-in-None c =
    let changed = c.args.changed.now in
    let point = IsPartitionPoint-from_clause (λ (entry : ℕ × CellState). nat_lt entry.0 c.args.cell) _ _ c.partition_point-at.ensures.partitioned (parted 0 c.args.cell changed c.requires) (λ a r q k. search rules) in
    found_none c.args.cell changed _ point c.in-None.ensures.lookup.3
