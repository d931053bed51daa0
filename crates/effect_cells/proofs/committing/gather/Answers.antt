-- The walk gathers what the tree is worth.
use Rattle.std.proofs.Common.{◌<◌, ◌∙◌, refl, sym}
use Rattle.effect_cells.specs.Sums.{sum_limit}
use Rattle.effect_cells.specs.Worth.{worth_of, magnitude_of}
use Rattle.effect_cells.specs.Folded.{folded_worth, folded_magnitude, fits_is, magnitude_is, worth_is}
use Rattle.effect_cells.specs.Cells.{accepts}
use Rattle.effect_cells.proofs.GatheredEffects.{begins_ready, of_ok, same_gathered}
use Rattle.effect_cells.proofs.committing.gather.Goals as goal

pub gather_tree-requires-clause-kinds : goal.gather_tree-requires-clause-kinds
gather_tree-requires-clause-kinds c = sym (fits_is (accepts c.args.states.now) c.args.tree.now) ∙ c.requires.kinds

pub gather_tree-requires-clause-room : goal.gather_tree-requires-clause-room
gather_tree-requires-clause-room c =
    let small : folded_magnitude c.args.tree.now < sum_limit = rw (← magnitude_is c.args.tree.now) c.requires.small in
    (begins_ready c.args.states.now (folded_magnitude c.args.tree.now) c.args.room.now (record { blank = c.requires.blank; same = c.if-not-is_on.ensures refl }) small).1

pub returns-then-is_ok-clause-whole : goal.returns-then-is_ok-clause-whole
returns-then-is_ok-clause-whole c = λ done. record {
  begun = c.args.room.now;
  nothing = record { blank = c.requires.blank; same = c.if-not-is_on.ensures refl };
  all =
      same_gathered c.args.states.now (folded_worth c.args.tree.now) (worth_of c.args.tree.now) (folded_magnitude c.args.tree.now) (magnitude_of c.args.tree.now) c.args.room.now c.gather_tree.new.gathering
      (λ cell. sym (worth_is c.args.tree.now cell)) (sym (magnitude_is c.args.tree.now)) (of_ok _ c.gather_tree.result (sym c.if-is_ok.ensures.value) c.gather_tree.ensures);
}
