-- The name and the parts that were made are those of the model that is meant.
use Rattle.model_check.proofs.Checked.{valid_if, told_if}
use Rattle.model_check.proofs.checking.check.Goals as goal

pub tell-requires : goal.tell-requires
tell-requires c =
    valid_if c.args.raw.now c.in_ok-name.name c.in_ok-parts.parts c.parts.new.found c.in_ok-name.ensures c.in_ok-parts.ensures.0 c.in_ok-parts.ensures.1
    (c.unrefused_models_are_valid.ensures c.args.raw.now c.requires.limits)

pub returns : goal.returns
returns c =
    record {
      exact =
          told_if c.args.raw.now c.in_ok-name.name c.in_ok-parts.parts c.parts.new.found c.in_ok-name.ensures c.in_ok-parts.ensures.0 c.in_ok-parts.ensures.1
          c.tell.result c.tell.ensures;
    }
