use Rattle.std.proofs.Common.{◌-◌, arith}
use Rattle.std.specs.HashMap as hash
use Rattle.aerie_base.specs.models.Names.{same_name}
use Rattle.seq_expand.proofs.SpacedNames.{spacing_put}
use Rattle.seq_expand.proofs.closeness.spaced_by_name.Goals as goal

pub loop-at-preserved : goal.loop-at-preserved
loop-at-preserved c =
    let within = c.loop-at.invariant.within in
    let some = c.loop-at-test.true in
    record {
      within = omega (arith, within);
      known = spacing_put c.args.spacings.now (c.loop-at.at - 1) c.loop-at.at c.index-spacings-at.result (hash.get same_name c.loop-at.spaced) (hash.get same_name c.put_spacing.new.spaced) (omega (arith, within, some)) c.index-spacings-at.is (omega (arith, some))
          c.loop-at.invariant.known c.in_ok-put_spacing.ensures;
    }
