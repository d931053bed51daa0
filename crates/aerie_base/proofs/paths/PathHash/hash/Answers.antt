use Rattle.std.proofs.Common.{refl, ap, ◌∙◌, ◌∷◌}
use Rattle.std.specs.List.{flat_map, fold}
use Rattle.std.specs.Hash.{le_bytes}
use Rattle.std.specs.Hash as fed
use Rattle.aerie_base.proofs.HashedPaths.{child_written, all_written}
use Rattle.aerie_base.proofs.paths.PathHash.hash.Goals as goal

pub loop-child-init : goal.loop-child-init
loop-child-init g c = refl

pub loop-child-preserved : goal.loop-child-preserved
loop-child-preserved g c =
    child_written g.H.Hasher.write c.children-child-items.result.now c.loop-child.child-index c.loop-child.state c.hash-in-loop-child.new.state _ c.loop-child-test.true c.hash-in-loop-child.ensures
    c.loop-child.invariant

pub returns : goal.returns
returns g c =
    let write = g.H.Hasher.write in
    all_written write c.children-child-items.result.now c.loop-child.child-index c.loop-child.state _ c.loop-child-test.false c.loop-child.invariant
    ∙ ap (λ (state : g.row.H.Denot). fold write state (flat_map fed.u32 c.children-child-items.result.now)) c.hash.ensures
    ∙ (λ i. fold write c.args.state.now (le_bytes 8 (c.root_number.ensures i) ∷ flat_map fed.u32 (c.children-child-items.ensures.children i)))
