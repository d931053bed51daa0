-- What a text is cut into are tokens of it.
use Rattle.std.proofs.Common.{length}
use Rattle.explain.proofs.Cutting.{all_are_tokens}
use Rattle.explain.proofs.sorted.sorted_cut.Goals as goal

pub with_sorts-requires : goal.with_sorts-requires
with_sorts-requires c =
    rw (c.as_slice.ensures.value)
    (all_are_tokens c.args.text.now 0 (length c.args.text.now) c.in-Ok.tokens.items c.in-Ok.ensures.cut)
