use Rattle.span_reuse.proofs.SideBySide.{alike_pair, both_noted}
use Rattle.span_reuse.proofs.comparing.note_pair.Goals as goal

pub returns-then-are_alike : goal.returns-then-are_alike
returns-then-are_alike c = alike_pair c.args.roots.now.items _ _ (c.are_alike.ensures c.if-are_alike.true)

pub returns : goal.returns
returns c =
    both_noted c.args.roots.now.items c.put_root.new.roots.items c.put_root-2.new.roots.items c.args.time c.args.other_time _ _ c.in_ok-put_root.ensures
    c.in_ok-put_root-2.ensures
