use Rattle.std.proofs.Common.{◌≡◌, drop}
use Rattle.std.specs.List.{list_any}
use Rattle.aerie_base.specs.Paths.{comes_from_daemon, id_of}
use Rattle.span_reuse.specs.Roots.{is_root}
use Rattle.span_reuse.proofs.roots.is_among.Given as goal

-- the task comes from none of those so far
abbrev pub invariant-loop-root : goal.invariant-loop-root
invariant-loop-root l =
    list_any (is_root (comes_from_daemon l.path) (id_of l.path)) (drop l.root-index l.roots)
    ≡ list_any (is_root (comes_from_daemon l.path) (id_of l.path)) l.roots
