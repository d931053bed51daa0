-- The position before which all frames are before the path is that of the path, if it has one.
use Rattle.std.proofs.Common.{◌∙◌, length, refl, sym, rules}
use Rattle.std.proofs.lemmas.Bool.{false≢true}
use Rattle.std.proofs.lemmas.List.Sorted.{IsPartitionPoint-from_clause}
use Rattle.std.proofs.lemmas.Option.{slice_get_read}
use Rattle.engine_core.specs.FrameLookups.{before_path, parted, found, found_other, found_none}
use Rattle.engine_core.proofs.batches.gathering.find.Goals as goal

pub returns-in_default : goal.returns-in_default
returns-in_default c =
    let point = IsPartitionPoint-from_clause (before_path c.args.path.now) c.args.frames.now c.partition_point-at.result c.partition_point-at.ensures.partitioned (parted c.args.path.now c.args.frames.now c.requires) (λ a r q k. search rules) in
    found_none c.args.path.now c.args.frames.now c.partition_point-at.result point.0 c.in_default.ensures.lookup.3

pub returns-then-is_same : goal.returns-then-is_same
returns-then-is_same c =
    let point = IsPartitionPoint-from_clause (before_path c.args.path.now) c.args.frames.now c.partition_point-at.result c.partition_point-at.ensures.partitioned (parted c.args.path.now c.args.frames.now c.requires) (λ a r q k. search rules) in
    let lookup = c.in-Some.ensures.lookup in (
      lookup.3.0,
      slice_get_read c.args.frames.now (length c.args.frames.now) c.partition_point-at.result c.in-Some.frame.now refl lookup.3.0 (lookup.3.1 c.in-Some.frame.now)
          ∙ sym
          (found c.args.path.now c.args.frames.now c.partition_point-at.result c.in-Some.frame.now c.requires point.0 point.1 lookup.3.0 (lookup.3.1 c.in-Some.frame.now)
          (sym c.path.ensures ∙ c.is_same.ensures.0 c.if-is_same.true)),
    )

pub returns-else-is_same : goal.returns-else-is_same
returns-else-is_same c =
    let point = IsPartitionPoint-from_clause (before_path c.args.path.now) c.args.frames.now c.partition_point-at.result c.partition_point-at.ensures.partitioned (parted c.args.path.now c.args.frames.now c.requires) (λ a r q k. search rules) in
    let lookup = c.in-Some.ensures.lookup in
    found_other c.args.path.now c.args.frames.now c.partition_point-at.result c.in-Some.frame.now c.requires point.0 point.1 lookup.3.0 (lookup.3.1 c.in-Some.frame.now)
    (λ e. false≢true (sym c.if-is_same.false ∙ c.is_same.ensures.1 (c.path.ensures ∙ e)))
