use Rattle.std.proofs.Common.{rules}
use Rattle.std.proofs.lemmas.List.Sorted.{IsPartitionPoint-from_clause}
use Rattle.resimulate.specs.OldBatches.{is_earlier}
use Rattle.resimulate.proofs.OldInstants.{parted}
use Rattle.resimulate.proofs.SharedInstants.{early_by_halves}
use Rattle.resimulate.proofs.partings.earlier_than.Goals as goal

pub returns-clause-early : goal.returns-clause-early
returns-clause-early c =
    let point = IsPartitionPoint-from_clause (is_earlier c.args.until) c.args.instants.now c.partition_point.result c.partition_point.ensures.partitioned (parted c.args.until c.args.instants.now c.requires) (λ a r q k. search rules) in
    early_by_halves c.args.until c.partition_point.result c.args.instants.now c.partition_point.ensures.bound point.0
