use Rattle.std.proofs.Common.{map, ◌∙◌, sym}
use Rattle.span_table.specs.AsDefined.{defined_span}
use Rattle.span_reuse.proofs.Placing.{none_copied}
use Rattle.span_reuse.proofs.merging.put_outside.Goals as goal

pub returns-then-is_among : goal.returns-then-is_among
returns-then-is_among c =
    none_copied c.args.roots.now (map defined_span c.args.copies.now.items) (defined_span c.args.span.now) (sym c.is_among.ensures ∙ c.if-is_among.true)
