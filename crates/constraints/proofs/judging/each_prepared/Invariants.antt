use Rattle.std.proofs.Common.{◌≡◌, ◌++◌, drop, map}
use Rattle.span_table.specs.AsDefined.{defined_span}
use Rattle.constraints.specs.Violating.{violations_of_spans}
use Rattle.constraints.proofs.judging.each_prepared.Given as goal

-- those of the spans so far and of the spans that are left are those of all
abbrev pub invariant-loop-span : goal.invariant-loop-span
invariant-loop-span l =
    l.found ++ violations_of_spans l.sources.model.now l.sources.run.now l.kind l.window (map defined_span (drop l.span-index l.spans))
    ≡ violations_of_spans l.sources.model.now l.sources.run.now l.kind l.window (map defined_span l.spans)
