-- What is kept is kept as long as it lasts.
use Rattle.std.proofs.Common.{◌∙◌, List, ap, map, take}
use Rattle.span_table.specs.AsDefined.{defined_span}
use Rattle.findings.specs.PairSweep.{still_lasting}
use Rattle.findings.specs.declared.pairs.Lasting.{Lasting}
use Rattle.findings.proofs.PairSweep.{still_are}
use Rattle.findings.proofs.pairs.advanced.Goals as goal

pub begin_until-requires-clause-lasting : goal.begin_until-requires-clause-lasting
begin_until-requires-clause-lasting c =
    let swept = c.args.swept.now in
    c.in_ok-lasting.ensures
    ∙ ap (λ (l : List Lasting). still_lasting c.args.t l) (c.as_slice.ensures ∙ c.requires.swept.lasting)
    ∙ still_are c.args.reach swept.kind swept.until c.args.t c.requires.later (map defined_span (take swept.next c.args.spans.now))
