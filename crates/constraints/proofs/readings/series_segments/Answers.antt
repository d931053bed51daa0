use Rattle.aerie_base.specs.declared.values.Kind.TheVariants as kind
use Rattle.constraints.proofs.SeriesByRules.{series_given, series_pieces}
use Rattle.constraints.proofs.readings.series_segments.Goals as goal

pub segments-requires-clause-series : goal.segments-requires-clause-series
segments-requires-clause-series c = series_given c.args.sources.now.model.now kind.Int c.args._name.now c.args.series.now c.requires.typed

pub returns : goal.returns
returns c =
    rw c.from_vec.ensures
    (series_pieces c.args.sources.now.model.now c.args.sources.now.run.now c.args._name.now c.args.series.now _ c.requires.typed c.get.ensures.range c.in_ok-made.ensures.form c.in_ok-made.ensures.values)
