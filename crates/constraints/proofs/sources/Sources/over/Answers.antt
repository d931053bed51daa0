use Rattle.std.proofs.Common.{List, subst}
use Rattle.run_data.specs.Spans.{SpanOf}
use Rattle.constraints.specs.Sources.{AreTimesIn}
use Rattle.constraints.proofs.sources.Sources.over.Goals as goal

pub returns-clause-sources : goal.returns-clause-sources
returns-clause-sources c = record {
  fresh = c.requires.fresh;
  profiles = c.in_ok-profiles.ensures;
  times = subst (λ (l : List SpanOf). AreTimesIn c.args.run.now.reach l c.in_ok-times.times) c.requires.spans.exact c.in_ok-times.ensures;
}
