use Rattle.std.proofs.Common.{◌≡◌, drop}
use Rattle.diagnostics.specs.Diagnostics.{all_of}
use Rattle.session_reader.specs.Diagnostics.{noted}
use Rattle.session_reader.specs.MappingDiagnostics.{feed_diagnostics}
use Rattle.session_reader.proofs.feeds.note_feeds.Given as goal

abbrev pub invariant-loop-feed : goal.invariant-loop-feed
invariant-loop-feed l =
    noted l.found (all_of (feed_diagnostics l.old l.new l.from l.to) (drop l.feed-index l.feeds)) ≡ noted l.initial.found (all_of (feed_diagnostics l.old l.new l.from l.to) l.feeds)
