use Rattle.std.proofs.Common.{◌≡◌, ◌++◌, map, drop}
use Rattle.session_reader.specs.MeantMappings.{feed_for}
use Rattle.session_reader.proofs.meant_mappings.all_feeds.Given as goal

abbrev pub invariant-loop-parameter : goal.invariant-loop-parameter
invariant-loop-parameter l = l.all ++ map (feed_for l.new l.from l.feeds) (drop l.parameter-index l.parameters) ≡ map (feed_for l.new l.from l.feeds) l.parameters
