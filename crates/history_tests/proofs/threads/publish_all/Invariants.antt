use Rattle.std.proofs.Common.{◌≡◌}
use Rattle.std.specs.List.{All}
use Rattle.history_store.specs.Publishing.{PublishedChapter}
use Rattle.history_tests.proofs.threads.publish_all.Given as goal

abbrev pub invariant-loop-chapter : goal.invariant-loop-chapter
invariant-loop-chapter g l = All (λ (receipt : PublishedChapter). receipt.store ≡ l.store) l.receipts.items
