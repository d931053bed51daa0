use Rattle.std.proofs.Common.{subst, sym, List, ℕ}
use Rattle.span_table.specs.KnownTasks.{IsPathAt}
use Rattle.span_table.proofs.AreOfTasks.{one_more}
use Rattle.span_table.proofs.begins.BegunSpans.note.Goals as goal

pub returns-in_ok-push-in-Activity-clause-numbers : goal.returns-in_ok-push-in-Activity-clause-numbers
returns-in_ok-push-in-Activity-clause-numbers c = λ links at are.
    rw c.in_ok-push-in-Activity.ensures.spans (rw c.in_ok-push-in-Activity.ensures.numbers
    (one_more links c.args.self.now.spans.items c.args.self.now.numbers.items c.in_ok-span-in-Activity.span c.args.number are
    (subst (λ (p : List ℕ). IsPathAt links c.args.number p) (sym c.in_ok-span-in-Activity.ensures.path) at)))
