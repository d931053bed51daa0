use Rattle.std.proofs.Common.{List}
use Rattle.model_reader.specs.declared.raw.items.RawItem.{RawItem}
use Rattle.model_check.specs.ModelDiagnostics.{repeated_diagnostics, names_in}
use Rattle.model_check.specs.ModelSymbols.{with_names}
use Rattle.model_check.specs.NameGroups.{group_name}
use Rattle.model_check.proofs.RepeatedNames.{repeated_of_both}
use Rattle.model_check.specs.Diagnostics.{number_of_cause}
use Rattle.diagnostics.specs.Iterations.{judged_iteration}
use Rattle.model_check.proofs.repeats.note_repeated_items.Goals as goal

pub loop-item-preserved : goal.loop-item-preserved
loop-item-preserved c =
    let name = group_name c.args.group in
    judged_iteration number_of_cause (λ s (x : RawItem). with_names s (name x)) (λ s (x : RawItem). repeated_diagnostics s (name x)) (λ s (xs : List RawItem). repeated_diagnostics s (names_in name xs))
    (λ s x rest. repeated_of_both s (name x) (names_in name rest))
    c.args.items.now c.loop-item.item-index c.item-item.result c.loop-item-test.true c.item-item.is
    _ _ c.in_ok-note_repeated_item.ensures.0 _ _ _ c.in_ok-note_repeated_item.ensures.1 c.loop-item.invariant
