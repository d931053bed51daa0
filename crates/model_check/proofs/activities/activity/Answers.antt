use Rattle.std.proofs.Common.{List, sym, ap, ◌∙◌}
use Rattle.model_reader.specs.declared.raw.statements.RawStmt.{RawStmt}
use Rattle.model_check.specs.declared.symbols.Symbols.{Symbols}
use Rattle.model_check.specs.Diagnostics.{noted}
use Rattle.model_check.specs.ModelDiagnostics.{end_diagnostics}
use Rattle.model_check.specs.ModelSymbols.{bare_symbols}
use Rattle.model_check.proofs.MadeActivities.{made_activity}
use Rattle.model_check.proofs.activities.activity.Goals as goal

pub requirements-requires : goal.requirements-requires
requirements-requires c = c.requires ∙ ap (λ (s : Symbols). bare_symbols s.enums) (sym c.requires)

pub returns : goal.returns
returns c =
    made_activity c.args.symbols.now c.args.bare.now c.requires c.args.name.now c.args.written.now c.args.returns.now c.args.truths.now c.args.raw.now
    c.new-scope.result c.parameters.new.scope c.new-scope.ensures
    c.args.found.now c.parameters.new.found c.note_result_type.new.found c.requirements.new.found c.body.new.found c.note_end.new.found
    c.in_ok-parameters.parameters c.in_ok-parameters.ensures c.note_result_type.ensures c.in_ok-requires_.requires_ c.in_ok-requires_.ensures
    c.result_symbol-result.result c.result_symbol-result.ensures c.in_ok-made.made c.in_ok-made.ensures
    (c.note_end.ensures ∙ ap (λ (xs : List RawStmt). noted c.body.new.found (end_diagnostics c.args.name.now.at c.args.returns.now xs)) c.as_slice.ensures)
    c.in_ok-copy.field-0 c.in_ok-copy.ensures c.result_written.result c.result_written.ensures
