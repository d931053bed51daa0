-- The spans are those of the definition.
use Rattle.std.proofs.Common.{◌++◌, ap, map, sym, ◌∙◌}
use Rattle.std.specs.Prelude.{List}
use Rattle.std.proofs.lemmas.Result.{IfOk-equal}
use Rattle.std.proofs.lemmas.Simd.{map-map}
use Rattle.serde_json.specs.Data.{Data, array}
use Rattle.serde_json.specs.View.{items_of}
use Rattle.json_line.specs.Parts.{data_tokens}
use Rattle.span_table.specs.AsDefined.{defined_span}
use Rattle.report_text.specs.SpanLines.{span_data}
use Rattle.report_text.proofs.span_lines.write_spans.Goals as goal

pub returns : goal.returns
returns c =
    let one = span_data c.args.calendar.now.wording c.args.calendar.now.start in
    IfOk-equal _ _ _ _ c.list_in.ensures
    (ap (λ (all : List Data). c.args.line.now ++ data_tokens (array (items_of all))) (sym (map-map one defined_span c.args.spans.now) ∙ ap (map one) c.requires.spans.exact))
