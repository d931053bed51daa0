-- The tokens of data print as its compact text.
use Rattle.std.proofs.Common.{◌++◌, ◌∷◌, [], ap, ◌∙◌}
use Rattle.json.specs.Print.{print}
use Rattle.serde_json.proofs.Texts.{print-outline}
use Rattle.json_line.specs.Parts.{data_tokens}
use Rattle.json_line.proofs.lines.JsonLine.finish.Goals as goal

pub returns : goal.returns
unfolding data_tokens
returns c = λ d same.
    let printed = ap print same ∙ print-outline d in
    rw (c.in_ok-push_str.ensures.bytes, c.from_utf8_unchecked-text.ensures.value, c.into_inner-bytes.ensures.items, c.self.invariant, c.self.view_is) (ap (λ text. text ++ 10 ∷ []) printed)
