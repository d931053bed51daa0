use Rattle.std.proofs.Common.{◌≡◌, ℕ, List, true, sym, subst, ◌∙◌}
use Rattle.session_reader.specs.Quotes.{is_quoted}
use Rattle.session_reader.proofs.Quoted.{can_be_cut}
use Rattle.session_reader.proofs.quotes.unquoted.Goals as goal

pub range-requires-clause-start_boundary : goal.range-requires-clause-start_boundary
range-requires-clause-start_boundary c =
    λ _. (can_be_cut c.args.mark c.args.text.now c.utf8.text c.requires
    (subst (λ (text : List ℕ). is_quoted c.args.mark text ≡ true) c.as_bytes.ensures.value (sym c.is_quoted.ensures ∙ c.if-is_quoted.true))).behind
