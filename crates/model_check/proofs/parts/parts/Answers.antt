use Rattle.model_check.proofs.MadeParts.{made_parts}
use Rattle.model_check.proofs.Results.{if_ok}
use Rattle.model_check.proofs.parts.parts.Goals as goal

pub returns : goal.returns
returns c =
    if_ok c.items_of.result _ _
    (λ made h. made_parts c.args.raw.now c.as_slice-declared.result.now c.as_slice-declared.ensures c.in_ok-symbols.symbols c.in_ok-symbols.ensures
    c.args.found.now c.note_repeated_items.new.found c.note_repeated_items-2.new.found c.items_of.new.found c.in_ok-note_repeated_items.ensures c.in_ok-note_repeated_items-2.ensures made h)
    c.items_of.ensures
