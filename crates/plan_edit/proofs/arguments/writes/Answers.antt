-- A word is written so exactly where it is the enumeration's name with a dot and the variant's name behind it.
use Rattle.std.proofs.Common.{◌≡◌, ℕ, List, ◌++◌, ◌∷◌, ap, sym, subst, ◌∙◌}
use Rattle.std.specs.Bool.{Decides}
use Rattle.plan_edit.proofs.Words.{written_so, not_written}
use Rattle.plan_edit.proofs.arguments.writes.Goals as goal

pub returns-in-Some : goal.returns-in-Some
returns-in-Some c =
    written_so c.args.word.now c.args.enumeration.now c.args.variant.now c.in-Some.rest.now c.is_dotted.result
    (sym c.as_bytes.ensures.value ∙ c.in-Some.ensures ∙ ap (λ (name : List ℕ). name ++ c.in-Some.rest.now) (c.as_bytes-2.ensures.value ∙ c.as_str.ensures.text))
    (subst (λ (name : List ℕ). Decides c.is_dotted.result (c.in-Some.rest.now ≡ 46 ∷ name)) (c.as_bytes-in-Some.ensures.value ∙ c.as_str-in-Some.ensures.text) c.is_dotted.ensures)

pub returns-in-None : goal.returns-in-None
returns-in-None c =
    not_written c.args.word.now c.args.enumeration.now c.args.variant.now
    (λ rest split. c.in-None.ensures rest (c.as_bytes.ensures.value ∙ split ∙ sym (ap (λ (name : List ℕ). name ++ rest) (c.as_bytes-2.ensures.value ∙ c.as_str.ensures.text))))
