use Rattle.std.proofs.Common.{ap, sym, ◌∙◌}
use Rattle.std.specs.List.{position}
use Rattle.std.specs.Prelude.{option_and_then, option_copied}
use Rattle.aerie_base.specs.declared.models.EnumType.{EnumType}
use Rattle.aerie_base.specs.models.Names.{same_name}
use Rattle.rule_check.proofs.names.variant_in.Goals as goal

pub returns-in-Some : goal.returns-in-Some
returns-in-Some c =
    let name = c.args.name.now in
    c.place_in.ensures ∙ ap (position (λ variant. same_name variant name)) c.as_slice.ensures
    ∙ sym (ap (λ given. option_and_then (λ (enum : EnumType). position (λ variant. same_name variant name) enum.variants) (option_copied given)) c.in-Some.is)
