use Rattle.std.proofs.Common.{List, Option, ap, sym, ◌∙◌, option_map, slice_get}
use Rattle.aerie_base.specs.declared.models.EnumType.{EnumType}
use Rattle.aerie_base.specs.declared.values.Value.TheVariants.{Variant}
use Rattle.plan_edit.specs.Arguments.{variant_written}
use Rattle.plan_edit.proofs.Fillings.{few_variants}
use Rattle.plan_edit.proofs.arguments.variant_given.Goals as goal

pub variant_of-requires : goal.variant_of-requires
variant_of-requires c =
    few_variants c.args.model.now c.args.kind c.in-Some.enumeration.now c.enums.ensures.valid
    (sym (c.in-Some.ensures ∙ ap (λ (enums : List EnumType). slice_get enums c.from.result) c.enums.ensures.value ∙ ap (slice_get c.args.model.now.enums) c.from.ensures))

pub returns-in-Some : goal.returns-in-Some
returns-in-Some c =
    c.variant_of.ensures
    ∙ ap (λ (found : Option EnumType). option_map (Variant c.args.kind) (variant_written found c.args.word.now))
    (c.in-Some.ensures ∙ ap (λ (enums : List EnumType). slice_get enums c.from.result) c.enums.ensures.value ∙ ap (slice_get c.args.model.now.enums) c.from.ensures)

pub returns-in-None : goal.returns-in-None
returns-in-None c =
    ap (λ (found : Option EnumType). option_map (Variant c.args.kind) (variant_written found c.args.word.now))
    (c.in-None.ensures ∙ ap (λ (enums : List EnumType). slice_get enums c.from.result) c.enums.ensures.value ∙ ap (slice_get c.args.model.now.enums) c.from.ensures)
