-- The first token is one of the text; and as it is of the sort of names, its text is a name.
use Rattle.std.proofs.Common.{◌∙◌, ap, sym}
use Rattle.aerie_base.specs.Names.{is_name}
use Rattle.aerie_text.specs.Sorts.{same_sort}
use Rattle.aerie_text.specs.declared.sorts.Sort.TheVariants.{Name}
use Rattle.readers.proofs.Standing.{is_named, is_token, kept_first}
use Rattle.readers.proofs.reader.Reader.name.Goals as goal

pub word_of-requires : goal.word_of-requires
word_of-requires c = is_token c.self.inside.text.now c.self.inside.tokens.now _ _ c.in-Some.ensures.cases.0 c.self.invariant.within

pub named-requires : goal.named-requires
named-requires c =
    let is = is_token c.self.inside.text.now c.self.inside.tokens.now _ _ c.in-Some.ensures.cases.0 c.self.invariant.within in
    let kept = kept_first c.self.inside.text.now c.self.inside.tokens.now _ _ c.in-Some.ensures.cases.0 c.self.invariant.within c.self.inside.sort c.self.inside.at c.self.invariant.first in
    let named = ap (same_sort Name) (sym kept.0) ∙ sym c.is.ensures ∙ c.if-is.true in
    ap is_name c.word_of.ensures ∙ is_named c.self.inside.text.now c.in-Some.token.now is named
