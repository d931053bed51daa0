-- The tokens from one on stand in a row.
use Rattle.std.proofs.Common.{sym, subst}
use Rattle.aerie_text.specs.Marks.{AreTokensWithin}
use Rattle.readers.proofs.Standing.{tokens_behind}
use Rattle.readers.proofs.reader.Reader.new.Goals as goal

pub begin_of-begin-requires : goal.begin_of-begin-requires
begin_of-begin-requires c =
    subst (AreTokensWithin c.args.text.now) (sym c.split_at.ensures.back) (tokens_behind c.args.text.now c.args.tokens.now c.args.from c.requires.tokens)

pub first_of-sort-requires-clause-tokens : goal.first_of-sort-requires-clause-tokens
first_of-sort-requires-clause-tokens c =
    subst (AreTokensWithin c.args.text.now) (sym c.split_at.ensures.back) (tokens_behind c.args.text.now c.args.tokens.now c.args.from c.requires.tokens)

pub invariant_of-result : goal.invariant_of-result
invariant_of-result c = record {
  short = c.requires.short;
  within = subst (AreTokensWithin c.args.text.now) (sym c.split_at.ensures.back) (tokens_behind c.args.text.now c.args.tokens.now c.args.from c.requires.tokens);
  first = c.first_of-sort.ensures;
}
