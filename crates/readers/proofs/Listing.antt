-- What is read of lists conforms to a grammar where their parts do.
use Rattle.std.proofs.Common.{◌≡◌, true, false, List, [], Option, Some, None, length}
use Rattle.aerie_text.specs.declared.sorts.Sort.{Sort}
use Rattle.aerie_text.specs.declared.sorts.Sort.TheVariants.{Comma, OpenParenthesis, CloseParenthesis}
use Rattle.readers.specs.Conforms.{Conforms}
use Rattle.readers.specs.Lists.{limit_passed, unless_passed, one_more_of, one_more_at, listed_at, optional_list_at, parenthesized_at, row_at}
use Rattle.readers.specs.Marks.{Mark}
use Rattle.readers.specs.Parsed.{Parsed, is_of, is_one_of}
use Rattle.readers.specs.declared.limits.Limit.{Limit}
use Rattle.readers.specs.declared.lists.Most.{Most}
use Rattle.readers.specs.grammar.Forms.{Form, token, both, many, option, separated}
use Rattle.readers.specs.grammar.Lookahead.{Lookahead, nullable, next_in_first}
use Rattle.readers.specs.grammar.Predictive.{IsPredictive}
use Rattle.readers.proofs.Conforming.{Begins, begins_both, begins_here, token_conforms, and_then, then_value, value, chosen_conforms, option_conforms, repeated_conforms, separated_conforms, over_limit_conforms, failed_conforms}

module _ {Rule Kind : Type 0} {look : Lookahead Rule Kind Mark} {A : Type 0} {a : Form Rule Kind} {part_at : List Mark → Parsed A} (ok : IsPredictive look) where
  unless_conforms : ((here : List Mark) → Conforms look a here (part_at here)) → (over : Option Limit) (so_far : List A) (marks : List Mark)
      → next_in_first look a marks ≡ true → Conforms look a marks (unless_passed part_at over so_far marks)
  unless_conforms h None so_far marks begun = then_value _ (h marks) (λ last rest. value)
  unless_conforms h (Some limit) so_far marks begun = over_limit_conforms ok begun

  pub one_more_conforms : ((here : List Mark) → Conforms look a here (part_at here)) → (most : Option Most) (so_far : List A) (marks : List Mark)
      → next_in_first look a marks ≡ true → Conforms look a marks (one_more_of most part_at so_far marks)
  one_more_conforms h most so_far marks begun = unless_conforms h (limit_passed most (length so_far)) so_far marks begun

  one_begun_conforms : (first : Sort) → Begins look (is_of first) a → nullable look a ≡ false → ((here : List Mark) → Conforms look a here (part_at here))
      → (most : Option Most) (so_far : List A) (marks : List Mark) → Conforms look a marks (one_more_at first most part_at so_far marks)
  one_begun_conforms first begin some h most so_far marks =
      chosen_conforms _ _ _ (λ next. one_more_conforms h most so_far marks (begins_here marks begin next)) (λ next. failed_conforms (begins_here marks begin next) some)

  -- parts with commas between them
  pub listed_conforms : {comma : Kind} (first : Sort) → ((k : Mark) → look.grammar.fits comma k ≡ is_of Comma k) → Begins look (is_of first) a → nullable look a ≡ false
      → ((here : List Mark) → Conforms look a here (part_at here)) → (most : Option Most) (marks : List Mark) → Conforms look (separated (token comma) a) marks (listed_at first most part_at marks)
  listed_conforms first fit begin some h most marks = separated_conforms Comma [] fit (one_begun_conforms first begin some h most)

  -- the same, or none
  pub optional_list_conforms : {comma : Kind} (first : Sort) → ((k : Mark) → look.grammar.fits comma k ≡ is_of Comma k) → Begins look (is_of first) a → nullable look a ≡ false
      → ((here : List Mark) → Conforms look a here (part_at here)) → (most : Option Most) (marks : List Mark) → Conforms look (option (separated (token comma) a)) marks (optional_list_at first most part_at marks)
  optional_list_conforms first fit begin some h most marks = option_conforms _ _ (begins_both begin some) (λ next. listed_conforms first fit begin some h most marks) value

  -- parts in a row
  pub row_conforms : (sorts : List Sort) → Begins look (is_one_of sorts) a → nullable look a ≡ false
      → ((here : List Mark) → Conforms look a here (part_at here)) → (most : Option Most) (marks : List Mark) → Conforms look (many a) marks (row_at sorts most part_at marks)
  row_conforms sorts begin some h most marks = repeated_conforms _ begin some (λ now here next. one_more_conforms h most now here (begins_here here begin next))

  -- parts with commas between them, or none, in parentheses
  pub parenthesized_conforms : {opens comma closes : Kind} (first : Sort) → ((k : Mark) → look.grammar.fits opens k ≡ is_of OpenParenthesis k) → ((k : Mark) → look.grammar.fits comma k ≡ is_of Comma k)
      → ((k : Mark) → look.grammar.fits closes k ≡ is_of CloseParenthesis k) → Begins look (is_of first) a → nullable look a ≡ false → ((here : List Mark) → Conforms look a here (part_at here))
      → (most : Option Most) (marks : List Mark) → Conforms look (both (token opens) (both (option (separated (token comma) a)) (token closes))) marks (parenthesized_at first most part_at marks)
  parenthesized_conforms first opened fit closed begin some h most marks =
      and_then _ (token_conforms OpenParenthesis _ opened) (λ mark rest. and_then _ (optional_list_conforms first fit begin some h most rest)
      (λ parts behind. then_value _ (token_conforms CloseParenthesis _ closed) (λ close left. value)))
