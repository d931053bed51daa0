-- Reading the sections of rules: where their rules stand among the tokens of the whole text. The rules themselves are any tokens
-- but braces, and are read elsewhere.
use Rattle.std.specs.Prelude.{ℕ, ◌-◌, Bool, true, false, not, List, [], ◌∷◌, Option, Some, None, drop, length}
use Rattle.aerie_text.specs.declared.sorts.Sort.{Sort}
use Rattle.aerie_text.specs.declared.sorts.Sort.TheVariants as sort
use Rattle.model_reader.specs.declared.raw.names.RawName.{RawName}
use Rattle.readers.specs.Lists.{pushed_at}
use Rattle.readers.specs.Marks.{Mark}
use Rattle.readers.specs.Parsed.{Parsed, parsed, failed, ◌>>=◌, is_of, next_is, chosen, taken, take_at, repeated}
use Rattle.session_grammar.specs.declared.raw.sections.RawSection.{RawSection}
use Rattle.session_grammar.specs.grammar.Written.{is_brace}
use Rattle.session_grammar.specs.reading.Mappings.{raw_named_at}

-- ---- rules

-- the mark may stand among rules
abbrev pub is_no_brace : Mark → Bool
is_no_brace mark = not (is_brace mark.sort)

-- the marks behind the next one, where it was read
abbrev pub passed_if : Bool → List Mark → List Mark
passed_if true marks = drop 1 marks
passed_if false marks = marks

-- any token but a brace
abbrev pub rule_token_at : Unit {0} → List Mark → Parsed (Unit {0})
rule_token_at _ [] = failed []
rule_token_at _ (mark ∷ rest) = taken (is_no_brace mark) tt (mark ∷ rest) rest

-- rules = any tokens but "{" and "}"
unfoldable pub rules_at : List Mark → Parsed (Unit {0})
rules_at marks = repeated is_no_brace rule_token_at tt marks

-- ---- sections

-- "of" NAME
unfoldable pub some_model_at : List Mark → Parsed (Option RawName)
some_model_at marks = do
  name ← raw_named_at sort.Of marks
  parsed (Some name.0) name.1

-- [ "of" NAME ]
unfoldable pub of_model_at : List Mark → Parsed (Option RawName)
of_model_at marks = chosen (next_is sort.Of marks) some_model_at (parsed None) marks

-- WORD [ "of" NAME ] "{" rules "}", in a text of so many tokens: the rules begin with the first token behind the brace, and end
-- before the other brace
unfoldable pub section_at : Sort → ℕ → List Mark → Parsed RawSection
section_at word count marks = do
  at ← take_at word marks
  model ← of_model_at at.1
  front ← take_at sort.OpenBrace model.1
  rules ← rules_at front.1
  end ← take_at sort.CloseBrace rules.1
  parsed (record { at = at.0; of = model.0; from = count - length front.1; to = count - length rules.1 }) end.1

-- sections with this word
unfoldable pub sections_with : Sort → ℕ → List Mark → Parsed (List RawSection)
sections_with word count marks = repeated (is_of word) (pushed_at (section_at word count)) [] marks
