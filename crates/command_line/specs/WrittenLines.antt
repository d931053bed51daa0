-- The grammar as it is written: which lists of words are command lines, and which parts they have.
--
--     line = nothing  |  `--`  |  `--` MODE  |  MODE line  |  `--NAME` line, of a flag
--          |  `--NAME` VALUE line  |  `--NAME=VALUE` line, of an option
use Rattle.std.specs.Prelude.{◌≡◌, Bool, true, List, [], ◌∷◌, ◌++◌, Some, codes}
use Rattle.std.specs.List.{list_any}
use Rattle.std.specs.Str.{bytes_eq}
use Rattle.command_line.specs.Grammar.{CommandPart, Word, command_parts, flag_part, flags, mode_part, options, plain, sort_of_word}
use Rattle.command_line.specs.Invocations.{invocation_in}

abbrev pub is_name_in : List Word → Word → Bool
is_name_in names name = list_any (λ other. bytes_eq other name) names

-- a command line, as it is put together; MODE is any word that is neither `--` nor an option, whether it names a mode or not
pub data CommandLine : Type 0 where
  nothing : CommandLine
  hyphens : CommandLine
  hyphens_and_mode : Word → CommandLine
  mode_and : (word : Word) → sort_of_word word ≡ plain → CommandLine → CommandLine
  flag_and : (name : Word) → is_name_in flags name ≡ true → CommandLine → CommandLine
  option_and : (name value : Word) → is_name_in options name ≡ true → CommandLine → CommandLine
  equals_and : (name value : Word) → is_name_in options name ≡ true → CommandLine → CommandLine

-- its words
abbrev pub line_words : CommandLine → List Word
line_words nothing = []
line_words hyphens = codes "--" ∷ []
line_words (hyphens_and_mode word) = codes "--" ∷ word ∷ []
line_words (mode_and word sort line) = word ∷ line_words line
line_words (flag_and name known line) = (codes "--" ++ name) ∷ line_words line
line_words (option_and name value known line) = (codes "--" ++ name) ∷ value ∷ line_words line
line_words (equals_and name value known line) = (codes "--" ++ name ++ codes "=" ++ value) ∷ line_words line

-- its parts
abbrev pub line_parts : CommandLine → List CommandPart
line_parts nothing = []
line_parts hyphens = []
line_parts (hyphens_and_mode word) = mode_part word ∷ []
line_parts (mode_and word sort line) = mode_part word ∷ line_parts line
line_parts (flag_and name known line) = flag_part name ∷ line_parts line
line_parts (option_and name value known line) = (name, value) ∷ line_parts line
line_parts (equals_and name value known line) = (name, value) ∷ line_parts line

-- ---- laws

-- The words of a command line are cut into its parts.
abbrev pub LinesAreCut : Type 0
LinesAreCut = (line : CommandLine) → command_parts (line_words line) ≡ Some (line_parts line)

-- Words that are cut into parts are those of a command line with these parts.
abbrev pub CutWordsAreLines : Type 0
CutWordsAreLines = (words : List Word) (parts : List CommandPart) → command_parts words ≡ Some parts
    → (line : CommandLine) × (line_words line ≡ words) × (line_parts line ≡ parts)

-- What parts ask for stays the same where two that stand side by side change places. So their order makes no difference.
abbrev pub OrderMakesNoDifference : Type 0
OrderMakesNoDifference = (front behind : List CommandPart) (one other : CommandPart)
    → invocation_in (front ++ one ∷ other ∷ behind) ≡ invocation_in (front ++ other ∷ one ∷ behind)
