-- The grammar of the command line.
--
--     MODE           run, check or make
--     --limit N      1 to 100,000,000, and 1,000,000 where it is left out
--     --pieces N     1 to 64, and 4 where it is left out
--     --number N     1 to 20,000, exactly with make
--     --serial
--     --stats
--     --text         only with make
--     --explain      only with run and check
--     --detail       only with run
--
-- These parts stand in any order. MODE is given once, and each other part once at most. `--NAME N` may be written
-- `--NAME=N`. Behind `--` nothing may stand but MODE. This file cuts words into parts; what they ask for, with how often
-- they may stand and which numbers they may have, is in Invocations.
use Rattle.std.specs.declared.alloc.Global.{Global}
use Rattle.std.specs.Prelude.{ℕ, ◌==◌, Bool, List, [], ◌∷◌, ◌++◌, Option, Some, None, String, codes, drop, map, option_map, string_bytes}
use Rattle.std.specs.Prelude.{if◌then◌else◌}
use Rattle.std.specs.List.{after_first, before_first, list_any}
use Rattle.std.specs.Str.{bytes_eq}

-- a word, byte by byte
abbrev pub Word : Type 0
Word = List ℕ

-- ---- words

-- the words as texts
abbrev pub texts_of : List (String Global) → List Word
texts_of words = map (λ word. string_bytes word) words

-- the options, each of which has a value, and the flags
abbrev pub options : List Word
options = codes "limit" ∷ codes "pieces" ∷ codes "number" ∷ []

abbrev pub flags : List Word
flags = codes "serial" ∷ codes "stats" ∷ codes "text" ∷ codes "explain" ∷ codes "detail" ∷ []

-- What a word is by itself: `--`, a flag, an option whose value is the next word, an option with its value, or any other
-- word, which stands for MODE.
pub data WordSort : Type 0 where
  dashes : WordSort
  flag : Word → WordSort
  option : Word → WordSort
  valued : Word → Word → WordSort
  plain : WordSort

abbrev pub is_equals_sign : ℕ → Bool
is_equals_sign byte = byte == 61

-- the word is two hyphens and one of these names
abbrev pub is_among_names : List Word → Word → Bool
is_among_names names word = list_any (λ name. bytes_eq (codes "--" ++ name) word) names

-- by what stands in front of the first `=`, and what stands behind it
abbrev pub sort_by : Word → Option Word → WordSort
sort_by front None =
    if bytes_eq (codes "--") front then dashes
    else if is_among_names flags front then flag (drop 2 front)
    else if is_among_names options front then option (drop 2 front)
    else plain
sort_by front (Some value) = if is_among_names options front then valued (drop 2 front) value else plain

abbrev pub behind_equals_sign : Word → Option Word
behind_equals_sign word = if list_any is_equals_sign word then Some (after_first is_equals_sign word) else None

abbrev pub sort_of_word : Word → WordSort
sort_of_word word = sort_by (before_first is_equals_sign word) (behind_equals_sign word)

-- ---- parts

-- a part of a command line: for what it is given, and the value; that of a flag is `true`
abbrev pub CommandPart : Type 0
CommandPart = Word × Word

abbrev pub mode_part : Word → CommandPart
mode_part word = (codes "mode", word)

abbrev pub flag_part : Word → CommandPart
flag_part name = (name, codes "true")

abbrev pub with_part : CommandPart → Option (List CommandPart) → Option (List CommandPart)
with_part part more = option_map (λ parts. part ∷ parts) more

-- behind `--` stands MODE, or nothing
abbrev pub parts_behind_dashes : List Word → Option (List CommandPart)
parts_behind_dashes [] = Some []
parts_behind_dashes (word ∷ []) = Some (mode_part word ∷ [])
parts_behind_dashes (word ∷ other ∷ more) = None

-- the parts of a word and those behind it; an option waits for its value
abbrev pub parts_by_sort : WordSort → Word → List Word → (Option Word → Option (List CommandPart))
    → Option (List CommandPart)
parts_by_sort dashes word more next = parts_behind_dashes more
parts_by_sort (flag name) word more next = with_part (flag_part name) (next None)
parts_by_sort (option name) word more next = next (Some name)
parts_by_sort (valued name value) word more next = with_part (name, value) (next None)
parts_by_sort plain word more next = with_part (mode_part word) (next None)

-- the parts of words, of which the first is the value of the option that waits, where one does
unfoldable pub parts_from : List Word → Option Word → Option (List CommandPart)
parts_from [] None = Some []
parts_from [] (Some name) = None
parts_from (word ∷ more) (Some name) = with_part (name, word) (parts_from more None)
parts_from (word ∷ more) None = parts_by_sort (sort_of_word word) word more (parts_from more)

abbrev pub command_parts : List Word → Option (List CommandPart)
command_parts words = parts_from words None
