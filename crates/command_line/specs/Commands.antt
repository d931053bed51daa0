-- The command that clap is given, as data: one simple command, without short options, help and version; and what it makes
-- of words. That this is what the grammar says is proved; no promise to a caller speaks of it.
use Rattle.std.specs.Prelude.{ℕ, Bool, true, false, List, [], ◌∷◌, Option, Some, codes}
use Rattle.clap.specs.Words.{App, Kinds, Row, Rule, fault_of, first_of, matches_of, new_app, new_rule, with_rule}
use Rattle.clap.specs.declared.builder.action.ArgAction.TheVariants.{Set, SetTrue}
use Rattle.command_line.specs.Invocations.{invocation_by, says_true}
use Rattle.command_line.specs.declared.invocation.Invocation.{Invocation}

-- ---- the words of the command

-- an option `--NAME VALUE` or `--NAME=VALUE`, given once at most
abbrev pub option_rule : List ℕ → Rule
option_rule name = record (new_rule name) { long = Some name; action = Some Set }

-- a flag `--NAME`, given once at most
abbrev pub flag_rule : List ℕ → Rule
flag_rule name = record (new_rule name) { long = Some name; action = Some SetTrue }

-- the one word that stands alone
abbrev pub mode_rule : Rule
mode_rule = record (new_rule (codes "mode")) { required = true; action = Some Set }

-- ---- the command

-- all words are the program's own, and none asks for help
abbrev pub plain_command : App
plain_command =
    let command = new_app (codes "aerie") in
    record command { top = record command.top { no_binary_name = true; disable_help_flag = true } }

abbrev pub with_every_option : App → App
with_every_option command =
    with_rule (with_rule (with_rule command (option_rule (codes "limit"))) (option_rule (codes "pieces"))) (option_rule (codes "number"))

-- the flags that say more, of a refusal and of runs
abbrev pub with_flags_for_more : App → App
with_flags_for_more command = with_rule (with_rule command (flag_rule (codes "explain"))) (flag_rule (codes "detail"))

abbrev pub with_every_flag : App → App
with_every_flag command =
    with_flags_for_more
    (with_rule (with_rule (with_rule command (flag_rule (codes "serial"))) (flag_rule (codes "stats"))) (flag_rule (codes "text")))

abbrev pub command : App
command = with_every_flag (with_every_option (with_rule plain_command mode_rule))

-- ---- what words give

abbrev pub is_no_fault : Kinds → Bool
is_no_fault [] = true
is_no_fault (fault ∷ more) = false

-- the words are in the form of the command
unfoldable pub are_taken : List (List ℕ) → Bool
are_taken words = is_no_fault (fault_of command words)

-- the values that the words give, by the names of the command
unfoldable pub given : List (List ℕ) → List Row
given words = matches_of command words

-- the value that a name was given
abbrev pub value_of : List Row → List ℕ → Option (List ℕ)
value_of rows name = first_of name rows

-- the flag was given
abbrev pub is_set : List Row → List ℕ → Bool
is_set rows name = says_true (value_of rows name)

-- what values ask for
abbrev pub requested : List Row → Option Invocation
requested rows = invocation_by (value_of rows)
