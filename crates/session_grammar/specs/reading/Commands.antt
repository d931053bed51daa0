-- Reading clients and their commands.
use Rattle.std.specs.Prelude.{ℕ, List, [], ◌∷◌, Option, Some}
use Rattle.aerie_text.specs.declared.sorts.Sort.{Sort}
use Rattle.aerie_text.specs.declared.sorts.Sort.TheVariants as sort
use Rattle.readers.specs.Lists.{row_at}
use Rattle.readers.specs.Marks.{Mark}
use Rattle.readers.specs.Parsed.{Parsed, parsed, ◌>>=◌, next_is, next_is_one_of, chosen, take_at, name_at, word_at}
use Rattle.readers.specs.declared.limits.Limit.TheVariants.{Commands}
use Rattle.readers.specs.declared.lists.Most.{Most}
use Rattle.session_grammar.specs.declared.raw.clients.RawClient.{RawClient}
use Rattle.session_grammar.specs.declared.raw.clients.RawCommand.{RawCommand}
use Rattle.session_grammar.specs.declared.raw.clients.RawCommand.TheVariants as command
use Rattle.session_grammar.specs.reading.Directives.{id_at, when_at, given_at, argument_at}

-- the most commands of a client
abbrev pub command_limit : ℕ
command_limit = 4_096

-- WORD NAME: the name
unfoldable pub named_at : Sort → List Mark → Parsed (List ℕ)
named_at sort marks = do
  word ← take_at sort marks
  name ← name_at word.1
  parsed name.0.1 name.1

-- WORD NAME: a command that names a branch alone
unfoldable pub of_branch_at : Sort → (List ℕ → RawCommand) → List Mark → Parsed RawCommand
of_branch_at sort command_of marks = do
  branch ← named_at sort marks
  parsed (command_of branch.0) branch.1

-- "fork" NAME "from" NAME
unfoldable pub fork_at : List Mark → Parsed RawCommand
fork_at marks = do
  branch ← named_at sort.Fork marks
  source ← named_at sort.From branch.1
  parsed (command.Fork branch.0 source.0) source.1

-- "merge" NAME "from" NAME "of" NAME
unfoldable pub merge_at : List Mark → Parsed RawCommand
merge_at marks = do
  branch ← named_at sort.Merge marks
  source ← named_at sort.From branch.1
  base ← named_at sort.Of source.1
  parsed (command.Merge branch.0 source.0 base.0) base.1

-- "add" NAME "at" when given
unfoldable pub add_at : List Mark → Parsed RawCommand
add_at marks = do
  branch ← named_at sort.Add marks
  word ← take_at sort.At branch.1
  when ← when_at word.1
  given ← given_at when.1
  parsed (command.Add branch.0 when.0 given.0) given.1

-- "remove" NAME ID
unfoldable pub remove_at : List Mark → Parsed RawCommand
remove_at marks = do
  branch ← named_at sort.Remove marks
  id ← id_at branch.1
  parsed (command.Remove branch.0 id.0) id.1

-- "to" NAME, behind the branch
unfoldable pub migrate_at : List ℕ → List Mark → Parsed RawCommand
migrate_at branch marks = do
  model ← named_at sort.To marks
  parsed (command.Migrate branch model.0) model.1

-- ID "to" when, behind the branch
unfoldable pub directive_move_at : List ℕ → List Mark → Parsed RawCommand
directive_move_at branch marks = do
  id ← id_at marks
  word ← take_at sort.To id.1
  when ← when_at word.1
  parsed (command.Move branch id.0 when.0) when.1

-- "to" NAME | ID "to" when, behind the branch
unfoldable pub moved_at : List ℕ → List Mark → Parsed RawCommand
moved_at branch marks = chosen (next_is sort.To marks) (migrate_at branch) (directive_move_at branch) marks

-- "move" NAME ( "to" NAME | ID "to" when )
unfoldable pub move_at : List Mark → Parsed RawCommand
move_at marks = do
  branch ← named_at sort.Move marks
  moved_at branch.0 branch.1

-- "set" NAME ID NAME "=" literal
unfoldable pub set_at : List Mark → Parsed RawCommand
set_at marks = do
  branch ← named_at sort.Set marks
  id ← id_at branch.1
  argument ← argument_at id.1
  parsed (command.Set branch.0 id.0 argument.0) argument.1

-- "load" NAME RAW
unfoldable pub load_at : List Mark → Parsed RawCommand
load_at marks = do
  branch ← named_at sort.Load marks
  raw ← word_at sort.Raw branch.1
  parsed (command.Load branch.0 raw.0.1) raw.1

-- the words of commands that open branches, end them or bring them together
abbrev pub branch_words : List Sort
branch_words = sort.New ∷ sort.Fork ∷ sort.Drop ∷ sort.Merge ∷ []

-- such a command
unfoldable pub branches_at : List Mark → Parsed RawCommand
branches_at marks =
    chosen (next_is sort.New marks) (of_branch_at sort.New command.New)
    (chosen (next_is sort.Fork marks) fork_at
    (chosen (next_is sort.Drop marks) (of_branch_at sort.Drop command.Drop) merge_at)) marks

-- the words of commands that edit a branch
abbrev pub edit_words : List Sort
edit_words = sort.Add ∷ sort.Remove ∷ sort.Move ∷ sort.Set ∷ sort.Load ∷ []

-- such a command
unfoldable pub edit_at : List Mark → Parsed RawCommand
edit_at marks =
    chosen (next_is sort.Add marks) add_at
    (chosen (next_is sort.Remove marks) remove_at
    (chosen (next_is sort.Move marks) move_at
    (chosen (next_is sort.Set marks) set_at load_at))) marks

-- the words of commands that show a branch, or what comes of it
abbrev pub view_words : List Sort
view_words = sort.Show ∷ sort.Simulate ∷ sort.Schedule ∷ sort.Expand ∷ []

-- such a command
unfoldable pub view_at : List Mark → Parsed RawCommand
view_at marks =
    chosen (next_is sort.Show marks) (of_branch_at sort.Show command.Show)
    (chosen (next_is sort.Simulate marks) (of_branch_at sort.Simulate command.Simulate)
    (chosen (next_is sort.Schedule marks) (of_branch_at sort.Schedule command.Schedule) (of_branch_at sort.Expand command.Expand))) marks

-- command is one of these
unfoldable pub command_at : List Mark → Parsed RawCommand
command_at marks = chosen (next_is_one_of branch_words marks) branches_at (chosen (next_is_one_of edit_words marks) edit_at view_at) marks

-- command ";"
unfoldable pub ended_command_at : List Mark → Parsed RawCommand
ended_command_at marks = do
  command ← command_at marks
  end ← take_at sort.Semicolon command.1
  parsed command.0 end.1

-- the words with which commands begin
abbrev pub command_words : List Sort
command_words =
    sort.New ∷ sort.Fork ∷ sort.Drop ∷ sort.Merge ∷ sort.Add ∷ sort.Remove ∷ sort.Move ∷ sort.Set ∷ sort.Load
    ∷ sort.Show ∷ sort.Simulate ∷ sort.Schedule ∷ sort.Expand ∷ []

-- how many commands a client may have
abbrev pub most_commands : Option Most
most_commands = Some (record { count = command_limit; limit = Commands })

-- { command ";" }
unfoldable pub commands_at : List Mark → Parsed (List RawCommand)
commands_at marks = row_at command_words most_commands ended_command_at marks

-- client = "client" NAME "{" { command ";" } "}"
unfoldable pub client_at : List Mark → Parsed RawClient
client_at marks = do
  word ← take_at sort.Client marks
  name ← name_at word.1
  front ← take_at sort.OpenBrace name.1
  commands ← commands_at front.1
  end ← take_at sort.CloseBrace commands.1
  parsed (record { at = name.0.0; name = name.0.1; commands = commands.0 }) end.1
