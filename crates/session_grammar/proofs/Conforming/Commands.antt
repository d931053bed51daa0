-- What is read of clients and their commands conforms to the grammar of sessions, the limit of commands included: it is passed
-- at the mark that begins the one that is too many.
use Rattle.std.proofs.Common.{ℕ, List, refl}
use Rattle.aerie_text.specs.declared.sorts.Sort.{Sort}
use Rattle.aerie_text.specs.declared.sorts.Sort.TheVariants as sort
use Rattle.readers.specs.Marks.{Mark}
use Rattle.readers.specs.Parsed.{is_of, is_one_of, parsed}
use Rattle.readers.specs.grammar.Forms.{both, either, many, rule, token}
use Rattle.readers.proofs.Conforming.{and_then, then_value, value, either_conforms, rule_conforms, Begins, begins_both, begins_either, begins_rule}
use Rattle.readers.proofs.Listing.{row_conforms}
use Rattle.readers.specs.Verdicts.{Judges}
use Rattle.readers.proofs.Grammars.Alike.{alike_swapped}
use Rattle.readers.proofs.Judged.{alike_judged, conforms_judged}
use Rattle.session_grammar.specs.declared.raw.clients.RawCommand.{RawCommand}
use Rattle.session_grammar.specs.grammar.Factored.{look, factored, named_form, fork_form, merge_form, add_form, remove_form, directive_move_form, move_form, set_form, load_form, branches_form, edit_form, view_form}
use Rattle.session_grammar.specs.grammar.Rules.{command_rule, client_rule}
use Rattle.session_grammar.specs.grammar.Terminals.{plain}
use Rattle.session_grammar.specs.grammar.Written.{written, ended_command_form}
use Rattle.session_grammar.specs.reading.Commands.{most_commands, named_at, of_branch_at, fork_at, merge_at, add_at, remove_at, migrate_at, directive_move_at, moved_at, move_at, set_at, load_at, branch_words, branches_at, edit_words, edit_at, view_at, command_at, ended_command_at, command_words, commands_at, client_at}
use Rattle.session_grammar.proofs.Conforming.Directives.{Along, IsPlain, taken, begins_with, id_law, when_law, given_law, argument_law}
use Rattle.session_grammar.proofs.Conforming.Terminals.{in_terminals}
use Rattle.session_grammar.proofs.Grammar.Alike.{alike_from}
use Rattle.session_grammar.proofs.Grammar.Predictive.{predictive}

named_law : (s : Sort) → IsPlain s → (marks : List Mark) → Along (both (token (plain s)) (token (plain sort.Name))) marks (named_at s marks)
unfolding named_at
named_law s is marks = and_then _ (taken s _ is) (λ word rest. then_value _ (taken sort.Name _ (refl, refl)) (λ name rest. value))

named_begins : (s : Sort) → IsPlain s → Begins look (is_of s) (both (token (plain s)) (token (plain sort.Name)))
named_begins s is = begins_both (begins_with s is) refl

of_branch_law : (s : Sort) → IsPlain s → (command_of : List ℕ → RawCommand) (marks : List Mark) → Along (both (token (plain s)) (token (plain sort.Name))) marks (of_branch_at s command_of marks)
unfolding of_branch_at
of_branch_law s is command_of marks = then_value (λ branch. parsed (command_of branch.0) branch.1) (named_law s is marks) (λ branch rest. value)

fork_law : (marks : List Mark) → Along fork_form marks (fork_at marks)
unfolding fork_at
fork_law marks = and_then _ (named_law sort.Fork (refl, refl) marks) (λ branch rest. then_value _ (named_law sort.From (refl, refl) rest) (λ source rest. value))

merge_law : (marks : List Mark) → Along merge_form marks (merge_at marks)
unfolding merge_at
merge_law marks = and_then _ (named_law sort.Merge (refl, refl) marks) (λ branch rest. and_then _ (named_law sort.From (refl, refl) rest) (λ source rest. then_value _ (named_law sort.Of (refl, refl) rest) (λ base rest. value)))

add_law : (marks : List Mark) → Along add_form marks (add_at marks)
unfolding add_at
add_law marks = and_then _ (named_law sort.Add (refl, refl) marks) (λ branch rest. and_then _ (taken sort.At _ (refl, refl)) (λ word rest. and_then _ (when_law rest) (λ when rest. then_value _ (given_law rest) (λ given rest. value))))

remove_law : (marks : List Mark) → Along remove_form marks (remove_at marks)
unfolding remove_at
remove_law marks = and_then _ (named_law sort.Remove (refl, refl) marks) (λ branch rest. then_value _ (id_law rest) (λ id rest. value))

migrate_law : (branch : List ℕ) (marks : List Mark) → Along (named_form sort.To) marks (migrate_at branch marks)
unfolding migrate_at
migrate_law branch marks = then_value _ (named_law sort.To (refl, refl) marks) (λ model rest. value)

directive_move_law : (branch : List ℕ) (marks : List Mark) → Along directive_move_form marks (directive_move_at branch marks)
unfolding directive_move_at
directive_move_law branch marks = and_then _ (id_law marks) (λ id rest. and_then _ (taken sort.To _ (refl, refl)) (λ word rest. then_value _ (when_law rest) (λ when rest. value)))

moved_law : (branch : List ℕ) (marks : List Mark) → Along (either (named_form sort.To) directive_move_form) marks (moved_at branch marks)
unfolding moved_at
moved_law branch marks = either_conforms _ _ (named_begins sort.To (refl, refl)) refl (λ next. migrate_law branch marks) (λ next. directive_move_law branch marks)

move_law : (marks : List Mark) → Along move_form marks (move_at marks)
unfolding move_at
move_law marks = and_then _ (named_law sort.Move (refl, refl) marks) (λ branch rest. moved_law branch rest)

set_law : (marks : List Mark) → Along set_form marks (set_at marks)
unfolding set_at
set_law marks = and_then _ (named_law sort.Set (refl, refl) marks) (λ branch rest. and_then _ (id_law rest) (λ id rest. then_value _ (argument_law rest) (λ argument rest. value)))

load_law : (marks : List Mark) → Along load_form marks (load_at marks)
unfolding load_at
load_law marks = and_then _ (named_law sort.Load (refl, refl) marks) (λ branch rest. then_value _ (taken sort.Raw _ (refl, refl)) (λ raw rest. value))

branches_law : (marks : List Mark) → Along branches_form marks (branches_at marks)
unfolding branches_at
branches_law marks =
    either_conforms _ _ (named_begins sort.New (refl, refl)) refl (λ next. of_branch_law sort.New (refl, refl) _ marks)
    (λ next. either_conforms _ _ (begins_both (named_begins sort.Fork (refl, refl)) refl) refl (λ next. fork_law marks)
    (λ next. either_conforms _ _ (named_begins sort.Drop (refl, refl)) refl (λ next. of_branch_law sort.Drop (refl, refl) _ marks)
    (λ next. merge_law marks)))

edit_law : (marks : List Mark) → Along edit_form marks (edit_at marks)
unfolding edit_at
edit_law marks =
    either_conforms _ _ (begins_both (named_begins sort.Add (refl, refl)) refl) refl (λ next. add_law marks)
    (λ next. either_conforms _ _ (begins_both (named_begins sort.Remove (refl, refl)) refl) refl (λ next. remove_law marks)
    (λ next. either_conforms _ _ (begins_both (named_begins sort.Move (refl, refl)) refl) refl (λ next. move_law marks)
    (λ next. either_conforms _ _ (begins_both (named_begins sort.Set (refl, refl)) refl) refl (λ next. set_law marks)
    (λ next. load_law marks))))

view_law : (marks : List Mark) → Along view_form marks (view_at marks)
unfolding view_at
view_law marks =
    either_conforms _ _ (named_begins sort.Show (refl, refl)) refl (λ next. of_branch_law sort.Show (refl, refl) _ marks)
    (λ next. either_conforms _ _ (named_begins sort.Simulate (refl, refl)) refl (λ next. of_branch_law sort.Simulate (refl, refl) _ marks)
    (λ next. either_conforms _ _ (named_begins sort.Schedule (refl, refl)) refl (λ next. of_branch_law sort.Schedule (refl, refl) _ marks)
    (λ next. of_branch_law sort.Expand (refl, refl) _ marks)))

words_begin : Begins look (is_one_of branch_words) branches_form
words_begin =
    begins_either (named_begins sort.New (refl, refl))
    (begins_either (begins_both (named_begins sort.Fork (refl, refl)) refl)
    (begins_either (named_begins sort.Drop (refl, refl)) (begins_both (named_begins sort.Merge (refl, refl)) refl)))

edits_begin : Begins look (is_one_of edit_words) edit_form
edits_begin =
    begins_either (begins_both (named_begins sort.Add (refl, refl)) refl)
    (begins_either (begins_both (named_begins sort.Remove (refl, refl)) refl)
    (begins_either (begins_both (named_begins sort.Move (refl, refl)) refl)
    (begins_either (begins_both (named_begins sort.Set (refl, refl)) refl) (begins_both (named_begins sort.Load (refl, refl)) refl))))

pub command_law : (marks : List Mark) → Along (rule command_rule) marks (command_at marks)
unfolding command_at
command_law marks =
    rule_conforms predictive (either_conforms _ _ words_begin refl (λ next. branches_law marks)
    (λ next. either_conforms _ _ edits_begin refl (λ next. edit_law marks) (λ next. view_law marks)))

pub ended_command_law : (marks : List Mark) → Along ended_command_form marks (ended_command_at marks)
unfolding ended_command_at
ended_command_law marks = and_then _ (command_law marks) (λ command rest. then_value _ (taken sort.Semicolon _ (refl, refl)) (λ end rest. value))

commands_law : (marks : List Mark) → Along (many ended_command_form) marks (commands_at marks)
unfolding commands_at
commands_law marks = row_conforms predictive command_words (begins_both (begins_rule (λ k. in_terminals command_words refl k)) refl) refl ended_command_law most_commands marks

pub client_law : (marks : List Mark) → Along (rule client_rule) marks (client_at marks)
unfolding client_at
client_law marks =
    rule_conforms predictive (and_then _ (taken sort.Client _ (refl, refl)) (λ word rest. and_then _ (taken sort.Name _ (refl, refl)) (λ name rest.
    and_then _ (taken sort.OpenBrace _ (refl, refl)) (λ front rest. and_then _ (commands_law rest) (λ commands rest. then_value _ (taken sort.CloseBrace _ (refl, refl)) (λ end rest. value))))))

-- what is read of a client tells of the readings of the grammar as it is written
pub client_judged : (marks : List Mark) → Judges written client_rule marks (client_at marks)
client_judged marks =
    alike_judged factored client_rule written client_rule (alike_swapped written client_rule factored client_rule (alike_from client_rule refl)) marks _
    (conforms_judged look predictive client_rule marks _ (client_law marks))
