use Rattle.std.proofs.Common.{[], Ok, ap, sym, ◌∙◌, append-nil}
use Rattle.session_reader.proofs.cut_sessions.cut_form.Goals as goal

-- all tokens of the text stand in a row in it
pub form-requires-clause-tokens : goal.form-requires-clause-tokens
form-requires-clause-tokens c = record { before = []; behind = []; are = c.requires.tokens ∙ ap Ok (sym (append-nil c.args.tokens.now)) }
