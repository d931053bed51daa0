-- The marks that the reader begins with are those of all tokens; what the grammar says of them follows by the law.
use Rattle.std.proofs.Common.{ℕ, List, length, subst}
use Rattle.std.proofs.lemmas.List.{length-map}
use Rattle.model_reader.proofs.Limited.Tokens.{marks_count_numbers}
use Rattle.model_reader.specs.ModelAnswers.{UnlessOutOfMemory}
use Rattle.readers.specs.Marks.{Mark, mark_of, marks_of}
use Rattle.session_grammar.proofs.Answered.{answered_holds, answered_refused, answered_session, answered_through}
use Rattle.session_grammar.proofs.session_answers.read_raw_session.Goals as goal
use Rattle.session_grammar.specs.SessionAnswers.{answer_of_session}
use Rattle.session_grammar.specs.SessionLimits.{IsLimitedSession}
use Rattle.session_grammar.specs.reading.Sessions.{whole_session_at}

pub returns-clause-read : goal.returns-clause-read
returns-clause-read c =
    let marks = marks_of c.args.text.now c.args.tokens.now in
    let exact = subst (λ (found : List Mark). UnlessOutOfMemory (answer_of_session c.args.text.now (whole_session_at found)) c.read_marks.result) c.new-reader.ensures c.read_marks.ensures in
    answered_session c.args.text.now marks (whole_session_at marks) c.read_marks.result (c.sessions_conform.ensures.judged marks) exact

pub returns-clause-refused : goal.returns-clause-refused
returns-clause-refused c place h =
    let marks = marks_of c.args.text.now c.args.tokens.now in
    let exact = subst (λ (found : List Mark). UnlessOutOfMemory (answer_of_session c.args.text.now (whole_session_at found)) c.read_marks.result) c.new-reader.ensures c.read_marks.ensures in
    answered_refused c.args.text.now marks (whole_session_at marks) place (c.sessions_conform.ensures.judged marks) (subst (UnlessOutOfMemory (answer_of_session c.args.text.now (whole_session_at marks))) h exact)

pub returns-clause-too_many : goal.returns-clause-too_many
returns-clause-too_many c what place h =
    let marks = marks_of c.args.text.now c.args.tokens.now in
    let exact = subst (λ (found : List Mark). UnlessOutOfMemory (answer_of_session c.args.text.now (whole_session_at found)) c.read_marks.result) c.new-reader.ensures c.read_marks.ensures in
    answered_through c.args.text.now marks (whole_session_at marks) what place (c.sessions_conform.ensures.judged marks) (subst (UnlessOutOfMemory (answer_of_session c.args.text.now (whole_session_at marks))) h exact)

pub returns-clause-limits : goal.returns-clause-limits
returns-clause-limits c =
    let text = c.args.text.now in
    let tokens = c.args.tokens.now in
    let marks = marks_of text tokens in
    let exact = subst (λ (found : List Mark). UnlessOutOfMemory (answer_of_session text (whole_session_at found)) c.read_marks.result) c.new-reader.ensures c.read_marks.ensures in
    answered_holds text (whole_session_at marks) c.read_marks.result (IsLimitedSession (length tokens))
    (λ rest raw is. subst (λ (count : ℕ). IsLimitedSession count raw) (length-map tokens (mark_of text)) (c.sessions_are_limited.ensures marks rest raw (marks_count_numbers text tokens 0 c.requires.tokens) is)) exact
