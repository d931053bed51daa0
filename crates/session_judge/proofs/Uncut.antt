-- A text that cannot be cut into tokens is no session.
use Rattle.std.proofs.Common.{◌≡◌, ℕ, List, Result, Ok, Err, take, length, subst}
use Rattle.aerie_base.specs.declared.places.Place.{Place}
use Rattle.aerie_text.specs.Places.{place_of}
use Rattle.aerie_text.specs.Tokens.{tokens_of}
use Rattle.aerie_text.specs.declared.token.Token.{Token}
use Rattle.session_grammar.specs.declared.raw.sessions.RawSession.{RawSession}
use Rattle.session_reader.specs.Answers.{Answer, then_made_of}
use Rattle.session_reader.specs.Sessions.{session_answer}
use Rattle.session_reader.specs.SessionTexts.{cut_answer, form_answer, raw_by_tokens, refused_or_at, text_answer}
use Rattle.session_reader.specs.declared.session.Session.{Session}

always_refused : (place : Place) (answer : Answer RawSession) (session : Session) → then_made_of session_answer (refused_or_at place answer) ≡ Ok session → ⊥
always_refused place (Ok raw) session is = absurd cc
always_refused place (Err refusal) session is = absurd cc

cut_refused : (text : List ℕ) (cut : Result (List Token) ℕ) (session : Session) → then_made_of session_answer (cut_answer text cut) ≡ Ok session → ⊥
cut_refused text (Ok tokens) session is = always_refused (place_of text (length text)) (form_answer text tokens) session is
cut_refused text (Err at) session is = absurd cc

pub uncut_refused : (text : List ℕ) (at : ℕ) (session : Session) → tokens_of text ≡ Err at → text_answer text ≡ Ok session → ⊥
uncut_refused text at session uncut is =
    cut_refused (take at text) (tokens_of (take at text)) session (subst (λ (cut : Result (List Token) ℕ). then_made_of session_answer (raw_by_tokens text cut) ≡ Ok session) uncut is)
