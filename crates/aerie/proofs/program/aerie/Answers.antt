-- Where all is written, the status is that of the answer.
use Rattle.std.proofs.Common.{◌∙◌, IsTrue, ap, inl, subst, sym, ℕ}
use Rattle.aerie.specs.Program.{is_answered, number_of_status}
use Rattle.aerie.proofs.Outputs.{answer_tells, not_five, not_four, not_six, read_to_end}
use Rattle.aerie.proofs.program.aerie.Goals as goal

pub returns-in-Ok-write_output-clause-whole : goal.returns-in-Ok-write_output-clause-whole
returns-in-Ok-write_output-clause-whole g c = λ done reads.
    read_to_end _ _ _ _ _ c.in-Ok.ensures.answered (sym (c.number.ensures ∙ ap number_of_status c.status.ensures) ∙ done) reads

pub returns-in-Ok-write_output-clause-read_failed : goal.returns-in-Ok-write_output-clause-read_failed
returns-in-Ok-write_output-clause-read_failed g c = λ is.
    absurd (not_four _ (answer_tells _ _ _ _ _ c.in-Ok.ensures.answered) (sym (c.number.ensures ∙ ap number_of_status c.status.ensures) ∙ is))

pub returns-in-Ok-write_output-clause-write_failed : goal.returns-in-Ok-write_output-clause-write_failed
returns-in-Ok-write_output-clause-write_failed g c = λ is.
    absurd (not_five _ (answer_tells _ _ _ _ _ c.in-Ok.ensures.answered) (sym (c.number.ensures ∙ ap number_of_status c.status.ensures) ∙ is))

pub returns-in-Ok-write_output-clause-memory : goal.returns-in-Ok-write_output-clause-memory
returns-in-Ok-write_output-clause-memory g c = λ is.
    absurd (not_six _ (answer_tells _ _ _ _ _ c.in-Ok.ensures.answered) (sym (c.number.ensures ∙ ap number_of_status c.status.ensures) ∙ is))

pub returns-in-Ok-write_output-clause-complete : goal.returns-in-Ok-write_output-clause-complete
returns-in-Ok-write_output-clause-complete g c = λ _ _.
    inl (subst (λ (n : ℕ). IsTrue (is_answered n)) (sym (c.number.ensures ∙ ap number_of_status c.status.ensures)) (answer_tells _ _ _ _ _ c.in-Ok.ensures.answered))
