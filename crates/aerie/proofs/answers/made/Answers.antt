use Rattle.std.proofs.Common.{◌≡◌, ◌∙◌, Ok, ap, subst, sym}
use Rattle.std.proofs.lemmas.Result.{IfOk-weaker}
use Rattle.session_judge.specs.Judging.{Judgement, judged_session}
use Rattle.session_judge.specs.declared.judged.JudgedSession.{JudgedSession}
use Rattle.session_make.specs.Sessions.{session}
use Rattle.aerie.specs.Program.{answer_with, IsSummarized}
use Rattle.aerie.specs.declared.exit_status.ExitStatus.TheVariants.{Done}
use Rattle.aerie.proofs.answers.made.Goals as goal

pub returns-then-text-clause-made : goal.returns-then-text-clause-made
returns-then-text-clause-made g c = rw c.if-text.true (ap (answer_with Done) c.in_ok-session.ensures)

pub returns-in-Ok-clause-made : goal.returns-in-Ok-clause-made
returns-in-Ok-clause-made g c =
    let judged : judged_session (session c.args.number) ≡ Ok c.in-Ok.judged =
    ap judged_session (sym (c.as_bytes.ensures.value ∙ c.in_ok-session.ensures)) ∙ c.in-Ok.ensures.exact in
    rw c.if-text.false
    (IfOk-weaker c.summarized.result _ _
    (λ output is. subst (λ (judgement : Judgement JudgedSession). IsSummarized c.args.number c.args.limit judgement output) (sym judged) is) c.summarized.ensures.summarized)
