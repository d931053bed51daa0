use Rattle.std.proofs.Common.{◌∙◌, [], ◌∷◌, List, ap, sym}
use Rattle.goals.specs.declared.status.GoalStatus.{GoalStatus}
use Rattle.report_text.specs.declared.answers.Answer.{Answer}
use Rattle.report_text.specs.declared.answers.Answer.TheVariants as answer
use Rattle.session_run.specs.summary.Summaries.{summary_of}
use Rattle.session_run.proofs.Capped.{reply_counted, schedule_counted}
use Rattle.session_run.proofs.summary.counting.counted.Goals as goal

pub returns-in-Schedule : goal.returns-in-Schedule
returns-in-Schedule c =
    schedule_counted c.in-Schedule.report c.placed_count-placed.result c.as_slice.result.now c.told_otherwise.result c.as_slice.ensures c.placed_count-placed.ensures c.told_otherwise.ensures
    ∙ ap (λ (told : Answer). summary_of (told ∷ [])) (sym c.in-Schedule.is)

pub returns-in-Reply : goal.returns-in-Reply
returns-in-Reply c =
    reply_counted c.in-Reply.reply c.is_refusal.result c.told_otherwise-in-Reply.result c.is_refusal.ensures c.told_otherwise-in-Reply.ensures
    ∙ ap (λ (told : Answer). summary_of (told ∷ [])) (sym c.in-Reply.is)
