use Rattle.std.proofs.Common.{rules, ◌∙◌, ℕ, [], ◌∷◌, ◌++◌, Option, sym, ap, subst}
use Rattle.report_text.specs.declared.answers.Answer.{Answer}
use Rattle.session_run.specs.summary.Summaries.{HasItsConstraints, summary_of}
use Rattle.client_work.specs.Told.{command_told, count_told}
use Rattle.client_work.specs.Working.{replies_of}
use Rattle.session_run.proofs.Reports.{counted_if, none_told, told_has}
use Rattle.session_run.proofs.counting.count_command.Goals as goal

pub note-requires : goal.note-requires
note-requires g c =
    let done = c.in_ok-answer.ensures.done in
    subst HasItsConstraints (sym done.told)
    (told_has c.args.workplace.now.mission.now c.requires.workplace.ruled (count_told c.args.workplace.now.mission.now done.statements) c.args.command.now (replies_of done.gained))

pub returns-clause-counted : goal.returns-clause-counted
returns-clause-counted g c =
    let done = c.in_ok-answer.ensures.done in
    let told = done.told ∙ ap (λ (count : Option ℕ). command_told c.args.workplace.now.mission.now count c.args.command.now (replies_of done.gained))
    (none_told c.args.workplace.now.mission.now done.statements c.requires.uncounted) in
    counted_if c.note.result _ _ (λ noted. record {
      gained = done.gained;
      gains = search rules;
      parts = done.parts;
      counted = λ answers is. noted answers is ∙ ap (λ (answer : Answer). summary_of (answers ++ (answer ∷ []))) told;
    }) c.note.ensures
