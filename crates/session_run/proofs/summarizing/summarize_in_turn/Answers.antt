use Rattle.std.proofs.Common.{◌≡◌, false, List, sym, ap, subst, ◌∙◌}
use Rattle.hangar_core.specs.declared.workspaces.Workspace.{Workspace}
use Rattle.hangar_core.specs.Journals.{IsReplay}
use Rattle.hangar_core.specs.ValidWorkspaces.{CountedWorkspace}
use Rattle.hangar_lock.specs.Passes.{PassView}
use Rattle.client_work.specs.declared.missions.Mission.{Mission}
use Rattle.client_work.specs.Working.{IsAtWork}
use Rattle.session_reader.specs.declared.session.Client.{Client}
use Rattle.session_run.specs.Answers.{HasCounted}
use Rattle.session_run.specs.Missions.{opening_of, without_stats}
use Rattle.session_run.proofs.Counted.{summarized}
use Rattle.session_run.proofs.Rules.{at_work}
use Rattle.session_run.proofs.summarizing.summarize_in_turn.Goals as goal

pub count_rounds-requires-clause-workplace : goal.count_rounds-requires-clause-workplace
count_rounds-requires-clause-workplace g c κs within =
    subst (λ (mission : Mission). IsAtWork mission c.in_ok-lock.lock c.in_ok-lock.pass) (sym c.in_ok-mission.ensures)
    (at_work c.args.judged.now c.args.bound (without_stats false) c.in_ok-lock.lock c.in_ok-lock.pass c.requires.session c.requires.bound
    (ap (λ (h : CountedWorkspace). h.workspace) c.in_ok-lock.ensures.opened ∙ c.in_ok-hangar.ensures.workspace) c.in_ok-lock.ensures.first)

pub returns-clause-summarized : goal.returns-clause-summarized
returns-clause-summarized g c =
    let opened : c.in_ok-lock.lock.opened.workspace ≡ opening_of c.args.judged.now.session =
    ap (λ (h : CountedWorkspace). h.workspace) c.in_ok-lock.ensures.opened ∙ c.in_ok-hangar.ensures.workspace in
    let counted = subst (λ (mission : Mission). HasCounted mission c.args.judged.now.session.clients c.in_ok-lock.pass c.count_rounds.new.pass c.in_ok-summary.summary)
    c.in_ok-mission.ensures
    (subst (λ (clients : List Client). HasCounted c.in_ok-mission.mission clients c.in_ok-lock.pass c.count_rounds.new.pass c.in_ok-summary.summary)
    c.as_slice-clients.ensures c.in_ok-summary.ensures.counted) in
    summarized c.args.judged.now c.args.bound c.commands_are_done.ensures.few c.in_ok-lock.pass c.count_rounds.new.pass c.close-journal.result.1 c.in_ok-summary.summary
    (ap (λ (p : PassView). p.mine) c.in_ok-lock.ensures.first) (ap (λ (p : PassView). p.seen) c.in_ok-lock.ensures.first)
    counted c.close-journal.ensures.right c.close-journal.ensures.all
    (subst (λ (w : Workspace). IsReplay w c.close-journal.result.1) opened c.close-journal.ensures.past.replayed)
