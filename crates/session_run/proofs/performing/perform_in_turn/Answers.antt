use Rattle.std.proofs.Common.{◌≡◌, List, map, sym, ap, subst, ◌∙◌}
use Rattle.std.proofs.lemmas.Result.{IfOk-weaker}
use Rattle.std.specs.String.{string_bytes}
use Rattle.hangar_core.specs.declared.workspaces.Workspace.{Workspace}
use Rattle.hangar_core.specs.Journals.{IsReplay}
use Rattle.hangar_core.specs.ValidWorkspaces.{CountedWorkspace}
use Rattle.hangar_lock.specs.Passes.{PassView}
use Rattle.client_work.specs.declared.missions.Mission.{Mission}
use Rattle.client_work.specs.Working.{IsAtWork}
use Rattle.session_reader.specs.declared.session.Client.{Client}
use Rattle.session_run.specs.Missions.{opening_of}
use Rattle.session_run.specs.Rounds.{HasDoneRounds, stand_at}
use Rattle.session_run.proofs.Finished.{finished}
use Rattle.session_run.proofs.Rules.{at_work}
use Rattle.session_run.proofs.performing.perform_in_turn.Goals as goal

-- src/performing.rt:51:17
pub take_rounds-requires-clause-workplace : goal.take_rounds-requires-clause-workplace
take_rounds-requires-clause-workplace g c κs within =
    subst (λ (mission : Mission). IsAtWork mission c.in_ok-lock.lock c.in_ok-lock.pass) (sym c.in_ok-mission.ensures)
    (at_work c.args.judged.now c.args.bound c.args.form c.in_ok-lock.lock c.in_ok-lock.pass c.requires.session c.requires.bound
    (ap (λ (h : CountedWorkspace). h.workspace) c.in_ok-lock.ensures.opened ∙ c.in_ok-hangar.ensures.workspace) c.in_ok-lock.ensures.first)

-- src/performing.rt:26:1
pub returns-clause-performed : goal.returns-clause-performed
returns-clause-performed g c =
    let opened : c.in_ok-lock.lock.opened.workspace ≡ opening_of c.args.judged.now.session =
    ap (λ (h : CountedWorkspace). h.workspace) c.in_ok-lock.ensures.opened ∙ c.in_ok-hangar.ensures.workspace in
    let done = subst (λ (mission : Mission). HasDoneRounds mission c.args.judged.now.session.clients (stand_at c.in_ok-lock.pass c.args.steps.now) (stand_at c.take_rounds.new.pass c.take_rounds.new.steps) (map string_bytes c.in_ok-texts.texts.items))
    c.in_ok-mission.ensures
    (subst (λ (clients : List Client). HasDoneRounds c.in_ok-mission.mission clients (stand_at c.in_ok-lock.pass c.args.steps.now) (stand_at c.take_rounds.new.pass c.take_rounds.new.steps) (map string_bytes c.in_ok-texts.texts.items))
    c.as_slice-clients.ensures c.in_ok-texts.ensures.taken) in
    IfOk-weaker c.last_text.result _ _ (λ text whole.
    finished c.args.judged.now c.args.bound c.args.form c.commands_are_done.ensures.few (stand_at c.in_ok-lock.pass c.args.steps.now) (stand_at c.take_rounds.new.pass c.take_rounds.new.steps) c.close-hangar.result.1
    (map string_bytes c.in_ok-texts.texts.items) (string_bytes text)
    (ap (λ (p : PassView). p.mine) c.in_ok-lock.ensures.first) (ap (λ (p : PassView). p.seen) c.in_ok-lock.ensures.first)
    done c.close-hangar.ensures.right c.close-hangar.ensures.all
    (subst (λ (w : Workspace). IsReplay w c.close-hangar.result.1) opened c.close-hangar.ensures.past.replayed)
    whole)
    c.last_text.ensures
