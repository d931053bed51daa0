use Rattle.std.proofs.Common.{◌≡◌, refl, List, map, sym, ap, subst, ◌∙◌, length}
use Rattle.std.proofs.lemmas.Result.{IfOk-weaker}
use Rattle.std.specs.String.{string_bytes}
use Rattle.hangar_core.specs.declared.workspaces.Workspace.{Workspace}
use Rattle.hangar_core.specs.Journals.{IsReplay}
use Rattle.hangar_core.specs.ValidWorkspaces.{CountedWorkspace}
use Rattle.hangar_lock.specs.laws.JoinedPasses.{joined_with_all}
use Rattle.hangar_lock.specs.Passes.{first_pass, IsWhole, PassView}
use Rattle.client_work.specs.declared.missions.Mission.{Mission}
use Rattle.client_work.specs.Working.{IsAtWork}
use Rattle.session_reader.specs.FewClients.{AreFewClients}
use Rattle.session_reader.specs.declared.session.Client.{Client}
use Rattle.session_run.specs.Missions.{opening_of}
use Rattle.session_run.specs.Works.{AreDone, AreWorksOf, passes_of, split_often}
use Rattle.session_run.proofs.Rules.{at_work}
use Rattle.session_run.proofs.Threaded.{all_told_of, are_of, can_work, joined_lock, performed, whole}
use Rattle.session_run.proofs.performing.perform.Goals as goal

-- src/performing.rt:88:17
pub do_works-requires-clause-works : goal.do_works-requires-clause-works
do_works-requires-clause-works g c κs within =
    can_work c.in_ok-mission.mission c.in_ok-lock.lock c.as_slice-clients.result.now c.in_ok-works.works.items c.in_ok-works.ensures.works
    (subst AreFewClients (sym c.as_slice-clients.ensures) c.requires.session.few)
    (subst (λ (mission : Mission). IsAtWork mission c.in_ok-lock.lock (first_pass c.in_ok-lock.lock)) (sym c.in_ok-mission.ensures)
    (at_work c.args.judged.now c.args.bound c.args.form c.in_ok-lock.lock (first_pass c.in_ok-lock.lock) c.requires.session c.requires.bound
    (ap (λ (h : CountedWorkspace). h.workspace) c.in_ok-lock.ensures.opened ∙ c.in_ok-hangar.ensures.workspace) refl))

-- src/performing.rt:89:17
pub gather-requires-clause-others : goal.gather-requires-clause-others
gather-requires-clause-others g c =
    are_of c.in_ok-mission.mission c.in_ok-lock.lock c.as_slice-clients.result.now c.in_ok-works.works.items c.in_ok-dones.dones.items c.in_ok-works.ensures.works c.in_ok-dones.ensures

-- src/performing.rt:90:24
pub close-hangar-requires-clause-own : goal.close-hangar-requires-clause-own
close-hangar-requires-clause-own g c =
    ap (λ (p : PassView). p.lock) c.in_ok-texts.ensures.joined ∙ joined_lock c.split_works.new.pass (passes_of c.in_ok-dones.dones.items)
    ∙ ap (λ (p : PassView). p.lock) c.in_ok-works.ensures.left

-- src/performing.rt:90:24
pub close-hangar-requires-clause-whole : goal.close-hangar-requires-clause-whole
close-hangar-requires-clause-whole g c =
    let is : c.gather.new.pass ≡ joined_with_all (split_often (length c.args.judged.now.session.clients) (first_pass c.in_ok-lock.lock)) (passes_of c.in_ok-dones.dones.items) =
    c.in_ok-texts.ensures.joined ∙ ap (λ (p : PassView). joined_with_all p (passes_of c.in_ok-dones.dones.items))
    (c.in_ok-works.ensures.left ∙ ap (λ (clients : List Client). split_often (length clients) (first_pass c.in_ok-lock.lock)) c.as_slice-clients.ensures) in
    subst IsWhole (sym is)
    (whole c.args.judged.now c.args.bound c.args.form c.in_ok-lock.lock c.in_ok-works.works.items c.in_ok-dones.dones.items (map string_bytes c.in_ok-texts.texts.items)
    (subst (λ (clients : List Client). AreWorksOf c.in_ok-lock.lock (length clients) c.in_ok-works.works.items) c.as_slice-clients.ensures c.in_ok-works.ensures.works)
    (subst (λ (mission : Mission). AreDone mission c.args.judged.now.session.clients c.in_ok-works.works.items c.in_ok-dones.dones.items) c.in_ok-mission.ensures
    (subst (λ (clients : List Client). AreDone c.in_ok-mission.mission clients c.in_ok-works.works.items c.in_ok-dones.dones.items) c.as_slice-clients.ensures c.in_ok-dones.ensures))
    (all_told_of c.in_ok-dones.dones.items c.in_ok-texts.texts.items c.in_ok-texts.ensures.told)
    c.joined_passes_are_whole.ensures.whole)

-- src/performing.rt:62:1
pub returns : goal.returns
returns g c =
    let opened : c.in_ok-lock.lock.opened.workspace ≡ opening_of c.args.judged.now.session =
    ap (λ (h : CountedWorkspace). h.workspace) c.in_ok-lock.ensures.opened ∙ c.in_ok-hangar.ensures.workspace in
    let is : c.gather.new.pass ≡ joined_with_all (split_often (length c.args.judged.now.session.clients) (first_pass c.in_ok-lock.lock)) (passes_of c.in_ok-dones.dones.items) =
    c.in_ok-texts.ensures.joined ∙ ap (λ (p : PassView). joined_with_all p (passes_of c.in_ok-dones.dones.items))
    (c.in_ok-works.ensures.left ∙ ap (λ (clients : List Client). split_often (length clients) (first_pass c.in_ok-lock.lock)) c.as_slice-clients.ensures) in
    IfOk-weaker c.last_text.result _ _ (λ text told.
    performed c.args.judged.now c.args.bound c.args.form c.in_ok-lock.lock c.in_ok-works.works.items c.in_ok-dones.dones.items (map string_bytes c.in_ok-texts.texts.items)
    (subst (λ (clients : List Client). AreWorksOf c.in_ok-lock.lock (length clients) c.in_ok-works.works.items) c.as_slice-clients.ensures c.in_ok-works.ensures.works)
    (subst (λ (mission : Mission). AreDone mission c.args.judged.now.session.clients c.in_ok-works.works.items c.in_ok-dones.dones.items) c.in_ok-mission.ensures
    (subst (λ (clients : List Client). AreDone c.in_ok-mission.mission clients c.in_ok-works.works.items c.in_ok-dones.dones.items) c.as_slice-clients.ensures c.in_ok-dones.ensures))
    (all_told_of c.in_ok-dones.dones.items c.in_ok-texts.texts.items c.in_ok-texts.ensures.told)
    c.joined_passes_fit.ensures c.joined_passes_are_whole.ensures.all c.told_works_are_done.ensures c.passes_have_their_entries.ensures c.gather.new.pass is
    c.close-hangar.result.1 (string_bytes text) c.close-hangar.ensures.right c.close-hangar.ensures.all
    (subst (λ (w : Workspace). IsReplay w c.close-hangar.result.1) opened c.close-hangar.ensures.past.replayed)
    told)
    c.last_text.ensures
