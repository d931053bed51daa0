-- What the works share may be shared, and the works and what is told of them may be sent.
use denote.Exit
use denote.Param.Send.{arg_send, arg_sync, param_send, param_sync, shr_slice_sync, shr_sync}
use Rattle.std.proofs.Common.{rules, sym, subst, ◌∙◌}
use Rattle.std.proofs.alloc.Global.TheSendSync as GlobalSent
use Rattle.std.proofs.lemmas.Option.{slice_get_within}
use Rattle.session_reader.proofs.session.Client.TheSendSync as ClientSent
use Rattle.session_run.specs.declared.on_threads.Done.{Done}
use Rattle.session_run.specs.declared.on_threads.Work.{Work}
use Rattle.session_run.specs.Works.{HasDoneWork}
use Rattle.session_run.proofs.Threaded.{got}
use Rattle.session_run.proofs.sharing.Missions.{done_send, work_send, workplace_sync}
use Rattle.sharing.specs.Tuples.{three_captured_sync}
use Rattle.session_run.proofs.on_threads.do_works.Goals as goal

-- src/on_threads.rt:152:17
pub map_vec-requires-send-J : goal.map_vec-requires-send-J
map_vec-requires-send-J g c κs within = param_send 1 _ (arg_send _ denote.Exit.no _ work_send)

pub map_vec-requires-send-X : goal.map_vec-requires-send-X
map_vec-requires-send-X g c κs within = param_send 2 _ (arg_send _ denote.Exit.no _ done_send)

pub map_vec-requires-sync-F : goal.map_vec-requires-sync-F
map_vec-requires-sync-F g c κs within =
    param_sync 4 _ (arg_sync _ denote.Exit.no _ (three_captured_sync _ _ _ _
    (shr_sync _ _ _ GlobalSent.the_sync)
    (shr_sync _ _ _ (workplace_sync _ _ _ c.type_bounds.sync-R c.type_bounds.sync-G))
    (shr_slice_sync _ _ _ ClientSent.the_sync)))

-- src/on_threads.rt:141:1
pub returns : goal.returns
returns g c = record {
  many = search rules;
  each = λ which work done at found.
      let given = (c.in_ok-dones.ensures.each which done (slice_get_within c.args.works.items which work at)).1 in
      subst (λ (x : Work). HasDoneWork c.args.workplace.now.mission.now c.args.clients.now x done) (sym (given.job_is work) ∙ got c.args.works.items which work at)
      (subst (λ (x : Done). HasDoneWork c.args.workplace.now.mission.now c.args.clients.now given.job x) (got c.in_ok-dones.dones.items which done found) given.call.met);
}
