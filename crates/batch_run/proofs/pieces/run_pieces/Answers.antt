-- What the pieces share may be shared, what they give may be sent, and each gives the wave of its jobs.
use denote.Exit
use denote.Param.Send.{arg_send, arg_sync, param_send, param_sync, shr_slice_sync, shr_sync}
use Rattle.std.proofs.Common.{◌≡◌, rules, List, IfOk, length, get_or, subst}
use Rattle.std.proofs.alloc.Global.TheSendSync as GlobalSent
use Rattle.run_data.specs.declared.jobs.Job.{Job}
use Rattle.sharing.specs.Codes.{code_sync}
use Rattle.sharing.specs.Models.{model_sync}
use Rattle.sharing.specs.Tuples.{u64_sync}
use Rattle.batch_run.specs.Pieces.{IsWaveOf, piece_count}
use Rattle.batch_run.proofs.Chunks.{are_pieces, cover}
use Rattle.batch_run.proofs.Sharing.{piece_send, six_captured_sync, usize_sync}
use Rattle.batch_run.proofs.pieces.run_pieces.Goals as goal

pub map_chunks-requires-send-X : goal.map_chunks-requires-send-X
map_chunks-requires-send-X g c κs within = param_send 2 _ (arg_send _ denote.Exit.no _ piece_send)

pub map_chunks-requires-sync-F : goal.map_chunks-requires-sync-F
map_chunks-requires-sync-F g c κs within =
    param_sync 4 _ (arg_sync _ denote.Exit.no _ (six_captured_sync _ _ _ _ _ _ _
    (shr_sync _ _ _ c.type_bounds.sync-P)
    (shr_sync _ _ _ usize_sync)
    (shr_sync _ _ _ GlobalSent.the_sync)
    (shr_sync _ _ _ model_sync)
    (shr_slice_sync _ _ _ code_sync)
    (shr_sync _ _ _ u64_sync)))

pub returns-clause-count : goal.returns-clause-count
returns-clause-count g c = search rules

pub returns-clause-waves : goal.returns-clause-waves
returns-clause-waves g c =
    let many : length c.in_ok-pieces.pieces.items ≡ piece_count (length c.args.jobs.now) c.args.size = search rules in
    are_pieces c.args.model.now c.args.fuel c.args.size c.args.jobs.now c.in_ok-pieces.pieces.items
    (cover (length c.args.jobs.now) c.args.size (length c.in_ok-pieces.pieces.items) c.requires.size many) (λ n none within.
    let given = (c.in_ok-pieces.ensures.each n none within).1 in
    subst (λ (jobs : List Job). IfOk (get_or c.in_ok-pieces.pieces.items n none) (IsWaveOf c.args.model.now c.args.fuel jobs)) given.argument_is.value given.call)
