use Rattle.resimulate.proofs.AlikeByFrames.{frames_tell_alike}
use Rattle.resimulate.proofs.laws.frames_tell_alike.Goals as goal

pub returns : goal.returns
returns c =
    frames_tell_alike c.reached_states_are_of_the_model.ensures c.tasks_are_traced_by_their_frames.ensures.traced c.tasks_are_traced_by_their_frames.ensures.unbegun c.unbegun_tasks_are_directives.ensures
    c.endings_go_by_open_bodies.ensures.by_open c.what_has_ended_may_be_left_out.ensures.paths
