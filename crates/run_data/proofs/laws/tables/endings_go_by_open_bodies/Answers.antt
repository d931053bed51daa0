use Rattle.run_data.specs.laws.EndedTaskLaws.{ended_by_open_bodies, ended_by_number, ended_below, newly_ended, ended_by_frames}
use Rattle.run_data.proofs.laws.tables.endings_go_by_open_bodies.Goals as goal

pub returns : goal.returns
returns c = record {
  by_open = ended_by_open_bodies;
  number = ended_by_number;
  below = ended_below;
  newly = newly_ended;
  frames = ended_by_frames;
}
