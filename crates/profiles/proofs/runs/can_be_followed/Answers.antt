use Rattle.profiles.proofs.FreshInstants.{good_instants}
use Rattle.profiles.proofs.runs.can_be_followed.Goals as goal

pub returns : goal.returns
returns c =
    let model = c.args.model.now in
    let run = c.args.run.now in
    record {
      rise = c.instants_rise.ensures.rise model run.plan run.bound run c.requires.fresh;
      instants = good_instants model run.plan run.bound run c.requires.fresh;
      in_range = c.fresh_runs.ensures.valid_cells model run.plan run.bound run c.requires.valid c.requires.fresh;
    }
