use Rattle.session_run.specs.Missions.{all_commands, opening_of, session_meanings}
use Rattle.session_run.specs.Performed.{serial_journal}
use Rattle.session_run.proofs.laws.in_turn_fits.Goals as goal

pub returns : goal.returns
returns c = λ judged bound form text before after performed. record {
  journal = serial_journal judged bound;
  fits = c.serial_journals_fit.ensures (session_meanings judged bound) (opening_of judged.session) (all_commands judged.session.clients);
  counts = performed.counts;
  paid = performed.paid;
  told = performed.told;
}
