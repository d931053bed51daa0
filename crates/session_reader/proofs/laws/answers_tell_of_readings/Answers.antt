use Rattle.session_reader.proofs.SessionVerdicts.{answers_tell}
use Rattle.session_reader.proofs.laws.answers_tell_of_readings.Goals as goal

pub returns : goal.returns
returns c = answers_tell c.sessions_conform.ensures.judged
