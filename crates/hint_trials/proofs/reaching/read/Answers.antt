use Rattle.hint_trials.proofs.Reading.{read_is}
use Rattle.hint_trials.proofs.reaching.read.Goals as goal

pub returns : goal.returns
returns c =
    read_is c.args.bytes.now c.read_session.result c.read_session.ensures.large c.read_session.ensures.not_text c.read_session.ensures.exact
