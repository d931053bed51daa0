use Rattle.session_judge.proofs.Cut.{all_tokens}
use Rattle.session_judge.proofs.judging.judge_read.Goals as goal

pub told_session-requires-clause-tokens : goal.told_session-requires-clause-tokens
told_session-requires-clause-tokens c = all_tokens c.args.text.now c.args.tokens.now c.requires.tokens
