use Rattle.std.proofs.Common.{◌∙◌, ap, sym}
use Rattle.std.specs.Option.{option_copied}
use Rattle.live_tasks.proofs.waking.wake_time.Goals as goal

pub earliest-requires-clause-condition : goal.earliest-requires-clause-condition
earliest-requires-clause-condition c = c.requires.waits c.args.number _ (sym c.condition_of.ensures ∙ ap option_copied c.in_ok-condition.was)
