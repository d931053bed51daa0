use Rattle.std.proofs.Common.{sym, ◌∙◌}
use Rattle.session_reader.specs.Times.{misread_command}
use Rattle.session_reader.proofs.MisreadInstants.{met, passed}
use Rattle.session_reader.proofs.times.misread_in_commands.Goals as goal

pub returns-then-is_some : goal.returns-then-is_some
returns-then-is_some c =
    met misread_command c.args.commands.now c.loop-command.command-index c.command-item.result c.loop-command-test.true c.command-item.is c.loop-command.invariant
    _ c.misread_command-bad.ensures (sym c.is_some.ensures ∙ c.if-is_some.true)

pub loop-command-preserved : goal.loop-command-preserved
loop-command-preserved c =
    passed misread_command c.args.commands.now c.loop-command.command-index c.command-item.result c.loop-command-test.true c.command-item.is c.loop-command.invariant
    _ c.misread_command-bad.ensures (sym c.is_some.ensures ∙ c.if-is_some.false)
