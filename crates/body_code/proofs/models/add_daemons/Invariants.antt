use Rattle.std.proofs.Common.{◌≡◌, ◌++◌, take}
use Rattle.body_code.specs.ModelCodes.{daemon_codes}
use Rattle.body_code.proofs.models.add_daemons.Given as goal

-- the codes of the daemons passed so far were added
abbrev pub invariant-loop-daemon : goal.invariant-loop-daemon
invariant-loop-daemon l = l.codes ≡ l.initial.codes ++ daemon_codes (take l.daemon-index l.daemons)
