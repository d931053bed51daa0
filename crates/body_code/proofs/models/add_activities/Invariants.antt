use Rattle.std.proofs.Common.{◌≡◌, ◌++◌, take}
use Rattle.body_code.specs.ModelCodes.{activity_codes}
use Rattle.body_code.proofs.models.add_activities.Given as goal

-- the codes of the activity types passed so far were added
abbrev pub invariant-loop-activity : goal.invariant-loop-activity
invariant-loop-activity l = l.codes ≡ l.initial.codes ++ activity_codes (take l.activity-index l.activities)
