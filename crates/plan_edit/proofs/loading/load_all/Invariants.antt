-- Those so far, and those behind.
use Rattle.std.proofs.Common.{◌≡◌, length, drop}
use Rattle.plan_edit.specs.Loading.{load_all as load_all_by}
use Rattle.plan_edit.proofs.Loads.{joined_on}
use Rattle.plan_edit.proofs.loading.load_all.Given as goal

abbrev pub invariant-loop-written : goal.invariant-loop-written
invariant-loop-written l =
    load_all_by l.model l.plan l.fn.all 0 l.fn.all
    ≡ joined_on l.directives (load_all_by l.model l.plan l.fn.all (length l.directives) (drop l.written-index l.all))
