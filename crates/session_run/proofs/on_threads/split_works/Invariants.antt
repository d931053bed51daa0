use Rattle.std.proofs.Common.{◌≡◌}
use Rattle.hangar_lock.specs.Passes.{first_pass}
use Rattle.session_run.specs.Works.{AreWorksOf, split_often}
use Rattle.session_run.proofs.on_threads.split_works.Given as goal

abbrev pub invariant-loop-which : goal.invariant-loop-which
invariant-loop-which l = (l.pass ≡ split_often l.which (first_pass l.lock)) × AreWorksOf l.lock l.which l.works.items
