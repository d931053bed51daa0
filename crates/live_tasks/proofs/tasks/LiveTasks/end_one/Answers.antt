use Rattle.std.proofs.Common.{sym, subst}
use Rattle.live_tasks.specs.declared.tasks.LiveTasks.{LiveTasks}
use Rattle.live_tasks.specs.Followers.{AreFollowers}
use Rattle.live_tasks.specs.ListedSlots.{KeepsWaits}
use Rattle.live_tasks.proofs.Settling.{out_followers, told_followers, on_ok}
use Rattle.live_tasks.proofs.tasks.LiveTasks.end_one.Goals as goal
use Rattle.live_tasks.proofs.tasks.LiveTasks.end_one.Goals.{then-not-daemon+in_ok-come-in-None, else-not-daemon}

pub returns-in-Some-clause-stay : goal.returns-in-Some-clause-stay
returns-in-Some-clause-stay c =
    told_followers c.take_out-ended.new.self.slots.slots c.tell.new.self.slots.slots c.in-Some.parent c.take_out-ended.result.own c.result-value.result c.args.self.now.followers.items c.in_ok-tell-in-Some.ensures.is
    (out_followers c.args.self.now.tables.slots.slots c.take_out-ended.new.self.slots.slots c.args.number c.args.self.now.followers.items c.take_out-ended.ensures.is c.requires)

pub returns-in-Some-clause-waits : goal.returns-in-Some-clause-waits
returns-in-Some-clause-waits c = λ now horizon cells kept. c.in_ok-tell-in-Some.ensures.waits now horizon cells (c.take_out-ended.ensures.waits now horizon cells kept)

pub returns-clause-stay : goal.returns-clause-stay
returns-clause-stay c =
    elim c.if-not-daemon.branch [
      | then-not-daemon+in_ok-come-in-None w ↦
          on_ok c.if-not-daemon.result (subst (λ (t : LiveTasks). AreFollowers t.tables.slots.slots t.followers.items) (sym w.self-is) w.in_ok-come-in-None.ensures.stay)
      | else-not-daemon w ↦
          on_ok c.if-not-daemon.result
          (subst (λ (t : LiveTasks). AreFollowers t.tables.slots.slots t.followers.items) (sym w.self-is)
          (out_followers c.args.self.now.tables.slots.slots c.take_out-ended.new.self.slots.slots c.args.number c.args.self.now.followers.items c.take_out-ended.ensures.is c.requires))
    ]

pub returns-clause-waits : goal.returns-clause-waits
returns-clause-waits c =
    elim c.if-not-daemon.branch [
      | then-not-daemon+in_ok-come-in-None w ↦
          on_ok c.if-not-daemon.result
          (subst (λ (t : LiveTasks). KeepsWaits c.args.self.now.tables t.tables) (sym w.self-is)
          (λ now horizon cells kept. w.in_ok-come-in-None.ensures.waits now horizon cells (c.take_out-ended.ensures.waits now horizon cells kept)))
      | else-not-daemon w ↦
          on_ok c.if-not-daemon.result (subst (λ (t : LiveTasks). KeepsWaits c.args.self.now.tables t.tables) (sym w.self-is) c.take_out-ended.ensures.waits)
    ]
