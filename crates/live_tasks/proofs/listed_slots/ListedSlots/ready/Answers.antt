use Rattle.std.proofs.Common.{◌∙◌, ap, subst, List}
use Rattle.std.specs.List.Sorted.{IsPermutation}
use Rattle.live_tasks.specs.declared.readies.ReadyTask.{ReadyTask}
use Rattle.live_tasks.specs.Readies.{ready_tasks}
use Rattle.live_tasks.proofs.SortedReadies.{sorted_ready}
use Rattle.live_tasks.proofs.listed_slots.ListedSlots.ready.Goals as goal

pub returns : goal.returns
returns c =
    sorted_ready c.args.self.now.slots.slots c.requires.forest c.args.self.now.readies.items c.requires.listed.all.readies_.all c.requires.listed.all.readies_.once c.requires.listed.alone c.in_ok-sorted.sorted.items
    (subst (λ (ready : List ReadyTask). IsPermutation ready c.in_ok-sorted.sorted.items) (c.in_ok-ready.ensures ∙ ap (ready_tasks c.args.self.now.slots.slots) c.as_slice.ensures.value) c.in_ok-sorted.ensures.same)
    c.in_ok-sorted.ensures.sorted
