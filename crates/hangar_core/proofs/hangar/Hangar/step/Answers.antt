use Rattle.hangar_core.proofs.Stepping.{hangar_after, stepped}
use Rattle.hangar_core.proofs.hangar.Hangar.step.Goals as goal

pub invariant_of-self-2 : goal.invariant_of-self-2
invariant_of-self-2 c =
    hangar_after c.self.inside.accepted c.accepted_with.result c.self.inside.workspace c.step.new.self c.args.entry.action c.in_ok-reply.reply
    c.self.invariant c.in_ok-reply.ensures.made c.accepted_with.ensures c.in_ok-reply.ensures.stands

pub returns-clause-stepped : goal.returns-clause-stepped
returns-clause-stepped c =
    stepped c.args.self.now c.self.inside.accepted c.accepted_with.result c.self.inside.workspace c.step.new.self c.args.entry.action c.in_ok-reply.reply
    c.self.view_is c.self.invariant c.in_ok-reply.ensures.made c.accepted_with.ensures c.in_ok-reply.ensures.stands
