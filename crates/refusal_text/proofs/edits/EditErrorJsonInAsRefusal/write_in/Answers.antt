-- What is told by its name alone.
use Rattle.refusal_text.proofs.edits.EditErrorJsonInAsRefusal.write_in.Goals as goal

pub returns-in-NoDirective : goal.returns-in-NoDirective
returns-in-NoDirective c = rw (c.in-NoDirective.is) c.write_named.ensures

pub returns-in-UnknownType : goal.returns-in-UnknownType
returns-in-UnknownType c = rw (c.in-UnknownType.is) c.write_named-in-UnknownType.ensures

pub returns-in-OutsidePlan : goal.returns-in-OutsidePlan
returns-in-OutsidePlan c = rw (c.in-OutsidePlan.is) c.write_named-in-OutsidePlan.ensures

pub returns-in-NoAnchor : goal.returns-in-NoAnchor
returns-in-NoAnchor c = rw (c.in-NoAnchor.is) c.write_named-in-NoAnchor.ensures
