-- An anchor whose id may be above those that a plan can hold, seen as an anchor.
use Rattle.std.specs.Prelude.{Option, option_map}
use Rattle.aerie_base.specs.declared.plans.Anchor.{Anchor}
use Rattle.plan_merge.specs.declared.wide_directives.WideAnchor.{WideAnchor}

abbrev pub shown_one : WideAnchor → Anchor
shown_one anchor = record { to = anchor.to; edge = anchor.edge }

abbrev pub shown_anchor : Option WideAnchor → Option Anchor
shown_anchor anchor = option_map shown_one anchor
