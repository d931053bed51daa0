-- A pass between its calls.
use Rattle.atomic_table.specs.Seated.{TableId}
use Rattle.hangar_lock.specs.declared.views.View.{View}
use Rattle.hangar_lock.specs.Passes.{PassView}
use Rattle.hangar_lock.specs.Pasts.{IsPast}
use Rattle.hangar_lock.specs.Steps.{IsIdle, Seated}

-- a pass as contracts see it
abbrev pub pass_view : TableId → View → PassView
pass_view id view = record {
  lock = record { id = id; opened = view.opened };
  seen = view.seen;
  mine = view.mine;
  stands = view.stands;
  split = view.split;
}

pub record IsResting (me : Seated) : Type 0 where
  pub idle : IsIdle me
  pub past : IsPast me.0.opened.workspace me.0.seen
