-- What passes know, and what becomes of it.
use Rattle.std.specs.Prelude.{◌+◌, false, [], ◌∷◌, ◌++◌, length, drop, None}
use Rattle.hangar_core.specs.Journals.{Entries}
use Rattle.hangar_core.specs.ValidWorkspaces.{CountedWorkspace}
use Rattle.hangar_lock.specs.declared.views.View.{View}
use Rattle.hangar_lock.specs.Places.{longer, placed_from}

-- the pass with which a lock begins
abbrev pub first_view : CountedWorkspace → View
first_view opened = record {
  opened = opened;
  seen = [];
  mine = [];
  stands = 0 ∷ [];
  split = 0;
  ticket = None;
  inside = false;
}

-- a number was split from a pass
abbrev pub splitting : View → View
splitting view = record view { split = view.split + 1 }

-- the pass that has that number
abbrev pub split_off : View → View
split_off view = record {
  opened = view.opened;
  seen = view.seen;
  mine = [];
  stands = (view.split + 1) ∷ [];
  split = 0;
  ticket = None;
  inside = false;
}

-- a pass that takes another one in
abbrev pub joining : View → View → View
joining view other = record {
  opened = view.opened;
  seen = longer view.seen other.seen;
  mine = view.mine ++ other.mine;
  stands = view.stands ++ other.stands;
  split = view.split + other.split;
  ticket = view.ticket;
  inside = view.inside;
}

-- what is left of the other one: it stands for nothing, and no workspace is known of it
abbrev pub spent : View
spent = record {
  opened = record { workspace = record { models = []; mappings = []; duration = 0; branches = []; dropped = [] }; accepted = 0 };
  seen = [];
  mine = [];
  stands = [];
  split = 0;
  ticket = None;
  inside = false;
}

-- a pass that leaves this journal: what is new in it is its own
abbrev pub leaving_with : View → Entries → View
leaving_with view journal = record {
  opened = view.opened;
  seen = journal;
  mine = view.mine ++ placed_from (length view.seen) (drop (length view.seen) journal);
  stands = view.stands;
  split = view.split;
  ticket = None;
  inside = false;
}
