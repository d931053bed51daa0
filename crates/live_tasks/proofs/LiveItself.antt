-- All live tasks are the live part of their table.
use Rattle.std.proofs.Common.{◌≡◌, inl, ℕ, Bool, true, false, not, List, [], Option, Some, None, refl, sym, ap, ◌∙◌}
use Rattle.std.proofs.lemmas.Bool.{false≢true}
use Rattle.run_data.specs.Endings.{has_ended}
use Rattle.run_data.specs.Tasks.{Task, Table, task_at}
use Rattle.run_data.specs.laws.LiveParts.{is_live, live}
use Rattle.run_data.specs.laws.TableParts.{order_part, part_at, part_none, same_tables}
use Rattle.live_tasks.specs.Slots.{Slots}
use Rattle.live_tasks.specs.Endings.{AreLive, IsEnding}
use Rattle.live_tasks.proofs.Settled.{slot_live}

as_ended : (now : ℕ) (table : Table) (slots : Slots) → AreLive table slots → IsEnding now table [] [] slots
as_ended now table slots live_ = record {
  order = live_.are.order;
  forest = live_.forest;
  tasks = λ n s at. record { first = s.task; there = live_.are.tasks n s at; same = refl };
  kept = λ path task there h. live_.are.each path task there;
  calls = live_.calls;
  follows = live_.follows;
  starts = λ n s at to start state e. inl (live_.starts n s at to start state e);
  settled = λ n s at. inl (live_.settled n s at);
}

pub live_itself : (table : Table) (slots : Slots) → AreLive table slots → live table ≡ table
live_itself table slots live_ = same_tables (live table) table (order_part (is_live table) table live_.are.order) live_.are.order same
  where
    same : (path : List ℕ) → task_at (live table) path ≡ task_at table path
    same path = by (has_ended table path) refl
      where
        none : has_ended table path ≡ true → (found : Option Task) → task_at table path ≡ found → found ≡ None
        none e None f = refl
        none e (Some task) f =
            let has = live_.are.each path task f in
            absurd (false≢true (sym (slot_live 0 table slots (as_ended 0 table slots live_) has.number has.slot has.there) ∙ ap (has_ended table) has.is ∙ e))

        by : (b : Bool) → has_ended table path ≡ b → task_at (live table) path ≡ task_at table path
        by false e = part_at (is_live table) table path (ap not e)
        by true e = part_none (is_live table) table path (ap not e) ∙ sym (none e (task_at table path) refl)
