-- What all cells gather, item by item from the back.
use Rattle.std.proofs.Common.{◌≡◌, ◌≢◌, ℕ, zero, suc, ◌+◌, ◌<◌, ◌≤◌, List, [], ◌∷◌, length, set, get_or, Bool, true, false, Option, None, nat_eq, if◌then◌else◌, refl, ◌∙◌, arith, get_or-set_other, get_or-set_same}
use Rattle.std.proofs.lemmas.Bool.{false≢true}
use Rattle.std.proofs.lemmas.Bool.Decides.{nat_tests}
use Rattle.std.proofs.lemmas.List.{length-set}
use Rattle.effect_cells.specs.Worth.{in_front, beside, magnitude}
use Rattle.effect_cells.specs.States.{is_of_kind}
use Rattle.effect_cells.specs.Cells.{accepts}
use Rattle.effect_cells.specs.Gathering.{gathered_with, Gathers, GatherAll, AreReady, HaveRoom, pending_at, state_at}
use Rattle.effect_cells.specs.declared.effects.Effect.{Effect}
use Rattle.effect_cells.specs.declared.effects.CellState.{CellState}
use Rattle.effect_cells.specs.declared.pending.Pending.{Pending}
use Rattle.effect_cells.proofs.GatheringOne.{entered, on_another, with_child, with_effect}

pub entered_all : (states : List CellState) (now : ℕ) (pending : List Pending) → AreReady states now pending → GatherAll states now now (λ cell. None) 0 pending pending
entered_all states now pending ready = record {
  order = omega arith;
  same = refl;
  each = λ cell within. entered (state_at states cell) now (pending_at pending cell) (ready.suit cell within) (ready.past cell within);
}

pub child_all : (states : List CellState) (entered_at now next size more : ℕ) (worth child : ℕ → Option Effect) (before middle after : List Pending) →
    GatherAll states entered_at now worth size before middle → GatherAll states now next child more middle after →
    GatherAll states entered_at next (λ cell. beside (child cell) (worth cell)) (more + size) before after
child_all states entered_at now next size more worth child before middle after g h = record {
  order = omega (arith, g.order, h.order);
  same = h.same ∙ g.same;
  each = λ cell within.
      with_child (state_at states cell) entered_at now next size more (worth cell) (child cell) _ _ _ g.order (g.each cell within)
      (h.each cell (rw g.same within));
}

-- an accepted effect is on one of the cells, and of its kind
pub accepted : (states : List CellState) (on : ℕ) (e : Effect) → accepts states on e ≡ true → (on < length states) × (is_of_kind (state_at states on) e ≡ true)
accepted [] on e ok = absurd (false≢true ok)
accepted (x ∷ xs) zero e ok = (omega arith, ok)
accepted (x ∷ xs) (suc on) e ok = let rest : (on < length xs) × (is_of_kind (state_at xs on) e ≡ true) = accepted xs on e ok in (omega (arith, rest.0), rest.1)

-- what stands in for an item is never asked where there is one
pub default_of : (pending : List Pending) (i : ℕ) (d : Pending) → i < length pending → get_or pending i d ≡ pending_at pending i
default_of [] i d within = absurd (omega arith)
default_of (x ∷ xs) zero d within = refl
default_of (x ∷ xs) (suc i) d within = default_of xs i d (omega arith)

pub effect_all : (states : List CellState) (entered_at now size : ℕ) (worth : ℕ → Option Effect) (on : ℕ) (e : Effect) (before middle : List Pending) →
    accepts states on e ≡ true → length middle ≡ length states → GatherAll states entered_at now worth size before middle →
    GatherAll states entered_at (now + 1) (λ cell. if nat_eq on cell then in_front e (worth cell) else worth cell) (magnitude e + size) before
    (set middle on (gathered_with (pending_at middle on) e entered_at now))
effect_all states entered_at now size worth on e before middle ok long g = record {
  order = omega (arith, g.order);
  same = length-set middle on _ ∙ g.same;
  each = λ cell within. go cell within (nat_eq on cell) refl;
}
  where
    there : (on < length states) × (is_of_kind (state_at states on) e ≡ true)
    there = accepted states on e ok

    same_cell : (cell : ℕ) → nat_eq on cell ≡ true → cell ≡ on
    same_cell cell t = grind (arith, nat_tests)

    other_cell : (cell : ℕ) → nat_eq on cell ≡ false → cell ≢ on
    other_cell cell t = grind (arith, nat_tests)

    go : (cell : ℕ) → cell < length before → (v : Bool) → nat_eq on cell ≡ v →
        Gathers (state_at states cell) entered_at (now + 1) (if nat_eq on cell then in_front e (worth cell) else worth cell) (magnitude e + size)
        (pending_at before cell) (pending_at (set middle on (gathered_with (pending_at middle on) e entered_at now)) cell)
    go cell within true t =
        let here : cell ≡ on = same_cell cell t in
        let inside : on < length middle = omega (arith, there.0) in
        rw (t, here, get_or-set_same)
        (with_effect (state_at states on) entered_at now size (worth on) e (pending_at before on) (pending_at middle on) g.order there.1 (g.each on (rw here at within)))
    go cell within false t =
        let elsewhere : cell ≢ on = other_cell cell t in
        rw (t, get_or-set_other)
        (on_another (state_at states cell) entered_at now size (magnitude e) (worth cell) (pending_at before cell) (pending_at middle cell) (g.each cell within))

pub same_worth : (states : List CellState) (entered_at now size other_size : ℕ) (worth other : ℕ → Option Effect) (before after : List Pending) →
    ((cell : ℕ) → worth cell ≡ other cell) → size ≡ other_size →
    GatherAll states entered_at now worth size before after → GatherAll states entered_at now other other_size before after
same_worth states entered_at now size other_size worth other before after w s g = record {
  order = g.order;
  same = g.same;
  each = λ cell within. let here : worth cell ≡ other cell = w cell in rw (← here, ← s) (g.each cell within);
}

pub ready_after : (states : List CellState) (entered_at now size : ℕ) (worth : ℕ → Option Effect) (before after : List Pending) →
    GatherAll states entered_at now worth size before after → AreReady states now after
ready_after states entered_at now size worth before after g = record {
  suit = λ cell within. (g.each cell (rw g.same at within)).suits_after;
  past = λ cell within some. (g.each cell (rw g.same at within)).past some;
}

pub room_after : (states : List CellState) (entered_at now size more whole limit : ℕ) (worth : ℕ → Option Effect) (before after : List Pending) →
    more + size ≤ whole → HaveRoom whole limit before → GatherAll states entered_at now worth size before after → HaveRoom more limit after
room_after states entered_at now size more whole limit worth before after fits room g cell within =
    let old : cell < length before = rw g.same at within in
    omega (arith, room cell old, (g.each cell old).small)
