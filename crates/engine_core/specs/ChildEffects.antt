-- A file of lemmas: what it proves need not be read to trust a clause.
--
-- Small effects may be put on a view one after another.
use Rattle.std.proofs.Common.{◌≡◌, ℕ, ◌+◌, ◌*◌, ◌<◌, ◌≤◌, true, List, [], ◌∷◌, length, Option, Some, None, slice_get, refl, sym, ap, ◌∙◌, subst, arith}
use Rattle.std.proofs.lemmas.List.{length-set}
use Rattle.std.proofs.lemmas.Option.{slice_get_within}
use Rattle.aerie_base.specs.Ranges.{number_limit}
use Rattle.effect_cells.specs.declared.effects.CellState.{CellState}
use Rattle.effect_cells.specs.declared.effects.Effect.{Effect}
use Rattle.effect_cells.specs.Cells.{accepts, accepted_by, emitted, emitted_on, IsSmallOn}
use Rattle.effect_cells.specs.States.{applied}
use Rattle.effect_cells.specs.Sums.{sum_limit}
use Rattle.run_data.specs.declared.frames.Item.{Item}
use Rattle.run_data.specs.declared.frames.Item.TheVariants as item
use Rattle.run_data.specs.MagnitudeLaws.{set_within, applied_within, is_small}
use Rattle.run_data.specs.Magnitudes.{effect_magnitude, AreWithin}
use Rattle.run_data.specs.laws.Orders.{EachOf}
use Rattle.run_data.specs.laws.SmallSteps.{IsSmallItem}
use Rattle.engine_core.specs.BatchViews.{CanEmitAll}

-- ---- how far numbers come

-- after one effect on a view of such numbers
record AfterOne (view after : List CellState) (cell most : ℕ) (effect : Effect) : Type 0 where
  small : IsSmallOn (slice_get view cell) effect
  within : AreWithin (most + number_limit) after
  long : length after ≡ length view

after_one : (view : List CellState) (cell most : ℕ) (effect : Effect) → AreWithin most view → effect_magnitude effect ≤ number_limit → most + number_limit < sum_limit →
    AfterOne view (emitted view cell effect) cell most effect
after_one view cell most effect within little less = by (slice_get view cell) refl
  where
    by : (there : Option CellState) → slice_get view cell ≡ there → AfterOne view (emitted view cell effect) cell most effect
    by None e = record {
      small = subst (λ (o : Option CellState). IsSmallOn o effect) (sym e) tt;
      within = subst (AreWithin (most + number_limit)) (ap (emitted_on view cell effect) (sym e)) (λ j s i. (let near = within j s i in omega (arith, near)));
      long = ap (λ (o : Option CellState). length (emitted_on view cell effect o)) e;
    }
    by (Some before) e =
        let near = within cell before e in
        let step = applied_within before effect in
        record {
          small = subst (λ (o : Option CellState). IsSmallOn o effect) (sym e) (is_small (applied before effect) (omega (arith, near, step, little, less)));
          within = subst (AreWithin (most + number_limit)) (ap (emitted_on view cell effect) (sym e))
              (set_within view cell (most + number_limit) (applied before effect) (λ j s i. (let close = within j s i in omega (arith, close))) (omega (arith, near, step, little)));
          long = ap (λ (o : Option CellState). length (emitted_on view cell effect o)) e ∙ length-set view cell (applied before effect);
        }

-- ---- one after another

is_there : (cells : List CellState) (cell : ℕ) (effect : Effect) → accepts cells cell effect ≡ true → cell < length cells
is_there cells cell effect e = by (slice_get cells cell) refl e
  where
    by : (there : Option CellState) → slice_get cells cell ≡ there → accepted_by there effect ≡ true → cell < length cells
    by None x e = absurd (cc)
    by (Some state) x e = slice_get_within cells cell state x

pub can_emit_all : (whole view : List CellState) (most : ℕ) (items : List Item) → length view ≡ length whole → AreWithin most view → EachOf (IsSmallItem whole) items →
    most + length items * number_limit < sum_limit → CanEmitAll view items
can_emit_all whole view most [] long within small less = tt
can_emit_all whole view most (item.Emit cell effect ∷ rest) long within small less =
    let one = after_one view cell most effect within small.0.1 (omega (arith, less)) in
    let there = is_there whole cell effect small.0.0 in (
      (omega (arith, there, long), one.small),
      can_emit_all whole (emitted view cell effect) (most + number_limit) rest (one.long ∙ long) one.within small.1 (omega (arith, less)),
    )
can_emit_all whole view most (item.Child kind arguments ∷ rest) long within small less =
    (tt, can_emit_all whole view most rest long within small.1 (omega (arith, less)))
