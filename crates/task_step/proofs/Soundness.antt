-- The state of a step stays sound: the cells that are seen are those of the view with the effects of the items, and numbers stay small.
use Rattle.std.proofs.Common.{◌≡◌, ℕ, ◌+◌, ◌^◌, ◌<◌, ◌≤◌, Bool, List, [], ◌∷◌, ◌++◌, Option, Some, None, refl, sym, ap, ◌∙◌, subst, arith, length, length-append, All, false, replicate}
use Rattle.std.specs.Prelude.{slice_get}
use Rattle.std.proofs.lemmas.List.{length-replicate}
use Rattle.std.proofs.lemmas.Option.{slice_get_within, get_or_from_slice_get}
use Rattle.aerie_base.specs.declared.values.Value.{Value}
use Rattle.effect_cells.specs.Cells.{emitted, IsSmallOn}
use Rattle.effect_cells.specs.States.{applied}
use Rattle.effect_cells.specs.declared.effects.CellState.{CellState}
use Rattle.effect_cells.specs.declared.effects.CellState.TheVariants as state
use Rattle.effect_cells.specs.declared.effects.Effect.{Effect}
use Rattle.run_data.specs.declared.frames.Item.{Item}
use Rattle.run_data.specs.declared.frames.Item.TheVariants as item
use Rattle.run_data.specs.StepStates.{after_item, after_items}
use Rattle.run_data.specs.Jobs.{IsModest}
use Rattle.run_data.specs.MagnitudeLaws.{applied_within, emitted_within, is_small}
use Rattle.run_data.specs.Magnitudes.{state_magnitude, effect_magnitude, AreWithin}
use Rattle.task_step.proofs.Overlays.{overlaid_none}
use Rattle.task_step.specs.Overlays.{overlaid}
use Rattle.task_step.specs.OwnCells.{reach, most_items, IsSound}

-- ---- one item more

pub after_items_more : (view : List CellState) (items : List Item) (more : Item) → after_items view (items ++ more ∷ []) ≡ after_item (after_items view items) more
after_items_more view [] more = refl
after_items_more view (first ∷ items) more = after_items_more (after_item view first) items more

-- ---- how far numbers come

small_there : (cells : List CellState) (cell : ℕ) (effect : Effect) (there : Option CellState) (most : ℕ) → slice_get cells cell ≡ there →
    AreWithin most cells → most + effect_magnitude effect < 2 ^ 120 → IsSmallOn there effect
small_there cells cell effect None most e h k = tt
small_there cells cell effect (Some before) most e h k =
    is_small (applied before effect) (omega (arith, applied_within before effect, h cell before e, k))

-- an effect of a step leaves a cell's numbers small
pub small_on : (view cells other : List CellState) (items : List Item) (read_flags : List Bool) (cell : ℕ) (effect : Effect) → other ≡ cells →
    IsSound view cells items read_flags → effect_magnitude effect ≤ 1_000_000_000_000_000_000 → IsSmallOn (slice_get other cell) effect
small_on view cells other items read_flags cell effect e s k =
    subst (λ l. IsSmallOn (slice_get l cell) effect) (sym e)
    (small_there cells cell effect (slice_get cells cell) (reach (length items)) refl s.within (omega (arith, s.few_items, k)))

-- ---- the start

modest_within : (s : CellState) → IsModest s → state_magnitude s ≤ reach 0
modest_within (state.Counter n) h = omega (arith, h)
modest_within (state.Register v f) h = omega arith
modest_within (state.Volume v r) h = omega (arith, h.0, h.1)

-- ---- the state of a step stays sound

pub read_sound : (view cells view' cells' : List CellState) (items : List Item) (read_flags read_flags' : List Bool) →
    ◌≡◌ {A = List CellState × List CellState} (view', cells') (view, cells) → length read_flags' ≡ length read_flags →
    IsSound view cells items read_flags → IsSound view' cells' items read_flags'
read_sound view cells view' cells' items read_flags read_flags' e n s =
    let first : view' ≡ view = ap (λ p. p.0) e in
    let second : cells' ≡ cells = ap (λ p. p.1) e in
    subst (λ v. IsSound v cells' items read_flags') (sym first) (subst (λ c. IsSound view c items read_flags') (sym second)
    (record { shown = s.shown; flags = n ∙ s.flags; within = s.within; few_items = s.few_items; few_cells = s.few_cells }))

pub child_sound : (view cells : List CellState) (items items' : List Item) (read_flags : List Bool) (kind : ℕ) (values : List Value) →
    items' ≡ items ++ item.Child kind values ∷ [] → length items < most_items → IsSound view cells items read_flags → IsSound view cells items' read_flags
child_sound view cells items items' read_flags kind values e few s =
    let n : length items' ≡ length items + 1 = omega (arith, ap length e, length-append items (item.Child kind values ∷ [])) in
    record {
      shown = s.shown ∙ sym (after_items_more view items (item.Child kind values)) ∙ ap (after_items view) (sym e);
      flags = s.flags;
      within = λ k c h. omega (arith, s.within k c h);
      few_items = omega arith;
      few_cells = s.few_cells;
    }

pub effect_sound : (view cells view' cells' : List CellState) (items items' : List Item) (read_flags read_flags' : List Bool) (cell : ℕ) (effect : Effect) →
    view' ≡ view → cells' ≡ emitted cells cell effect → read_flags' ≡ read_flags → items' ≡ items ++ item.Emit cell effect ∷ [] → length items < most_items →
    effect_magnitude effect ≤ 1_000_000_000_000_000_000 → IsSound view cells items read_flags → IsSound view' cells' items' read_flags'
effect_sound view cells view' cells' items items' read_flags read_flags' cell effect ev ec er ei few small s =
    let n : length items' ≡ length items + 1 = omega (arith, ap length ei, length-append items (item.Emit cell effect ∷ [])) in
    subst (λ v. IsSound v cells' items' read_flags') (sym ev) (record {
      shown = ec ∙ ap (λ c. emitted c cell effect) s.shown ∙ sym (after_items_more view items (item.Emit cell effect)) ∙ ap (after_items view) (sym ei);
      flags = ap length er ∙ s.flags;
      within = subst (AreWithin (reach (length items'))) (sym ec) (λ k c h. omega (arith, emitted_within cells cell effect (reach (length items)) 1_000_000_000_000_000_000 s.within small k c h));
      few_items = omega arith;
      few_cells = s.few_cells;
    })

-- ---- before the first statement

all_within : (view : List CellState) → All IsModest view → AreWithin (reach 0) view
all_within view modest cell state e =
    modest_within state (subst IsModest (get_or_from_slice_get view cell state state e) (modest cell state (slice_get_within view cell state e)))

-- a view of which no cell was written or read
pub begins_sound : (view seen : List CellState) (written : List (ℕ × CellState)) (items : List Item) (read_flags : List Bool) (cells : ℕ) →
    items ≡ [] → seen ≡ view → written ≡ [] → read_flags ≡ replicate cells false → cells ≡ length view → cells ≤ 256 → All IsModest view →
    IsSound seen (overlaid seen written) items read_flags
begins_sound view seen written items read_flags cells ei ev ew ef n few modest =
    subst (λ i. IsSound seen (overlaid seen written) i read_flags) (sym ei)
    (subst (λ v. IsSound v (overlaid v written) [] read_flags) (sym ev)
    (subst (λ w. IsSound view (overlaid view w) [] read_flags) (sym ew)
    (subst (λ c. IsSound view c [] read_flags) (sym (overlaid_none 0 view)) (record {
      shown = refl;
      flags = ap length ef ∙ length-replicate cells false ∙ n;
      within = all_within view modest;
      few_items = omega arith;
      few_cells = omega (arith, n, few);
    }))))
