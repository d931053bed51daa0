-- A file of lemmas: what it proves need not be read to trust a clause.
--
-- A batch that is committed: its frames are in order, and the cells on which it had no effect are as they were.
use Rattle.std.proofs.Common.{◌≡◌, ℕ, zero, suc, ◌+◌, Bool, true, false, ◌||◌, List, [], ◌∷◌, length, Option, Some, None, is_some, refl, sym, ap, ◌∙◌, arith, subst, nat_eq, nat_lt, slice_get, if◌then◌else◌}
use Rattle.std.proofs.lemmas.Bool.Decides.{nat_tests}
use Rattle.aerie_base.specs.declared.models.model.Parts.{Parts}
use Rattle.effect_cells.specs.declared.effects.CellState.{CellState}
use Rattle.effect_cells.specs.declared.effects.Effect.{Effect}
use Rattle.effect_cells.specs.declared.trees.Tree.{Tree}
use Rattle.effect_cells.specs.Cells.{with_effects, committed_cells, first_out}
use Rattle.effect_cells.specs.States.{applied_if_any}
use Rattle.effect_cells.specs.TouchedCells.{is_cell_among}
use Rattle.effect_cells.specs.Worth.{worth_of}
use Rattle.run_data.specs.TaskFrames.{Frame}
use Rattle.run_data.specs.declared.jobs.Job.{Job}
use Rattle.run_data.specs.Batches.{committed, batch, judged, when_within, when_no_fault, unless_out, Blame, least_fault, tree_of, cost_of, by_path, touched_from}
use Rattle.run_data.specs.Frames.{Made, Making, made_by_all}
use Rattle.live_tasks.specs.FrameOrders.{AreByPath}
use Rattle.live_tasks.specs.Waking.{AgreeBut}
use Rattle.engine_core.specs.FrameOrderLaws.{sorted_in_order}

among_off : (b c : Bool) (cell : ℕ) (rest : List ℕ) → is_cell_among cell (if c then cell ∷ rest else rest) ≡ false → c ≡ true → ⊥
among_off b true cell rest off e = let k : nat_eq cell cell ≡ true = grind (arith, nat_tests) in let m : (true || is_cell_among cell rest) ≡ false = sym (ap (λ d. d || is_cell_among cell rest) k) ∙ off in cc
among_off b false cell rest off e = cc

among_rest : (c : Bool) (cell other : ℕ) (rest : List ℕ) → is_cell_among cell (if c then other ∷ rest else rest) ≡ false → is_cell_among cell rest ≡ false
among_rest true cell other rest off = by (nat_eq other cell) off
  where
    by : (d : Bool) → (d || is_cell_among cell rest) ≡ false → is_cell_among cell rest ≡ false
    by true e = absurd (cc)
    by false e = e
among_rest false cell other rest off = off

untouched : (tree : Tree) (from n : ℕ) (cells : List CellState) → is_cell_among (from + n) (touched_from from tree cells) ≡ false →
    slice_get cells n ≡ slice_get (with_effects from (worth_of tree) cells) n
untouched tree from n [] off = refl
untouched tree from zero (state ∷ rest) off = ap Some (none (worth_of tree from) refl)
  where
    here : is_cell_among from (touched_from from tree (state ∷ rest)) ≡ false
    here = let k : from + 0 ≡ from = omega arith in subst (λ c. is_cell_among c (touched_from from tree (state ∷ rest)) ≡ false) k off

    none : (o : Option Effect) → worth_of tree from ≡ o → state ≡ applied_if_any state o
    none None e = refl
    none (Some effect) e = absurd (among_off true (is_some (worth_of tree from)) from (touched_from (from + 1) tree rest) here (ap is_some e))
untouched tree from (suc n) (state ∷ rest) off =
    untouched tree (from + 1) n rest
    (let k : from + suc n ≡ from + 1 + n = omega arith in
    subst (λ c. is_cell_among c (touched_from (from + 1) tree rest) ≡ false) k (among_rest (is_some (worth_of tree from)) (from + suc n) from (touched_from (from + 1) tree rest) off))

long_effects : (from : ℕ) (on : ℕ → Option Effect) (cells : List CellState) → length (with_effects from on cells) ≡ length cells
long_effects from on [] = refl
long_effects from on (state ∷ rest) = ap suc (long_effects (from + 1) on rest)

agree_committed : (tree : Tree) (cells : List CellState) → AgreeBut (touched_from 0 tree cells) cells (committed_cells cells tree)
agree_committed tree cells = record {
  same = λ cell off. untouched tree 0 cell cells (let k : 0 + cell ≡ cell = omega arith in subst (λ c. is_cell_among c (touched_from 0 tree cells) ≡ false) (sym k) off);
  long = long_effects 0 (worth_of tree) cells;
}

-- what holds of all that may be committed holds of a batch that is
module _ (P : List CellState → List CellState → List ℕ → List Frame → Type 0)
    (holds : (made : Made) (cells : List CellState) → P cells (committed_cells cells (tree_of made)) (touched_from 0 (tree_of made) cells) (by_path made.frames))
    (model : Parts) (bound spent : ℕ) (cells next : List CellState) (jobs : List (ℕ × Job)) (touched : List ℕ) (frames : List Frame) where
  by_out : (made : Made) (after : List CellState) (out : Option ℕ) → after ≡ committed_cells cells (tree_of made) → committed next touched frames ≡ unless_out out made cells after → P cells next touched frames
  by_out made after (Some cell) after_is e = absurd (cc)
  by_out made after None after_is e =
      let n : next ≡ after = cc in
      let t : touched ≡ touched_from 0 (tree_of made) cells = cc in
      let f : frames ≡ by_path made.frames = cc in
      subst (λ (fs : List Frame). P cells next touched fs) (sym f)
      (subst (λ (ts : List ℕ). P cells next ts (by_path made.frames)) (sym t)
      (subst (λ (cs : List CellState). P cells cs (touched_from 0 (tree_of made) cells) (by_path made.frames)) (sym (n ∙ after_is)) (holds made cells)))

  by_fault : (made : Made) (blame : Option Blame) → committed next touched frames ≡ when_no_fault blame made cells → P cells next touched frames
  by_fault made (Some blame) e = absurd (cc)
  by_fault made None e = by_out made (committed_cells cells (tree_of made)) (first_out (committed_cells cells (tree_of made))) refl e

  by_cost : (made : Made) (b : Bool) → committed next touched frames ≡ when_within b made cells → P cells next touched frames
  by_cost made true e = by_fault made (least_fault made.frames) e
  by_cost made false e = absurd (cc)

  by_making : (making : Making) → committed next touched frames ≡ judged bound spent cells making → P cells next touched frames
  by_making None e = absurd (cc)
  by_making (Some made) e = by_cost made (if nat_lt bound (spent + cost_of made.frames) then false else true) e

  of_committed : committed next touched frames ≡ batch model bound spent cells jobs → P cells next touched frames
  of_committed is = by_making (made_by_all model bound jobs) is

pub batch_agrees : (model : Parts) (bound spent : ℕ) (cells next : List CellState) (jobs : List (ℕ × Job)) (touched : List ℕ) (frames : List Frame) →
    committed next touched frames ≡ batch model bound spent cells jobs → AgreeBut touched cells next
batch_agrees = of_committed (λ cells next touched frames. AgreeBut touched cells next) (λ made cells. agree_committed (tree_of made) cells)

pub batch_in_order : (model : Parts) (bound spent : ℕ) (cells next : List CellState) (jobs : List (ℕ × Job)) (touched : List ℕ) (frames : List Frame) →
    committed next touched frames ≡ batch model bound spent cells jobs → AreByPath frames
batch_in_order = of_committed (λ cells next touched frames. AreByPath frames) (λ made cells. sorted_in_order made.frames)
