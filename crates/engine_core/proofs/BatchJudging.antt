-- What a batch is judged by: its costs, the first fault in order, and its tree.
use Rattle.std.proofs.Common.{◌≡◌, ℕ, ◌+◌, ◌*◌, ◌<◌, ◌≤◌, Bool, true, false, IsTrue, if◌then◌else◌, nat_lt, List, [], ◌∷◌, length, Option, Some, None, Ok, Err, refl, sym, ap, ◌∙◌, subst, arith}
use Rattle.std.proofs.lemmas.Bool.{ltb-true, ltb-false}
use Rattle.std.specs.Option.{option_map}
use Rattle.aerie_base.specs.Ranges.{step_limit}
use Rattle.aerie_base.specs.declared.faults.Fault.{Fault}
use Rattle.aerie_base.specs.declared.faults.Fault.TheVariants.{Range}
use Rattle.aerie_base.specs.declared.models.model.Parts.{Parts}
use Rattle.aerie_base.specs.models.ValidModel.{valid_model}
use Rattle.effect_cells.specs.declared.cells.OutOfRange.{OutOfRange}
use Rattle.effect_cells.specs.declared.effects.CellState.{CellState}
use Rattle.effect_cells.specs.declared.trees.Tree.{Tree}
use Rattle.effect_cells.specs.Cells.{committed_cells, first_out, fits_cells, refusal, verdict}
use Rattle.effect_cells.specs.Sums.{sum_limit}
use Rattle.effect_cells.specs.Worth.{magnitude_of}
use Rattle.run_data.specs.TaskFrames.{Frame}
use Rattle.run_data.specs.declared.frames.Record.{Record}
use Rattle.run_data.specs.declared.jobs.Job.{Job}
use Rattle.run_data.specs.declared.runs.Who.TheVariants as who
use Rattle.run_data.specs.Batches.{limit, failed, committed, Blame, cost_of, least_fault, by_path, touched_from, tree_of, unless_out, when_no_fault, when_within, judged, batch}
use Rattle.run_data.specs.Frames.{Made, Making, made_by_all}
use Rattle.run_data.specs.Records.{unmatched}
use Rattle.run_data.specs.laws.Generations.{AlikeFrames, AlikeByGenerations, frames_in}
use Rattle.run_data.specs.laws.Orders.{EachOf, EachTwo, AreApart, MadeFitsCells}
use Rattle.run_data.specs.laws.SmallSteps.{StepsAreSmall, ChildrenAreJobs, WithinIsJob}
use Rattle.run_data.specs.laws.Trees.{tree_by_frames, TreeOfFrames}
use Rattle.engine_core.specs.declared.batch_ends.BatchEnd.{BatchEnd}
use Rattle.engine_core.specs.declared.batch_ends.BatchEnd.TheVariants.{Limit, Failed, Committed}
use Rattle.engine_core.specs.BatchEnding.{unless_cell_out, committed_by, HasFrames, IsCommittedWith}
use Rattle.engine_core.specs.BatchEnds.{AreReadyJobs, IsFrugalEnd, HasFewLooks, SpendsWith, batch_frames}
use Rattle.engine_core.specs.BatchGenerations.{in_generations, AreDueJobs, AreAllFrames, PaysForAll, LooksForAll}
use Rattle.live_tasks.specs.FrameOrders.{AreByPath}
use Rattle.engine_core.specs.BatchOrders.{AreMade, first_fault}
use Rattle.engine_core.specs.BatchTrees.{HaveFewItems}
use Rattle.run_data.specs.FrameLaws.{sorted_cost, each_sorted}
use Rattle.engine_core.proofs.BatchFaults.{first_is_least, sorted_length, sorted_unmatched}
use Rattle.engine_core.specs.FrameOrderLaws.{sorted_in_order}
use Rattle.engine_core.proofs.TreeSizes.{may_commit}

-- ---- costs

over : (bound spent : ℕ) (cells : List CellState) (made : Made) → bound < spent + cost_of made.frames → judged bound spent cells (Some made) ≡ limit
over bound spent cells made more = by (nat_lt bound (spent + cost_of made.frames)) refl
  where
    by : (past : Bool) → nat_lt bound (spent + cost_of made.frames) ≡ past → when_within (if past then false else true) made cells ≡ limit
    by true e = refl
    by false e = (let least = ltb-false bound (spent + cost_of made.frames) e in absurd (omega (arith, least, more)))

within : (bound spent : ℕ) (cells : List CellState) (made : Made) → spent + cost_of made.frames ≤ bound → judged bound spent cells (Some made) ≡ when_no_fault (least_fault made.frames) made cells
within bound spent cells made less = by (nat_lt bound (spent + cost_of made.frames)) refl
  where
    by : (past : Bool) → nat_lt bound (spent + cost_of made.frames) ≡ past → when_within (if past then false else true) made cells ≡ when_no_fault (least_fault made.frames) made cells
    by true e = (let more = ltb-true bound (spent + cost_of made.frames) e in absurd (omega (arith, more, less)))
    by false e = refl

module _ (model : Parts) (bound spent : ℕ) (cells : List CellState) (jobs : List (ℕ × Job)) (frames : List Frame) (is : AreMade model bound jobs frames) where
  pub past_the_bound : bound < spent + cost_of frames → limit ≡ batch model bound spent cells jobs
  past_the_bound more =
      sym (ap (judged bound spent cells) is.by_all ∙ over bound spent cells is.made (let same = is.cost in omega (arith, more, same)))

  by_fault : spent + cost_of frames ≤ bound → batch model bound spent cells jobs ≡ when_no_fault (least_fault is.made.frames) is.made cells
  by_fault less = ap (judged bound spent cells) is.by_all ∙ within bound spent cells is.made (let same = is.cost in omega (arith, less, same))

  least : (sorted : List Frame) → sorted ≡ by_path frames → first_fault sorted ≡ least_fault is.made.frames
  least sorted e = ap first_fault (e ∙ is.sorted) ∙ first_is_least is.made.frames

  pub at_fault : (sorted : List Frame) (path : List ℕ) (fault : Fault) → spent + cost_of frames ≤ bound → sorted ≡ by_path frames → Some (path, fault) ≡ first_fault sorted →
      failed (who.Task path) fault ≡ batch model bound spent cells jobs
  at_fault sorted path fault less e first = sym (by_fault less ∙ ap (λ (o : Option Blame). when_no_fault o is.made cells) (sym (first ∙ least sorted e)))

  -- what a commit of the frames in order needs, and what it gives
  pub record CanCommit (sorted : List Frame) : Type 0 where
    pub order : AreByPath sorted
    pub few : HaveFewItems sorted
    pub fits : IsTrue (fits_cells cells (tree_by_frames sorted jobs))
    pub worth : magnitude_of (tree_by_frames sorted jobs) < sum_limit
    pub gives : committed_by (tree_by_frames sorted jobs) cells sorted ≡ batch model bound spent cells jobs

  pub can_commit : StepsAreSmall → ChildrenAreJobs → WithinIsJob → MadeFitsCells → TreeOfFrames → IsTrue (valid_model model) → AreReadyJobs model spent cells jobs → bound ≤ step_limit →
      (sorted : List Frame) → spent + cost_of frames ≤ bound → sorted ≡ by_path frames → None ≡ first_fault sorted → CanCommit sorted
  can_commit steps children is_job fits tree valid ready small sorted less e first =
      let made = is.made in
      let same : sorted ≡ by_path made.frames = e ∙ is.sorted in
      let none : least_fault made.frames ≡ None = sym (first ∙ least sorted e) in
      let cost = is.cost in
      let may = may_commit steps children is_job fits model bound cells jobs made valid ready.of_model ready.within small is.by_all (omega (arith, cost, less)) in
      let whole : tree_by_frames sorted jobs ≡ tree_of made =
      ap (λ (l : List Frame). tree_by_frames l jobs) same ∙ tree model bound jobs made ready.apart is.by_all none
      in
      record {
        order = subst AreByPath (sym same) (sorted_in_order made.frames);
        few = subst HaveFewItems (sym same) (each_sorted (λ (frame : Frame). length frame.items ≤ step_limit) made.frames may.few);
        fits = ap (fits_cells cells) whole ∙ may.fits;
        worth = subst (λ (t : Tree). magnitude_of t < sum_limit) (sym whole) may.worth;
        gives =
            (λ i. committed_by (whole i) cells (same i)) ∙ by_cell (first_out (committed_cells cells (tree_of made))) (committed_cells cells (tree_of made))
            ∙ sym (by_fault less ∙ ap (λ (o : Option Blame). when_no_fault o made cells) none);
      }
    where
      by_cell : (o : Option ℕ) (next : List CellState) → unless_cell_out o next (touched_from 0 (tree_of is.made) cells) (by_path is.made.frames) ≡ unless_out o is.made cells next
      by_cell None next = refl
      by_cell (Some cell) next = refl

-- ---- the commit

pub commit_ok : (tree whole : Tree) (cells new : List CellState) (touched : List ℕ) (frames : List Frame) → tree ≡ whole → Ok tt ≡ verdict (committed_cells cells tree) → new ≡ committed_cells cells tree →
    touched ≡ touched_from 0 tree cells → committed new touched frames ≡ committed_by whole cells frames
commit_ok tree whole cells new touched frames same answer is are =
    (λ i. committed (is i) (are i) frames) ∙ sym (by (first_out (committed_cells cells tree)) answer) ∙ ap (λ (t : Tree). committed_by t cells frames) same
  where
    by : (o : Option ℕ) → Ok tt ≡ refusal o → unless_cell_out o (committed_cells cells tree) (touched_from 0 tree cells) frames ≡ committed (committed_cells cells tree) (touched_from 0 tree cells) frames
    by None e = refl
    by (Some cell) e = absurd (cc)

pub commit_out : (tree whole : Tree) (cells : List CellState) (out : OutOfRange) (frames : List Frame) → tree ≡ whole → Err out ≡ verdict (committed_cells cells tree) →
    failed (who.Cell out.cell) Range ≡ committed_by whole cells frames
commit_out tree whole cells out frames same answer =
    sym (by (first_out (committed_cells cells tree)) answer) ∙ ap (λ (t : Tree). committed_by t cells frames) same
  where
    by : (o : Option ℕ) → Err out ≡ refusal o → unless_cell_out o (committed_cells cells tree) (touched_from 0 tree cells) frames ≡ failed (who.Cell out.cell) Range
    by None e = absurd (cc)
    by (Some cell) e = (let same_out : out ≡ record { cell = cell } = cc in ap (λ (q : OutOfRange). failed (who.Cell q.cell) Range) (sym same_out))

-- ---- ends

pub end_spends : (frames sorted : List Frame) (before spent : ℕ) (end : BatchEnd) → sorted ≡ by_path frames → spent ≡ before + cost_of frames → IsCommittedWith sorted spent end → SpendsWith before end
end_spends frames sorted before spent Limit e paid is = tt
end_spends frames sorted before spent (Failed who fault) e paid is = tt
end_spends frames sorted before spent (Committed these touched now) e paid is =
    is.1 ∙ paid ∙ ap (λ n. before + n) (sym (ap cost_of (is.0 ∙ e) ∙ sorted_cost frames))

pub end_has : (frames sorted : List Frame) (spent : ℕ) (end : BatchEnd) → sorted ≡ by_path frames → IsCommittedWith sorted spent end → HasFrames (by_path frames) end
end_has frames sorted spent Limit e is = tt
end_has frames sorted spent (Failed who fault) e is = tt
end_has frames sorted spent (Committed these touched now) e is = is.0 ∙ e

pub end_pays : (frames : List Frame) (records : List Record) (before now : ℕ) (end : BatchEnd) → HasFrames (by_path frames) end → now ≤ before + unmatched frames records → IsFrugalEnd end records before now
end_pays frames records before now Limit is paid = tt
end_pays frames records before now (Failed who fault) is paid = tt
end_pays frames records before now (Committed these touched spent) is paid =
    (let same : unmatched these records ≡ unmatched frames records = ap (λ (l : List Frame). unmatched l records) is ∙ sorted_unmatched records frames in omega (arith, same, paid))

pub end_looks : (frames : List Frame) (before now : ℕ) (end : BatchEnd) → HasFrames (by_path frames) end → now ≤ before + 2 * length frames → HasFewLooks end before now
end_looks frames before now Limit is paid = tt
end_looks frames before now (Failed who fault) is paid = tt
end_looks frames before now (Committed these touched spent) is paid =
    (let same : length these ≡ length frames = ap (λ (l : List Frame). length l) is ∙ sorted_length frames in omega (arith, same, paid))

-- ---- the frames of a batch

each_less : (least most : ℕ) (jobs : List (ℕ × Job)) → least ≤ most → EachOf (λ job. job.0 ≤ least) jobs → EachOf (λ job. job.0 ≤ most) jobs
each_less least most [] less h = tt
each_less least most (job ∷ rest) less h = (omega (arith, less, h.0), each_less least most rest less h.1)

pub few_made : (model : Parts) (bound spent : ℕ) (cells : List CellState) (jobs : List (ℕ × Job)) → spent ≤ bound → bound ≤ step_limit → AreReadyJobs model spent cells jobs → EachOf (λ job. job.0 ≤ step_limit) jobs
few_made model bound spent cells jobs less few ready = each_less spent step_limit jobs (omega (arith, less, few)) ready.made

pub due_jobs : (model : Parts) (bound spent : ℕ) (cells : List CellState) (jobs : List (ℕ × Job)) → spent ≤ bound → bound ≤ step_limit → AreReadyJobs model spent cells jobs → AreDueJobs model jobs
due_jobs model bound spent cells jobs less few ready = record {
  within = ready.within;
  apart = ready.apart;
  made = few_made model bound spent cells jobs less few ready;
}

-- those of all generations are those that the batch makes, in some order
pub by_generations : AlikeByGenerations → (model : Parts) (bound spent : ℕ) (jobs : List (ℕ × Job)) (frames : List Frame) → EachTwo AreApart jobs → AreAllFrames model bound spent jobs (Some frames) →
    AreMade model bound jobs frames
unfolding in_generations
by_generations alike model bound spent jobs frames apart all =
    by (made_by_all model bound jobs) refl (subst (λ (o : Option (List Frame)). AlikeFrames (frames_in (made_by_all model bound jobs)) o) all.0 (alike model bound jobs apart))
  where
    by : (making : Making) → made_by_all model bound jobs ≡ making → AlikeFrames (frames_in making) (Some frames) → AreMade model bound jobs frames
    by None e h = absurd h
    by (Some made) e h = record { made = made; by_all = e; cost = sym h.cost; sorted = sym h.sorted }

-- and so are others that are the same in order of path
pub by_order : (model : Parts) (bound : ℕ) (jobs : List (ℕ × Job)) (frames copies : List Frame) → copies ≡ frames → batch_frames model bound jobs ≡ Some (by_path frames) → AreMade model bound jobs copies
by_order model bound jobs frames copies same is = by (made_by_all model bound jobs) refl is
  where
    by : (making : Making) → made_by_all model bound jobs ≡ making → option_map by_path (frames_in making) ≡ Some (by_path frames) → AreMade model bound jobs copies
    by None e h = absurd (cc)
    by (Some made) e h =
        let sorted : by_path made.frames ≡ by_path frames = cc in
        record {
          made = made;
          by_all = e;
          cost = ap cost_of same ∙ sym (sorted_cost frames) ∙ ap cost_of (sym sorted) ∙ sorted_cost made.frames;
          sorted = ap by_path same ∙ sym sorted;
        }

-- ---- what the generations gave

module _ {A : Type 0} (view : A → List Frame) (made : Option A) where
  pub no_frames : (model : Parts) (bound spent : ℕ) (jobs : List (ℕ × Job)) → made ≡ None → AreAllFrames model bound spent jobs (option_map view made) → (cells : List CellState) →
      limit ≡ batch model bound spent cells jobs
  no_frames model bound spent jobs e all cells = sym (subst (λ (o : Option A). AreAllFrames model bound spent jobs (option_map view o)) e all cells)

  pub all_made : AlikeByGenerations → (model : Parts) (bound spent : ℕ) (jobs : List (ℕ × Job)) (frames : A) → EachTwo AreApart jobs → made ≡ Some frames →
      AreAllFrames model bound spent jobs (option_map view made) → AreMade model bound jobs (view frames)
  all_made alike model bound spent jobs frames apart e all =
      by_generations alike model bound spent jobs (view frames) apart (subst (λ (o : Option A). AreAllFrames model bound spent jobs (option_map view o)) e all)

  pub end_frugal : (frames : A) (records : List Record) (before now : ℕ) (end : BatchEnd) → made ≡ Some frames → PaysForAll (option_map view made) records before now →
      HasFrames (by_path (view frames)) end → IsFrugalEnd end records before now
  end_frugal frames records before now end e pays has =
      end_pays (view frames) records before now end has (subst (λ (o : Option A). PaysForAll (option_map view o) records before now) e pays)

  pub end_few_looks : (frames : A) (before now : ℕ) (end : BatchEnd) → made ≡ Some frames → LooksForAll (option_map view made) before now →
      HasFrames (by_path (view frames)) end → HasFewLooks end before now
  end_few_looks frames before now end e looks has =
      end_looks (view frames) before now end has (subst (λ (o : Option A). LooksForAll (option_map view o) before now) e looks)
