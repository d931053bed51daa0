-- A walk over the instants of a run for a linear resource.
use Rattle.std.proofs.Common.{◌≡◌, ℕ, suc, ◌-◌, ◌<◌, ◌≤◌, ℤ, pos, ◌+ℤ◌, ◌*ℤ◌, ◌&&◌, cond, List, [], ◌∷◌, ◌++◌, length, map, refl, sym, ap, subst, ◌∙◌, arith, All}
use Rattle.std.specs.Ordering.{int_eq}
use Rattle.std.proofs.lemmas.Int.{ints}
use Rattle.aerie_base.specs.declared.linear.Linear.{Linear}
use Rattle.aerie_base.specs.declared.models.model.Parts.{Parts}
use Rattle.aerie_base.specs.conditions.Holding.{terms_value, linear_value}
use Rattle.effect_cells.specs.declared.effects.CellState.{CellState}
use Rattle.effect_cells.specs.Cells.{initial, passed}
use Rattle.effect_cells.specs.Reads.{value_on}
use Rattle.run_data.specs.declared.runs.Instant.{Instant}
use Rattle.run_data.specs.declared.runs.Run.{Run}
use Rattle.run_data.specs.Values.{with_states, cells_at, rate_at, terms_rate}
use Rattle.run_data.specs.laws.Rising.{RiseFromStart}
use Rattle.windows.specs.declared.segments.Segment.{Segment}
use Rattle.windows.specs.Linear.{segment_value}
use Rattle.profiles.specs.declared.watching.Watched.{Watched}
use Rattle.profiles.specs.Touches.{IsReadBy, IsUntouched}
use Rattle.profiles.specs.Followed.{ChangesRise, InRangeBelow}
use Rattle.profiles.specs.Profiles.{resource_sum}
use Rattle.profiles.specs.Segments.{begins_line, line_segments}
use Rattle.profiles.specs.Watching.{watched_on, advanced, values_sum, rates_sum, summed_line, IsWatchable}
use Rattle.profiles.proofs.Following.{IsBeforeFirst}
use Rattle.profiles.proofs.Segmenting.{none_more, one_more, Runs, no_line_begins, line_begins_by}
use Rattle.profiles.proofs.Terms.{IsFormOf, AreTermsOf, all_watchable, advanced_on, reads_inside, watched_alike, watched_few, values_are, rates_are, values_later, rates_later}
use Rattle.profiles.proofs.Touching.{AreInside, SettledOn, settled_on, settled_still, settled_then, still_here, until_then}
use Rattle.profiles.proofs.ValueWalks.{map_count}
use Rattle.profiles.proofs.Walks.{settled_first}

module _ (model : Parts) (run : Run) (form : Linear) where
  abbrev pub sums : ℕ → ℤ
  sums = resource_sum model run form

  abbrev pub rates : ℕ → ℤ
  rates = rate_at model run form

  -- what the walk knows at a settled time
  pub record LineWalk (rest : List Instant) (watched : List Watched) (line : Segment) (segments : List Segment) : Type 0 where
    pub cells : List CellState
    pub at : SettledOn (IsReadBy form.terms) model run.instants rest line.from cells
    pub is : watched ≡ watched_on cells form.terms
    pub line_is : line ≡ summed_line line.from watched
    pub before : line.from < run.reach
    pub made : segments ≡ line_segments sums rates (suc line.from)

  -- the same walk
  pub same_walk : (rest : List Instant) (watched other : List Watched) (line another : Segment) (segments others : List Segment) → watched ≡ other → line ≡ another → segments ≡ others →
      LineWalk rest other another others → LineWalk rest watched line segments
  same_walk rest watched other line another segments others e f g walk =
      subst (λ w. LineWalk rest w line segments) (sym e) (subst (λ l. LineWalk rest other l segments) (sym f) (subst (λ l. LineWalk rest other another l) (sym g) walk))

  module _ (known : IsFormOf model.cells form) where
    -- the terms are of cells that there are
    inside : AreInside (IsReadBy form.terms) model
    inside k read = let within = reads_inside (length model.cells) form.terms known.terms k read in omega (arith, within, map_count model)

    terms_in : (rest : List Instant) (time : ℕ) (cells : List CellState) → SettledOn (IsReadBy form.terms) model run.instants rest time cells → AreTermsOf (length cells) form.terms
    terms_in rest time cells at = subst (λ n. AreTermsOf n form.terms) (sym (at.count ∙ map_count model)) known.terms

    -- what is watched at a settled time
    here : (rest : List Instant) (time : ℕ) (cells : List CellState) → SettledOn (IsReadBy form.terms) model run.instants rest time cells →
        watched_on (cells_at model run time) form.terms ≡ watched_on cells form.terms
    here rest time cells at =
        watched_alike (cells_at model run time) cells form.terms (λ k read. still_here (IsReadBy form.terms) model inside run.instants rest time cells at k read)

    watchable_at : (rest : List Instant) (time : ℕ) (cells : List CellState) → InRangeBelow model run → time < run.reach →
        SettledOn (IsReadBy form.terms) model run.instants rest time cells → All IsWatchable (watched_on cells form.terms)
    watchable_at rest time cells good below at =
        subst (λ (w : List Watched). All IsWatchable w) (here rest time cells at)
        (all_watchable (length model.cells) (cells_at model run time) form.terms known.terms (good time below))

    pub walk_watchable : (rest : List Instant) (watched : List Watched) (line : Segment) (segments : List Segment) → InRangeBelow model run → LineWalk rest watched line segments →
        All IsWatchable watched
    walk_watchable rest watched line segments good walk =
        subst (λ (w : List Watched). All IsWatchable w) (sym walk.is) (watchable_at rest line.from walk.cells good walk.before walk.at)

    pub walk_few : (rest : List Instant) (watched : List Watched) (line : Segment) (segments : List Segment) → LineWalk rest watched line segments → length watched ≤ 16
    walk_few rest watched line segments walk =
        subst (λ (w : List Watched). length w ≤ 16) (sym walk.is) (omega (arith, watched_few walk.cells form.terms, known.few))

    no_constant : (z : ℤ) → z +ℤ form.constant ≡ z
    no_constant z = ap (λ (c : ℤ). z +ℤ c) known.constant ∙ omega (arith, ints)

    -- the sum on cells, and its rate
    pub sum_on : (cells : List CellState) → linear_value (value_on cells) [] form ≡ values_sum (watched_on cells form.terms)
    sum_on cells = no_constant (terms_value (value_on cells) [] form.terms) ∙ values_are (length model.cells) cells form.terms known.terms

    rate_on_cells : (cells : List CellState) → terms_rate cells form.terms ≡ rates_sum (watched_on cells form.terms)
    rate_on_cells cells = rates_are (length model.cells) cells form.terms known.terms

    -- until the next instant it is a straight piece
    line_runs : (rest : List Instant) (watched : List Watched) (line : Segment) (segments : List Segment) → LineWalk rest watched line segments → (t : ℕ) → line.from ≤ t → IsBeforeFirst t rest →
        (sums t ≡ segment_value line t) × (rates t ≡ line.rate)
    line_runs rest watched line segments walk t from before =
        let alike : watched_on (cells_at model run t) form.terms ≡ watched_on (passed walk.cells (t - line.from)) form.terms =
        watched_alike (cells_at model run t) (passed walk.cells (t - line.from)) form.terms
        (λ k read. until_then (IsReadBy form.terms) model inside run.instants rest line.from walk.cells walk.at k t read from before) in
        let value : line.value ≡ values_sum (watched_on walk.cells form.terms) = ap (λ (l : Segment). l.value) walk.line_is ∙ ap values_sum walk.is in
        let rate : line.rate ≡ rates_sum (watched_on walk.cells form.terms) = ap (λ (l : Segment). l.rate) walk.line_is ∙ ap rates_sum walk.is in (
          sum_on (cells_at model run t)
              ∙ (ap values_sum alike
              ∙ (values_later (length model.cells) walk.cells form.terms (t - line.from) known.terms
              ∙ (ap (λ (z : ℤ). z +ℤ rates_sum (watched_on walk.cells form.terms) *ℤ pos (t - line.from)) (sym value)
              ∙ ap (λ (z : ℤ). line.value +ℤ z *ℤ pos (t - line.from)) (sym rate)))),
          rate_on_cells (cells_at model run t)
              ∙ (ap rates_sum alike
              ∙ (rates_later (length model.cells) walk.cells form.terms (t - line.from) known.terms
              ∙ sym rate)),
        )

    -- an instant that touches none of the cells
    pub walk_still : (instant : Instant) (rest : List Instant) (watched : List Watched) (line : Segment) (segments : List Segment) → IsUntouched (IsReadBy form.terms) instant →
        LineWalk (instant ∷ rest) watched line segments → LineWalk rest watched line segments
    walk_still instant rest watched line segments untouched walk = record {
      cells = walk.cells;
      at = settled_still (IsReadBy form.terms) model inside run.instants rest instant line.from walk.cells walk.at untouched;
      is = walk.is;
      line_is = walk.line_is;
      before = walk.before;
      made = walk.made;
    }

    -- what it is at a settled time
    here_is : (rest : List Instant) (time : ℕ) (cells : List CellState) → SettledOn (IsReadBy form.terms) model run.instants rest time cells →
        summed_line time (watched_on cells form.terms) ≡ record { from = time; value = sums time; rate = rates time }
    here_is rest time cells at =
        let alike = here rest time cells at in
        let value : values_sum (watched_on cells form.terms) ≡ sums time = ap values_sum (sym alike) ∙ sym (sum_on (cells_at model run time)) in
        let rate : rates_sum (watched_on cells form.terms) ≡ rates time = ap rates_sum (sym alike) ∙ sym (rate_on_cells (cells_at model run time)) in
        ap (λ (z : ℤ). record { from = time; value = z; rate = rates_sum (watched_on cells form.terms) }) value
        ∙ ap (λ (z : ℤ). record { from = time; value = sums time; rate = z }) rate

    -- ---- the next instant

    module _ (instant : Instant) (rest : List Instant) (watched : List Watched) (line : Segment) (segments : List Segment) (walk : LineWalk (instant ∷ rest) watched line segments) where
      new_at : SettledOn (IsReadBy form.terms) model run.instants rest instant.time (with_states (passed walk.cells (instant.time - line.from)) instant.changed)
      new_at = settled_then (IsReadBy form.terms) model inside run.instants rest instant line.from walk.cells walk.at

      new_watched : map (advanced (instant.time - line.from) instant.changed) watched ≡ watched_on (with_states (passed walk.cells (instant.time - line.from)) instant.changed) form.terms
      new_watched =
          ap (map (advanced (instant.time - line.from) instant.changed)) walk.is
          ∙ advanced_on walk.cells form.terms (instant.time - line.from) instant.changed (terms_in (instant ∷ rest) line.from walk.cells walk.at)

      pub next_watchable : InRangeBelow model run → instant.time < run.reach → All IsWatchable (map (advanced (instant.time - line.from) instant.changed) watched)
      next_watchable good below =
          subst (λ (w : List Watched). All IsWatchable w) (sym new_watched)
          (watchable_at rest instant.time _ good below new_at)

      pub walk_next : instant.time < run.reach →
          LineWalk rest (map (advanced (instant.time - line.from) instant.changed) watched)
          (summed_line instant.time (map (advanced (instant.time - line.from) instant.changed) watched))
          (segments ++ cond (int_eq (segment_value line instant.time) (values_sum (map (advanced (instant.time - line.from) instant.changed) watched))
          && int_eq line.rate (rates_sum (map (advanced (instant.time - line.from) instant.changed) watched))) []
          (summed_line instant.time (map (advanced (instant.time - line.from) instant.changed) watched) ∷ []))
      walk_next below =
          let cells = with_states (passed walk.cells (instant.time - line.from)) instant.changed in
          let now : summed_line instant.time (map (advanced (instant.time - line.from) instant.changed) watched) ≡ record { from = instant.time; value = sums instant.time; rate = rates instant.time } =
          ap (summed_line instant.time) new_watched ∙ here_is rest instant.time cells new_at in
          let runs : Runs sums rates line instant.time = λ t from before. line_runs (instant ∷ rest) watched line segments walk t from before in
          record {
            cells = cells;
            at = new_at;
            is = new_watched;
            line_is = refl;
            before = below;
            made =
                ap (λ (l : Segment). segments ++ cond (int_eq (segment_value line instant.time) l.value && int_eq line.rate l.rate) [] (l ∷ [])) now
                ∙ one_more (λ t. record { from = t; value = sums t; rate = rates t }) (begins_line sums rates) (suc line.from) instant.time
                (int_eq (segment_value line instant.time) (sums instant.time) && int_eq line.rate (rates instant.time)) segments walk.made
                (omega (arith, walk.at.rise.0)) (no_line_begins sums rates line instant.time runs) (line_begins_by sums rates line instant.time walk.at.rise.0 runs);
          }

    -- ---- the end

    pub walk_ends : (rest : List Instant) (watched : List Watched) (line : Segment) (segments : List Segment) → ((t : ℕ) → t < run.reach → IsBeforeFirst t rest) → LineWalk rest watched line segments →
        segments ≡ line_segments sums rates run.reach
    walk_ends rest watched line segments past walk =
        walk.made
        ∙ ap (map (λ t. record { from = t; value = sums t; rate = rates t }))
        (sym (none_more (begins_line sums rates) (suc line.from) run.reach (omega (arith, walk.before))
        (no_line_begins sums rates line run.reach (λ t from below. line_runs rest watched line segments walk t from (past t below)))))

    -- ---- the start

    module _ (first : Instant) (rest : List Instant) (is : run.instants ≡ first ∷ rest) (rise : RiseFromStart run.instants) (changes : ChangesRise run.instants) (below : first.time < run.reach) where
      first_at : SettledOn (IsReadBy form.terms) model run.instants rest first.time (with_states (passed (initial model) (first.time - 0)) first.changed)
      first_at = settled_on (IsReadBy form.terms) model inside run.instants rest first.time _ (settled_first model run.instants rest first is rise changes)

      first_watched : map (advanced (first.time - 0) first.changed) (watched_on (initial model) form.terms) ≡ watched_on (with_states (passed (initial model) (first.time - 0)) first.changed) form.terms
      first_watched = advanced_on (initial model) form.terms (first.time - 0) first.changed (subst (λ n. AreTermsOf n form.terms) (sym (map_count model)) known.terms)

      pub first_watchable : InRangeBelow model run → All IsWatchable (map (advanced (first.time - 0) first.changed) (watched_on (initial model) form.terms))
      first_watchable good =
          subst (λ (w : List Watched). All IsWatchable w) (sym first_watched)
          (watchable_at rest first.time _ good below first_at)

      pub walk_starts : LineWalk rest (map (advanced (first.time - 0) first.changed) (watched_on (initial model) form.terms))
          (summed_line first.time (map (advanced (first.time - 0) first.changed) (watched_on (initial model) form.terms)))
          (summed_line first.time (map (advanced (first.time - 0) first.changed) (watched_on (initial model) form.terms)) ∷ [])
      walk_starts =
          let cells = with_states (passed (initial model) (first.time - 0)) first.changed in
          let now : summed_line first.time (map (advanced (first.time - 0) first.changed) (watched_on (initial model) form.terms)) ≡ record { from = first.time; value = sums first.time; rate = rates first.time } =
          ap (summed_line first.time) first_watched ∙ here_is rest first.time cells first_at in
          let at_zero : first.time ≡ 0 = (subst RiseFromStart is rise).0 in
          record {
            cells = cells;
            at = first_at;
            is = first_watched;
            line_is = refl;
            before = below;
            made =
                ap (λ (l : Segment). l ∷ []) now
                ∙ subst (λ t. (◌≡◌ {A = List Segment} (record { from = t; value = sums t; rate = rates t } ∷ []) (line_segments sums rates (suc t)))) (sym at_zero) refl;
          }
