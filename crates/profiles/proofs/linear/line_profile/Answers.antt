use Rattle.std.proofs.Common.{◌≡◌, ℕ, ◌+◌, ◌-◌, ◌<◌, ◌≤◌, Bool, cond, ◌&&◌, List, [], ◌∷◌, ◌++◌, length, map, drop, get_or, refl, sym, ap, subst, ◌∙◌, arith, All}
use Rattle.std.specs.Ordering.{int_eq}
use Rattle.std.proofs.lemmas.List.{drop_all}
use Rattle.std.proofs.lemmas.Bool.{ltb-true, ltb-false, eqb-true}
use Rattle.effect_cells.specs.Cells.{initial}
use Rattle.run_data.specs.declared.runs.Instant.{Instant}
use Rattle.aerie_base.specs.declared.linear.Term.{Term}
use Rattle.windows.specs.declared.segments.Segment.{Segment}
use Rattle.windows.specs.Linear.{segment_value}
use Rattle.profiles.specs.declared.watching.Watched.{Watched}
use Rattle.profiles.specs.Followed.{ChangesRise}
use Rattle.profiles.specs.Segments.{line_segments}
use Rattle.profiles.specs.Watching.{advanced, summed_line, watched_on, IsWatchable}
use Rattle.profiles.proofs.Terms.{form_of, all_watchable, watched_few}
use Rattle.profiles.specs.Touches.{CoversTouches, IsReadBy}
use Rattle.profiles.proofs.Positions.{StandsBefore, at_end, covered_there, covers_behind_first, got, walk_there, within_all}
use Rattle.profiles.proofs.Walks.{first_cut, nothing_reached, none_below, past_reach, some_there, initial_in_range}
use Rattle.profiles.proofs.LineWalks.{LineWalk, sums, rates, same_walk, walk_watchable, walk_few, walk_still, next_watchable, walk_next, walk_ends, first_watchable, walk_starts}
use Rattle.profiles.proofs.linear.line_profile.Goals as goal

pub returns-then-is_empty : goal.returns-then-is_empty
returns-then-is_empty c =
    let run = c.args.run.now in
    let none : length c.as_slice-instants.result.now ≡ 0 = eqb-true _ _ (sym c.is_empty.ensures ∙ c.if-is_empty.true) in
    let reach : run.reach ≡ 0 = nothing_reached run.instants run.reach c.can_be_followed.ensures.instants (ap (λ (l : List Instant). length l) (sym c.as_slice-instants.ensures) ∙ none) in
    c.new-segments.ensures ∙ ap (line_segments (sums c.args.model.now run c.args.form.now) (rates c.args.model.now run c.args.form.now)) (sym reach)

pub returns-then-not-is_before : goal.returns-then-not-is_before
returns-then-not-is_before c =
    let run = c.args.run.now in
    let some : 0 < length c.as_slice-instants.result.now = some_there _ (sym c.is_empty.ensures ∙ c.if-is_empty.false) in
    let is = first_cut run.instants c.as_slice-instants.result.now c.instant_at-first.result.now c.as_slice-instants.ensures some (got _ 0 _ c.instant_at-first.ensures) in
    let past : run.reach ≤ c.instant_at-first.result.now.time = ltb-false _ _ (sym c.is_before.ensures ∙ c.if-not-is_before.true) in
    let reach : run.reach ≡ 0 = none_below run.instants _ c.instant_at-first.result.now run.reach is c.can_be_followed.ensures.rise past in
    c.new-segments.ensures ∙ ap (line_segments (sums c.args.model.now run c.args.form.now) (rates c.args.model.now run c.args.form.now)) (sym reach)

pub line_after-line-requires-clause-watched : goal.line_after-line-requires-clause-watched
line_after-line-requires-clause-watched c =
    let model = c.args.model.now in
    let items : c.in_ok-watched.watched.items ≡ watched_on (initial model) c.args.form.now.terms = c.in_ok-watched.ensures ∙ ap (watched_on (initial model)) c.as_slice.ensures in
    subst (λ (w : List Watched). All IsWatchable w) (sym items)
    (all_watchable (length model.cells) (initial model) c.args.form.now.terms (form_of model.cells c.args.form.now c.requires.form).terms (initial_in_range model c.requires.valid))

pub line_after-line-requires-clause-few : goal.line_after-line-requires-clause-few
line_after-line-requires-clause-few c =
    let model = c.args.model.now in
    let items : c.in_ok-watched.watched.items ≡ watched_on (initial model) c.args.form.now.terms = c.in_ok-watched.ensures ∙ ap (watched_on (initial model)) c.as_slice.ensures in
    let known = form_of model.cells c.args.form.now c.requires.form in
    subst (λ (w : List Watched). length w ≤ 16) (sym items) (omega (arith, watched_few (initial model) c.args.form.now.terms, known.few))

pub line_after-line-requires-clause-rise : goal.line_after-line-requires-clause-rise
line_after-line-requires-clause-rise c =
    let some : 0 < length c.as_slice-instants.result.now = some_there _ (sym c.is_empty.ensures ∙ c.if-is_empty.false) in
    let is = first_cut c.args.run.now.instants c.as_slice-instants.result.now c.instant_at-first.result.now c.as_slice-instants.ensures some (got _ 0 _ c.instant_at-first.ensures) in
    (subst ChangesRise is c.can_be_followed.ensures.instants.changes).0

pub line_after-line-requires-clause-settled : goal.line_after-line-requires-clause-settled
line_after-line-requires-clause-settled c =
    let model = c.args.model.now in
    let first = c.instant_at-first.result.now in
    let items : c.in_ok-watched.watched.items ≡ watched_on (initial model) c.args.form.now.terms = c.in_ok-watched.ensures ∙ ap (watched_on (initial model)) c.as_slice.ensures in
    let some : 0 < length c.as_slice-instants.result.now = some_there _ (sym c.is_empty.ensures ∙ c.if-is_empty.false) in
    let is = first_cut c.args.run.now.instants c.as_slice-instants.result.now first c.as_slice-instants.ensures some (got _ 0 _ c.instant_at-first.ensures) in
    let below : c.instant_at-first.result.now.time < c.args.run.now.reach = ltb-true _ _ (sym c.is_before.ensures ∙ c.if-not-is_before.false) in
    subst (λ (n : ℕ). All IsWatchable (map (advanced (c.instant_at-first.result.now.time - n) c.instant_at-first.result.now.changed) c.in_ok-watched.watched.items)) (sym c.zero.ensures)
    (subst (λ (w : List Watched). All IsWatchable (map (advanced (c.instant_at-first.result.now.time - 0) c.instant_at-first.result.now.changed) w)) (sym items)
    (first_watchable model c.args.run.now c.args.form.now (form_of model.cells c.args.form.now c.requires.form) first _ is c.can_be_followed.ensures.rise
    c.can_be_followed.ensures.instants.changes below c.can_be_followed.ensures.in_range))

pub loop-position-init : goal.loop-position-init
loop-position-init c =
    let model = c.args.model.now in
    let first : Instant = c.instant_at-first.result.now in
    let terms : List Term = c.args.form.now.terms in
    let instants = c.as_slice-instants.result.now in
    let items : c.in_ok-watched.watched.items ≡ watched_on (initial model) terms = c.in_ok-watched.ensures ∙ ap (watched_on (initial model)) c.as_slice.ensures in
    let some : 0 < length c.as_slice-instants.result.now = some_there _ (sym c.is_empty.ensures ∙ c.if-is_empty.false) in
    let is = first_cut c.args.run.now.instants c.as_slice-instants.result.now first c.as_slice-instants.ensures some (got _ 0 _ c.instant_at-first.ensures) in
    let below : first.time < c.args.run.now.reach = ltb-true _ _ (sym c.is_before.ensures ∙ c.if-not-is_before.false) in
    let moved : c.line_after-line.new.watched.items ≡ map (advanced (first.time - 0) first.changed) (watched_on (initial model) terms) =
    c.line_after-line.ensures.watched
    ∙ (ap (λ (n : ℕ). map (advanced (first.time - n) first.changed) c.in_ok-watched.watched.items) c.zero.ensures
    ∙ ap (λ (w : List Watched). map (advanced (first.time - 0) first.changed) w) items) in
    let line : c.line_after-line.result ≡ summed_line first.time (map (advanced (first.time - 0) first.changed) (watched_on (initial model) terms)) =
    c.line_after-line.ensures.line
    ∙ (ap (λ (n : ℕ). summed_line first.time (map (advanced (first.time - n) first.changed) c.in_ok-watched.watched.items)) c.zero.ensures
    ∙ ap (λ (w : List Watched). summed_line first.time (map (advanced (first.time - 0) first.changed) w)) items) in
    let segments : c.put.new.segments ≡ summed_line first.time (map (advanced (first.time - 0) first.changed) (watched_on (initial model) terms)) ∷ [] =
    c.in_ok-put.ensures ∙ (ap (λ (l : List Segment). l ++ c.line_after-line.result ∷ []) c.new-segments.ensures ∙ ap (λ (l : Segment). l ∷ []) line) in
    record {
      walk = record {
        at = 1;
        walk =
            same_walk model c.args.run.now c.args.form.now _ _ _ _ _ _ _ moved line segments
            (walk_starts model c.args.run.now c.args.form.now (form_of model.cells c.args.form.now c.requires.form) first _ is c.can_be_followed.ensures.rise
            c.can_be_followed.ensures.instants.changes below);
        covered =
            subst (CoversTouches (IsReadBy terms) 1 (drop 1 instants)) (sym c.behind_first-position-items.ensures)
            (covers_behind_first (IsReadBy terms) first (drop 1 instants) c.args.positions.now
            (subst (λ (l : List Instant). CoversTouches (IsReadBy terms) 0 l c.args.positions.now) is c.requires.positions));
      };
      small = c.line_after-line.ensures.small;
    }

pub instant_at-instant-requires : goal.instant_at-instant-requires
instant_at-instant-requires c =
    let known = form_of c.args.model.now.cells c.args.form.now c.requires.form in
    within_all (λ rest. LineWalk c.args.model.now c.args.run.now c.args.form.now rest c.loop-position.watched.items c.loop-position.line c.loop-position.segments) (IsReadBy c.args.form.now.terms)
    (λ instant rest. walk_still c.args.model.now c.args.run.now c.args.form.now known instant rest c.loop-position.watched.items c.loop-position.line c.loop-position.segments)
    c.as_slice-instants.result.now c.behind_first-position-items.result.now c.loop-position.position-index c.loop-position-test.true
    c.loop-position.invariant.walk

pub returns-then-not-is_before-2 : goal.returns-then-not-is_before-2
returns-then-not-is_before-2 c =
    let model = c.args.model.now in
    let run = c.args.run.now in
    let form = c.args.form.now in
    let known = form_of model.cells form c.requires.form in
    let instants = c.as_slice-instants.result.now in
    let items = c.behind_first-position-items.result.now in
    let i = c.loop-position.position-index in
    let position = get_or items i 0 in
    let instant : Instant = c.instant_at-instant.result.now in
    let old : Segment = c.loop-position.line in
    let walk : LineWalk model run form (instant ∷ drop (position + 1) instants) c.loop-position.watched.items old c.loop-position.segments =
    walk_there (λ rest. LineWalk model run form rest c.loop-position.watched.items old c.loop-position.segments) (IsReadBy form.terms)
    (λ instant rest. walk_still model run form known instant rest c.loop-position.watched.items old c.loop-position.segments) instants items i
    c.loop-position-test.true c.loop-position.invariant.walk instant c.instant_at-instant.ensures in
    walk_ends model run form known _ _ old c.loop-position.segments
    (past_reach run.reach instant (drop (position + 1) instants) (instant ∷ drop (position + 1) instants) refl (ltb-false _ _ (sym c.is_before-in-loop-position.ensures ∙ c.if-not-is_before-2.true)))
    walk

pub line_after-next-requires-clause-time : goal.line_after-next-requires-clause-time
line_after-next-requires-clause-time c =
    let model = c.args.model.now in
    let run = c.args.run.now in
    let form = c.args.form.now in
    let known = form_of model.cells form c.requires.form in
    let instants = c.as_slice-instants.result.now in
    let items = c.behind_first-position-items.result.now in
    let i = c.loop-position.position-index in
    let position = get_or items i 0 in
    let instant : Instant = c.instant_at-instant.result.now in
    let old : Segment = c.loop-position.line in
    let walk : LineWalk model run form (instant ∷ drop (position + 1) instants) c.loop-position.watched.items old c.loop-position.segments =
    walk_there (λ rest. LineWalk model run form rest c.loop-position.watched.items old c.loop-position.segments) (IsReadBy form.terms)
    (λ instant rest. walk_still model run form known instant rest c.loop-position.watched.items old c.loop-position.segments) instants items i
    c.loop-position-test.true c.loop-position.invariant.walk instant c.instant_at-instant.ensures in
    omega (arith, walk.at.rise.0)

pub line_after-next-requires-clause-watched : goal.line_after-next-requires-clause-watched
line_after-next-requires-clause-watched c =
    let model = c.args.model.now in
    let run = c.args.run.now in
    let form = c.args.form.now in
    let known = form_of model.cells form c.requires.form in
    let instants = c.as_slice-instants.result.now in
    let items = c.behind_first-position-items.result.now in
    let i = c.loop-position.position-index in
    let position = get_or items i 0 in
    let instant : Instant = c.instant_at-instant.result.now in
    let old : Segment = c.loop-position.line in
    let walk : LineWalk model run form (instant ∷ drop (position + 1) instants) c.loop-position.watched.items old c.loop-position.segments =
    walk_there (λ rest. LineWalk model run form rest c.loop-position.watched.items old c.loop-position.segments) (IsReadBy form.terms)
    (λ instant rest. walk_still model run form known instant rest c.loop-position.watched.items old c.loop-position.segments) instants items i
    c.loop-position-test.true c.loop-position.invariant.walk instant c.instant_at-instant.ensures in
    walk_watchable model run form known _ _ old c.loop-position.segments c.can_be_followed.ensures.in_range walk

pub line_after-next-requires-clause-few : goal.line_after-next-requires-clause-few
line_after-next-requires-clause-few c =
    let model = c.args.model.now in
    let run = c.args.run.now in
    let form = c.args.form.now in
    let known = form_of model.cells form c.requires.form in
    let instants = c.as_slice-instants.result.now in
    let items = c.behind_first-position-items.result.now in
    let i = c.loop-position.position-index in
    let position = get_or items i 0 in
    let instant : Instant = c.instant_at-instant.result.now in
    let old : Segment = c.loop-position.line in
    let walk : LineWalk model run form (instant ∷ drop (position + 1) instants) c.loop-position.watched.items old c.loop-position.segments =
    walk_there (λ rest. LineWalk model run form rest c.loop-position.watched.items old c.loop-position.segments) (IsReadBy form.terms)
    (λ instant rest. walk_still model run form known instant rest c.loop-position.watched.items old c.loop-position.segments) instants items i
    c.loop-position-test.true c.loop-position.invariant.walk instant c.instant_at-instant.ensures in
    walk_few model run form known _ _ old c.loop-position.segments walk

pub line_after-next-requires-clause-rise : goal.line_after-next-requires-clause-rise
line_after-next-requires-clause-rise c =
    let model = c.args.model.now in
    let run = c.args.run.now in
    let form = c.args.form.now in
    let known = form_of model.cells form c.requires.form in
    let instants = c.as_slice-instants.result.now in
    let items = c.behind_first-position-items.result.now in
    let i = c.loop-position.position-index in
    let position = get_or items i 0 in
    let instant : Instant = c.instant_at-instant.result.now in
    let old : Segment = c.loop-position.line in
    let walk : LineWalk model run form (instant ∷ drop (position + 1) instants) c.loop-position.watched.items old c.loop-position.segments =
    walk_there (λ rest. LineWalk model run form rest c.loop-position.watched.items old c.loop-position.segments) (IsReadBy form.terms)
    (λ instant rest. walk_still model run form known instant rest c.loop-position.watched.items old c.loop-position.segments) instants items i
    c.loop-position-test.true c.loop-position.invariant.walk instant c.instant_at-instant.ensures in
    walk.at.changes.0

pub line_after-next-requires-clause-settled : goal.line_after-next-requires-clause-settled
line_after-next-requires-clause-settled c =
    let model = c.args.model.now in
    let run = c.args.run.now in
    let form = c.args.form.now in
    let known = form_of model.cells form c.requires.form in
    let instants = c.as_slice-instants.result.now in
    let items = c.behind_first-position-items.result.now in
    let i = c.loop-position.position-index in
    let position = get_or items i 0 in
    let instant : Instant = c.instant_at-instant.result.now in
    let old : Segment = c.loop-position.line in
    let walk : LineWalk model run form (instant ∷ drop (position + 1) instants) c.loop-position.watched.items old c.loop-position.segments =
    walk_there (λ rest. LineWalk model run form rest c.loop-position.watched.items old c.loop-position.segments) (IsReadBy form.terms)
    (λ instant rest. walk_still model run form known instant rest c.loop-position.watched.items old c.loop-position.segments) instants items i
    c.loop-position-test.true c.loop-position.invariant.walk instant c.instant_at-instant.ensures in
    let below : instant.time < run.reach = ltb-true _ _ (sym c.is_before-in-loop-position.ensures ∙ c.if-not-is_before-2.false) in
    next_watchable model run form known instant _ c.loop-position.watched.items old c.loop-position.segments walk c.can_be_followed.ensures.in_range below

pub continues-requires-clause-time : goal.continues-requires-clause-time
continues-requires-clause-time c =
    let model = c.args.model.now in
    let run = c.args.run.now in
    let form = c.args.form.now in
    let known = form_of model.cells form c.requires.form in
    let instants = c.as_slice-instants.result.now in
    let items = c.behind_first-position-items.result.now in
    let i = c.loop-position.position-index in
    let position = get_or items i 0 in
    let instant : Instant = c.instant_at-instant.result.now in
    let old : Segment = c.loop-position.line in
    let walk : LineWalk model run form (instant ∷ drop (position + 1) instants) c.loop-position.watched.items old c.loop-position.segments =
    walk_there (λ rest. LineWalk model run form rest c.loop-position.watched.items old c.loop-position.segments) (IsReadBy form.terms)
    (λ instant rest. walk_still model run form known instant rest c.loop-position.watched.items old c.loop-position.segments) instants items i
    c.loop-position-test.true c.loop-position.invariant.walk instant c.instant_at-instant.ensures in
    let from : c.line_after-next.result.from ≡ instant.time = ap (λ (l : Segment). l.from) c.line_after-next.ensures.line in
    omega (arith, walk.at.rise.0, from)

pub loop-position-preserved : goal.loop-position-preserved
loop-position-preserved c =
    let model = c.args.model.now in
    let run = c.args.run.now in
    let form = c.args.form.now in
    let known = form_of model.cells form c.requires.form in
    let instants = c.as_slice-instants.result.now in
    let items = c.behind_first-position-items.result.now in
    let i = c.loop-position.position-index in
    let position = get_or items i 0 in
    let instant : Instant = c.instant_at-instant.result.now in
    let old : Segment = c.loop-position.line in
    let walk : LineWalk model run form (instant ∷ drop (position + 1) instants) c.loop-position.watched.items old c.loop-position.segments =
    walk_there (λ rest. LineWalk model run form rest c.loop-position.watched.items old c.loop-position.segments) (IsReadBy form.terms)
    (λ instant rest. walk_still model run form known instant rest c.loop-position.watched.items old c.loop-position.segments) instants items i
    c.loop-position-test.true c.loop-position.invariant.walk instant c.instant_at-instant.ensures in
    let below : instant.time < run.reach = ltb-true _ _ (sym c.is_before-in-loop-position.ensures ∙ c.if-not-is_before-2.false) in
    let next : Segment = summed_line instant.time (map (advanced (instant.time - old.from) instant.changed) c.loop-position.watched.items) in
    let segments : c.put-in-loop-position.new.segments ≡ c.loop-position.segments ++ cond (int_eq (segment_value old instant.time) next.value && int_eq old.rate next.rate) [] (next ∷ []) =
    c.in_ok-put-2.ensures
    ∙ (ap (λ (b : Bool). c.loop-position.segments ++ cond b [] (c.line_after-next.result ∷ [])) c.continues.ensures
    ∙ ap (λ (l : Segment). c.loop-position.segments ++ cond (int_eq (segment_value old l.from) l.value && int_eq old.rate l.rate) [] (l ∷ [])) c.line_after-next.ensures.line) in
    record {
      walk = record {
        at = position + 1;
        walk =
            same_walk model run form _ _ _ _ _ _ _ c.line_after-next.ensures.watched c.line_after-next.ensures.line segments
            (walk_next model run form known instant _ c.loop-position.watched.items old c.loop-position.segments walk below);
        covered =
            covered_there (λ rest. LineWalk model run form rest c.loop-position.watched.items old c.loop-position.segments) (IsReadBy form.terms)
            (λ instant rest. walk_still model run form known instant rest c.loop-position.watched.items old c.loop-position.segments) instants items i
            c.loop-position-test.true c.loop-position.invariant.walk;
      };
      small = c.line_after-next.ensures.small;
    }

pub returns : goal.returns
returns c =
    let model = c.args.model.now in
    let run = c.args.run.now in
    let form = c.args.form.now in
    let known = form_of model.cells form c.requires.form in
    let items = c.behind_first-position-items.result.now in
    walk_ends model run form known [] c.loop-position.watched.items c.loop-position.line c.loop-position.segments (λ t below. tt)
    (at_end (λ rest. LineWalk model run form rest c.loop-position.watched.items c.loop-position.line c.loop-position.segments) (IsReadBy form.terms)
    (λ instant rest. walk_still model run form known instant rest c.loop-position.watched.items c.loop-position.line c.loop-position.segments) c.as_slice-instants.result.now
    (subst (StandsBefore (λ rest. LineWalk model run form rest c.loop-position.watched.items c.loop-position.line c.loop-position.segments) (IsReadBy form.terms) c.as_slice-instants.result.now)
    (drop_all c.loop-position.position-index items c.loop-position-test.false) c.loop-position.invariant.walk))
