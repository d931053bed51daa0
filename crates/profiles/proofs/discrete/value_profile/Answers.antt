use Rattle.std.proofs.Common.{◌≡◌, ℕ, ◌+◌, ◌<◌, true, Bool, cond, List, [], ◌∷◌, ◌++◌, drop, get_or, length, refl, sym, ap, subst, ◌∙◌, arith}
use Rattle.std.proofs.lemmas.List.{drop_all}
use Rattle.std.proofs.lemmas.Bool.{ltb-true, ltb-false, eqb-true}
use Rattle.aerie_base.specs.declared.values.Value.{Value}
use Rattle.aerie_base.specs.expressions.Arithmetic.{same_value}
use Rattle.aerie_base.specs.expressions.Readings.{cell_of}
use Rattle.profiles.specs.Followed.{ChangesRise}
use Rattle.effect_cells.specs.States.{is_in_range}
use Rattle.run_data.specs.declared.runs.Instant.{Instant}
use Rattle.profiles.specs.declared.discrete.Showing.{Showing}
use Rattle.profiles.specs.Showings.{next_showing, first_showing}
use Rattle.profiles.specs.Segments.{value_segments}
use Rattle.profiles.specs.Touches.{CoversTouches}
use Rattle.profiles.proofs.Positions.{StandsBefore, at_end, covered_there, covers_behind_first, got, walk_there, within_all}
use Rattle.profiles.proofs.Walks.{first_cut, nothing_reached, past_reach, begins_in_range, some_there}
use Rattle.profiles.proofs.ValueWalks.{ValueWalk, shows, walk_in_range, walk_still, next_in_range, walk_next, walk_ends, first_in_range, walk_starts, same_walk}
use Rattle.profiles.proofs.discrete.value_profile.Goals as goal

pub returns-then-is_empty : goal.returns-then-is_empty
returns-then-is_empty c =
    let model = c.args.model.now in
    let run = c.args.run.now in
    let none : length c.as_slice-instants.result.now ≡ 0 = eqb-true _ _ (sym c.is_empty.ensures ∙ c.if-is_empty.true) in
    let reach : run.reach ≡ 0 = nothing_reached run.instants run.reach c.can_be_followed.ensures.instants (ap (λ (l : List Instant). length l) (sym c.as_slice-instants.ensures) ∙ none) in
    c.new-segments.ensures ∙ ap (value_segments (shows model run c.args.read)) (sym reach)

pub at_start-requires : goal.at_start-requires
at_start-requires c = begins_in_range c.args.model.now c.args.read c.requires.valid

pub after_instant-showing-requires-clause-range : goal.after_instant-showing-requires-clause-range
after_instant-showing-requires-clause-range c =
    subst (λ (s : Showing). is_in_range s.state ≡ true) (sym c.at_start.ensures) (begins_in_range c.args.model.now c.args.read c.requires.valid)

pub after_instant-showing-requires-clause-rise : goal.after_instant-showing-requires-clause-rise
after_instant-showing-requires-clause-rise c =
    let some : 0 < length c.as_slice-instants.result.now = some_there _ (sym c.is_empty.ensures ∙ c.if-is_empty.false) in
    let is = first_cut c.args.run.now.instants c.as_slice-instants.result.now c.instant_at-first.result.now c.as_slice-instants.ensures some (got _ 0 _ c.instant_at-first.ensures) in
    (subst ChangesRise is c.can_be_followed.ensures.instants.changes).0

pub after_instant-showing-requires-clause-settled : goal.after_instant-showing-requires-clause-settled
after_instant-showing-requires-clause-settled c =
    let some : 0 < length c.as_slice-instants.result.now = some_there _ (sym c.is_empty.ensures ∙ c.if-is_empty.false) in
    let is = first_cut c.args.run.now.instants c.as_slice-instants.result.now c.instant_at-first.result.now c.as_slice-instants.ensures some (got _ 0 _ c.instant_at-first.ensures) in
    let below : c.instant_at-first.result.now.time < c.args.run.now.reach = ltb-true _ _ (sym c.is_before.ensures ∙ c.if-not-is_before.false) in
    subst (λ (s : Showing). is_in_range (next_showing s c.args.read c.instant_at-first.result.now).state ≡ true) (sym c.at_start.ensures)
    (first_in_range c.args.model.now c.args.run.now c.args.read c.instant_at-first.result.now _ is c.can_be_followed.ensures.rise c.can_be_followed.ensures.instants.changes
    c.requires.there below c.can_be_followed.ensures.in_range)

pub loop-position-init : goal.loop-position-init
loop-position-init c =
    let some : 0 < length c.as_slice-instants.result.now = some_there _ (sym c.is_empty.ensures ∙ c.if-is_empty.false) in
    let is = first_cut c.args.run.now.instants c.as_slice-instants.result.now c.instant_at-first.result.now c.as_slice-instants.ensures some (got _ 0 _ c.instant_at-first.ensures) in
    let below : c.instant_at-first.result.now.time < c.args.run.now.reach = ltb-true _ _ (sym c.is_before.ensures ∙ c.if-not-is_before.false) in
    let start = first_showing c.args.model.now c.args.read in
    let showing : c.after_instant-showing.result ≡ next_showing start c.args.read c.instant_at-first.result.now =
    c.after_instant-showing.ensures ∙ ap (λ (s : Showing). next_showing s c.args.read c.instant_at-first.result.now) c.at_start.ensures in
    let segments : c.put.new.segments ≡ (c.instant_at-first.result.now.time, (next_showing start c.args.read c.instant_at-first.result.now).value) ∷ [] =
    c.in_ok-put.ensures
    ∙ (ap (λ (l : List (ℕ × Value)). l ++ (c.after_instant-showing.result.time, c.after_instant-showing.result.value) ∷ []) c.new-segments.ensures
    ∙ ap (λ (s : Showing). (s.time, s.value) ∷ []) showing) in
    let instants = c.as_slice-instants.result.now in
    let covers : CoversTouches (λ k. k ≡ cell_of c.args.read) 0 (c.instant_at-first.result.now ∷ drop 1 instants) c.args.positions.now =
    subst (λ (l : List Instant). CoversTouches (λ k. k ≡ cell_of c.args.read) 0 l c.args.positions.now) is c.requires.positions in
    record {
      at = 1;
      walk =
          same_walk c.args.model.now c.args.run.now c.args.read _ _ _ _ _ showing segments
          (walk_starts c.args.model.now c.args.run.now c.args.read c.instant_at-first.result.now _ is c.can_be_followed.ensures.rise c.can_be_followed.ensures.instants.changes
          c.requires.there below);
      covered =
          subst (CoversTouches (λ k. k ≡ cell_of c.args.read) 1 (drop 1 instants)) (sym c.behind_first-position-items.ensures)
          (covers_behind_first (λ k. k ≡ cell_of c.args.read) c.instant_at-first.result.now (drop 1 instants) c.args.positions.now covers);
    }

pub instant_at-instant-requires : goal.instant_at-instant-requires
instant_at-instant-requires c =
    within_all (λ rest. ValueWalk c.args.model.now c.args.run.now c.args.read rest c.loop-position.showing c.loop-position.segments) (λ k. k ≡ cell_of c.args.read)
    (λ instant rest. walk_still c.args.model.now c.args.run.now c.args.read c.requires.there instant rest c.loop-position.showing c.loop-position.segments)
    c.as_slice-instants.result.now c.behind_first-position-items.result.now c.loop-position.position-index c.loop-position-test.true
    c.loop-position.invariant

pub returns-then-not-is_before-2 : goal.returns-then-not-is_before-2
returns-then-not-is_before-2 c =
    let model = c.args.model.now in
    let run = c.args.run.now in
    let one = c.args.read in
    let instants = c.as_slice-instants.result.now in
    let items = c.behind_first-position-items.result.now in
    let i = c.loop-position.position-index in
    let position = get_or items i 0 in
    let instant : Instant = c.instant_at-instant.result.now in
    let walk : ValueWalk model run one (instant ∷ drop (position + 1) instants) c.loop-position.showing c.loop-position.segments =
    walk_there (λ rest. ValueWalk model run one rest c.loop-position.showing c.loop-position.segments) (λ k. k ≡ cell_of one)
    (λ instant rest. walk_still model run one c.requires.there instant rest c.loop-position.showing c.loop-position.segments) instants items i
    c.loop-position-test.true c.loop-position.invariant instant c.instant_at-instant.ensures in
    walk_ends model run one _ c.loop-position.showing c.loop-position.segments c.requires.there c.requires.shown
    (past_reach run.reach instant (drop (position + 1) instants) (instant ∷ drop (position + 1) instants) refl (ltb-false _ _ (sym c.is_before-in-loop-position.ensures ∙ c.if-not-is_before-2.true)))
    walk

pub after_instant-next-requires-clause-time : goal.after_instant-next-requires-clause-time
after_instant-next-requires-clause-time c =
    let model = c.args.model.now in
    let run = c.args.run.now in
    let one = c.args.read in
    let instants = c.as_slice-instants.result.now in
    let items = c.behind_first-position-items.result.now in
    let i = c.loop-position.position-index in
    let position = get_or items i 0 in
    let instant : Instant = c.instant_at-instant.result.now in
    let walk : ValueWalk model run one (instant ∷ drop (position + 1) instants) c.loop-position.showing c.loop-position.segments =
    walk_there (λ rest. ValueWalk model run one rest c.loop-position.showing c.loop-position.segments) (λ k. k ≡ cell_of one)
    (λ instant rest. walk_still model run one c.requires.there instant rest c.loop-position.showing c.loop-position.segments) instants items i
    c.loop-position-test.true c.loop-position.invariant instant c.instant_at-instant.ensures in
    omega (arith, walk.at.rise.0)

pub after_instant-next-requires-clause-range : goal.after_instant-next-requires-clause-range
after_instant-next-requires-clause-range c =
    let model = c.args.model.now in
    let run = c.args.run.now in
    let one = c.args.read in
    let instants = c.as_slice-instants.result.now in
    let items = c.behind_first-position-items.result.now in
    let i = c.loop-position.position-index in
    let position = get_or items i 0 in
    let instant : Instant = c.instant_at-instant.result.now in
    let walk : ValueWalk model run one (instant ∷ drop (position + 1) instants) c.loop-position.showing c.loop-position.segments =
    walk_there (λ rest. ValueWalk model run one rest c.loop-position.showing c.loop-position.segments) (λ k. k ≡ cell_of one)
    (λ instant rest. walk_still model run one c.requires.there instant rest c.loop-position.showing c.loop-position.segments) instants items i
    c.loop-position-test.true c.loop-position.invariant instant c.instant_at-instant.ensures in
    walk_in_range model run one c.requires.there (instant ∷ drop (position + 1) instants) c.loop-position.showing c.loop-position.segments c.can_be_followed.ensures.in_range walk

pub after_instant-next-requires-clause-rise : goal.after_instant-next-requires-clause-rise
after_instant-next-requires-clause-rise c =
    let model = c.args.model.now in
    let run = c.args.run.now in
    let one = c.args.read in
    let instants = c.as_slice-instants.result.now in
    let items = c.behind_first-position-items.result.now in
    let i = c.loop-position.position-index in
    let position = get_or items i 0 in
    let instant : Instant = c.instant_at-instant.result.now in
    let walk : ValueWalk model run one (instant ∷ drop (position + 1) instants) c.loop-position.showing c.loop-position.segments =
    walk_there (λ rest. ValueWalk model run one rest c.loop-position.showing c.loop-position.segments) (λ k. k ≡ cell_of one)
    (λ instant rest. walk_still model run one c.requires.there instant rest c.loop-position.showing c.loop-position.segments) instants items i
    c.loop-position-test.true c.loop-position.invariant instant c.instant_at-instant.ensures in
    walk.at.changes.0

pub after_instant-next-requires-clause-settled : goal.after_instant-next-requires-clause-settled
after_instant-next-requires-clause-settled c =
    let model = c.args.model.now in
    let run = c.args.run.now in
    let one = c.args.read in
    let instants = c.as_slice-instants.result.now in
    let items = c.behind_first-position-items.result.now in
    let i = c.loop-position.position-index in
    let position = get_or items i 0 in
    let instant : Instant = c.instant_at-instant.result.now in
    let walk : ValueWalk model run one (instant ∷ drop (position + 1) instants) c.loop-position.showing c.loop-position.segments =
    walk_there (λ rest. ValueWalk model run one rest c.loop-position.showing c.loop-position.segments) (λ k. k ≡ cell_of one)
    (λ instant rest. walk_still model run one c.requires.there instant rest c.loop-position.showing c.loop-position.segments) instants items i
    c.loop-position-test.true c.loop-position.invariant instant c.instant_at-instant.ensures in
    let below : instant.time < run.reach = ltb-true _ _ (sym c.is_before-in-loop-position.ensures ∙ c.if-not-is_before-2.false) in
    next_in_range model run one instant (drop (position + 1) instants) c.loop-position.showing c.loop-position.segments c.requires.there walk c.can_be_followed.ensures.in_range below

pub loop-position-preserved : goal.loop-position-preserved
loop-position-preserved c =
    let model = c.args.model.now in
    let run = c.args.run.now in
    let one = c.args.read in
    let instants = c.as_slice-instants.result.now in
    let items = c.behind_first-position-items.result.now in
    let i = c.loop-position.position-index in
    let position = get_or items i 0 in
    let instant : Instant = c.instant_at-instant.result.now in
    let walk : ValueWalk model run one (instant ∷ drop (position + 1) instants) c.loop-position.showing c.loop-position.segments =
    walk_there (λ rest. ValueWalk model run one rest c.loop-position.showing c.loop-position.segments) (λ k. k ≡ cell_of one)
    (λ instant rest. walk_still model run one c.requires.there instant rest c.loop-position.showing c.loop-position.segments) instants items i
    c.loop-position-test.true c.loop-position.invariant instant c.instant_at-instant.ensures in
    let below : instant.time < run.reach = ltb-true _ _ (sym c.is_before-in-loop-position.ensures ∙ c.if-not-is_before-2.false) in
    let next : Showing = next_showing c.loop-position.showing one instant in
    let segments : c.put-in-loop-position.new.segments ≡ c.loop-position.segments ++ cond (same_value c.loop-position.showing.value next.value) [] ((instant.time, next.value) ∷ []) =
    c.in_ok-put-2.ensures
    ∙ (ap (λ (b : Bool). c.loop-position.segments ++ cond b [] ((c.after_instant-next.result.time, c.after_instant-next.result.value) ∷ [])) c.same_value.ensures
    ∙ ap (λ (s : Showing). c.loop-position.segments ++ cond (same_value c.loop-position.showing.value s.value) [] ((s.time, s.value) ∷ [])) c.after_instant-next.ensures) in
    record {
      at = position + 1;
      walk =
          same_walk model run one _ _ _ _ _ c.after_instant-next.ensures segments
          (walk_next model run one instant (drop (position + 1) instants) c.loop-position.showing c.loop-position.segments c.requires.there walk c.requires.shown below);
      covered =
          covered_there (λ rest. ValueWalk model run one rest c.loop-position.showing c.loop-position.segments) (λ k. k ≡ cell_of one)
          (λ instant rest. walk_still model run one c.requires.there instant rest c.loop-position.showing c.loop-position.segments) instants items i
          c.loop-position-test.true c.loop-position.invariant;
    }

pub returns : goal.returns
returns c =
    let model = c.args.model.now in
    let run = c.args.run.now in
    let one = c.args.read in
    let items = c.behind_first-position-items.result.now in
    walk_ends model run one [] c.loop-position.showing c.loop-position.segments c.requires.there c.requires.shown (λ t below. tt)
    (at_end (λ rest. ValueWalk model run one rest c.loop-position.showing c.loop-position.segments) (λ k. k ≡ cell_of one)
    (λ instant rest. walk_still model run one c.requires.there instant rest c.loop-position.showing c.loop-position.segments) c.as_slice-instants.result.now
    (subst (StandsBefore (λ rest. ValueWalk model run one rest c.loop-position.showing c.loop-position.segments) (λ k. k ≡ cell_of one) c.as_slice-instants.result.now)
    (drop_all c.loop-position.position-index items c.loop-position-test.false) c.loop-position.invariant))
