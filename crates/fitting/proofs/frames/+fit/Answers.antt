-- The frame of a task, and then those of its children, item by item.
use Rattle.std.proofs.Common.{◌≡◌, ◌∙◌, ◌+◌, ◌++◌, ℕ, suc, List, [], ◌∷◌, Some, None, Option, drop, length, refl, sym, ap, subst, arith}
use Rattle.std.proofs.lemmas.Bool.{false≢true}
use Rattle.std.specs.List.{list_any}
use Rattle.effect_cells.specs.declared.effects.CellState.{CellState}
use Rattle.run_data.specs.TaskFrames.{Frame}
use Rattle.run_data.specs.declared.frames.Item.{Item}
use Rattle.run_data.specs.declared.jobs.Job.{Job}
use Rattle.run_data.specs.Frames.{child_job, room_of}
use Rattle.run_data.specs.Records.{Agrees, IsValid, record_of}
use Rattle.run_data.specs.laws.FittingFrames.{FitsJob}
use Rattle.run_data.specs.laws.Generations.{child_jobs}
use Rattle.engine_core.specs.BatchViews.{CanEmitAll}
use Rattle.fitting.specs.Fitting.{job_of_frame, FitChild, FitChildren, Lacks, Finds, FitsItem, MaySeeChildren, is_child}
use Rattle.fitting.proofs.Children.{of_child, with_children, none_made, none_found, item_on, item_lacks, first_may, child_no_path, child_no_frame, child_sees, item_here, none_left}
use Rattle.fitting.proofs.Finding.{found_there, each_among}
use Rattle.fitting.specs.DecidedJobs.{DecidesAll, decides_first, decides_all}
use Rattle.fitting.proofs.Parts.{lacks_frame}
use Rattle.fitting.proofs.Rooms.{child_is_less, is_child as is_child_path, has_room}
use Rattle.fitting.proofs.Stepping.{fits_step, may_go_down}
use Rattle.fitting.proofs.frames.+fit.Goals as goal

-- ---- a child

pub fit_child-returns-in_default-find : goal.fit_child-returns-in_default-find
fit_child-returns-in_default-find t c =
    let some = sym c.in-Some.is ∙ c.in_ok-path.ensures.child in
    let child = is_child_path c.args.maker.now c.in-Some.path c.args.number some in
    let room = child_is_less c.args.maker.now c.in-Some.path c.args.number c.children.ensures.path (has_room c.args.maker.now c.in-Some.path c.args.number some) child in
    child_no_path c.args.model.now c.args.bound c.args.old.now c.args.maker.now c.in-Some.path
    (child_job c.args.model.now c.args.maker.now c.args.number c.args.view.now c.args.kind c.args.arguments.now) room (sym child) (sym c.in_default-find.ensures)

pub fit_child-returns-then-not-begins : goal.fit_child-returns-then-not-begins
fit_child-returns-then-not-begins t c =
    let some = sym c.in-Some.is ∙ c.in_ok-path.ensures.child in
    let child = is_child_path c.args.maker.now c.in-Some.path c.args.number some in
    let room = child_is_less c.args.maker.now c.in-Some.path c.args.number c.children.ensures.path (has_room c.args.maker.now c.in-Some.path c.args.number some) child in
    child_no_frame c.args.model.now c.args.bound c.args.old.now c.args.maker.now c.in-Some.path
    (child_job c.args.model.now c.args.maker.now c.args.number c.args.view.now c.args.kind c.args.arguments.now) c.in-Some-find.frame.now room (sym child) (sym c.in-Some-find.ensures)
    (λ fits. false≢true (sym c.if-not-begins.true ∙ c.begins.ensures.1 (c.before-2.ensures ∙ fits.state)))

pub fit_child-fit_frame-requires : goal.fit_child-fit_frame-requires
fit_child-fit_frame-requires t c =
    let some = sym c.in-Some.is ∙ c.in_ok-path.ensures.child in
    let child = is_child_path c.args.maker.now c.in-Some.path c.args.number some in
    let there = found_there c.args.old.now c.in-Some.path c.in-Some-find.frame.now (sym c.in-Some-find.ensures) in
    let room : room_of c.args.maker.now ≡ suc (room_of c.in-Some-find.frame.now.path) =
    child_is_less c.args.maker.now c.in-Some.path c.args.number c.children.ensures.path (has_room c.args.maker.now c.in-Some.path c.args.number some) child
    ∙ ap (λ (p : List ℕ). suc (room_of p)) (sym there.1) in
    let state = sym c.before-2.ensures ∙ c.begins.ensures.0 c.if-not-begins.false in (
      omega (arith, c.decreases, room),
      (
        c.requires.bound,
        (
          c.requires.old,
          (
            there.0,
            (
              omega arith,
              child_sees c.args.model.now c.args.maker.now c.in-Some-find.frame.now
                  (child_job c.args.model.now c.args.maker.now c.args.number c.args.view.now c.args.kind c.args.arguments.now) room (there.1 ∙ child) state c.requires.may,
            ),
          ),
        ),
      ),
    )

pub fit_child-returns : goal.fit_child-returns
fit_child-returns t c =
    let some = sym c.in-Some.is ∙ c.in_ok-path.ensures.child in
    let child = is_child_path c.args.maker.now c.in-Some.path c.args.number some in
    let there = found_there c.args.old.now c.in-Some.path c.in-Some-find.frame.now (sym c.in-Some-find.ensures) in
    let room : room_of c.args.maker.now ≡ suc (room_of c.in-Some-find.frame.now.path) =
    child_is_less c.args.maker.now c.in-Some.path c.args.number c.children.ensures.path (has_room c.args.maker.now c.in-Some.path c.args.number some) child
    ∙ ap (λ (p : List ℕ). suc (room_of p)) (sym there.1) in
    let state = sym c.before-2.ensures ∙ c.begins.ensures.0 c.if-not-begins.false in
    of_child c.args.model.now c.args.bound (room_of c.args.maker.now) c.args.old.now c.in-Some-find.frame.now
    (child_job c.args.model.now c.args.maker.now c.args.number c.args.view.now c.args.kind c.args.arguments.now) room (there.1 ∙ child) state c.in_ok-yes.yes c.args.found.now.items c.fit_frame.new.found.items
    c.in_ok-yes.ensures

-- ---- the children of a frame

pub fit_children-returns-then-not-make_children : goal.fit_children-returns-then-not-make_children
fit_children-returns-then-not-make_children t c =
    let is = c.as_slice-items.ensures ∙ c.items.ensures in
    none_found c.args.model.now c.args.bound (room_of c.args.frame.now.path) c.args.old.now
    (child_jobs c.args.model.now c.args.frame.now.path c.args.number c.args.view.now c.args.frame.now.items) c.args.found.now.items
    (none_made c.args.model.now c.args.frame.now.path c.args.number c.args.view.now c.args.frame.now.items
    (ap (λ (l : List Item). list_any is_child l) (sym is) ∙ sym c.make_children.ensures ∙ c.if-not-make_children.true))

pub fit_children-loop-item-init : goal.fit_children-loop-item-init
fit_children-loop-item-init t c =
    let is = c.as_slice-items.ensures ∙ c.items.ensures in
    let job = job_of_frame c.args.frame.now c.args.view.now in
    let room = room_of c.args.frame.now.path in
    let step =
    fits_step c.fitting_frames_are_the_batch.ensures.wave c.steps_are_small.ensures.jobs c.args.model.now c.args.bound room job c.args.frame.now c.requires.may c.requires.fits in
    let down =
    may_go_down c.steps_are_small.ensures.small c.budget_decides_the_end_alone.ensures.within c.steps_are_small.ensures.children c.args.model.now c.args.bound room c.args.number job c.args.frame.now
    c.cells.ensures.valid c.requires.bound c.requires.may step in
    let whole = child_jobs c.args.model.now c.args.frame.now.path c.args.number c.args.view.now c.as_slice-items.result.now in
    record {
      decides =
          subst
          (λ (v : List CellState).
          DecidesAll (FitChild c.args.model.now c.args.bound room) c.args.old.now whole (child_jobs c.args.model.now c.args.frame.now.path c.args.number v c.as_slice-items.result.now) c.args.found.now.items
          c.args.found.now.items)
          (sym c.in_ok-seen.ensures) (decides_first (FitChild c.args.model.now c.args.bound room) c.args.old.now whole c.args.found.now.items c.args.found.now.items refl);
      can =
          subst (λ (v : List CellState). CanEmitAll v c.as_slice-items.result.now) (sym c.in_ok-seen.ensures)
          (subst (λ (l : List Item). CanEmitAll c.args.view.now l) (sym is) down.effects);
      may =
          subst (λ (v : List CellState). MaySeeChildren c.args.model.now room (child_jobs c.args.model.now c.args.frame.now.path c.args.number v c.as_slice-items.result.now)) (sym c.in_ok-seen.ensures)
          (subst (λ (l : List Item). MaySeeChildren c.args.model.now room (child_jobs c.args.model.now c.args.frame.now.path c.args.number c.args.view.now l)) (sym is) down.children);
      few = omega arith;
    }

pub fit_children-fit_item-requires : goal.fit_children-fit_item-requires
fit_children-fit_item-requires t c =
    let is = c.as_slice-items.ensures ∙ c.items.ensures in
    let job = job_of_frame c.args.frame.now c.args.view.now in
    let room = room_of c.args.frame.now.path in
    let step =
    fits_step c.fitting_frames_are_the_batch.ensures.wave c.steps_are_small.ensures.jobs c.args.model.now c.args.bound room job c.args.frame.now c.requires.may c.requires.fits in
    let down =
    may_go_down c.steps_are_small.ensures.small c.budget_decides_the_end_alone.ensures.within c.steps_are_small.ensures.children c.args.model.now c.args.bound room c.args.number job c.args.frame.now
    c.cells.ensures.valid c.requires.bound c.requires.may step in
    let long : length c.as_slice-items.result.now ≡ length c.args.frame.now.items = ap (λ (l : List Item). length l) is in
    let rooms : room_of c.path.result.now ≡ room_of c.args.frame.now.path = ap (λ (p : List ℕ). room_of p) c.path.ensures in
    let here = item_here c.as_slice-items.result.now c.loop-item.item-index c.item-item.result (omega (arith, c.loop-item-test.true)) c.item-item.is in (
      omega (arith, c.decreases, rooms),
      (
        c.requires.bound,
        (
          c.requires.old,
          (
            omega (arith, c.loop-item.invariant.few, c.loop-item-test.true, down.few, long, c.requires.number),
            (
              (subst (λ (l : List Item). CanEmitAll c.loop-item.seen l) here c.loop-item.invariant.can).0,
              subst (λ (p : List ℕ). MaySeeChildren c.args.model.now (room_of p) (child_jobs c.args.model.now p c.loop-item.next c.loop-item.seen (c.item-item.result ∷ []))) (sym c.path.ensures)
                  (first_may c.args.model.now c.args.bound c.args.frame.now.path c.args.old.now [] [] c.item-item.result (drop (c.loop-item.item-index + 1) c.as_slice-items.result.now) c.loop-item.next
                  c.loop-item.seen
                  (subst (λ (l : List Item). MaySeeChildren c.args.model.now room (child_jobs c.args.model.now c.args.frame.now.path c.loop-item.next c.loop-item.seen l)) here
                  c.loop-item.invariant.may)),
            ),
          ),
        ),
      ),
    )

pub fit_children-returns-in_default : goal.fit_children-returns-in_default
fit_children-returns-in_default t c =
    let is = c.as_slice-items.ensures ∙ c.items.ensures in
    let room = room_of c.args.frame.now.path in
    let whole = child_jobs c.args.model.now c.args.frame.now.path c.args.number c.args.view.now c.as_slice-items.result.now in
    let here = item_here c.as_slice-items.result.now c.loop-item.item-index c.item-item.result (omega (arith, c.loop-item-test.true)) c.item-item.is in
    let fits =
    subst (λ (p : List ℕ). FitsItem c.args.model.now c.args.bound p c.args.old.now c.item-item.result c.loop-item.next c.loop-item.seen None c.fit_item.new.seen c.loop-item.found.items c.fit_item.new.found.items)
    c.path.ensures
    (subst
    (λ (o : Option ℕ).
    FitsItem c.args.model.now c.args.bound c.path.result.now c.args.old.now c.item-item.result c.loop-item.next c.loop-item.seen o c.fit_item.new.seen c.loop-item.found.items c.fit_item.new.found.items)
    c.in_default.is c.in_ok-later.ensures) in
    subst (λ (l : List Item). Lacks (FitChildren c.args.model.now c.args.bound room (child_jobs c.args.model.now c.args.frame.now.path c.args.number c.args.view.now l)) c.args.old.now) is
    (item_lacks c.args.model.now c.args.bound c.args.frame.now.path c.args.old.now whole c.args.found.now.items c.item-item.result (drop (c.loop-item.item-index + 1) c.as_slice-items.result.now)
    c.loop-item.next c.loop-item.seen c.fit_item.new.seen c.loop-item.found.items c.fit_item.new.found.items
    (subst
    (λ (l : List Item).
    DecidesAll (FitChild c.args.model.now c.args.bound room) c.args.old.now whole (child_jobs c.args.model.now c.args.frame.now.path c.loop-item.next c.loop-item.seen l) c.args.found.now.items
    c.loop-item.found.items)
    here c.loop-item.invariant.decides) fits)

pub fit_children-loop-item-preserved : goal.fit_children-loop-item-preserved
fit_children-loop-item-preserved t c =
    let room = room_of c.args.frame.now.path in
    let whole = child_jobs c.args.model.now c.args.frame.now.path c.args.number c.args.view.now c.as_slice-items.result.now in
    let here = item_here c.as_slice-items.result.now c.loop-item.item-index c.item-item.result (omega (arith, c.loop-item-test.true)) c.item-item.is in
    let fits =
    subst
    (λ (p : List ℕ).
    FitsItem c.args.model.now c.args.bound p c.args.old.now c.item-item.result c.loop-item.next c.loop-item.seen (Some c.in-Some.later) c.fit_item.new.seen c.loop-item.found.items c.fit_item.new.found.items)
    c.path.ensures
    (subst
    (λ (o : Option ℕ).
    FitsItem c.args.model.now c.args.bound c.path.result.now c.args.old.now c.item-item.result c.loop-item.next c.loop-item.seen o c.fit_item.new.seen c.loop-item.found.items c.fit_item.new.found.items)
    c.in-Some.is c.in_ok-later.ensures) in
    let on =
    item_on c.args.model.now c.args.bound c.args.frame.now.path c.args.old.now whole c.args.found.now.items c.item-item.result (drop (c.loop-item.item-index + 1) c.as_slice-items.result.now)
    c.loop-item.next c.in-Some.later c.loop-item.item-index c.loop-item.seen c.fit_item.new.seen c.loop-item.found.items c.fit_item.new.found.items
    (subst
    (λ (l : List Item).
    DecidesAll (FitChild c.args.model.now c.args.bound room) c.args.old.now whole (child_jobs c.args.model.now c.args.frame.now.path c.loop-item.next c.loop-item.seen l) c.args.found.now.items
    c.loop-item.found.items)
    here c.loop-item.invariant.decides)
    (subst (λ (l : List Item). CanEmitAll c.loop-item.seen l) here c.loop-item.invariant.can)
    (subst (λ (l : List Item). MaySeeChildren c.args.model.now room (child_jobs c.args.model.now c.args.frame.now.path c.loop-item.next c.loop-item.seen l)) here c.loop-item.invariant.may) fits in
    record {
      decides = on.decides;
      can = on.can;
      may = on.may;
      few = omega (arith, on.few, c.loop-item.invariant.few);
    }

pub fit_children-returns : goal.fit_children-returns
fit_children-returns t c =
    let is = c.as_slice-items.ensures ∙ c.items.ensures in
    let room = room_of c.args.frame.now.path in
    let whole = child_jobs c.args.model.now c.args.frame.now.path c.args.number c.args.view.now c.as_slice-items.result.now in
    subst (λ (l : List Item). Finds (FitChildren c.args.model.now c.args.bound room (child_jobs c.args.model.now c.args.frame.now.path c.args.number c.args.view.now l)) c.args.found.now.items c.loop-item.found.items) is
    (decides_all (FitChild c.args.model.now c.args.bound room) c.args.old.now whole c.args.found.now.items c.loop-item.found.items
    (subst (λ (l : List Job). DecidesAll (FitChild c.args.model.now c.args.bound room) c.args.old.now whole l c.args.found.now.items c.loop-item.found.items)
    (none_left c.args.model.now c.args.frame.now.path c.loop-item.next c.loop-item.seen c.as_slice-items.result.now c.loop-item.item-index (omega (arith, c.loop-item-test.false)))
    c.loop-item.invariant.decides))

-- ---- a frame

pub fit_frame-returns-then-cost-bound : goal.fit_frame-returns-then-cost-bound
fit_frame-returns-then-cost-bound t c =
    lacks_frame c.args.model.now c.args.bound (room_of c.args.frame.now.path) c.args.number c.args.old.now (job_of_frame c.args.frame.now c.args.view.now) c.args.frame.now c.requires.there refl
    (λ fits. (let less = fits.cost in absurd (omega (arith, less, c.if-cost-bound.true, c.cost.ensures))))

pub fit_frame-returns-then-not-agree : goal.fit_frame-returns-then-not-agree
fit_frame-returns-then-not-agree t c =
    lacks_frame c.args.model.now c.args.bound (room_of c.args.frame.now.path) c.args.number c.args.old.now (job_of_frame c.args.frame.now c.args.view.now) c.args.frame.now c.requires.there refl
    (λ fits. false≢true (sym c.if-not-agree.true ∙ c.agree.ensures.1 (subst (Agrees c.args.view.now) (sym (c.as_slice-reads.ensures ∙ c.reads.ensures)) fits.reads)))

pub fit_frame-fit_children-requires : goal.fit_frame-fit_children-requires
fit_frame-fit_children-requires t c = (
  omega (arith, c.decreases),
  (
    c.requires.bound,
    (
      c.requires.old,
      (
        c.requires.number,
        (
          c.requires.may,
          record {
            path = refl;
            state = refl;
            valid = each_among (λ (f : Frame). IsValid c.args.model.now (record_of f)) c.args.old.now c.args.frame.now c.requires.old.valid c.requires.there;
            reads = subst (Agrees c.args.view.now) (c.as_slice-reads.ensures ∙ c.reads.ensures) (c.agree.ensures.0 c.if-not-agree.false);
            cost = omega (arith, c.cost.ensures, c.if-cost-bound.false);
          },
        ),
      ),
    ),
  ),
)

pub fit_frame-returns : goal.fit_frame-returns
fit_frame-returns t c =
    let fits : FitsJob c.args.model.now c.args.bound (job_of_frame c.args.frame.now c.args.view.now) c.args.frame.now = record {
      path = refl;
      state = refl;
      valid = each_among (λ (f : Frame). IsValid c.args.model.now (record_of f)) c.args.old.now c.args.frame.now c.requires.old.valid c.requires.there;
      reads = subst (Agrees c.args.view.now) (c.as_slice-reads.ensures ∙ c.reads.ensures) (c.agree.ensures.0 c.if-not-agree.false);
      cost = omega (arith, c.cost.ensures, c.if-cost-bound.false);
    } in
    with_children c.args.model.now c.args.bound (room_of c.args.frame.now.path) c.args.number c.args.old.now (job_of_frame c.args.frame.now c.args.view.now) c.args.frame.now c.requires.there refl fits
    c.in_ok-yes.yes c.args.found.now.items c.push.new.self.items c.fit_children.new.found.items
    (c.in_ok-push.ensures.items ∙ ap (λ (f : Frame). c.args.found.now.items ++ f ∷ []) c.in_ok-shared.ensures) c.in_ok-yes.ensures
