use Rattle.std.proofs.Common.{List, ◌≤◌, length, take, drop, ap, sym, subst, ◌∙◌, arith}
use Rattle.std.specs.List.{All}
use Rattle.run_data.specs.declared.runs.Instant.{Instant}
use Rattle.run_data.specs.RunFrames.{frames_in_instants}
use Rattle.bench.specs.HeldSteps.{AreValidFrames}
use Rattle.run_data.specs.Records.{IsValid, record_of}
use Rattle.bench.specs.Noting.{Notes, between}
use Rattle.bench.proofs.KnownRuns.{held_first, noted_run, noted_valid}
use Rattle.bench.proofs.SharedInstants.{all_between, back_within, front_within, notes_all}
use Rattle.bench.proofs.noting.note_run.Goals as goal

pub between-instants-requires-clause-front : goal.between-instants-requires-clause-front
between-instants-requires-clause-front c =
    subst (λ (l : List Instant). c.args.front ≤ length l) (sym c.as_slice.ensures) (front_within c.args.old.now c.args.run.now.instants c.args.front c.args.back c.requires.shares)

pub between-instants-requires-clause-back : goal.between-instants-requires-clause-back
between-instants-requires-clause-back c =
    subst (λ (l : List Instant). c.args.back ≤ length (drop c.args.front l)) (sym c.as_slice.ensures)
    (back_within c.args.old.now c.args.run.now.instants c.args.front c.args.back c.requires.shares)

pub note_instants-requires-clause-valid : goal.note_instants-requires-clause-valid
note_instants-requires-clause-valid c =
    subst (λ (instants : List Instant). AreValidFrames c.args.book.now.model instants) (sym (c.between-instants.ensures ∙ ap (between c.args.front c.args.back) c.as_slice.ensures))
    (all_between c.args.old.now c.args.run.now.instants c.args.front c.args.back c.requires.shares
    (λ (instant : Instant). All (All (λ frame. IsValid c.args.book.now.model (record_of frame))) instant.batches) c.requires.run)

pub note_instants-requires-clause-first : goal.note_instants-requires-clause-first
note_instants-requires-clause-first c = omega (arith, c.len-first.ensures)

pub note_instants-requires-clause-old : goal.note_instants-requires-clause-old
note_instants-requires-clause-old c = held_first c.args.book.now.records c.len-first.result c.args.old.now c.len-first.ensures c.requires.old

pub returns-clause-noted : goal.returns-clause-noted
returns-clause-noted c =
    noted_run c.args.book.now.records c.note_instants.new.book.records c.len-first.result (frames_in_instants c.args.run.now.instants) c.new-noted.result c.note_instants.new.noted
    c.len-first.ensures c.new-noted.ensures
    (notes_all c.args.old.now c.args.run.now.instants c.args.front c.args.back c.requires.shares c.len-first.result c.args.book.now.records c.note_instants.new.book.records c.new-noted.result
    c.note_instants.new.noted (held_first c.args.book.now.records c.len-first.result c.args.old.now c.len-first.ensures c.requires.old)
    (subst (λ (l : List Instant). Notes (take c.len-first.result c.args.book.now.records) (frames_in_instants l) c.args.book.now.records c.note_instants.new.book.records c.new-noted.result
    c.note_instants.new.noted) (c.between-instants.ensures ∙ ap (between c.args.front c.args.back) c.as_slice.ensures) c.in_ok-note_instants.ensures.notes))

pub returns-clause-valid : goal.returns-clause-valid
returns-clause-valid c =
    noted_valid c.args.book.now.model c.args.book.now.records c.args.run.now c.note_instants.new.noted (returns-clause-noted c) c.requires.run

pub returns-clause-held : goal.returns-clause-held
returns-clause-held c =
    (notes_all c.args.old.now c.args.run.now.instants c.args.front c.args.back c.requires.shares c.len-first.result c.args.book.now.records c.note_instants.new.book.records c.new-noted.result
    c.note_instants.new.noted (held_first c.args.book.now.records c.len-first.result c.args.old.now c.len-first.ensures c.requires.old)
    (subst (λ (l : List Instant). Notes (take c.len-first.result c.args.book.now.records) (frames_in_instants l) c.args.book.now.records c.note_instants.new.book.records c.new-noted.result
    c.note_instants.new.noted) (c.between-instants.ensures ∙ ap (between c.args.front c.args.back) c.as_slice.ensures) c.in_ok-note_instants.ensures.notes)).held
