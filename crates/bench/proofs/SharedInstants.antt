-- The frames of instants that a run shares with one that is held are not noted.
use Rattle.std.proofs.Common.{◌≡◌, ℕ, ◌+◌, ◌-◌, ◌≤◌, List, [], ◌∷◌, ◌++◌, length, take, drop, if◌then◌else◌, refl, ap, sym, subst, ◌∙◌, arith, append_assoc, length-append}
use Rattle.std.specs.List.{All}
use Rattle.std.proofs.lemmas.List.{append-nil}
use Rattle.std.proofs.lemmas.List.Elements.{All-cons, All-head, All-nil, All-tail}
use Rattle.run_data.specs.declared.frames.Record.{Record}
use Rattle.run_data.specs.declared.runs.Instant.{Instant}
use Rattle.run_data.specs.RunFrames.{frames_in_batches, frames_in_instants}
use Rattle.run_data.specs.TaskFrames.{Frame}
use Rattle.record_book.specs.StoredSteps.{IsHeldIn}
use Rattle.resimulate.specs.SharedEnds.{SharesEnds}
use Rattle.bench.specs.HeldSteps.{Extends, HoldsInstants}
use Rattle.bench.specs.Noting.{Notes, between, unheld}
use Rattle.bench.proofs.Extending.{all_held_on, first_then, more_then, nothing_more}
use Rattle.bench.proofs.NotedFrames.{in_instants, noted_then}

-- ---- lists in front of others

drop_front : {A : Type 0} (front rest : List A) → drop (length front) (front ++ rest) ≡ rest
drop_front [] rest = refl
drop_front (one ∷ front) rest = drop_front front rest

take_front : {A : Type 0} (front rest : List A) → take (length front) (front ++ rest) ≡ front
take_front [] rest = refl
take_front (one ∷ front) rest = ap (λ l. one ∷ l) (take_front front rest)

all_front : {A : Type 0} (P : A → Type 0) (front rest : List A) → All P (front ++ rest) → All P front
all_front P [] rest all = All-nil P
all_front P (one ∷ front) rest all = All-cons P one front (All-head P one (front ++ rest) all) (all_front P front rest (All-tail P one (front ++ rest) all))

all_back : {A : Type 0} (P : A → Type 0) (front rest : List A) → All P (front ++ rest) → All P rest
all_back P [] rest all = all
all_back P (one ∷ front) rest all = all_back P front rest (All-tail P one (front ++ rest) all)

frames_append : (front rest : List Instant) → frames_in_instants (front ++ rest) ≡ frames_in_instants front ++ frames_in_instants rest
frames_append [] rest = refl
frames_append (one ∷ front) rest =
    ap (λ (l : List Frame). frames_in_batches one.batches ++ l) (frames_append front rest)
    ∙ sym (append_assoc (frames_in_batches one.batches) (frames_in_instants front) (frames_in_instants rest))

-- nothing is shared
pub shares_none : (old instants : List Instant) → SharesEnds old instants 0 0
shares_none old instants = record {
  front = [];
  between = instants;
  old_between = old;
  back = [];
  is = sym (append-nil instants);
  is_old = sym (append-nil old);
  first = refl;
  last = refl;
}

-- ---- frames that are held

unheld_held : (records : List Record) (frames : List Frame) → All (IsHeldIn records) frames → unheld records frames ≡ []
unheld_held records [] all = refl
unheld_held records (frame ∷ rest) all =
    ap (λ held. if held then unheld records rest else frame ∷ unheld records rest) (All-head (IsHeldIn records) frame rest all)
    ∙ unheld_held records rest (All-tail (IsHeldIn records) frame rest all)

held_notes : (first records : List Record) (frames : List Frame) (noted : List Frame) → Extends first records → All (IsHeldIn first) frames → Notes first frames records records noted noted
held_notes first records frames noted extends all = record {
  extends = nothing_more records records refl;
  held = all_held_on first records extends frames all;
  is_noted = sym (append-nil noted) ∙ ap (λ frames. noted ++ frames) (sym (unheld_held first frames all));
}

-- ---- the instants between

module _ (old instants : List Instant) (front back : ℕ) (shares : SharesEnds old instants front back) where
  dropped : drop front instants ≡ shares.between ++ shares.back
  dropped =
      ap (drop front) shares.is ∙ ap (λ n. drop n (shares.front ++ (shares.between ++ shares.back))) (sym shares.first) ∙ drop_front shares.front (shares.between ++ shares.back)

  long : length (drop front instants) ≡ length shares.between + back
  long = ap (λ (l : List Instant). length l) dropped ∙ length-append shares.between shares.back ∙ ap (λ n. length shares.between + n) shares.last

  pub front_within : front ≤ length instants
  front_within =
      let whole = ap (λ (l : List Instant). length l) shares.is in
      let parts = length-append shares.front (shares.between ++ shares.back) in
      let first = shares.first in
      omega (arith, whole, parts, first)

  pub back_within : back ≤ length (drop front instants)
  back_within = (let l = long in omega (arith, l))

  pub between_is : between front back instants ≡ shares.between
  between_is =
      let less : length (drop front instants) - back ≡ length shares.between = (let l = long in omega (arith, l)) in
      ap (λ n. take n (drop front instants)) less ∙ ap (take (length shares.between)) dropped ∙ take_front shares.between shares.back

  pub all_between : (P : Instant → Type 0) → All P instants → All P (between front back instants)
  all_between P all =
      subst (All P) (sym between_is)
      (all_front P shares.between shares.back (all_back P shares.front (shares.between ++ shares.back) (subst (All P) shares.is all)))

  frames_are : (middle : List Instant) → frames_in_instants (shares.front ++ (middle ++ shares.back))
      ≡ frames_in_instants shares.front ++ (frames_in_instants middle ++ frames_in_instants shares.back)
  frames_are middle = frames_append shares.front (middle ++ shares.back) ∙ ap (λ (l : List Frame). frames_in_instants shares.front ++ l) (frames_append middle shares.back)

  pub notes_all : (count : ℕ) (before after : List Record) (noted later : List Frame) → HoldsInstants (take count before) old →
      Notes (take count before) (frames_in_instants (between front back instants)) before after noted later → Notes (take count before) (frames_in_instants instants) before after noted later
  notes_all count before after noted later holds notes =
      subst (λ (frames : List Frame). Notes (take count before) frames before after noted later) (sym (ap frames_in_instants shares.is ∙ frames_are shares.between))
      (noted_then (take count before) before before after (frames_in_instants shares.front) (frames_in_instants shares.between ++ frames_in_instants shares.back) noted noted later
      (held_notes (take count before) before (frames_in_instants shares.front) noted (first_then count before) in_front)
      (noted_then (take count before) before after after (frames_in_instants shares.between) (frames_in_instants shares.back) noted later later
      (subst (λ (l : List Instant). Notes (take count before) (frames_in_instants l) before after noted later) between_is notes)
      (held_notes (take count before) after (frames_in_instants shares.back) later (more_then (take count before) before after (first_then count before) notes.extends) behind)))
    where
      whole : All (IsHeldIn (take count before)) (frames_in_instants shares.front ++ (frames_in_instants shares.old_between ++ frames_in_instants shares.back))
      whole =
          subst (All (IsHeldIn (take count before))) (ap frames_in_instants shares.is_old ∙ frames_are shares.old_between)
          (in_instants (IsHeldIn (take count before)) old holds)

      in_front : All (IsHeldIn (take count before)) (frames_in_instants shares.front)
      in_front = all_front (IsHeldIn (take count before)) (frames_in_instants shares.front) (frames_in_instants shares.old_between ++ frames_in_instants shares.back) whole

      behind : All (IsHeldIn (take count before)) (frames_in_instants shares.back)
      behind =
          all_back (IsHeldIn (take count before)) (frames_in_instants shares.old_between) (frames_in_instants shares.back)
          (all_back (IsHeldIn (take count before)) (frames_in_instants shares.front) (frames_in_instants shares.old_between ++ frames_in_instants shares.back) whole)
