-- What is noted of traces, index by index, and what that tells.
use Rattle.std.proofs.Common.{◌≡◌, ◌⊎◌, inl, inr, ℕ, zero, suc, ◌+◌, ◌*◌, ◌<◌, ◌≤◌, nat_eq, Bool, true, false, cond, ◌&&◌, List, [], ◌∷◌, ◌++◌, length, get_or, Option, Some, None, slice_get, refl, sym, ap, ◌∙◌, subst, if◌then◌else◌, arith}
use Rattle.std.proofs.lemmas.Bool.{false≢true, cases_lt}
use Rattle.std.specs.Cmp.Lexicographic.{same_text}
use Rattle.aerie_base.specs.declared.plans.Anchor.{Anchor}
use Rattle.aerie_base.specs.declared.plans.Directive.{Directive}
use Rattle.aerie_base.specs.declared.plans.Edge.{Edge}
use Rattle.aerie_base.specs.declared.plans.Edge.TheVariants.{Start, End}
use Rattle.aerie_base.specs.declared.plans.Plan.{Plan}
use Rattle.aerie_base.specs.Paths.{root, is_prefix}
use Rattle.run_data.specs.declared.runs.Instant.{Instant}
use Rattle.run_data.specs.Spans.{same_path}
use Rattle.run_data.specs.Tasks.{Task}
use Rattle.run_data.specs.laws.EndedTasks.{open_is, is_open_status}
use Rattle.run_data.specs.laws.PathsUnder.{both_true, same_number}
use Rattle.run_data.specs.laws.TracedTasks.{timed_instants, traced}
use Rattle.resimulate.specs.declared.traces.Trace.{Trace}
use Rattle.resimulate.specs.AlikeByFrames.{task_by, IsOpenInEither, AgreeAboveOpen, HasNotCome, WaitsInBoth, UnbegunIsInBoth, FramesAgree}
use Rattle.resimulate.specs.Likeness.{HasSame, IsSameOrNoted, NotesDiffering, NotesAt, KeepsRoots, NoneOpenAmong, NotOpenAt, NotComeBy, AnchorNotCome, IsFreeIfParted, IsLikeUnbegun, AllLikeUnbegun, HasTrace, AllGoOn, GoesOnAt, OpenOnesGoOn, AreAlikeAboveOpen, StandsUnnoted, TracesAgree}
use Rattle.resimulate.specs.Origins.{origin_number, has_root, is_asked}
use Rattle.resimulate.specs.Traces.{TraceList, trace_of, TellsTask, TellTasks, TakesIn}
use Rattle.resimulate.proofs.TaskTraces.{first_learnt, open_told, task_append}

-- ---- by index

-- a trace that is found stands at some index
place_of : (traces : TraceList) (path : List ℕ) (trace : Trace) → trace_of traces path ≡ Some trace → (at : ℕ) × (slice_get traces at ≡ Some (path, trace)) × (at < length traces)
place_of [] path trace e = absurd (cc)
place_of (entry ∷ rest) path trace e = by (same_path path entry.0) refl e (place_of rest path trace)
  where
    by : (b : Bool) → same_path path entry.0 ≡ b → cond b (Some entry.1) (trace_of rest path) ≡ Some trace →
        (trace_of rest path ≡ Some trace → (at : ℕ) × (slice_get rest at ≡ Some (path, trace)) × (at < length rest)) →
        (at : ℕ) × (slice_get (entry ∷ rest) at ≡ Some (path, trace)) × (at < length (entry ∷ rest))
    by true f g further = (let same : entry.1 ≡ trace = cc in (0, (λ i. Some (sym (same_text path entry.0 (sym f)) i, same i)), omega arith))
    by false f g further = (let found = further g in let less = found.2 in (suc found.0, found.1, omega (arith, less)))

-- of each index before one
abbrev pub EachBefore : ℕ → (ℕ → Type 0) → Type 0
EachBefore at P = (k : ℕ) → k < at → P k

pub each_next : (at : ℕ) (P : ℕ → Type 0) → EachBefore at P → P at → EachBefore (at + 1) P
each_next at P each here k less = by (cases_lt k at)
  where
    by : (k < at) ⊎ (at ≤ k) → P k
    by (inl before) = each k before
    by (inr after) = subst P (let same : at ≡ k = omega (arith, less, after) in same) here

-- ---- roots

pub notes_still : (traces others : TraceList) (at : ℕ) (before after : List ℕ) → KeepsRoots before after → EachBefore at (λ k. NotesAt traces others k before) → EachBefore at (λ k. NotesAt traces others k after)
notes_still traces others at before after keeps each k less path trace there = by (each k less path trace there)
  where
    by : IsSameOrNoted others before path trace → IsSameOrNoted others after path trace
    by (inl same) = inl same
    by (inr noted) = inr (keeps (origin_number path) noted)

pub notes_more : (traces others : TraceList) (before after : List ℕ) → KeepsRoots before after → NotesDiffering traces others before → NotesDiffering traces others after
notes_more traces others before after keeps notes path trace there = by (notes path trace there)
  where
    by : IsSameOrNoted others before path trace → IsSameOrNoted others after path trace
    by (inl same) = inl same
    by (inr noted) = inr (keeps (origin_number path) noted)

pub notes_all : (traces others : TraceList) (roots : List ℕ) (at : ℕ) → length traces ≤ at → EachBefore at (λ k. NotesAt traces others k roots) → NotesDiffering traces others roots
notes_all traces others roots at most each path trace found =
    let place = place_of traces path trace found in
    let less = place.2 in
    each place.0 (omega (arith, less, most)) path trace place.1

pub open_all : (traces : TraceList) (roots : List ℕ) (at : ℕ) → length traces ≤ at → EachBefore at (λ k. NotOpenAt traces k roots) → NoneOpenAmong traces roots
open_all traces roots at most each path trace found =
    let place = place_of traces path trace found in
    let less = place.2 in
    each place.0 (omega (arith, less, most)) path trace place.1

-- at one index
same_pair : (one two : List ℕ × Trace) → Some one ≡ Some two → one ≡ two
same_pair one two e = cc

no_pair : (one : List ℕ × Trace) → None ≡ Some one → ⊥
no_pair one e = absurd (cc)

pub one_noted : (traces others : TraceList) (at : ℕ) (path : List ℕ) (trace : Trace) (roots : List ℕ) → slice_get traces at ≡ Some (path, trace) → IsSameOrNoted others roots path trace → NotesAt traces others at roots
one_noted traces others at path trace roots here noted other found there =
    subst (λ (e : List ℕ × Trace). IsSameOrNoted others roots e.0 e.1) (same_pair (path, trace) (other, found) (sym here ∙ there)) noted

pub none_noted : (traces others : TraceList) (at : ℕ) (roots : List ℕ) → slice_get traces at ≡ None → NotesAt traces others at roots
none_noted traces others at roots none path trace there = absurd (no_pair (path, trace) (sym none ∙ there))

pub one_open : (traces : TraceList) (at : ℕ) (path : List ℕ) (trace : Trace) (roots : List ℕ) → slice_get traces at ≡ Some (path, trace) →
    (is_open_status trace.step.status && has_root roots (origin_number path)) ≡ false → NotOpenAt traces at roots
one_open traces at path trace roots here closed other found there is_open =
    subst (λ (e : List ℕ × Trace). is_open_status e.1.step.status ≡ true → has_root roots (origin_number e.0) ≡ false) (same_pair (path, trace) (other, found) (sym here ∙ there))
    (λ opens. sym (ap (λ c. c && has_root roots (origin_number path)) opens) ∙ closed) is_open

pub none_open : (traces : TraceList) (at : ℕ) (roots : List ℕ) → slice_get traces at ≡ None → NotOpenAt traces at roots
none_open traces at roots none path trace there is_open = absurd (no_pair (path, trace) (sym none ∙ there))

-- a path and those below it have one root
same_root : (path other : List ℕ) → 2 ≤ length path → is_prefix path other ≡ true → origin_number path ≡ origin_number other
same_root [] other long h = absurd (omega (arith, long))
same_root (kind ∷ []) other long h = absurd (omega (arith, long))
same_root (kind ∷ id ∷ children) [] long h = absurd (cc)
same_root (kind ∷ id ∷ children) (first ∷ []) long h = (let parts = both_true (nat_eq kind first) _ h in let clash : false ≡ true = parts.1 in absurd (cc))
same_root (kind ∷ id ∷ children) (first ∷ second ∷ rest) long h =
    let one = both_true (nat_eq kind first) _ h in
    let two = both_true (nat_eq id second) _ one.1 in
    λ i. same_number id second two.0 i * 2 + (if nat_eq (same_number kind first one.0 i) 1 then 1 else 0)

-- in a loop over what the first instants leave open
pub all_go : (before traces others : TraceList) (at : ℕ) → length before ≤ at → EachBefore at (GoesOnAt before traces others) → AllGoOn before traces others
all_go before traces others at most each path trace found =
    let place = place_of before path trace found in
    let less = place.2 in
    each place.0 (omega (arith, less, most)) path trace place.1

-- ---- what that tells of tasks

-- a body that is open has a trace that says so, where there is one
open_by : (start : Option Task) (found : Option Trace) (task : Option Task) → TellsTask start found task → open_is task ≡ true →
    ((found ≡ None) × (open_is start ≡ true)) ⊎ ((trace : Trace) × (found ≡ Some trace) × (is_open_status trace.step.status ≡ true))
open_by start None task tells is_open = inl (refl, ap open_is (sym tells) ∙ is_open)
open_by start (Some trace) task tells is_open = inr (trace, refl, sym (open_told trace start task tells) ∙ is_open)

open_of_none : (task : Option Task) → task ≡ None → open_is task ≡ true → ⊥
open_of_none task none is_open = (let clash : false ≡ true = sym (ap open_is none) ∙ is_open in absurd (cc))

module _ (first later old_later : List Instant) (traces old_traces : TraceList)
    (tells : TellTasks (is_asked true []) (task_by first) traces (λ path. traced path (timed_instants later) (task_by first path)))
    (old_tells : TellTasks (is_asked true []) (task_by first) old_traces (λ path. traced path (timed_instants old_later) (task_by first path))) where
  here : (path : List ℕ) → TellsTask (task_by first path) (trace_of traces path) (task_by (first ++ later) path)
  here path = subst (TellsTask (task_by first path) (trace_of traces path)) (sym (task_append first later path)) (tells path refl)

  there : (path : List ℕ) → TellsTask (task_by first path) (trace_of old_traces path) (task_by (first ++ old_later) path)
  there path = subst (TellsTask (task_by first path) (trace_of old_traces path)) (sym (task_append first old_later path)) (old_tells path refl)

  same_where : (roots : List ℕ) → NotesDiffering traces old_traces roots → NotesDiffering old_traces traces roots → (path : List ℕ) → has_root roots (origin_number path) ≡ false →
      task_by (first ++ later) path ≡ task_by (first ++ old_later) path
  same_where roots notes old_notes path out = by (trace_of traces path) (trace_of old_traces path) refl refl (here path) (there path)
    where
      by : (one two : Option Trace) → trace_of traces path ≡ one → trace_of old_traces path ≡ two → TellsTask (task_by first path) one (task_by (first ++ later) path) →
          TellsTask (task_by first path) two (task_by (first ++ old_later) path) → task_by (first ++ later) path ≡ task_by (first ++ old_later) path
      by None None e f none none_too = none ∙ sym none_too
      by (Some trace) two e f told told_too = go (notes path trace e)
        where
          found : (two : Option Trace) → HasSame trace two → TellsTask (task_by first path) two (task_by (first ++ old_later) path) → task_by (first ++ later) path ≡ task_by (first ++ old_later) path
          found None same told_there = absurd same
          found (Some other) same told_there = same (task_by first path) (task_by (first ++ later) path) (task_by (first ++ old_later) path) told told_there

          go : IsSameOrNoted old_traces roots path trace → task_by (first ++ later) path ≡ task_by (first ++ old_later) path
          go (inl same) = found two (subst (HasSame trace) f same) told_too
          go (inr noted) = absurd (false≢true (sym out ∙ noted))
      by None (Some trace) e f none told_too = go (old_notes path trace f)
        where
          go : IsSameOrNoted traces roots path trace → task_by (first ++ later) path ≡ task_by (first ++ old_later) path
          go (inl same) = absurd (subst (HasSame trace) e same)
          go (inr noted) = absurd (false≢true (sym out ∙ noted))

  -- what the first instants leave open under a root that is noted has traces
  left_open : (roots : List ℕ) → OpenOnesGoOn first traces old_traces roots → (path : List ℕ) → has_root roots (origin_number path) ≡ true → open_is (task_by first path) ≡ true →
      HasTrace traces path × HasTrace old_traces path
  left_open roots open_ones path noted is_open =
      go (open_by None (trace_of open_ones.before path) (task_by first path) (first_learnt (is_asked false roots) (timed_instants first) open_ones.before (λ p. None) open_ones.takes_in path noted) is_open)
    where
      no_task : Option Task
      no_task = None

      go : ((trace_of open_ones.before path ≡ None) × (open_is no_task ≡ true)) ⊎ ((trace : Trace) × (trace_of open_ones.before path ≡ Some trace) × (is_open_status trace.step.status ≡ true)) →
          HasTrace traces path × HasTrace old_traces path
      go (inl none) = absurd (open_of_none no_task refl none.1)
      go (inr found) = open_ones.go_on path found.0 found.1 found.2

  -- so no body is open under such a root
  closed_under : (all : List Instant) (found : TraceList) (roots : List ℕ) → ((path : List ℕ) → TellsTask (task_by first path) (trace_of found path) (task_by all path)) → NoneOpenAmong found roots →
      ((path : List ℕ) → has_root roots (origin_number path) ≡ true → open_is (task_by first path) ≡ true → HasTrace found path) → (path : List ℕ) → open_is (task_by all path) ≡ true →
      has_root roots (origin_number path) ≡ false
  closed_under all found roots tell none_open goes path is_open = by (open_by (task_by first path) (trace_of found path) (task_by all path) (tell path) is_open)
    where
      by : ((trace_of found path ≡ None) × (open_is (task_by first path) ≡ true)) ⊎ ((trace : Trace) × (trace_of found path ≡ Some trace) × (is_open_status trace.step.status ≡ true)) →
          has_root roots (origin_number path) ≡ false
      by (inr trace) = none_open path trace.0 trace.1 trace.2
      by (inl none) = out (has_root roots (origin_number path)) refl
        where
          out : (noted : Bool) → has_root roots (origin_number path) ≡ noted → has_root roots (origin_number path) ≡ false
          out false e = e
          out true e = absurd (goes path e none.1 none.0)

  agree_above : AreAlikeAboveOpen first traces old_traces → AgreeAboveOpen (first ++ later) (first ++ old_later)
  agree_above alike path other long above is_open = same_where roots alike.noted alike.old_noted path (ap (has_root roots) (same_root path other long above) ∙ by is_open)
    where
      roots : List ℕ
      roots = alike.roots

      by : IsOpenInEither (first ++ later) (first ++ old_later) other → has_root roots (origin_number other) ≡ false
      by (inl mine) =
          closed_under (first ++ later) traces roots here alike.none_open.here (λ p noted open_. (left_open roots alike.none_open.before p noted open_).0) other mine
      by (inr theirs) =
          closed_under (first ++ old_later) old_traces roots there alike.none_open.there (λ p noted open_. (left_open roots alike.none_open.before p noted open_).1) other theirs

-- an anchor that has not come by the traces of all frames has not by the frames
not_come : (instants : List Instant) (traces : TraceList) → ((path : List ℕ) → TellsTask None (trace_of traces path) (task_by instants path)) → (to : ℕ) (edge : Edge) →
    NotComeBy (trace_of traces (root to)) edge → HasNotCome instants to edge
not_come instants traces tells to edge h = by (trace_of traces (root to)) (tells (root to)) edge h
  where
    by : (found : Option Trace) → TellsTask None found (task_by instants (root to)) → (edge : Edge) → NotComeBy found edge → HasNotCome instants to edge
    by None none Start still = none
    by None none End still = inl none
    by (Some trace) told Start still = absurd still
    by (Some trace) told End still = inr (open_told trace None (task_by instants (root to)) told ∙ still)

-- what the tasks are at first: nothing is known of any, where nothing is left out
abbrev TellFrom : (List ℕ → Option Task) → TraceList → List Instant → Type 0
TellFrom start traces instants = (path : List ℕ) → TellsTask (start path) (trace_of traces path) (task_by instants path)

waits_both : (start : List ℕ → Option Task) (parted : Bool) → (parted ≡ false → (path : List ℕ) → start path ≡ None) → (instants others : List Instant) (traces old_traces : TraceList) →
    TellFrom start traces instants → TellFrom start old_traces others → (anchor : Option Anchor) → IsFreeIfParted parted anchor → AnchorNotCome traces anchor → AnchorNotCome old_traces anchor →
    WaitsInBoth instants others anchor
waits_both start parted whole instants others traces old_traces tells old_tells None free here there = tt
waits_both start true whole instants others traces old_traces tells old_tells (Some anchor) free here there = absurd (let clash = free refl in cc)
waits_both start false whole instants others traces old_traces tells old_tells (Some anchor) free here there = (
  not_come instants traces (λ path. subst (λ s. TellsTask s (trace_of traces path) (task_by instants path)) (whole refl path) (tells path)) anchor.to anchor.edge here,
  not_come others old_traces (λ path. subst (λ s. TellsTask s (trace_of old_traces path) (task_by others path)) (whole refl path) (old_tells path)) anchor.to anchor.edge there,
)

none_told : (start : Option Task) (found : Option Trace) (task : Option Task) → TellsTask start found task → task ≡ None → (found ≡ None) × (start ≡ None)
none_told start None task told none = (refl, sym told ∙ none)
none_told start (Some trace) task told none = (let clash : None ≡ Some _ = sym none ∙ told.1 in absurd (cc))

unbegun_both : (plan old_plan : Plan) (start : List ℕ → Option Task) (parted : Bool) → (parted ≡ false → (path : List ℕ) → start path ≡ None) → (instants others : List Instant) (traces old_traces : TraceList) →
    TellFrom start traces instants → TellFrom start old_traces others → AllLikeUnbegun plan old_plan parted traces old_traces → UnbegunIsInBoth plan old_plan instants others
unbegun_both plan old_plan start parted whole instants others traces old_traces tells old_tells all one in_plan none =
    let out = none_told (start (root one.id)) (trace_of traces (root one.id)) (task_by instants (root one.id)) (tells (root one.id)) none in
    let like = all one in_plan out.0 in (
      subst (λ (found : Option Trace). TellsTask (start (root one.id)) found (task_by others (root one.id))) like.0 (old_tells (root one.id)) ∙ out.1,
      like.1,
      waits_both start parted whole instants others traces old_traces tells old_tells one.anchor like.2 like.3 like.4,
    )

pub traces_tell : (plan old_plan : Plan) (first later old_later : List Instant) (traces old_traces : TraceList) → TakesIn (is_asked true []) (timed_instants later) [] traces →
    TakesIn (is_asked true []) (timed_instants old_later) [] old_traces → TracesAgree plan old_plan first traces old_traces → FramesAgree plan old_plan (first ++ later) (first ++ old_later)
traces_tell plan old_plan first later old_later traces old_traces takes old_takes agree = record {
  above_open = agree_above first later old_later traces old_traces tells old_tells agree.above_open;
  unbegun =
      unbegun_both plan old_plan (task_by first) agree.parted none_yet (first ++ later) (first ++ old_later) traces old_traces (here first later old_later traces old_traces tells old_tells)
      (there first later old_later traces old_traces tells old_tells) agree.unbegun;
  old_unbegun =
      unbegun_both old_plan plan (task_by first) agree.parted none_yet (first ++ old_later) (first ++ later) old_traces traces (there first later old_later traces old_traces tells old_tells)
      (here first later old_later traces old_traces tells old_tells) agree.old_unbegun;
}
  where
    tells : TellTasks (is_asked true []) (task_by first) traces (λ path. traced path (timed_instants later) (task_by first path))
    tells = first_learnt (is_asked true []) (timed_instants later) traces (task_by first) takes

    old_tells : TellTasks (is_asked true []) (task_by first) old_traces (λ path. traced path (timed_instants old_later) (task_by first path))
    old_tells = first_learnt (is_asked true []) (timed_instants old_later) old_traces (task_by first) old_takes

    none_yet : agree.parted ≡ false → (path : List ℕ) → task_by first path ≡ None
    none_yet whole path = ap (λ l. task_by l path) (agree.whole whole)

-- a directive that stands in both plans without an anchor, and is not noted, waits alike
pub unnoted_like : (old_plan : Plan) (parted : Bool) (traces others : TraceList) (roots : List ℕ) (one : Directive) → NotesDiffering others traces roots → StandsUnnoted old_plan roots one →
    IsLikeUnbegun old_plan parted traces others one
unnoted_like old_plan parted traces others roots one notes stands none = (
  by (trace_of others (root one.id)) refl,
  stands.in_plan,
  (λ is. stands.free),
  subst (AnchorNotCome traces) (sym stands.free) tt,
  subst (AnchorNotCome others) (sym stands.free) tt,
)
  where
    by : (found : Option Trace) → trace_of others (root one.id) ≡ found → trace_of others (root one.id) ≡ None
    by None e = e
    by (Some trace) e = go (notes (root one.id) trace e)
      where
        go : IsSameOrNoted traces roots (root one.id) trace → trace_of others (root one.id) ≡ None
        go (inl same) = absurd (subst (HasSame trace) none same)
        go (inr noted) = absurd (false≢true (sym stands.unnoted ∙ noted))

-- in a loop over directives
pub below_length : {A : Type 0} (all : List A) (k : ℕ) (one : A) → slice_get all k ≡ Some one → k < length all
below_length [] k one e = absurd (cc)
below_length (first ∷ rest) zero one e = omega arith
below_length (first ∷ rest) (suc k) one e = (let less = below_length rest k one e in omega (arith, less))

-- what is read at an index is what stands there
pub same_at : {A : Type 0} (all : List A) (at : ℕ) (one other : A) → at < length all → one ≡ get_or all at one → slice_get all at ≡ Some other → one ≡ other
same_at [] at one other less is e = absurd (cc)
same_at (first ∷ rest) zero one other less is e = (let same : first ≡ other = cc in is ∙ same)
same_at (first ∷ rest) (suc at) one other less is e = same_at rest at one other (omega (arith, less)) is e

pub all_unbegun : (plan old_plan : Plan) (parted : Bool) (traces others : TraceList) (at : ℕ) → length plan.directives ≤ at →
    EachBefore at (λ k. (one : Directive) → slice_get plan.directives k ≡ Some one → IsLikeUnbegun old_plan parted traces others one) → AllLikeUnbegun plan old_plan parted traces others
all_unbegun plan old_plan parted traces others at most each one in_plan =
    let less = below_length plan.directives in_plan.0 one in_plan.1 in
    each in_plan.0 (omega (arith, less, most)) one in_plan.1
