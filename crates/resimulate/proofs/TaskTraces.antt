-- Traces, frame by frame.
use Rattle.std.proofs.Common.{◌≡◌, ◌⊎◌, inl, inr, ℕ, zero, suc, ◌+◌, ◌<◌, ◌≤◌, nat_abs, nat_eq, Bool, true, false, ◌&&◌, cond, List, [], ◌∷◌, ◌++◌, length, take, drop, get_or, Option, Some, None, refl, sym, ap, ◌∙◌, subst, if◌then◌else◌, append_assoc, add-one, arith}
use Rattle.std.proofs.Math.Seq.{take-suc}
use Rattle.std.proofs.lemmas.Bool.{false≢true}
use Rattle.std.proofs.lemmas.List.{append-nil}
use Rattle.std.specs.BTreeMap.{is_at}
use Rattle.std.specs.Cmp.Lexicographic.{same_text}
use Rattle.aerie_base.specs.Paths.{path_cmp}
use Rattle.run_data.specs.declared.frames.Item.{Item}
use Rattle.run_data.specs.declared.frames.Item.TheVariants as item
use Rattle.run_data.specs.declared.frames.Record.{Record}
use Rattle.run_data.specs.declared.frames.Status.{Status}
use Rattle.run_data.specs.declared.frames.Status.TheVariants as status
use Rattle.run_data.specs.declared.tasks.TaskState.{TaskState}
use Rattle.run_data.specs.declared.runs.Instant.{Instant}
use Rattle.run_data.specs.TaskFrames.{Frame}
use Rattle.run_data.specs.Endings.{is_open}
use Rattle.run_data.specs.Records.{record_of}
use Rattle.run_data.specs.Spans.{same_path}
use Rattle.run_data.specs.Tasks.{Task, after_delay, phase_after, task_after, children_made, children_in}
use Rattle.run_data.specs.TableLaws.{is_same, path_itself}
use Rattle.std.specs.Ordering.{is_eq}
use Rattle.run_data.specs.laws.EndedTasks.{open_is, is_open_status}
use Rattle.run_data.specs.laws.TracedTasks.{timed, timed_batches, timed_instants, traced}
use Rattle.resimulate.specs.AlikeByFrames.{task_by}
use Rattle.resimulate.specs.declared.traces.Trace.{Trace}
use Rattle.resimulate.specs.Traces.{TraceList, trace_of, IsChildCount, IsChildCountOf, TellsTask, TellTasks, TakesIn, TakesInForAny, CountsToo, TellSame, is_delay}

-- ---- paths

same_self : (path : List ℕ) → same_path path path ≡ true
same_self [] = refl
same_self (number ∷ path) = ap (λ b. b && same_path path path) (eq_self number) ∙ same_self path
  where
    eq_self : (n : ℕ) → nat_eq n n ≡ true
    eq_self n = grind arith

-- ---- lists

pub drop_next : {A : Type 0} (at : ℕ) (items : List A) (one : A) → at < length items → one ≡ get_or items at one → drop at items ≡ one ∷ drop (at + 1) items
drop_next at [] one less is = absurd (omega (arith, less))
drop_next zero (first ∷ rest) one less is = λ i. sym is i ∷ rest
drop_next (suc at) (first ∷ rest) one less is = drop_next at rest one (omega (arith, less)) is ∙ ap (λ k. one ∷ drop k (first ∷ rest)) (let next : suc (at + 1) ≡ suc at + 1 = omega arith in next)

pub drop_past : {A : Type 0} (at : ℕ) (items : List A) → length items ≤ at → drop at items ≡ []
drop_past zero [] most = refl
drop_past (suc at) [] most = refl
drop_past zero (first ∷ rest) most = absurd (omega (arith, most))
drop_past (suc at) (first ∷ rest) most = drop_past at rest (omega (arith, most))

taken_next : {A : Type 0} (k : ℕ) (items : List A) (one : A) → k < length items → one ≡ get_or items k one → take k items ++ one ∷ [] ≡ take (k + 1) items
taken_next k items one within is = ap (λ x. take k items ++ x ∷ []) is ∙ sym (rw add-one (take-suc items k one within))

-- ---- children

children_split : (one : Item) (rest : List Item) → children_in (one ∷ rest) ≡ children_in (one ∷ []) + children_in rest
children_split (item.Emit cell effect) rest = omega arith
children_split (item.Child kind arguments) rest = omega arith

-- in a loop: those that are counted, and those among the items that are left
abbrev pub CountsWith : Option ℕ → Option ℕ → ℕ → ℕ → Type 0
CountsWith before made left all = (number : ℕ) → IsChildCount before number → (now : ℕ) × IsChildCount made now × (now + left ≡ number + all)

pub counts_next : (before made after : Option ℕ) (all at : ℕ) (items : List Item) (one : Item) → at < length items → one ≡ get_or items at one → CountsWith before made (children_in (drop at items)) all →
    CountsToo (children_in (one ∷ [])) made after → CountsWith before after (children_in (drop (at + 1) items)) all
counts_next before made after all at items one less is counts too number is_count =
    let now = counts number is_count in
    let split : children_in (drop at items) ≡ children_in (one ∷ []) + children_in (drop (at + 1) items) = ap children_in (drop_next at items one less is) ∙ children_split one (drop (at + 1) items) in
    let sum = now.2 in
    (now.0 + children_in (one ∷ []), too now.0 now.1, omega (arith, split, sum))

pub counts_all : (before made : Option ℕ) (all at : ℕ) (items : List Item) → length items ≤ at → CountsWith before made (children_in (drop at items)) all → CountsToo all before made
counts_all before made all at items most counts number is_count =
    let now = counts number is_count in
    let none : children_in (drop at items) ≡ 0 = ap children_in (drop_past at items most) in
    let sum = now.2 in
    subst (IsChildCount made) (let is : now.0 ≡ number + all = omega (arith, none, sum) in is) now.1

-- ---- one frame

traced_append : (path : List ℕ) (first rest : List (ℕ × Frame)) (so_far : Option Task) → traced path (first ++ rest) so_far ≡ traced path rest (traced path first so_far)
traced_append path [] rest so_far = refl
traced_append path (entry ∷ others) rest so_far = traced_append path others rest _

made_of : (start : Option Task) (found : Option Trace) (task : Option Task) (made : Option ℕ) → TellsTask start found task → IsChildCountOf found made →
    (number : ℕ) × IsChildCount made number × (children_made task ≡ children_made start + number)
made_of start None task made tells is =
    (0, subst (λ (o : Option ℕ). IsChildCount o 0) (sym is) refl, (let same = ap children_made tells in omega (arith, same)))
made_of start (Some trace) task made tells is = (tells.0, subst (λ (o : Option ℕ). IsChildCount o tells.0) (sym is) tells.2, ap children_made tells.1)

pub noted : (before after : TraceList) (time : ℕ) (frame : Frame) (key : List ℕ) (new : Trace) (made : Option ℕ) → key ≡ frame.path → new.time ≡ time → new.step ≡ record_of frame →
    IsChildCountOf (trace_of before key) made → CountsToo (children_in frame.items) made new.made →
    ((other : List ℕ) → trace_of after other ≡ cond (same_path key other) (Some new) (trace_of before other)) → TakesInForAny ((time, frame) ∷ []) before after
noted before after time frame key new made key_is time_is step_is is_count counts put asked start tasks tells path wanted =
    subst (λ o. TellsTask (start path) o (if is_at (path_cmp path) frame.path then Some task else tasks path)) (sym (put path)) (by (same_path key path) (is_at (path_cmp path) frame.path) refl refl)
  where
    children : ℕ
    children = children_made (tasks path) + children_in frame.items

    task : Task
    task = task_after time frame.status children

    so_far : key ≡ path → (number : ℕ) × IsChildCount made number × (children_made (tasks path) ≡ children_made (start path) + number)
    so_far same = made_of (start path) (trace_of before path) (tasks path) made (tells path wanted) (subst (λ p. IsChildCountOf (trace_of before p) made) same is_count)

    put_last : key ≡ path → TellsTask (start path) (Some new) (Some task)
    put_last same =
        let found = so_far same in
        let sum : children ≡ children_made (start path) + (found.0 + children_in frame.items) = (let is = found.2 in omega (arith, is)) in (
          found.0 + children_in frame.items,
          (λ i. Some (task_after (sym time_is i) (ap (λ (r : Record). r.status) (sym step_is) i) (sum i))),
          counts found.0 found.1,
        )

    by : (same here : Bool) → same_path key path ≡ same → is_at (path_cmp path) frame.path ≡ here →
        TellsTask (start path) (cond same (Some new) (trace_of before path)) (if here then Some task else tasks path)
    by true true e f = put_last (same_text key path (sym e))
    by false false e f = tells path wanted
    by true false e f =
        absurd (false≢true (sym f ∙ ap (λ p. is_at (path_cmp p) frame.path) (sym (same_text key path (sym e)) ∙ key_is) ∙ ap is_eq (path_itself frame.path)))
    by false true e f =
        absurd (false≢true (sym e ∙ ap (same_path key) (is_same path frame.path f ∙ sym key_is) ∙ same_self key))

-- a frame of a task that is not asked for changes nothing
pub skipped : (asked : List ℕ → Bool) (traces : TraceList) (time : ℕ) (frame : Frame) → asked frame.path ≡ false → TakesIn asked ((time, frame) ∷ []) traces traces
skipped asked traces time frame out start tasks tells path wanted = by (is_at (path_cmp path) frame.path) refl
  where
    by : (here : Bool) → is_at (path_cmp path) frame.path ≡ here →
        TellsTask (start path) (trace_of traces path) (if here then Some (task_after time frame.status (children_made (tasks path) + children_in frame.items)) else tasks path)
    by true f = absurd (false≢true (sym out ∙ ap asked (sym (is_same path frame.path f)) ∙ wanted))
    by false f = tells path wanted

-- ---- more frames

pub learns_none : (asked : List ℕ → Bool) (traces : TraceList) → TakesIn asked [] traces traces
learns_none asked traces start tasks tells = tells

pub learns_then : (asked : List ℕ → Bool) (first second : List (ℕ × Frame)) (before middle after : TraceList) → TakesIn asked first before middle → TakesIn asked second middle after → TakesIn asked (first ++ second) before after
learns_then asked first second before middle after one two start tasks tells path wanted =
    subst (TellsTask (start path) (trace_of after path)) (sym (traced_append path first second (tasks path))) (two start (λ p. traced p first (tasks p)) (one start tasks tells) path wanted)

timed_more : (time : ℕ) (frames : List Frame) (frame : Frame) → timed time frames ++ (time, frame) ∷ [] ≡ timed time (frames ++ frame ∷ [])
timed_more time [] frame = refl
timed_more time (first ∷ rest) frame = ap (λ l. (time, first) ∷ l) (timed_more time rest frame)

batches_more : (time : ℕ) (batches : List (List Frame)) (frames : List Frame) → timed_batches time batches ++ timed time frames ≡ timed_batches time (batches ++ frames ∷ [])
batches_more time [] frames = sym (append-nil (timed time frames))
batches_more time (first ∷ rest) frames = append_assoc (timed time first) (timed_batches time rest) (timed time frames) ∙ ap (λ l. timed time first ++ l) (batches_more time rest frames)

instants_more : (instants : List Instant) (instant : Instant) → timed_instants instants ++ timed_batches instant.time instant.batches ≡ timed_instants (instants ++ instant ∷ [])
instants_more [] instant = sym (append-nil (timed_batches instant.time instant.batches))
instants_more (first ∷ rest) instant =
    append_assoc (timed_batches first.time first.batches) (timed_instants rest) (timed_batches instant.time instant.batches) ∙ ap (λ l. timed_batches first.time first.batches ++ l) (instants_more rest instant)

module _ (asked : List ℕ → Bool) (before middle after : TraceList) where
  pub frames_next : (time at : ℕ) (frames : List Frame) (frame : Frame) → at < length frames → frame ≡ get_or frames at frame → TakesIn asked (timed time (take at frames)) before middle →
      TakesIn asked ((time, frame) ∷ []) middle after → TakesIn asked (timed time (take (at + 1) frames)) before after
  frames_next time at frames frame less is one two =
      subst (λ l. TakesIn asked l before after) (timed_more time (take at frames) frame ∙ ap (timed time) (taken_next at frames frame less is))
      (learns_then asked (timed time (take at frames)) ((time, frame) ∷ []) before middle after one two)

  pub batches_next : (time at : ℕ) (batches : List (List Frame)) (batch : List Frame) → at < length batches → batch ≡ get_or batches at batch → TakesIn asked (timed_batches time (take at batches)) before middle →
      TakesIn asked (timed time batch) middle after → TakesIn asked (timed_batches time (take (at + 1) batches)) before after
  batches_next time at batches batch less is one two =
      subst (λ l. TakesIn asked l before after) (batches_more time (take at batches) batch ∙ ap (timed_batches time) (taken_next at batches batch less is))
      (learns_then asked (timed_batches time (take at batches)) (timed time batch) before middle after one two)

  pub instants_next : (at : ℕ) (instants : List Instant) (instant : Instant) → at < length instants → instant ≡ get_or instants at instant → TakesIn asked (timed_instants (take at instants)) before middle →
      TakesIn asked (timed_batches instant.time instant.batches) middle after → TakesIn asked (timed_instants (take (at + 1) instants)) before after
  instants_next at instants instant less is one two =
      subst (λ l. TakesIn asked l before after) (instants_more (take at instants) instant ∙ ap timed_instants (taken_next at instants instant less is))
      (learns_then asked (timed_instants (take at instants)) (timed_batches instant.time instant.batches) before middle after one two)

-- once none is left, all are taken in
take_whole : {A : Type 0} (k : ℕ) (items : List A) → length items ≤ k → take k items ≡ items
take_whole zero [] most = refl
take_whole (suc k) [] most = refl
take_whole zero (first ∷ rest) most = absurd (omega (arith, most))
take_whole (suc k) (first ∷ rest) most = ap (λ l. first ∷ l) (take_whole k rest (omega (arith, most)))

pub all_taken : (asked : List ℕ → Bool) {A : Type 0} (frames_of : List A → List (ℕ × Frame)) (items : List A) (k : ℕ) (before after : TraceList) → length items ≤ k → TakesIn asked (frames_of (take k items)) before after →
    TakesIn asked (frames_of items) before after
all_taken asked frames_of items k before after most takes = subst (λ l. TakesIn asked (frames_of l) before after) (take_whole k items most) takes

-- where nothing was noted yet, what is learnt is what the frames leave
pub first_learnt : (asked : List ℕ → Bool) (frames : List (ℕ × Frame)) (after : TraceList) (start : List ℕ → Option Task) → TakesIn asked frames [] after → TellTasks asked start after (λ path. traced path frames (start path))
first_learnt asked frames after start learns = learns start start (λ path wanted. refl)

-- ---- more instants

timed_append : (first rest : List Instant) → timed_instants (first ++ rest) ≡ timed_instants first ++ timed_instants rest
timed_append [] rest = refl
timed_append (one ∷ others) rest =
    ap (λ l. timed_batches one.time one.batches ++ l) (timed_append others rest) ∙ sym (append_assoc (timed_batches one.time one.batches) (timed_instants others) (timed_instants rest))

-- a task behind some instants is as the later ones leave it
pub task_append : (first later : List Instant) (path : List ℕ) → task_by (first ++ later) path ≡ traced path (timed_instants later) (task_by first path)
task_append first later path = ap (λ l. traced path l None) (timed_append first later) ∙ traced_append path (timed_instants first) (timed_instants later) None

-- ---- what traces tell

delay_open : (now by : ℕ) (state : TaskState) → is_open (after_delay now by state) ≡ true
delay_open now zero state = refl
delay_open now (suc less) state = refl

status_open : (now made : ℕ) (how : Status) → is_open (phase_after now made how) ≡ is_open_status how
status_open now made (status.Delayed by next) = delay_open now (nat_abs by) next
status_open now made (status.Waiting condition next) = refl
status_open now made (status.Calling into next) = refl
status_open now made (status.Done result) = refl
status_open now made (status.Faulted fault) = refl

-- a body is open as its trace tells
pub open_told : (trace : Trace) (start found : Option Task) → TellsTask start (Some trace) found → open_is found ≡ is_open_status trace.step.status
open_told trace start found tells = ap open_is tells.1 ∙ status_open trace.time (children_made start + tells.0) trace.step.status

no_delay : (time later made : ℕ) (how : Status) → is_delay how ≡ false → task_after time how made ≡ task_after later how made
no_delay time later made (status.Delayed by next) e = absurd (cc)
no_delay time later made (status.Waiting condition next) e = refl
no_delay time later made (status.Calling into next) e = refl
no_delay time later made (status.Done result) e = refl
no_delay time later made (status.Faulted fault) e = refl

pub tell_same : (trace other : Trace) (number : ℕ) → trace.made ≡ Some number → other.made ≡ Some number → trace.step.status ≡ other.step.status →
    ((trace.time ≡ other.time → ⊥) → is_delay trace.step.status ≡ false) → (trace.time ≡ other.time → ⊥) ⊎ (trace.time ≡ other.time) → TellSame trace other
tell_same trace other number made there status_is free times start found place tells again =
    tells.1
    ∙ ap Some (ap (λ n. task_after trace.time trace.step.status (children_made start + n)) counts ∙ later times ∙ ap (λ (s : Status). task_after other.time s (children_made start + again.0)) status_is) ∙ sym again.1
  where
    counts : tells.0 ≡ again.0
    counts = sym (subst (λ (o : Option ℕ). IsChildCount o tells.0) made tells.2) ∙ subst (λ (o : Option ℕ). IsChildCount o again.0) there again.2

    later : (trace.time ≡ other.time → ⊥) ⊎ (trace.time ≡ other.time) →
        task_after trace.time trace.step.status (children_made start + again.0) ≡ task_after other.time trace.step.status (children_made start + again.0)
    later (inl differs) = no_delay trace.time other.time (children_made start + again.0) trace.step.status (free differs)
    later (inr same) = ap (λ t. task_after t trace.step.status (children_made start + again.0)) same
