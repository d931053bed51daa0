-- Spans that begin: by one frame more, by batches and instants, and what becomes of them once all frames are known.
use Rattle.std.proofs.Common.{◌≡◌, ℕ, ◌+◌, ◌<◌, Bool, true, false, not, cond, ◌&&◌, ◌||◌, List, [], ◌∷◌, ◌++◌, length, map, take, get_or, Some, None, nat_eq, refl, sym, ap, ◌∙◌, append_assoc, add-one}
use Rattle.std.specs.List.{list_any}
use Rattle.std.proofs.Math.Seq.{take-suc}
use Rattle.std.proofs.lemmas.Bool.{false≢true}
use Rattle.std.proofs.lemmas.Cmp.{nat_list_eq_equiv}
use Rattle.aerie_base.specs.declared.models.model.Parts.{Parts}
use Rattle.aerie_base.specs.Paths.{is_prefix}
use Rattle.run_data.specs.declared.tasks.BodyId.{BodyId}
use Rattle.run_data.specs.declared.tasks.BodyId.TheVariants as body
use Rattle.run_data.specs.TaskFrames.{Frame}
use Rattle.run_data.specs.declared.runs.Instant.{Instant}
use Rattle.run_data.specs.Spans.{SpanOf, Timed, with_time, in_batches, timed, same_path, is_of_path, task_ended, last_time, span_if, span_of_body, spans_from}
use Rattle.span_table.specs.declared.span.Span.{Span}
use Rattle.span_table.specs.AsDefined.{defined_span}
use Rattle.span_table.specs.Begun.{begun_by, begun_from, last_after, ended_if, finished_span, with_end_if, with_end}

-- ---- one frame more

swap_any : (a b c : Bool) → ((a || b) || c) ≡ (b || (a || c))
swap_any true true c = refl
swap_any true false c = refl
swap_any false true c = refl
swap_any false false c = refl

no_spans : (spans : List SpanOf) → spans ++ [] ≡ spans
no_spans [] = refl
no_spans (span ∷ spans) = ap (λ l. span ∷ l) (no_spans spans)

begun_after : (model : Parts) (before frames : List Timed) (frame : Timed) →
    begun_from model before (frames ++ frame ∷ []) ≡
    begun_from model before frames
    ++ cond (list_any (is_of_path frame.1.path) before || list_any (is_of_path frame.1.path) frames) [] (begun_by model frame.0 frame.1 frame.1.before.kind)
begun_after model before [] frame =
    no_spans (cond (list_any (is_of_path frame.1.path) before) [] (begun_by model frame.0 frame.1 frame.1.before.kind))
    ∙ ap (λ b. cond b [] (begun_by model frame.0 frame.1 frame.1.before.kind)) (sym (or_false (list_any (is_of_path frame.1.path) before)))
  where
    or_false : (b : Bool) → (b || false) ≡ b
    or_false true = refl
    or_false false = refl
begun_after model before (first ∷ frames) frame =
    ap (λ l. cond (list_any (is_of_path first.1.path) before) [] (begun_by model first.0 first.1 first.1.before.kind) ++ l) (begun_after model (first ∷ before) frames frame)
    ∙ (sym (append_assoc (cond (list_any (is_of_path first.1.path) before) [] (begun_by model first.0 first.1 first.1.before.kind)) (begun_from model (first ∷ before) frames)
    (cond (list_any (is_of_path frame.1.path) (first ∷ before) || list_any (is_of_path frame.1.path) frames) [] (begun_by model frame.0 frame.1 frame.1.before.kind)))
    ∙ ap (λ b. begun_from model before (first ∷ frames) ++ cond b [] (begun_by model frame.0 frame.1 frame.1.before.kind))
    (swap_any (is_of_path frame.1.path first) (list_any (is_of_path frame.1.path) before) (list_any (is_of_path frame.1.path) frames)))

swapped : (b : Bool) (begun : List SpanOf) → cond (not b) begun [] ≡ cond b [] begun
swapped true begun = refl
swapped false begun = refl

-- the spans that have begun once one more frame is known, of which is told whether its path is new
pub begun_more : (model : Parts) (frames : List Timed) (frame : Timed) (old new : List SpanOf) (is_new : Bool) →
    old ≡ begun_from model [] frames → is_new ≡ not (list_any (is_of_path frame.1.path) frames) →
    new ≡ old ++ cond is_new (begun_by model frame.0 frame.1 frame.1.before.kind) [] → new ≡ begun_from model [] (frames ++ frame ∷ [])
begun_more model frames frame old new is_new known_task tells put =
    put
    ∙ (ap (λ l. l ++ cond is_new (begun_by model frame.0 frame.1 frame.1.before.kind) []) known_task
    ∙ (ap (λ b. begun_from model [] frames ++ cond b (begun_by model frame.0 frame.1 frame.1.before.kind) []) tells
    ∙ (ap (λ l. begun_from model [] frames ++ l) (swapped (list_any (is_of_path frame.1.path) frames) (begun_by model frame.0 frame.1 frame.1.before.kind))
    ∙ sym (begun_after model [] frames frame))))

-- ---- batches and instants

with_time_rest : (time : ℕ) (frames : List Frame) (rest : List Timed) → with_time time frames rest ≡ with_time time frames [] ++ rest
with_time_rest time [] rest = refl
with_time_rest time (frame ∷ frames) rest = ap (λ l. (time, frame) ∷ l) (with_time_rest time frames rest)

with_time_more : (time : ℕ) (frames : List Frame) (frame : Frame) → with_time time (frames ++ frame ∷ []) [] ≡ with_time time frames [] ++ (time, frame) ∷ []
with_time_more time [] frame = refl
with_time_more time (first ∷ frames) frame = ap (λ l. (time, first) ∷ l) (with_time_more time frames frame)

in_batches_more : (time : ℕ) (batches : List (List Frame)) (batch : List Frame) → in_batches time (batches ++ batch ∷ []) [] ≡ in_batches time batches [] ++ with_time time batch []
in_batches_more time [] batch = refl
in_batches_more time (first ∷ batches) batch =
    ap (with_time time first) (in_batches_more time batches batch)
    ∙ (with_time_rest time first (in_batches time batches [] ++ with_time time batch [])
    ∙ (sym (append_assoc (with_time time first []) (in_batches time batches []) (with_time time batch []))
    ∙ ap (λ l. l ++ with_time time batch []) (sym (with_time_rest time first (in_batches time batches [])))))

in_batches_rest : (time : ℕ) (batches : List (List Frame)) (rest : List Timed) → in_batches time batches rest ≡ in_batches time batches [] ++ rest
in_batches_rest time [] rest = refl
in_batches_rest time (batch ∷ batches) rest =
    ap (with_time time batch) (in_batches_rest time batches rest)
    ∙ (with_time_rest time batch (in_batches time batches [] ++ rest)
    ∙ (sym (append_assoc (with_time time batch []) (in_batches time batches []) rest)
    ∙ ap (λ l. l ++ rest) (sym (with_time_rest time batch (in_batches time batches [])))))

timed_more : (instants : List Instant) (instant : Instant) → timed (instants ++ instant ∷ []) ≡ timed instants ++ in_batches instant.time instant.batches []
timed_more [] instant = refl
timed_more (first ∷ instants) instant =
    ap (in_batches first.time first.batches) (timed_more instants instant)
    ∙ (in_batches_rest first.time first.batches (timed instants ++ in_batches instant.time instant.batches [])
    ∙ (sym (append_assoc (in_batches first.time first.batches []) (timed instants) (in_batches instant.time instant.batches []))
    ∙ ap (λ l. l ++ in_batches instant.time instant.batches []) (sym (in_batches_rest first.time first.batches (timed instants)))))

taken_next : {A : Type 0} (i : ℕ) (items : List A) (item : A) → i < length items → item ≡ get_or items i item → take i items ++ item ∷ [] ≡ take (i + 1) items
taken_next i items item within is = ap (λ x. take i items ++ x ∷ []) is ∙ sym (rw add-one (take-suc items i item within))

-- in a loop: the frames before it, and those of what it has passed
pub frames_next : (before : List Timed) (time i : ℕ) (batch : List Frame) (frame : Frame) → i < length batch → frame ≡ get_or batch i frame →
    (before ++ with_time time (take i batch) []) ++ (time, frame) ∷ [] ≡ before ++ with_time time (take (i + 1) batch) []
frames_next before time i batch frame within is =
    let next : take i batch ++ frame ∷ [] ≡ take (i + 1) batch = taken_next i batch frame within is in
    append_assoc before (with_time time (take i batch) []) ((time, frame) ∷ [])
    ∙ ap (λ l. before ++ l) (sym (with_time_more time (take i batch) frame) ∙ ap (λ l. with_time time l []) next)

pub batches_next : (before : List Timed) (time i : ℕ) (batches : List (List Frame)) (batch : List Frame) → i < length batches → batch ≡ get_or batches i batch →
    (before ++ in_batches time (take i batches) []) ++ with_time time batch [] ≡ before ++ in_batches time (take (i + 1) batches) []
batches_next before time i batches batch within is =
    let next : take i batches ++ batch ∷ [] ≡ take (i + 1) batches = taken_next i batches batch within is in
    append_assoc before (in_batches time (take i batches) []) (with_time time batch [])
    ∙ ap (λ l. before ++ l) (sym (in_batches_more time (take i batches) batch) ∙ ap (λ l. in_batches time l []) next)

pub instants_next : (before : List Timed) (i : ℕ) (instants : List Instant) (instant : Instant) → i < length instants → instant ≡ get_or instants i instant →
    (before ++ timed (take i instants)) ++ in_batches instant.time instant.batches [] ≡ before ++ timed (take (i + 1) instants)
instants_next before i instants instant within is =
    let next : take i instants ++ instant ∷ [] ≡ take (i + 1) instants = taken_next i instants instant within is in
    append_assoc before (timed (take i instants)) (in_batches instant.time instant.batches [])
    ∙ ap (λ l. before ++ l) (sym (timed_more (take i instants) instant) ∙ ap timed next)

-- ---- all frames

-- the time of the last frame under a path
some_last : (path : List ℕ) (time : ℕ) (frames : List Timed) → last_after (Some time) frames path ≡ Some (last_time frames path time)
some_last path time [] = refl
some_last path time (first ∷ frames) = go (is_prefix path first.1.path) (λ t. some_last path t frames)
  where
    go : (b : Bool) → ((t : ℕ) → last_after (Some t) frames path ≡ Some (last_time frames path t)) →
        last_after (cond b (Some first.0) (Some time)) frames path ≡ Some (last_time frames path (cond b first.0 time))
    go true rest = rest first.0
    go false rest = rest time

same_under : (path other : List ℕ) → same_path path other ≡ true → is_prefix path other ≡ true
same_under [] other e = refl
same_under (a ∷ path) [] e = absurd (false≢true e)
same_under (a ∷ path) (b ∷ other) e = both (nat_eq a b) e (same_under path other)
  where
    both : (x : Bool) → (x && same_path path other) ≡ true → (same_path path other ≡ true → is_prefix path other ≡ true) → (x && is_prefix path other) ≡ true
    both true f rest = rest f
    both false f rest = f

pub there_is_last : (path : List ℕ) (time : ℕ) (frames : List Timed) → list_any (is_of_path path) frames ≡ true → last_after None frames path ≡ Some (last_time frames path time)
there_is_last path time [] any = absurd (false≢true any)
there_is_last path time (first ∷ frames) any = go (is_of_path path first) refl any (λ there. there_is_last path time frames there)
  where
    under : is_of_path path first ≡ true → last_after None (first ∷ frames) path ≡ Some (last_time (first ∷ frames) path time)
    under e =
        let is = same_under path first.1.path e in
        ap (λ b. last_after (cond b (Some first.0) None) frames path) is
        ∙ (some_last path first.0 frames ∙ ap (λ b. Some (last_time frames path (cond b first.0 time))) (sym is))

    beside : (b : Bool) → last_after None frames path ≡ Some (last_time frames path time) → last_after (cond b (Some first.0) None) frames path ≡ Some (last_time frames path (cond b first.0 time))
    beside true rest = some_last path first.0 frames
    beside false rest = rest

    go : (b : Bool) → is_of_path path first ≡ b → (b || list_any (is_of_path path) frames) ≡ true →
        (list_any (is_of_path path) frames ≡ true → last_after None frames path ≡ Some (last_time frames path time)) →
        last_after None (first ∷ frames) path ≡ Some (last_time (first ∷ frames) path time)
    go true e there rest = under e
    go false e there rest = beside (is_prefix path first.1.path) (rest there)

-- a span that began with a frame has its end by all frames
ends_well : (all : List Timed) (model : Parts) (time : ℕ) (frame : Frame) (kind : ℕ) → list_any (is_of_path frame.path) all ≡ true →
    span_if (task_ended all frame.path) all model time frame kind ≡ ended_if (task_ended all frame.path) all (span_if false [] model time frame kind)
ends_well all model time frame kind there = go (task_ended all frame.path)
  where
    go : (b : Bool) → span_if b all model time frame kind ≡ ended_if b all (span_if false [] model time frame kind)
    go true = ap (λ e. record (span_if true all model time frame kind) { end = e }) (sym (there_is_last frame.path time all there))
    go false = refl

body_ends_well : (all : List Timed) (model : Parts) (time : ℕ) (frame : Frame) (kind : BodyId) → list_any (is_of_path frame.path) all ≡ true →
    span_of_body all model time frame kind ≡ map (finished_span all) (begun_by model time frame kind)
body_ends_well all model time frame (body.Activity kind) there = ap (λ s. s ∷ []) (ends_well all model time frame kind there)
body_ends_well all model time frame (body.Daemon number) there = refl

map_append : (f : SpanOf → SpanOf) (one other : List SpanOf) → map f (one ++ other) ≡ map f one ++ map f other
map_append f [] other = refl
map_append f (span ∷ one) other = ap (λ l. f span ∷ l) (map_append f one other)

-- the defined spans are those that begin, with their ends
pub all_end_well : (all : List Timed) (model : Parts) (before frames : List Timed) → ((p : List ℕ) → list_any (is_of_path p) frames ≡ true → list_any (is_of_path p) all ≡ true) →
    spans_from all model before frames ≡ map (finished_span all) (begun_from model before frames)
all_end_well all model before [] among = refl
all_end_well all model before (first ∷ frames) among =
    ap (λ l. cond (list_any (is_of_path first.1.path) before) [] (span_of_body all model first.0 first.1 first.1.before.kind) ++ l)
    (all_end_well all model (first ∷ before) frames (λ p any. among p (later (is_of_path p first) (list_any (is_of_path p) frames) any)))
    ∙ (ap (λ l. l ++ map (finished_span all) (begun_from model (first ∷ before) frames)) (here (list_any (is_of_path first.1.path) before))
    ∙ sym (map_append (finished_span all) (cond (list_any (is_of_path first.1.path) before) [] (begun_by model first.0 first.1 first.1.before.kind)) (begun_from model (first ∷ before) frames)))
  where
    later : (b any : Bool) → any ≡ true → (b || any) ≡ true
    later true any e = refl
    later false any e = e

    there : list_any (is_of_path first.1.path) all ≡ true
    there = among first.1.path (ap (λ b. b || list_any (is_of_path first.1.path) frames) (nat_list_eq_equiv.refl first.1.path))

    here : (b : Bool) → cond b [] (span_of_body all model first.0 first.1 first.1.before.kind) ≡ map (finished_span all) (cond b [] (begun_by model first.0 first.1 first.1.before.kind))
    here true = refl
    here false = body_ends_well all model first.0 first.1 first.1.before.kind there

-- ---- spans of the program

finished_is : (frames : List Timed) (span : Span) → defined_span (with_end frames span) ≡ finished_span frames (defined_span span)
finished_is frames span = go (task_ended frames span.path)
  where
    go : (b : Bool) → defined_span (with_end_if b frames span) ≡ ended_if b frames (defined_span span)
    go true = refl
    go false = refl

finished_are : (frames : List Timed) (spans : List Span) → map defined_span (map (with_end frames) spans) ≡ map (finished_span frames) (map defined_span spans)
finished_are frames [] = refl
finished_are frames (span ∷ spans) =
    ap (λ s. s ∷ map defined_span (map (with_end frames) spans)) (finished_is frames span) ∙ ap (λ l. finished_span frames (defined_span span) ∷ l) (finished_are frames spans)

pub all_finished : (frames : List Timed) (made spans : List Span) (begun : List SpanOf) → made ≡ map (with_end frames) spans → map defined_span spans ≡ begun →
    map defined_span made ≡ map (finished_span frames) begun
all_finished frames made spans begun e known_task = ap (map defined_span) e ∙ (finished_are frames spans ∙ ap (map (finished_span frames)) known_task)
