-- One generation: what each frame adds, and what all of them do.
use Rattle.std.proofs.Common.{◌≡◌, ℕ, zero, suc, ◌+◌, ◌-◌, ◌<◌, ◌≤◌, Bool, true, false, IsTrue, if◌then◌else◌, List, [], ◌∷◌, ◌++◌, map, length, get_or, drop, Option, Some, None, slice_get, refl, sym, ap, ◌∙◌, subst, append_assoc, length-append, arith}
use Rattle.std.proofs.lemmas.List.{at_drop_all, append-nil, length-map, map-append}
use Rattle.aerie_base.specs.Paths.{child_path, child_limit, children_of, is_path}
use Rattle.aerie_base.specs.Ranges.{step_limit}
use Rattle.aerie_base.specs.declared.models.model.Parts.{Parts}
use Rattle.effect_cells.specs.declared.effects.CellState.{CellState}
use Rattle.effect_cells.specs.Cells.{emitted}
use Rattle.run_data.specs.TaskFrames.{Frame}
use Rattle.run_data.specs.declared.frames.Item.{Item}
use Rattle.run_data.specs.declared.frames.Item.TheVariants as item
use Rattle.run_data.specs.declared.frames.Record.{Record}
use Rattle.run_data.specs.declared.jobs.Job.{Job}
use Rattle.run_data.specs.Batches.{cost_of}
use Rattle.run_data.specs.Counts.{cost_append, unmatched_append}
use Rattle.run_data.specs.Frames.{child_job, frame_of, job_step, room_of}
use Rattle.run_data.specs.Records.{unmatched, has_fit}
use Rattle.run_data.specs.Steps.{Stepped}
use Rattle.run_data.specs.Waves.{with_step, frames_of}
use Rattle.run_data.specs.laws.Generations.{PendingStep, Generation, child_jobs, deep_frame, with_children, beside_generation, pending_of}
use Rattle.run_data.specs.laws.Orders.{EachOf}
use Rattle.run_data.specs.laws.WaveGenerations.{generation_of}
use Rattle.engine_core.specs.BatchDues.{fresh, deep_children}
use Rattle.engine_core.specs.BatchGenerations.{gathered_so_far, added_by, jobs_of, AddsGeneration}
use Rattle.engine_core.proofs.ChildViews.{deep_any}

-- ---- a frame more

abbrev due_in : ℕ → Job → PendingStep
due_in room child = record { room = room; number = 0; job = child }

-- a child's path has room for one number less
child_room : (maker : List ℕ) (number room : ℕ) → IsTrue (is_path maker) → room_of maker ≡ suc room → room ≡ room_of (child_path maker number)
child_room [] number room good e = absurd (cc)
child_room (kind ∷ []) number room good e = absurd (cc)
child_room (kind ∷ id ∷ children) number room good e = (let one = length-append children (number ∷ []) in omega (arith, one, e))

due_children : (model : Parts) (maker : List ℕ) (room : ℕ) → IsTrue (is_path maker) → room_of maker ≡ suc room → (number : ℕ) (view : List CellState) (items : List Item) →
    map (due_in room) (child_jobs model maker number view items) ≡ map pending_of (fresh (child_jobs model maker number view items))
due_children model maker room good is number view [] = refl
due_children model maker room good is number view (item.Emit cell effect ∷ rest) = due_children model maker room good is number (emitted view cell effect) rest
due_children model maker room good is number view (item.Child kind arguments ∷ rest) =
    let same : room ≡ room_of (child_path maker number) = child_room maker number room good is in
    let first : due_in room (child_job model maker number view kind arguments) ≡ pending_of (0, child_job model maker number view kind arguments) =
    ap (λ n. due_in n (child_job model maker number view kind arguments)) same in
    λ i. first i ∷ due_children model maker room good is (number + 1) view rest i

-- where the path of a job has room, its children are due
pub adds_due : (model : Parts) (job : ℕ × Job) (frame : Frame) (made after : List Frame) (dues all : List (ℕ × Job)) → IsTrue (is_path job.1.path) → length (children_of job.1.path) < child_limit →
    after ≡ made ++ frame ∷ [] → all ≡ dues ++ fresh (child_jobs model job.1.path job.0 job.1.view frame.items) →
    beside_generation (gathered_so_far made dues) (added_by model job frame) ≡ gathered_so_far after all
adds_due model job frame made after dues all good less put is =
    let children = child_jobs model job.1.path job.0 job.1.view frame.items in
    let room = child_limit - (length (children_of job.1.path) + 1) in
    let more : room_of job.1.path ≡ suc room = omega (arith, less) in
    let steps : map pending_of dues ++ map (due_in room) children ≡ map pending_of all =
    ap (λ (l : List PendingStep). map pending_of dues ++ l) (due_children model job.1.path room good more job.0 job.1.view frame.items)
    ∙ sym (map-append pending_of dues (fresh children)) ∙ ap (map pending_of) (sym is)
    in
    ap (λ n. beside_generation (gathered_so_far made dues) (with_children n job.1.path frame children)) more
    ∙ (λ i. Some (sym put i, steps i))

-- and else they are too deep
pub adds_deep : (model : Parts) (job : ℕ × Job) (frame : Frame) (made first after deep : List Frame) (dues : List (ℕ × Job)) → child_limit ≤ length (children_of job.1.path) →
    first ≡ made ++ frame ∷ [] → deep ≡ deep_children model job.1.path frame.items → after ≡ first ++ deep →
    beside_generation (gathered_so_far made dues) (added_by model job frame) ≡ gathered_so_far after dues
adds_deep model job frame made first after deep dues most put is append =
    let children = child_jobs model job.1.path job.0 job.1.view frame.items in
    let none : room_of job.1.path ≡ 0 = omega (arith, most) in
    let frames : made ++ frame ∷ map (deep_frame job.1.path) children ≡ after =
    sym
    (append ∙ ap (λ (l : List Frame). first ++ l) (is ∙ deep_any model job.1.path frame.items 0 job.0 [] job.1.view)
    ∙ ap (λ (l : List Frame). l ++ map (deep_frame job.1.path) children) put
    ∙ append_assoc made (frame ∷ []) (map (deep_frame job.1.path) children))
    in
    ap (λ n. beside_generation (gathered_so_far made dues) (with_children n job.1.path frame children)) none
    ∙ (λ i. Some (frames i, append-nil (map pending_of dues) i))

-- ---- the frames of jobs, one after another

pub pair_here : {A B : Type 0} (pairs : List (A × B)) (at : ℕ) (one : A) (other : B) → slice_get (map (λ pair. pair.0) pairs) at ≡ Some one → other ≡ get_or (map (λ pair. pair.1) pairs) at other →
    slice_get pairs at ≡ Some (one, other)
pair_here [] at one other e f = absurd (cc)
pair_here (pair ∷ rest) zero one other e f = (let first : pair.0 ≡ one = cc in λ i. Some (first i, sym f i))
pair_here (pair ∷ rest) (suc at) one other e f = pair_here rest at one other e f

pub drop_here : {A : Type 0} (items : List A) (at : ℕ) (one : A) → slice_get items at ≡ Some one → drop at items ≡ one ∷ drop (at + 1) items
drop_here [] at one e = absurd (cc)
drop_here {A} (first ∷ rest) zero one e = (let same : first ≡ one = cc in ap (λ (x : A). x ∷ rest) same)
drop_here {A} (first ∷ rest) (suc at) one e = drop_here rest at one e ∙ ap (λ n. one ∷ drop n (first ∷ rest)) (let k : suc (at + 1) ≡ suc at + 1 = omega arith in k)

beside_more : (first second third : Generation) → beside_generation first (beside_generation second third) ≡ beside_generation (beside_generation first second) third
beside_more None second third = refl
beside_more (Some first) None third = refl
beside_more (Some first) (Some second) None = refl
beside_more (Some first) (Some second) (Some third) =
    λ i. Some (sym (append_assoc first.0 second.0 third.0) i, sym (append_assoc first.1 second.1 third.1) i)

pub frame_iteration : (model : Parts) (jobs : List (ℕ × Job)) (frames made after : List Frame) (dues all : List (ℕ × Job)) (whole : Generation) (at : ℕ) (job : ℕ × Job) (frame : Frame) →
    slice_get jobs at ≡ Some job → slice_get frames at ≡ Some frame → beside_generation (gathered_so_far made dues) (added_by model job frame) ≡ gathered_so_far after all →
    beside_generation (gathered_so_far made dues) (generation_of model (map pending_of (drop at jobs)) (drop at frames)) ≡ whole →
    beside_generation (gathered_so_far after all) (generation_of model (map pending_of (drop (at + 1) jobs)) (drop (at + 1) frames)) ≡ whole
frame_iteration model jobs frames made after dues all whole at job frame j f adds is =
    ap (λ (g : Generation). beside_generation g (generation_of model (map pending_of (drop (at + 1) jobs)) (drop (at + 1) frames))) (sym adds)
    ∙ sym (beside_more (gathered_so_far made dues) (added_by model job frame) (generation_of model (map pending_of (drop (at + 1) jobs)) (drop (at + 1) frames)))
    ∙ (λ i. beside_generation (gathered_so_far made dues) (generation_of model (map pending_of (sym (drop_here jobs at job j) i)) (sym (drop_here frames at frame f) i))) ∙ is

pub frames_end : (model : Parts) (jobs : List (ℕ × Job)) (frames made : List Frame) (dues : List (ℕ × Job)) (whole : Generation) (at : ℕ) → length jobs ≤ at →
    beside_generation (gathered_so_far made dues) (generation_of model (map pending_of (drop at jobs)) (drop at frames)) ≡ whole → whole ≡ gathered_so_far made dues
frames_end model jobs frames made dues whole at past is =
    sym is ∙ ap (λ (l : List (ℕ × Job)). beside_generation (gathered_so_far made dues) (generation_of model (map pending_of l) (drop at frames))) (at_drop_all (λ (l : List (ℕ × Job)). l) jobs at past)
    ∙ (λ i. Some (append-nil made i, append-nil (map pending_of dues) i))

-- ---- what a generation counts

-- the frames of children that are too deep cost nothing
deep_unmatched : (records : List Record) (maker : List ℕ) (children : List Job) → unmatched (map (deep_frame maker) children) records ≡ 0
deep_unmatched records maker [] = refl
deep_unmatched records maker (child ∷ rest) = by (has_fit records (deep_frame maker child)) (deep_unmatched records maker rest)
  where
    by : (fits : Bool) → unmatched (map (deep_frame maker) rest) records ≡ 0 →
        (if fits then unmatched (map (deep_frame maker) rest) records else 0 + unmatched (map (deep_frame maker) rest) records) ≡ 0
    by true none = none
    by false none = omega (arith, none)

deep_cost : (maker : List ℕ) (children : List Job) → cost_of (map (deep_frame maker) children) ≡ 0
deep_cost maker [] = refl
deep_cost maker (child ∷ rest) = (let none = deep_cost maker rest in omega (arith, none))

-- the frames of a generation cost what those of its jobs cost; there are no fewer, and the jobs that are due next are new
pub record Counts (frames own : List Frame) (next : List PendingStep) : Type 0 where
  pub cost : cost_of own ≡ cost_of frames
  pub unmatched_too : (records : List Record) → unmatched own records ≡ unmatched frames records
  pub many : length frames ≤ length own
  pub fresh_too : EachOf (λ due. due.number ≡ 0) next

all_fresh : (room : ℕ) (children : List Job) → EachOf (λ due. due.number ≡ 0) (map (due_in room) children)
all_fresh room [] = tt
all_fresh room (child ∷ rest) = (refl, all_fresh room rest)

each_append : (P : PendingStep → Type 0) (first second : List PendingStep) → EachOf P first → EachOf P second → EachOf P (first ++ second)
each_append P [] second h k = k
each_append P (due ∷ rest) second h k = (h.0, each_append P rest second h.1 k)

abbrev CountsAll : List Frame → Generation → Type 0
CountsAll frames None = Unit {0}
CountsAll frames (Some here) = Counts frames here.0 here.1

first_alone : (records : List Record) (first second : List Frame) → unmatched second records ≡ 0 → unmatched (first ++ second) records ≡ unmatched first records
first_alone records first second none = (let both = unmatched_append first second records in omega (arith, both, none))

one_counts : (room : ℕ) (maker : List ℕ) (frame : Frame) (children : List Job) → CountsAll (frame ∷ []) (with_children room maker frame children)
one_counts zero maker frame children = record {
  cost = (let none = deep_cost maker children in omega (arith, none));
  unmatched_too = λ records. first_alone records (frame ∷ []) (map (deep_frame maker) children) (deep_unmatched records maker children);
  many = omega arith;
  fresh_too = tt;
}
one_counts (suc room) maker frame children = record {
  cost = refl;
  unmatched_too = λ records. refl;
  many = omega arith;
  fresh_too = all_fresh room children;
}

both_count : (first second : List Frame) (one other : Generation) → CountsAll first one → CountsAll second other → CountsAll (first ++ second) (beside_generation one other)
both_count first second None other h k = tt
both_count first second (Some one) None h k = tt
both_count first second (Some one) (Some other) h k = record {
  cost = cost_append one.0 other.0 ∙ (λ i. h.cost i + k.cost i) ∙ sym (cost_append first second);
  unmatched_too = λ records.
      unmatched_append one.0 other.0 records ∙ (λ i. h.unmatched_too records i + k.unmatched_too records i) ∙ sym (unmatched_append first second records);
  many = (let a = length-append one.0 other.0 in let b = length-append first second in omega (arith, a, b, h.many, k.many));
  fresh_too = each_append (λ due. due.number ≡ 0) one.1 other.1 h.fresh_too k.fresh_too;
}

pub generation_counts : (model : Parts) (dues : List PendingStep) (frames : List Frame) → length frames ≤ length dues → CountsAll frames (generation_of model dues frames)
generation_counts model [] [] few = record { cost = refl; unmatched_too = λ records. refl; many = omega arith; fresh_too = tt }
generation_counts model [] (frame ∷ frames) few = absurd (omega arith)
generation_counts model (due ∷ rest) [] few = tt
generation_counts model (due ∷ rest) (frame ∷ frames) few =
    both_count (frame ∷ []) frames (with_children due.room due.job.path frame (child_jobs model due.job.path due.number due.job.view frame.items)) (generation_of model rest frames)
    (one_counts due.room due.job.path frame (child_jobs model due.job.path due.number due.job.view frame.items)) (generation_counts model rest frames (omega arith))

-- ---- what is left of a list

pub first_of_rest : {A : Type 0} (items : List A) (at : ℕ) (one : A) (rest : List A) → one ∷ rest ≡ drop at items →
    (slice_get items at ≡ Some one) × (rest ≡ drop (at + 1) items) × (at < length items)
first_of_rest [] zero one rest e = absurd (cc)
first_of_rest [] (suc at) one rest e = absurd (cc)
first_of_rest {A} (first ∷ more) zero one rest e =
    (let head : first ≡ one = cc in ap Some head, (let tail : rest ≡ more = cc in tail), omega arith)
first_of_rest {A} (first ∷ more) (suc at) one rest e =
    let further = first_of_rest more at one rest e in
    (further.0, further.1 ∙ ap (λ n. drop n (first ∷ more)) (let k : suc (at + 1) ≡ suc at + 1 = omega arith in k), omega (arith, further.2))

-- ---- a iteration

pub as_many : (model : Parts) (budget : ℕ) (jobs : List (ℕ × Job)) (frames : List Frame) → frames_of model budget (jobs_of jobs) ≡ Some frames → length frames ≡ length jobs
as_many model budget [] frames e = (let none : [] ≡ frames = cc in ap length (sym none))
as_many model budget (job ∷ rest) frames e = by (job_step model budget job.1) (frames_of model budget (jobs_of rest)) refl e (as_many model budget rest)
  where
    by : (stepped : Stepped) (others : Option (List Frame)) → frames_of model budget (jobs_of rest) ≡ others → with_step job.1 stepped others ≡ Some frames →
        ((fs : List Frame) → frames_of model budget (jobs_of rest) ≡ Some fs → length fs ≡ length rest) → length frames ≡ length (job ∷ rest)
    by None others x e many = absurd (cc)
    by (Some (status, so)) None x e many = absurd (cc)
    by (Some (status, so)) (Some fs) x e many =
        let same : frame_of job.1 status so ∷ fs ≡ frames = cc in
        let long : suc (length fs) ≡ length frames = ap length same in
        let further = many fs x in omega (arith, long, further)

-- what a iteration counts
pub record FrameCounts (frames made after : List Frame) (dues : List (ℕ × Job)) : Type 0 where
  pub cost : cost_of after ≡ cost_of made + cost_of frames
  pub unmatched_too : (records : List Record) → unmatched after records ≡ unmatched made records + unmatched frames records
  pub many : length made + length frames ≤ length after
  pub few : EachOf (λ due. due.0 ≤ step_limit) dues

all_few : (dues : List (ℕ × Job)) → EachOf (λ due. due.number ≡ 0) (map pending_of dues) → EachOf (λ due. due.0 ≤ step_limit) dues
all_few [] h = tt
all_few (due ∷ rest) h = (omega (arith, h.0), all_few rest h.1)

pub frame_counts : (model : Parts) (jobs : List (ℕ × Job)) (frames made after : List Frame) (dues : List (ℕ × Job)) → length frames ≡ length jobs → AddsGeneration model jobs frames made after dues →
    FrameCounts frames made after dues
frame_counts model jobs frames made after dues same adds =
    by (generation_of model (map pending_of jobs) frames) (generation_counts model (map pending_of jobs) frames (let many = length-map jobs pending_of in omega (arith, many, same))) adds
  where
    by : (here : Generation) → CountsAll frames here → beside_generation (gathered_so_far made []) here ≡ gathered_so_far after dues → FrameCounts frames made after dues
    by None counts e = absurd (cc)
    by (Some here) counts e =
        let pair : ◌≡◌ {A = List Frame × List PendingStep} (made ++ here.0, here.1) (after, map pending_of dues) = cc in
        let own : made ++ here.0 ≡ after = ap (λ (p : List Frame × List PendingStep). p.0) pair in
        let next : here.1 ≡ map pending_of dues = ap (λ (p : List Frame × List PendingStep). p.1) pair in
        record {
          cost = sym (ap cost_of own) ∙ cost_append made here.0 ∙ ap (λ n. cost_of made + n) counts.cost;
          unmatched_too = λ records.
              sym (ap (λ (l : List Frame). unmatched l records) own) ∙ unmatched_append made here.0 records ∙ ap (λ n. unmatched made records + n) (counts.unmatched_too records);
          many = (let long = length-append made here.0 in let all : length (made ++ here.0) ≡ length after = ap length own in omega (arith, long, all, counts.many));
          few = all_few dues (subst (EachOf (λ due. due.number ≡ 0)) next counts.fresh_too);
        }
