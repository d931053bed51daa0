-- Job by job and a generation at a time, the jobs of a batch cost as much, have the same least fault and the same frames in
-- order of path: where two orders differ, no path is in both of the parts that are exchanged.
use Rattle.std.proofs.Common.{◌≡◌, inl, inr, ℕ, zero, suc, ◌+◌, ◌<◌, ◌≤◌, true, List, [], ◌∷◌, ◌++◌, map, Option, Some, None, refl, sym, ap, ◌∙◌, append_assoc, subst, arith}
use Rattle.std.proofs.lemmas.Bool.{false≢true}
use Rattle.aerie_base.specs.Paths.{child_limit, child_path, is_prefix}
use Rattle.aerie_base.specs.declared.models.model.Parts.{Parts}
use Rattle.effect_cells.specs.declared.effects.CellState.{CellState}
use Rattle.effect_cells.specs.Cells.{emitted}
use Rattle.run_data.specs.declared.jobs.Job.{Job}
use Rattle.run_data.specs.TaskFrames.{Frame}
use Rattle.run_data.specs.declared.frames.Item.{Item}
use Rattle.run_data.specs.declared.frames.Item.TheVariants as item
use Rattle.run_data.specs.Batches.{cost_of}
use Rattle.run_data.specs.Steps.{Stepped}
use Rattle.run_data.specs.Frames.{job_step}
use Rattle.run_data.specs.laws.Generations.{PendingStep, child_jobs, deep_frame, Generation, step_generation, beside_generation, generation, beside_frames, further, generations, pending_of, AreEquivalentFrames, AlikeFrames, AlikeByGenerations}
use Rattle.run_data.specs.laws.Orders.{EachOf, EachTwo, AreApart}
use Rattle.run_data.proofs.FramePaths.{HasPath, IsOf, AllOf, all_append, all_weaker, has_is_of, below_is}
use Rattle.run_data.proofs.Generations.{one, all_down, down, down_append, none_beside, zero_down, all_is}
use Rattle.run_data.specs.Counts.{cost_append}
use Rattle.run_data.proofs.PathOrder.{least_exchange, least_behind, sorted_exchange, sorted_behind}
use Rattle.run_data.proofs.PathsApart.{siblings_apart, cousins_apart}

-- ---- alike

alike_itself : (frames : Option (List Frame)) → AlikeFrames frames frames
alike_itself None = tt
alike_itself (Some frames) = record { cost = refl; fault = refl; sorted = refl }

alike_trans : (first second third : Option (List Frame)) → AlikeFrames first second → AlikeFrames second third → AlikeFrames first third
alike_trans None None None h k = tt
alike_trans None None (Some third) h k = absurd k
alike_trans None (Some second) third h k = absurd h
alike_trans (Some first) None third h k = absurd h
alike_trans (Some first) (Some second) None h k = absurd k
alike_trans (Some first) (Some second) (Some third) h k = record { cost = h.cost ∙ k.cost; fault = h.fault ∙ k.fault; sorted = h.sorted ∙ k.sorted }

alike_behind : (first rest again : List Frame) → AreEquivalentFrames rest again → AreEquivalentFrames (first ++ rest) (first ++ again)
alike_behind first rest again h = record {
  cost = cost_append first rest ∙ ap (λ n. cost_of first + n) h.cost ∙ sym (cost_append first again);
  fault = least_behind first rest again h.fault;
  sorted = sorted_behind first rest again h.sorted;
}

alike_beside : (first rest again : Option (List Frame)) → AlikeFrames rest again → AlikeFrames (beside_frames first rest) (beside_frames first again)
alike_beside None rest again h = tt
alike_beside (Some first) None None h = tt
alike_beside (Some first) None (Some again) h = absurd h
alike_beside (Some first) (Some rest) None h = absurd h
alike_beside (Some first) (Some rest) (Some again) h = alike_behind first rest again h

-- parts with no path in common are exchanged behind one that stays
regroup : (a x b y : List Frame) → ((path : List ℕ) → HasPath path x → HasPath path b → ⊥) → AreEquivalentFrames ((a ++ x) ++ (b ++ y)) ((a ++ b) ++ (x ++ y))
regroup a x b y apart =
    subst (λ l. AreEquivalentFrames l ((a ++ b) ++ (x ++ y))) (sym (append_assoc a x (b ++ y)))
    (subst (λ l. AreEquivalentFrames (a ++ (x ++ (b ++ y))) l) (sym (append_assoc a b (x ++ y)))
    (alike_behind a (x ++ (b ++ y)) (b ++ (x ++ y)) (record {
      cost =
          cost_append x (b ++ y) ∙ ap (λ n. cost_of x + n) (cost_append b y) ∙ omega arith
          ∙ sym (cost_append b (x ++ y) ∙ ap (λ n. cost_of b + n) (cost_append x y));
      fault = least_exchange x b apart y;
      sorted = sorted_exchange x b apart y;
    })))

-- ---- properties of what generations give

abbrev FramesOf : (List ℕ → Type 0) → Option (List Frame) → Type 0
FramesOf P None = Unit {0}
FramesOf P (Some frames) = AllOf P frames

-- the frames of a generation are of such paths
abbrev OwnOf : (List ℕ → Type 0) → Generation → Type 0
OwnOf P None = Unit {0}
OwnOf P (Some here) = AllOf P here.0

-- the steps that are then due are such
abbrev NextOf : (List PendingStep → Type 0) → Generation → Type 0
NextOf P None = Unit {0}
NextOf P (Some here) = P here.1

beside_of : (P : List ℕ → Type 0) (first rest : Option (List Frame)) → FramesOf P first → FramesOf P rest → FramesOf P (beside_frames first rest)
beside_of P None rest h k = tt
beside_of P (Some first) None h k = tt
beside_of P (Some first) (Some rest) h k = all_append P first rest h k

frames_weaker : (P Q : List ℕ → Type 0) → ((path : List ℕ) → P path → Q path) → (frames : Option (List Frame)) → FramesOf P frames → FramesOf Q frames
frames_weaker P Q gives None h = tt
frames_weaker P Q gives (Some frames) h = all_weaker P Q gives frames h

deep_of : (P : List ℕ → Type 0) (maker : List ℕ) (jobs : List Job) → P maker → AllOf P (map (deep_frame maker) jobs)
deep_of P maker [] h = tt
deep_of P maker (job ∷ rest) h = (h, deep_of P maker rest h)

each_append : (P : PendingStep → Type 0) (first second : List PendingStep) → EachOf P first → EachOf P second → EachOf P (first ++ second)
each_append P [] second h k = k
each_append P (due ∷ rest) second h k = (h.0, each_append P rest second h.1 k)

each_weaker : (P Q : PendingStep → Type 0) → ((due : PendingStep) → P due → Q due) → (dues : List PendingStep) → EachOf P dues → EachOf Q dues
each_weaker P Q gives [] h = tt
each_weaker P Q gives (due ∷ rest) h = (gives due h.0, each_weaker P Q gives rest h.1)

-- ---- children

-- each has the path of a child of this one, with a number from this on
abbrev AreBelow : List ℕ → ℕ → List Job → Type 0
AreBelow maker number [] = Unit {0}
AreBelow maker number (job ∷ rest) = (job.path ≡ child_path maker number) × AreBelow maker (number + 1) rest

children_below : (model : Parts) (maker : List ℕ) (number : ℕ) (view : List CellState) (items : List Item) → AreBelow maker number (child_jobs model maker number view items)
children_below model maker number view [] = tt
children_below model maker number view (item.Emit cell effect ∷ rest) = children_below model maker number (emitted view cell effect) rest
children_below model maker number view (item.Child kind arguments ∷ rest) = (refl, children_below model maker (number + 1) view rest)

abbrev due_in : ℕ → Job → PendingStep
due_in room child = record { room = room; number = 0; job = child }

abbrev job_of : PendingStep → ℕ × Job
job_of due = (due.number, due.job)

abbrev ApartDues : PendingStep → PendingStep → Type 0
ApartDues due other = AreApart (job_of due) (job_of other)

-- a step that is due for a child of this path with a number from this on
abbrev IsChild : List ℕ → ℕ → PendingStep → Type 0
IsChild maker least due = (due.number ≡ 0) × (number : ℕ) × (least ≤ number) × (due.job.path ≡ child_path maker number)

dues_below : (maker : List ℕ) (least number room : ℕ) (jobs : List Job) → least ≤ number → AreBelow maker number jobs → EachOf (IsChild maker least) (map (due_in room) jobs)
dues_below maker least number room [] less below = tt
dues_below maker least number room (job ∷ rest) less below = ((refl, number, less, below.0), dues_below maker least (number + 1) room rest (omega arith) below.1)

first_apart : (maker : List ℕ) (count number room : ℕ) (job : Job) (jobs : List Job) → count < number → job.path ≡ child_path maker count → AreBelow maker number jobs →
    EachOf (ApartDues (due_in room job)) (map (due_in room) jobs)
first_apart maker count number room job [] less e below = tt
first_apart maker count number room job (other ∷ rest) less e below =
    (siblings_apart maker count number job other (λ same. omega arith) e below.0, first_apart maker count (number + 1) room job rest (omega arith) e below.1)

all_apart : (maker : List ℕ) (number room : ℕ) (jobs : List Job) → AreBelow maker number jobs → EachTwo ApartDues (map (due_in room) jobs)
all_apart maker number room [] below = tt
all_apart maker number room (job ∷ rest) below =
    (first_apart maker number (number + 1) room job rest (omega arith) below.0 below.1, all_apart maker (number + 1) room rest below.1)

-- ---- generations

module _ (model : Parts) (budget : ℕ) where
  abbrev IsBelowDue : PendingStep → List ℕ → Type 0
  IsBelowDue due other = (number : ℕ) × (due.number ≤ number) × (is_prefix (child_path due.job.path number) other ≡ true)

  -- the steps that are due after one step are those of its children
  next_one : (due : PendingStep) → NextOf (EachOf (IsChild due.job.path due.number)) (one model budget due)
  next_one due = by (job_step model budget due.job) due.room
    where
      by : (stepped : Stepped) (room : ℕ) → NextOf (EachOf (IsChild due.job.path due.number)) (step_generation model (record { room = room; number = due.number; job = due.job }) stepped)
      by None room = tt
      by (Some (status, so_far)) zero = tt
      by (Some (status, so_far)) (suc room) =
          dues_below due.job.path due.number due.number room (child_jobs model due.job.path due.number due.job.view so_far.items) (omega arith)
          (children_below model due.job.path due.number due.job.view so_far.items)

  apart_one : (due : PendingStep) → NextOf (EachTwo ApartDues) (one model budget due)
  apart_one due = by (job_step model budget due.job) due.room
    where
      by : (stepped : Stepped) (room : ℕ) → NextOf (EachTwo ApartDues) (step_generation model (record { room = room; number = due.number; job = due.job }) stepped)
      by None room = tt
      by (Some (status, so_far)) zero = tt
      by (Some (status, so_far)) (suc room) =
          all_apart due.job.path due.number room (child_jobs model due.job.path due.number due.job.view so_far.items) (children_below model due.job.path due.number due.job.view so_far.items)

  own_one : (P : List ℕ → Type 0) (due : PendingStep) → P due.job.path → OwnOf P (one model budget due)
  own_one P due h = by (job_step model budget due.job) due.room
    where
      by : (stepped : Stepped) (room : ℕ) → OwnOf P (step_generation model (record { room = room; number = due.number; job = due.job }) stepped)
      by None room = tt
      by (Some (status, so_far)) zero = (h, deep_of P due.job.path (child_jobs model due.job.path due.number due.job.view so_far.items) h)
      by (Some (status, so_far)) (suc room) = (h, tt)

  own_beside : (P : List ℕ → Type 0) (here rest : Generation) → OwnOf P here → OwnOf P rest → OwnOf P (beside_generation here rest)
  own_beside P None rest h k = tt
  own_beside P (Some here) None h k = tt
  own_beside P (Some here) (Some rest) h k = all_append P here.0 rest.0 h k

  -- the frames of a generation have the paths of its steps
  own_all : (P : List ℕ → Type 0) (dues : List PendingStep) → EachOf (λ due. P due.job.path) dues → OwnOf P (generation model budget dues)
  own_all P [] h = tt
  own_all P (due ∷ rest) h = own_beside P (one model budget due) (generation model budget rest) (own_one P due h.0) (own_all P rest h.1)

  next_beside : (Q : PendingStep → Type 0) (here rest : Generation) → NextOf (EachOf Q) here → NextOf (EachOf Q) rest → NextOf (EachOf Q) (beside_generation here rest)
  next_beside Q None rest h k = tt
  next_beside Q (Some here) None h k = tt
  next_beside Q (Some here) (Some rest) h k = each_append Q here.1 rest.1 h k

  next_weaker : (P Q : PendingStep → Type 0) → ((due : PendingStep) → P due → Q due) → (here : Generation) → NextOf (EachOf P) here → NextOf (EachOf Q) here
  next_weaker P Q gives None h = tt
  next_weaker P Q gives (Some here) h = each_weaker P Q gives here.1 h

  next_all : (Q : PendingStep → Type 0) (dues : List PendingStep) → EachOf (λ due. (child : PendingStep) → IsChild due.job.path due.number child → Q child) dues → NextOf (EachOf Q) (generation model budget dues)
  next_all Q [] h = tt
  next_all Q (due ∷ rest) h =
      next_beside Q (one model budget due) (generation model budget rest)
      (next_weaker (IsChild due.job.path due.number) Q h.0 (one model budget due) (next_one due)) (next_all Q rest h.1)

  cousins : (due other child second : PendingStep) → ApartDues due other → IsChild due.job.path due.number child → IsChild other.job.path other.number second → ApartDues child second
  cousins due other child second apart is also =
      subst (λ n. AreApart (n, child.job) (job_of second)) (sym is.0)
      (subst (λ n. AreApart (0, child.job) (n, second.job)) (sym also.0)
      (cousins_apart (job_of due) (job_of other) is.1 also.1 child.job second.job apart is.2 also.2 is.3 also.3))

  apart_beside : (P : PendingStep → Type 0) (here rest : Generation) → NextOf (EachTwo ApartDues) here → NextOf (EachTwo ApartDues) rest → NextOf (EachOf P) here →
      ((child : PendingStep) → P child → NextOf (EachOf (ApartDues child)) rest) → NextOf (EachTwo ApartDues) (beside_generation here rest)
  apart_beside P None rest h k each cross = tt
  apart_beside P (Some here) None h k each cross = tt
  apart_beside P (Some here) (Some rest) h k each cross = joined here.1 h each
    where
      joined : (dues : List PendingStep) → EachTwo ApartDues dues → EachOf P dues → EachTwo ApartDues (dues ++ rest.1)
      joined [] two all = k
      joined (due ∷ more) two all = (each_append (ApartDues due) more rest.1 two.0 (cross due all.0), joined more two.1 all.1)

  -- where steps are apart, so are those that are then due
  next_apart : (dues : List PendingStep) → EachTwo ApartDues dues → NextOf (EachTwo ApartDues) (generation model budget dues)
  next_apart [] two = tt
  next_apart (due ∷ rest) two =
      apart_beside (IsChild due.job.path due.number) (one model budget due) (generation model budget rest) (apart_one due) (next_apart rest two.1) (next_one due)
      (λ child is. next_all (ApartDues child) rest
      (each_weaker (ApartDues due) (λ other. (second : PendingStep) → IsChild other.job.path other.number second → ApartDues child second)
      (λ other apart second also. cousins due other child second apart is also) rest two.0))

  -- ---- below a step

  children_of : (count : ℕ) (due : PendingStep) (children : List PendingStep) → ((child : PendingStep) → FramesOf (IsOf child.job.path child.number) (down model budget count child)) →
      EachOf (IsChild due.job.path due.number) children → FramesOf (IsBelowDue due) (all_down model budget (down model budget count) children)
  children_of count due [] each all = tt
  children_of count due (child ∷ rest) each all =
      let is = all.0 in
      beside_of (IsBelowDue due) (down model budget count child) (all_down model budget (down model budget count) rest)
      (frames_weaker (IsOf child.job.path child.number) (IsBelowDue due)
      (λ other of_child. below_is due.job.path other due.number is.1 is.2
      (subst (λ p. IsOf p 0 other) is.3 (subst (λ n. IsOf child.job.path n other) is.0 of_child))) (down model budget count child) (each child))
      (children_of count due rest each all.1)

  below_one : (count : ℕ) (due : PendingStep) → ((child : PendingStep) → FramesOf (IsOf child.job.path child.number) (down model budget count child)) →
      (here : Generation) → NextOf (EachOf (IsChild due.job.path due.number)) here → NextOf (λ children. FramesOf (IsBelowDue due) (all_down model budget (down model budget count) children)) here
  below_one count due each None h = tt
  below_one count due each (Some here) h = children_of count due here.1 each h

  further_of : (P : List ℕ → Type 0) (here : Generation) (go : List PendingStep → Option (List Frame)) → OwnOf P here → NextOf (λ dues. FramesOf P (go dues)) here → FramesOf P (further here go)
  further_of P None go h k = tt
  further_of P (Some here) go h k = beside_of P (Some here.0) (go here.1) h k

  next_of : (P Q : List PendingStep → Type 0) → ((dues : List PendingStep) → P dues → Q dues) → (here : Generation) → NextOf P here → NextOf Q here
  next_of P Q gives None h = tt
  next_of P Q gives (Some here) h = gives here.1 h

  -- all frames of a step are its own or below a child that it makes now
  down_of : (count : ℕ) (due : PendingStep) → FramesOf (IsOf due.job.path due.number) (down model budget count due)
  down_of zero due = tt
  down_of (suc count) due =
      further_of (IsOf due.job.path due.number) (one model budget due) (all_down model budget (down model budget count)) (own_one (IsOf due.job.path due.number) due (inl refl))
      (next_of (λ children. FramesOf (IsBelowDue due) (all_down model budget (down model budget count) children)) (λ children. FramesOf (IsOf due.job.path due.number) (all_down model budget (down model budget count) children))
      (λ children. frames_weaker (IsBelowDue due) (IsOf due.job.path due.number) (λ other below. inr below) (all_down model budget (down model budget count) children))
      (one model budget due) (below_one count due (down_of count) (one model budget due) (next_one due)))

  -- ---- one generation

  two_beside : (a b : List Frame) (x y : Option (List Frame)) (P : List ℕ → Type 0) → FramesOf P x → AllOf (λ path. P path → ⊥) b →
      AlikeFrames (beside_frames (beside_frames (Some a) x) (beside_frames (Some b) y)) (beside_frames (Some (a ++ b)) (beside_frames x y))
  two_beside a b None y P h k = tt
  two_beside a b (Some x) None P h k = tt
  two_beside a b (Some x) (Some y) P h k =
      regroup a x b y (λ path in_x in_b. has_is_of (λ p. P p → ⊥) b path k in_b (has_is_of P x path h in_x))

  beside_alike : (go : PendingStep → Option (List Frame)) (here rest : Generation) (P : List ℕ → Type 0) → NextOf (λ dues. FramesOf P (all_down model budget go dues)) here → OwnOf (λ path. P path → ⊥) rest →
      AlikeFrames (beside_frames (further here (all_down model budget go)) (further rest (all_down model budget go))) (further (beside_generation here rest) (all_down model budget go))
  beside_alike go None rest P h k = tt
  beside_alike go (Some here) None P h k =
      subst (λ l. AlikeFrames l None) (sym (none_beside model budget (beside_frames (Some here.0) (all_down model budget go here.1)))) tt
  beside_alike go (Some here) (Some rest) P h k =
      subst (λ l. AlikeFrames (beside_frames (beside_frames (Some here.0) (all_down model budget go here.1)) (beside_frames (Some rest.0) (all_down model budget go rest.1))) (beside_frames (Some (here.0 ++ rest.0)) l))
      (sym (down_append model budget go here.1 rest.1)) (two_beside here.0 rest.0 (all_down model budget go here.1) (all_down model budget go rest.1) P h k)

  one_alike : (count : ℕ) (dues : List PendingStep) → EachTwo ApartDues dues →
      AlikeFrames (all_down model budget (down model budget (suc count)) dues) (further (generation model budget dues) (all_down model budget (down model budget count)))
  one_alike count [] two = alike_itself (Some [])
  one_alike count (due ∷ rest) two =
      alike_trans (beside_frames (down model budget (suc count) due) (all_down model budget (down model budget (suc count)) rest))
      (beside_frames (down model budget (suc count) due) (further (generation model budget rest) (all_down model budget (down model budget count)))) _
      (alike_beside (down model budget (suc count) due) _ _ (one_alike count rest two.1))
      (beside_alike (down model budget count) (one model budget due) (generation model budget rest) (IsBelowDue due)
      (below_one count due (down_of count) (one model budget due) (next_one due))
      (own_all (λ path. IsBelowDue due path → ⊥) rest
      (each_weaker (ApartDues due) (λ other. IsBelowDue due other.job.path → ⊥) (λ other apart below. false≢true (sym (apart.no_child below.0 below.1) ∙ below.2)) rest two.0)))

  further_alike : (here : Generation) (go again : List PendingStep → Option (List Frame)) → NextOf (λ dues. AlikeFrames (go dues) (again dues)) here → AlikeFrames (further here go) (further here again)
  further_alike None go again h = tt
  further_alike (Some here) go again h = alike_beside (Some here.0) (go here.1) (again here.1) h

  alike_generations : (count : ℕ) (dues : List PendingStep) → EachTwo ApartDues dues → AlikeFrames (all_down model budget (down model budget count) dues) (generations model budget count dues)
  alike_generations zero dues two = subst (λ l. AlikeFrames l (Some [])) (sym (zero_down model budget dues)) (alike_itself (Some []))
  alike_generations (suc count) dues two =
      alike_trans (all_down model budget (down model budget (suc count)) dues) (further (generation model budget dues) (all_down model budget (down model budget count))) (generations model budget (suc count) dues)
      (one_alike count dues two)
      (further_alike (generation model budget dues) (all_down model budget (down model budget count)) (generations model budget count)
      (next_of (EachTwo ApartDues) (λ next. AlikeFrames (all_down model budget (down model budget count) next) (generations model budget count next)) (alike_generations count)
      (generation model budget dues) (next_apart dues two)))

due_each : (job : ℕ × Job) (jobs : List (ℕ × Job)) → EachOf (AreApart job) jobs → EachOf (ApartDues (pending_of job)) (map pending_of jobs)
due_each job [] h = tt
due_each job (other ∷ rest) h = (h.0, due_each job rest h.1)

dues_apart : (jobs : List (ℕ × Job)) → EachTwo AreApart jobs → EachTwo ApartDues (map pending_of jobs)
dues_apart [] h = tt
dues_apart (job ∷ rest) h = (due_each job rest h.0, dues_apart rest h.1)

pub alike_by_generations : AlikeByGenerations
alike_by_generations model budget jobs apart =
    subst (λ l. AlikeFrames l (generations model budget (child_limit + 1) (map pending_of jobs))) (sym (all_is model budget jobs))
    (alike_generations model budget (child_limit + 1) (map pending_of jobs) (dues_apart jobs apart))
