-- The frames of a batch in which none faulted: each is of a step that ends well, with its children among them, and no two
-- are of one path.
use Rattle.std.proofs.Common.{◌≡◌, ◌⊎◌, inl, inr, ℕ, zero, suc, ◌+◌, ◌≤◌, nat_eq, true, IsTrue, List, [], ◌∷◌, ◌++◌, Option, Some, None, refl, sym, ap, ◌∙◌, subst, arith}
use Rattle.std.proofs.lemmas.Bool.{false≢true}
use Rattle.aerie_base.specs.declared.values.Value.{Value}
use Rattle.aerie_base.specs.declared.faults.Fault.TheVariants.{TooDeep}
use Rattle.aerie_base.specs.declared.models.model.Parts.{Parts}
use Rattle.aerie_base.specs.models.ValidModel.{valid_model}
use Rattle.aerie_base.specs.Paths.{child_path, is_prefix}
use Rattle.effect_cells.specs.declared.effects.CellState.{CellState}
use Rattle.effect_cells.specs.declared.effects.Effect.{Effect}
use Rattle.effect_cells.specs.Cells.{emitted}
use Rattle.run_data.specs.declared.tasks.BodyId.TheVariants as body
use Rattle.run_data.specs.declared.tasks.TaskState.{TaskState}
use Rattle.run_data.specs.declared.jobs.Job.{Job}
use Rattle.run_data.specs.TaskFrames.{Frame}
use Rattle.run_data.specs.declared.frames.Item.{Item}
use Rattle.run_data.specs.declared.frames.Item.TheVariants as item
use Rattle.run_data.specs.declared.frames.Status.{Status}
use Rattle.run_data.specs.Batches.{fault_in}
use Rattle.run_data.specs.Frames.{Making, with_effect, with_child, with_frame, job_step, frame_of, child_job, of_items, of_step, too_deep, made_within, made_by, made_by_all, room_of}
use Rattle.run_data.specs.Jobs.{AreCellsOf}
use Rattle.run_data.specs.StepStates.{StepState}
use Rattle.run_data.specs.Steps.{Stepped}
use Rattle.run_data.specs.Tasks.{Table, task_at, children_made, children_in}
use Rattle.run_data.specs.laws.Generations.{deep_frame}
use Rattle.run_data.specs.laws.BatchFrames.{AnyFrame, Among, HasPath, Differ, OfReady, OfChild}
use Rattle.run_data.specs.laws.Orders.{EachOf, EachTwo, AreApart}
use Rattle.run_data.proofs.CellKinds.{cells_emitted}
use Rattle.run_data.specs.laws.PathsUnder.{both_true, same_number, under_itself, under_shorter}
use Rattle.run_data.proofs.FramePaths.{IsOf, AllOf, MadeOf, made_weaker, effect_of_all, child_of_all, items_of_all, within_of, never_both}
use Rattle.run_data.proofs.StepEndings.{nth_child, ChildrenGoOn, EndsWell, GoodJob, good_step}
use Rattle.run_data.proofs.StepLeavings.{EffectsFit}

any_front : (P : Frame → Type 0) (first second : List Frame) → AnyFrame P first → AnyFrame P (first ++ second)
any_front P [] second h = absurd h
any_front P (frame ∷ rest) second (inl h) = inl h
any_front P (frame ∷ rest) second (inr h) = inr (any_front P rest second h)

any_back : (P : Frame → Type 0) (first second : List Frame) → AnyFrame P second → AnyFrame P (first ++ second)
any_back P [] second h = h
any_back P (frame ∷ rest) second h = inr (any_back P rest second h)

each_append : (P : Frame → Type 0) (first second : List Frame) → EachOf P first → EachOf P second → EachOf P (first ++ second)
each_append P [] second h k = k
each_append P (frame ∷ rest) second h k = (h.0, each_append P rest second h.1 k)

pub each_among : (P : Frame → Type 0) (frames : List Frame) (frame : Frame) → EachOf P frames → Among frame frames → P frame
each_among P [] frame each among = absurd among
each_among P (first ∷ rest) frame each (inl e) = subst P e each.0
each_among P (first ∷ rest) frame each (inr among) = each_among P rest frame each.1 among

module _ (model : Parts) (valid : IsTrue (valid_model model)) (table : Table) (all : List Frame) (sound : EachOf (λ frame. fault_in frame.status ≡ None) all) where
  -- how many children the task of a path had made
  abbrev pub made_at : List ℕ → ℕ
  made_at path = children_made (task_at table path)

  -- no task stands under a child that the task is yet to make
  abbrev pub NoneToCome : List ℕ → Type 0
  NoneToCome path = (number : ℕ) (other : List ℕ) → made_at path ≤ number → is_prefix (child_path path number) other ≡ true → task_at table other ≡ None

  pub record HasChild (path : List ℕ) (kind : ℕ) : Type 0 where
    pub frame : Frame
    pub among : Among frame all
    pub is : frame.path ≡ path
    pub of : frame.before.kind ≡ body.Activity kind

  abbrev pub Origin : Frame → Type 0
  Origin frame = OfReady table frame ⊎ OfChild table all frame

  pub record Known (frame : Frame) : Type 0 where
    pub well : EndsWell model frame.before.kind frame.items frame.status
    pub children : (number kind : ℕ) → nth_child frame.items number ≡ Some kind → HasChild (child_path frame.path (made_at frame.path + number)) kind
    pub origin : Origin frame
    pub few : children_in frame.items ≤ frame.cost

  -- ---- makings whose frames are all among these

  abbrev pub AreAmong : List Frame → Type 0
  AreAmong frames = (frame : Frame) → Among frame frames → Among frame all

  abbrev pub MadeAmong : Making → Type 0
  MadeAmong None = Unit {0}
  MadeAmong (Some made) = AreAmong made.frames

  record HasOwn (path : List ℕ) (before : TaskState) : Type 0 where
    frame : Frame
    among : Among frame all
    is : frame.path ≡ path
    state : frame.before ≡ before

  record GoodMade (job : Job) (frames : List Frame) : Type 0 where
    each : EachOf Known frames
    own : HasOwn job.path job.state
    differ : Differ frames

  abbrev Good : Job → Making → Type 0
  Good job None = Unit {0}
  Good job (Some made) = GoodMade job made.frames

  record GoodItemsMade (path : List ℕ) (number : ℕ) (items : List Item) (frames : List Frame) : Type 0 where
    each : EachOf Known frames
    children : (count kind : ℕ) → nth_child items count ≡ Some kind → HasChild (child_path path (number + count)) kind
    differ : Differ frames

  abbrev GoodItems : List ℕ → ℕ → List Item → Making → Type 0
  GoodItems path number items None = Unit {0}
  GoodItems path number items (Some made) = GoodItemsMade path number items made.frames

  -- a job with what is known of its task
  pub record Begins (number : ℕ) (job : Job) : Type 0 where
    pub good : GoodJob model job
    pub made : number ≡ made_at job.path
    pub none : NoneToCome job.path
    pub own : (frame : Frame) → frame.path ≡ job.path → frame.before ≡ job.state → Origin frame

  -- ---- paths

  differ_append : (first second : List Frame) → ((path : List ℕ) → HasPath path first → HasPath path second → ⊥) → Differ first → Differ second → Differ (first ++ second)
  differ_append [] second apart h k = k
  differ_append (frame ∷ rest) second apart h k =
      (λ has. either (split rest has), differ_append rest second (λ path here there. apart path (inr here) there) h.1 k)
    where
      split : (frames : List Frame) → HasPath frame.path (frames ++ second) → HasPath frame.path frames ⊎ HasPath frame.path second
      split [] has = inr has
      split (one ∷ others) (inl e) = inl (inl e)
      split (one ∷ others) (inr has) = by (split others has)
        where
          by : HasPath frame.path others ⊎ HasPath frame.path second → HasPath frame.path (one ∷ others) ⊎ HasPath frame.path second
          by (inl x) = inl (inr x)
          by (inr x) = inr x

      either : HasPath frame.path rest ⊎ HasPath frame.path second → ⊥
      either (inl has) = h.0 has
      either (inr has) = apart frame.path (inl refl) has

  has_of : (P : List ℕ → Type 0) (frames : List Frame) (path : List ℕ) → AllOf P frames → HasPath path frames → P path
  has_of P [] path each has = absurd has
  has_of P (frame ∷ rest) path each (inl e) = subst P e each.0
  has_of P (frame ∷ rest) path each (inr has) = has_of P rest path each.1 has

  beside_differ : (P : List ℕ → Type 0) (first second : List Frame) → AllOf P first → AllOf (λ path. P path → ⊥) second → Differ first → Differ second → Differ (first ++ second)
  beside_differ P first second is not h k =
      differ_append first second (λ path here there. has_of (λ p. P p → ⊥) second path not there (has_of P first path is here)) h k

  -- a child's path, and what is under it
  of_prefix : (path other : List ℕ) → IsOf path 0 other → is_prefix path other ≡ true
  of_prefix path other (inl e) = ap (is_prefix path) e ∙ under_itself path
  of_prefix path other (inr h) = under_shorter path (h.0 ∷ []) other h.2

  one_child : (path other : List ℕ) (number second : ℕ) → is_prefix (child_path path number) other ≡ true → is_prefix (child_path path second) other ≡ true → number ≡ second
  one_child [] [] number second h k = absurd (false≢true h)
  one_child [] (here ∷ other) number second h k =
      let one = both_true (nat_eq number here) (is_prefix [] other) h in
      let two = both_true (nat_eq second here) (is_prefix [] other) k in
      same_number number here one.0 ∙ sym (same_number second here two.0)
  one_child (first ∷ path) [] number second h k = absurd (false≢true h)
  one_child (first ∷ path) (here ∷ other) number second h k =
      let one = both_true (nat_eq first here) (is_prefix (child_path path number) other) h in
      let two = both_true (nat_eq first here) (is_prefix (child_path path second) other) k in
      one_child path other number second one.1 two.1

  not_above : (path : List ℕ) (number : ℕ) → is_prefix (child_path path number) path ≡ true → ⊥
  not_above [] number h = false≢true h
  not_above (first ∷ path) number h = not_above path number (both_true (nat_eq first first) (is_prefix (child_path path number) path) h).1

  -- ---- items

  emitted_good : (path : List ℕ) (number : ℕ) (cell : ℕ) (effect : Effect) (rest : List Item) (making : Making) → (MadeAmong making → GoodItems path number rest making) → MadeAmong (with_effect cell effect making) →
      GoodItems path number (item.Emit cell effect ∷ rest) (with_effect cell effect making)
  emitted_good path number cell effect rest None further among = tt
  emitted_good path number cell effect rest (Some made) further among =
      let good = further among in record { each = good.each; children = good.children; differ = good.differ }

  module _ (of_child : Job → Making) (child_of : (job : Job) → MadeOf (IsOf job.path 0) (of_child job))
      (child_good : (job : Job) → Begins 0 job → MadeAmong (of_child job) → Good job (of_child job)) (maker : Frame) (maker_in : Among maker all) (none : NoneToCome maker.path) where
    child_is_good : (number kind : ℕ) (arguments : List Value) (view : List CellState) (rest : List Item) (child later : Making) →
        MadeOf (IsOf (child_path maker.path number) 0) child → MadeOf (λ path. IsOf (child_path maker.path number) 0 path → ⊥) later →
        (MadeAmong child → Good (child_job model maker.path number view kind arguments) child) → (MadeAmong later → GoodItems maker.path (number + 1) rest later) →
        MadeAmong (with_child child later) → GoodItems maker.path number (item.Child kind arguments ∷ rest) (with_child child later)
    child_is_good number kind arguments view rest None later is not good further among = tt
    child_is_good number kind arguments view rest (Some child) None is not good further among = tt
    child_is_good number kind arguments view rest (Some child) (Some later) is not good further among =
        let one = good (λ frame here. among frame (any_front (λ f. f ≡ frame) child.frames later.frames here)) in
        let more = further (λ frame here. among frame (any_back (λ f. f ≡ frame) child.frames later.frames here)) in
        record {
          each = each_append Known child.frames later.frames one.each more.each;
          children = λ count k e. found one more.children count k e;
          differ = beside_differ (IsOf (child_path maker.path number) 0) child.frames later.frames is not one.differ more.differ;
        }
      where
        found : GoodMade (child_job model maker.path number view kind arguments) child.frames →
            ((count k : ℕ) → nth_child rest count ≡ Some k → HasChild (child_path maker.path (number + 1 + count)) k) →
            (count k : ℕ) → nth_child (item.Child kind arguments ∷ rest) count ≡ Some k → HasChild (child_path maker.path (number + count)) k
        found one more zero k e =
            let same : kind ≡ k = cc in
            let place : number ≡ number + 0 = omega arith in record {
              frame = one.own.frame;
              among = one.own.among;
              is = one.own.is ∙ ap (child_path maker.path) place;
              of = ap (λ (s : TaskState). s.kind) one.own.state ∙ ap body.Activity same;
            }
        found one more (suc count) k e =
            let place : number + 1 + count ≡ number + suc count = omega arith in
            subst (λ (n : ℕ). HasChild (child_path maker.path n) k) place (more count k e)

    items_good : (done number : ℕ) (view : List CellState) (items : List Item) → number ≡ made_at maker.path + done → done + children_in items ≡ children_in maker.items →
        AreCellsOf model view → EffectsFit model items → ChildrenGoOn model items → MadeAmong (of_items model of_child maker.path number view items) →
        GoodItems maker.path number items (of_items model of_child maker.path number view items)
    items_good done number view [] at count cells fit children among = record { each = tt; children = λ n kind e. absurd (cc); differ = tt }
    items_good done number view (item.Emit cell effect ∷ rest) at count cells fit children among =
        emitted_good maker.path number cell effect rest (of_items model of_child maker.path number (emitted view cell effect) rest)
        (items_good done number (emitted view cell effect) rest at count (cells_emitted model view cell effect cells (fit.0 view cells)) fit.1 children) among
    items_good done number view (item.Child kind arguments ∷ rest) at count cells fit children among =
        child_is_good number kind arguments view rest (of_child job) (of_items model of_child maker.path (number + 1) view rest)
        (child_of job) later_of
        (child_good job begins)
        (items_good (done + 1) (number + 1) view rest (omega (arith, at)) (omega (arith, count)) cells fit children.1) among
      where
        job : Job
        job = child_job model maker.path number view kind arguments

        fresh : (path : List ℕ) → is_prefix (child_path maker.path number) path ≡ true → task_at table path ≡ None
        fresh path under = none number path (omega (arith, at)) under

        begins : Begins 0 job
        begins = record {
          good = record { state = children.0; view = cells };
          made = sym (ap children_made (fresh (child_path maker.path number) (under_itself (child_path maker.path number))));
          none = λ n other above under. fresh other (under_shorter (child_path maker.path number) (n ∷ []) other under);
          own = λ frame is state. inr (record {
            maker = maker;
            among = maker_in;
            number = done;
            below = omega (arith, count);
            is = is ∙ ap (child_path maker.path) at;
            fresh = ap (task_at table) is ∙ fresh (child_path maker.path number) (under_itself (child_path maker.path number));
          });
        }

        apart : (n : ℕ) → number + 1 ≤ n → (path : List ℕ) → IsOf (child_path maker.path n) 0 path → IsOf (child_path maker.path number) 0 path → ⊥
        apart n less path h k =
            let same = one_child maker.path path n number (of_prefix (child_path maker.path n) path h) (of_prefix (child_path maker.path number) path k) in omega (arith, same)

        later_of : MadeOf (λ path. IsOf (child_path maker.path number) 0 path → ⊥) (of_items model of_child maker.path (number + 1) view rest)
        later_of =
            items_of_all (λ path. IsOf (child_path maker.path number) 0 path → ⊥) model of_child maker.path (number + 1) (number + 1) view rest (omega arith)
            (λ n k values value_read less. made_weaker (IsOf (child_path maker.path n) 0) (λ path. IsOf (child_path maker.path number) 0 path → ⊥) (apart n less)
            (of_child (child_job model maker.path n value_read k values)) (child_of (child_job model maker.path n value_read k values)))

  -- ---- steps

  -- what comes with a frame is not of its path
  items_elsewhere : (of_child : Job → Making) (child_of : (job : Job) → MadeOf (IsOf job.path 0) (of_child job)) (path : List ℕ) (number : ℕ) (view : List CellState) (items : List Item) →
      MadeOf (λ other. path ≡ other → ⊥) (of_items model of_child path number view items)
  items_elsewhere of_child child_of path number view items =
      items_of_all (λ other. path ≡ other → ⊥) model of_child path number number view items (omega arith)
      (λ n kind arguments value_read less. made_weaker (IsOf (child_path path n) 0) (λ other. path ≡ other → ⊥)
      (λ other is same. not_above path n (ap (is_prefix (child_path path n)) same ∙ of_prefix (child_path path n) other is))
      (of_child (child_job model path n value_read kind arguments)) (child_of (child_job model path n value_read kind arguments)))

  none_has : (path : List ℕ) (frames : List Frame) → AllOf (λ other. path ≡ other → ⊥) frames → HasPath path frames → ⊥
  none_has path [] each has = has
  none_has path (frame ∷ rest) each (inl e) = each.0 (sym e)
  none_has path (frame ∷ rest) each (inr has) = none_has path rest each.1 has

  frame_good : (job : Job) (number : ℕ) (status : Status) (so_far : StepState) (making : Making) → Begins number job → EndsWell model job.state.kind so_far.items status → children_in so_far.items ≤ so_far.cost →
      (MadeAmong making → MadeOf (λ other. job.path ≡ other → ⊥) making) → (Among (frame_of job status so_far) all → MadeAmong making → GoodItems job.path number so_far.items making) →
      MadeAmong (with_frame (frame_of job status so_far) making) → Good job (with_frame (frame_of job status so_far) making)
  frame_good job number status so_far None begins well few elsewhere further among = tt
  frame_good job number status so_far (Some made) begins well few elsewhere further among =
      let here : Among (frame_of job status so_far) all = among (frame_of job status so_far) (inl refl) in
      let rest = further here (λ frame is. among frame (inr is)) in record {
        each = (
          record {
            well = well;
            children = λ count kind e. subst (λ (n : ℕ). HasChild (child_path job.path (n + count)) kind) begins.made (rest.children count kind e);
            origin = begins.own (frame_of job status so_far) refl refl;
            few = few;
          },
          rest.each,
        );
        own = record { frame = frame_of job status so_far; among = here; is = refl; state = refl };
        differ = (none_has job.path made.frames (elsewhere (λ frame is. among frame (inr is))), rest.differ);
      }

  step_good : (budget : ℕ) (of_child : Job → Making) (child_of : (job : Job) → MadeOf (IsOf job.path 0) (of_child job)) (child_good : (job : Job) → Begins 0 job → MadeAmong (of_child job) → Good job (of_child job))
      (job : Job) (number : ℕ) (stepped : Stepped) → job_step model budget job ≡ stepped → Begins number job → MadeAmong (of_step model of_child job number stepped) → Good job (of_step model of_child job number stepped)
  step_good budget of_child child_of child_good job number None e begins among = tt
  step_good budget of_child child_of child_good job number (Some (status, so_far)) e begins among =
      let step = good_step model budget job status so_far valid begins.good e in
      frame_good job number status so_far (of_items model of_child job.path number job.view so_far.items) begins step.well step.few
      (λ inner. items_elsewhere of_child child_of job.path number job.view so_far.items)
      (λ here. items_good of_child child_of child_good (frame_of job status so_far) here begins.none 0 number job.view so_far.items
      (omega (arith, begins.made)) (omega arith) begins.good.view step.effects step.children) among

  deep_good : (maker : List ℕ) (job : Job) → MadeAmong (too_deep maker job) → ⊥
  deep_good maker job among =
      let none : ◌≡◌ {A = Option _} (Some TooDeep) None = each_among (λ frame. fault_in frame.status ≡ None) all (deep_frame maker job) sound (among (deep_frame maker job) (inl refl)) in absurd (cc)

  -- a child that is too deep faults, so there is none
  among_effect : (cell : ℕ) (effect : Effect) (making : Making) → MadeAmong (with_effect cell effect making) → MadeAmong making
  among_effect cell effect None among = tt
  among_effect cell effect (Some made) among = among

  no_deep : (X : Making → Type 0) (path : List ℕ) (job : Job) (later : Making) → X None → MadeAmong (with_child (too_deep path job) later) → X (with_child (too_deep path job) later)
  no_deep X path job None x among = x
  no_deep X path job (Some later) x among = absurd (deep_good path job (λ frame here. among frame (any_front (λ f. f ≡ frame) (deep_frame path job ∷ []) later.frames here)))

  deep_items : (path : List ℕ) (number : ℕ) (view : List CellState) (items : List Item) → MadeAmong (of_items model (too_deep path) path number view items) →
      GoodItems path number items (of_items model (too_deep path) path number view items)
  deep_items path number view [] among = record { each = tt; children = λ n kind e. absurd (cc); differ = tt }
  deep_items path number view (item.Emit cell effect ∷ rest) among =
      emitted_good path number cell effect rest (of_items model (too_deep path) path number (emitted view cell effect) rest)
      (deep_items path number (emitted view cell effect) rest) among
  deep_items path number view (item.Child kind arguments ∷ rest) among =
      no_deep (GoodItems path number (item.Child kind arguments ∷ rest)) path (child_job model path number view kind arguments) (of_items model (too_deep path) path (number + 1) view rest) tt among

  deep_elsewhere : (P : List ℕ → Type 0) (path : List ℕ) (number : ℕ) (view : List CellState) (items : List Item) → MadeAmong (of_items model (too_deep path) path number view items) →
      MadeOf P (of_items model (too_deep path) path number view items)
  deep_elsewhere P path number view [] among = tt
  deep_elsewhere P path number view (item.Emit cell effect ∷ rest) among =
      effect_of_all P cell effect (of_items model (too_deep path) path number (emitted view cell effect) rest)
      (deep_elsewhere P path number (emitted view cell effect) rest
      (among_effect cell effect (of_items model (too_deep path) path number (emitted view cell effect) rest) among))
  deep_elsewhere P path number view (item.Child kind arguments ∷ rest) among =
      no_deep (MadeOf P) path (child_job model path number view kind arguments) (of_items model (too_deep path) path (number + 1) view rest) tt among

  step_zero : (budget : ℕ) (job : Job) (number : ℕ) (stepped : Stepped) → job_step model budget job ≡ stepped → Begins number job → MadeAmong (of_step model (too_deep job.path) job number stepped) →
      Good job (of_step model (too_deep job.path) job number stepped)
  step_zero budget job number None e begins among = tt
  step_zero budget job number (Some (status, so_far)) e begins among =
      let step = good_step model budget job status so_far valid begins.good e in
      frame_good job number status so_far (of_items model (too_deep job.path) job.path number job.view so_far.items) begins step.well step.few
      (deep_elsewhere (λ other. job.path ≡ other → ⊥) job.path number job.view so_far.items)
      (λ here. deep_items job.path number job.view so_far.items) among

  within_good : (budget room number : ℕ) (job : Job) → Begins number job → MadeAmong (made_within model budget room number job) → Good job (made_within model budget room number job)
  within_good budget zero number job begins = step_zero budget job number (job_step model budget job) refl begins
  within_good budget (suc room) number job begins =
      step_good budget (made_within model budget room 0) (λ child. within_of model budget room 0 child) (λ child. within_good budget room 0 child) job number (job_step model budget job) refl begins

  -- ---- the jobs of a batch

  pub record JobsMade (frames : List Frame) : Type 0 where
    pub each : EachOf Known frames
    pub differ : Differ frames

  abbrev pub GoodJobs : Making → Type 0
  GoodJobs None = Unit {0}
  GoodJobs (Some made) = JobsMade made.frames

  others_avoid : (budget : ℕ) (job : ℕ × Job) (rest : List (ℕ × Job)) → EachOf (AreApart job) rest → MadeOf (λ path. IsOf job.1.path job.0 path → ⊥) (made_by_all model budget rest)
  others_avoid budget job [] apart = tt
  others_avoid budget job (other ∷ rest) apart =
      child_of_all (λ path. IsOf job.1.path job.0 path → ⊥) (made_by model budget other) (made_by_all model budget rest)
      (made_weaker (IsOf other.1.path other.0) (λ path. IsOf job.1.path job.0 path → ⊥) (λ path is here. never_both job other path apart.0 here is) (made_by model budget other)
      (within_of model budget (room_of other.1.path) other.0 other.1))
      (others_avoid budget job rest apart.1)

  both_made : (job : ℕ × Job) (first rest : Making) → MadeOf (IsOf job.1.path job.0) first → MadeOf (λ path. IsOf job.1.path job.0 path → ⊥) rest →
      (MadeAmong first → Good job.1 first) → (MadeAmong rest → GoodJobs rest) → MadeAmong (with_child first rest) → GoodJobs (with_child first rest)
  both_made job None rest is not good further among = tt
  both_made job (Some first) None is not good further among = tt
  both_made job (Some first) (Some rest) is not good further among =
      let one = good (λ frame here. among frame (any_front (λ f. f ≡ frame) first.frames rest.frames here)) in
      let more = further (λ frame here. among frame (any_back (λ f. f ≡ frame) first.frames rest.frames here)) in record {
        each = each_append Known first.frames rest.frames one.each more.each;
        differ = beside_differ (IsOf job.1.path job.0) first.frames rest.frames is not one.differ more.differ;
      }

  pub jobs_good : (budget : ℕ) (jobs : List (ℕ × Job)) → EachOf (λ job. Begins job.0 job.1) jobs → EachTwo AreApart jobs → MadeAmong (made_by_all model budget jobs) → GoodJobs (made_by_all model budget jobs)
  jobs_good budget [] begins apart among = record { each = tt; differ = tt }
  jobs_good budget (job ∷ rest) begins apart among =
      both_made job (made_by model budget job) (made_by_all model budget rest) (within_of model budget (room_of job.1.path) job.0 job.1) (others_avoid budget job rest apart.0)
      (within_good budget (room_of job.1.path) job.0 job.1 begins.0) (jobs_good budget rest begins.1 apart.1) among
