-- Waves by what is left of the bound.
use Rattle.std.proofs.Common.{◌≡◌, ℕ, zero, suc, ◌+◌, ◌<◌, ◌≤◌, Bool, true, false, if◌then◌else◌, nat_lt, List, [], ◌∷◌, ◌++◌, map, Option, Some, None, refl, sym, ap, ◌∙◌, subst, arith}
use Rattle.std.proofs.lemmas.Bool.{ltb-true, ltb-false}
use Rattle.aerie_base.specs.declared.models.model.Parts.{Parts}
use Rattle.effect_cells.specs.declared.effects.CellState.{CellState}
use Rattle.run_data.specs.TaskFrames.{Frame}
use Rattle.run_data.specs.declared.frames.Status.{Status}
use Rattle.run_data.specs.declared.jobs.Job.{Job}
use Rattle.run_data.specs.declared.steppers.Wave.{Wave}
use Rattle.run_data.specs.declared.steppers.Wave.TheVariants.{Frames, Spent}
use Rattle.run_data.specs.Batches.{limit, judged, when_within, cost_of}
use Rattle.run_data.specs.Frames.{Making, job_step, frame_of, made_by_all}
use Rattle.run_data.specs.StepStates.{StepState}
use Rattle.run_data.specs.Steps.{Stepped}
use Rattle.run_data.specs.TaskStates.{body_of}
use Rattle.run_data.specs.Waves.{with_step, frames_of, unless_spent, wave_of}
use Rattle.run_data.specs.laws.Generations.{PendingStep, Generation, child_jobs, deep_frame, with_children, step_generation, beside_generation, generation, beside_frames, further, generations, frames_in, AlikeFrames}
use Rattle.run_data.specs.laws.WaveFuel.{WaveTellsFrames, SpentIsLimit}
use Rattle.run_data.proofs.AlikeGenerations.{alike_by_generations}
use Rattle.run_data.proofs.Budgets.{cost_is_within, same_within_cost}
use Rattle.run_data.specs.Counts.{cost_append}

module _ (model : Parts) (fuel bound : ℕ) (least : fuel ≤ bound) where
  -- a step within the fuel is the same within the bound
  step_more : (job : Job) (status : Status) (so_far : StepState) → job_step model fuel job ≡ Some (status, so_far) → job_step model bound job ≡ Some (status, so_far)
  step_more job status so_far e =
      let within = cost_is_within (body_of model job.state.kind) job.state job.view fuel status so_far e in
      same_within_cost (body_of model job.state.kind) job.state job.view fuel bound status so_far e (omega (arith, within, least))

  frames_more : (jobs : List Job) (frames : List Frame) → frames_of model fuel jobs ≡ Some frames → frames_of model bound jobs ≡ Some frames
  frames_more [] frames e = e
  frames_more (job ∷ rest) frames e = by (job_step model fuel job) (frames_of model fuel rest) refl refl e (frames_more rest)
    where
      by : (stepped : Stepped) (others : Option (List Frame)) → job_step model fuel job ≡ stepped → frames_of model fuel rest ≡ others → with_step job stepped others ≡ Some frames →
          ((fs : List Frame) → frames_of model fuel rest ≡ Some fs → frames_of model bound rest ≡ Some fs) → frames_of model bound (job ∷ rest) ≡ Some frames
      by None others x y e more = absurd (cc)
      by (Some (status, so_far)) None x y e more = absurd (cc)
      by (Some (status, so_far)) (Some fs) x y e more =
          ap (λ (s : Stepped). with_step job s (frames_of model bound rest)) (step_more job status so_far x) ∙ ap (with_step job (Some (status, so_far))) (more fs y) ∙ e

  -- a step that the fuel does not pay costs more
  step_past : (job : Job) (status : Status) (so_far : StepState) → job_step model fuel job ≡ None → job_step model bound job ≡ Some (status, so_far) → fuel < so_far.cost
  step_past job status so_far none some = by (nat_lt fuel so_far.cost) refl
    where
      by : (past : Bool) → nat_lt fuel so_far.cost ≡ past → fuel < so_far.cost
      by true e = ltb-true fuel so_far.cost e
      by false e =
          let same = same_within_cost (body_of model job.state.kind) job.state job.view bound fuel status so_far some (ltb-false fuel so_far.cost e) in
          let clash : ◌≡◌ {A = Stepped} None (Some (status, so_far)) = sym none ∙ same in absurd (cc)

  frames_past : (jobs : List Job) (frames : List Frame) → frames_of model fuel jobs ≡ None → frames_of model bound jobs ≡ Some frames → fuel < cost_of frames
  frames_past [] frames none some = absurd (cc)
  frames_past (job ∷ rest) frames none some =
      by (job_step model fuel job) (frames_of model fuel rest) (job_step model bound job) (frames_of model bound rest) refl refl refl refl none some (frames_past rest)
    where
      by : (stepped : Stepped) (others : Option (List Frame)) (whole : Stepped) (all : Option (List Frame)) → job_step model fuel job ≡ stepped → frames_of model fuel rest ≡ others →
          job_step model bound job ≡ whole → frames_of model bound rest ≡ all → with_step job stepped others ≡ None → with_step job whole all ≡ Some frames →
          ((fs : List Frame) → frames_of model fuel rest ≡ None → frames_of model bound rest ≡ Some fs → fuel < cost_of fs) → fuel < cost_of frames
      by stepped others None all x y p q none some more = absurd (cc)
      by stepped others (Some (status, so_far)) None x y p q none some more = absurd (cc)
      by None others (Some (status, so_far)) (Some fs) x y p q none some more =
          let same : frame_of job status so_far ∷ fs ≡ frames = cc in
          let past = step_past job status so_far x p in
          let cost : so_far.cost + cost_of fs ≡ cost_of frames = ap cost_of same in omega (arith, past, cost)
      by (Some (one, other)) None (Some (status, so_far)) (Some fs) x y p q none some more =
          let same : frame_of job status so_far ∷ fs ≡ frames = cc in
          let past = more fs y q in
          let cost : so_far.cost + cost_of fs ≡ cost_of frames = ap cost_of same in omega (arith, past, cost)
      by (Some (one, other)) (Some others) (Some (status, so_far)) (Some fs) x y p q none some more = absurd (cc)

  spent_past : (jobs : List Job) (frames : List Frame) → wave_of model fuel jobs ≡ Spent → frames_of model bound jobs ≡ Some frames → fuel < cost_of frames
  spent_past jobs frames spent some = by (frames_of model fuel jobs) refl spent
    where
      pays : (fs : List Frame) → frames_of model fuel jobs ≡ Some fs → (past : Bool) → nat_lt fuel (cost_of fs) ≡ past → ◌≡◌ {A = Wave} (if past then Spent else Frames fs) Spent → fuel < cost_of frames
      pays fs e true past w =
          let same : fs ≡ frames = (let o : Some fs ≡ Some frames = sym (frames_more jobs fs e) ∙ some in cc) in
          let more = ltb-true fuel (cost_of fs) past in
          let cost : cost_of fs ≡ cost_of frames = ap cost_of same in omega (arith, more, cost)
      pays fs e false past w = absurd (cc)

      by : (found : Option (List Frame)) → frames_of model fuel jobs ≡ found → unless_spent fuel found ≡ Spent → fuel < cost_of frames
      by None e w = frames_past jobs frames e some
      by (Some fs) e w = pays fs e (nat_lt fuel (cost_of fs)) refl w

wave_frames : (model : Parts) (fuel bound : ℕ) → fuel ≤ bound → (jobs : List Job) (frames : List Frame) (found : Option (List Frame)) → frames_of model fuel jobs ≡ found → unless_spent fuel found ≡ Frames frames →
    (frames_of model bound jobs ≡ Some frames) × (cost_of frames ≤ fuel)
wave_frames model fuel bound least jobs frames None e w = absurd (cc)
wave_frames model fuel bound least jobs frames (Some fs) e w = by (nat_lt fuel (cost_of fs)) refl w
  where
    by : (past : Bool) → nat_lt fuel (cost_of fs) ≡ past → ◌≡◌ {A = Wave} (if past then Spent else Frames fs) (Frames frames) → (frames_of model bound jobs ≡ Some frames) × (cost_of frames ≤ fuel)
    by true past w = absurd (cc)
    by false past w =
        let same : fs ≡ frames = cc in
        let fits = ltb-false fuel (cost_of fs) past in
        let cost : cost_of fs ≡ cost_of frames = ap cost_of same in
        (frames_more model fuel bound least jobs fs e ∙ ap Some same, omega (arith, fits, cost))

pub wave_tells_frames : WaveTellsFrames
wave_tells_frames model fuel bound jobs frames least w = wave_frames model fuel bound least jobs frames (frames_of model fuel jobs) refl w

-- ---- a generation costs what its frames cost

children_cost : (room : ℕ) (maker : List ℕ) (frame : Frame) (children : List Job) (here : List Frame × List PendingStep) → with_children room maker frame children ≡ Some here → frame.cost ≤ cost_of here.0
children_cost zero maker frame children here e =
    let same : frame ∷ map (deep_frame maker) children ≡ here.0 = (let o : ◌≡◌ {A = List Frame × List PendingStep} (frame ∷ map (deep_frame maker) children, []) here = cc in ap (λ (p : List Frame × List PendingStep). p.0) o) in
    let cost : frame.cost + cost_of (map (deep_frame maker) children) ≡ cost_of here.0 = ap cost_of same in omega (arith, cost)
children_cost (suc room) maker frame children here e =
    let same : frame ∷ [] ≡ here.0 =
    (let o : ◌≡◌ {A = List Frame × List PendingStep} (frame ∷ [], map (λ child. record { room = room; number = 0; job = child }) children) here = cc in ap (λ (p : List Frame × List PendingStep). p.0) o) in
    let cost : frame.cost + 0 ≡ cost_of here.0 = ap cost_of same in omega (arith, cost)

generation_cost : (model : Parts) (bound : ℕ) (dues : List PendingStep) (frames : List Frame) (here : List Frame × List PendingStep) → frames_of model bound (map (λ due. due.job) dues) ≡ Some frames →
    generation model bound dues ≡ Some here → cost_of frames ≤ cost_of here.0
generation_cost model bound [] frames here f g =
    let same : [] ≡ frames = cc in let cost : 0 ≡ cost_of frames = ap cost_of same in omega (arith, cost)
generation_cost model bound (due ∷ rest) frames here f g =
    by (job_step model bound due.job) (frames_of model bound (map (λ one. one.job) rest)) (generation model bound rest) refl refl refl f g (generation_cost model bound rest)
  where
    join : (status : Status) (so_far : StepState) (fs : List Frame) (more : List Frame × List PendingStep) → frame_of due.job status so_far ∷ fs ≡ frames → cost_of fs ≤ cost_of more.0 → (first : Generation) →
        with_children due.room due.job.path (frame_of due.job status so_far) (child_jobs model due.job.path due.number due.job.view so_far.items) ≡ first →
        beside_generation first (Some more) ≡ Some here → cost_of frames ≤ cost_of here.0
    join status so_far fs more same less None w e = absurd (cc)
    join status so_far fs more same less (Some first) w e =
        let one = children_cost due.room due.job.path (frame_of due.job status so_far) (child_jobs model due.job.path due.number due.job.view so_far.items) first w in
        let both : first.0 ++ more.0 ≡ here.0 =
        (let o : ◌≡◌ {A = List Frame × List PendingStep} (first.0 ++ more.0, first.1 ++ more.1) here = cc in ap (λ (p : List Frame × List PendingStep). p.0) o) in
        let cost : so_far.cost + cost_of fs ≡ cost_of frames = ap cost_of same in
        let sum : cost_of first.0 + cost_of more.0 ≡ cost_of here.0 = sym (cost_append first.0 more.0) ∙ ap cost_of both in omega (arith, one, cost, sum, less)

    by : (stepped : Stepped) (others : Option (List Frame)) (later : Generation) → job_step model bound due.job ≡ stepped → frames_of model bound (map (λ one. one.job) rest) ≡ others →
        generation model bound rest ≡ later → with_step due.job stepped others ≡ Some frames → beside_generation (step_generation model due stepped) later ≡ Some here →
        ((fs : List Frame) (more : List Frame × List PendingStep) → frames_of model bound (map (λ one. one.job) rest) ≡ Some fs → generation model bound rest ≡ Some more → cost_of fs ≤ cost_of more.0) →
        cost_of frames ≤ cost_of here.0
    by None others later x y z f g less = absurd (cc)
    by (Some (status, so_far)) None later x y z f g less = absurd (cc)
    by (Some (status, so_far)) (Some fs) None x y z f g less = absurd (nothing (step_generation model due (Some (status, so_far))) g)
      where
        nothing : (first : Generation) → beside_generation first None ≡ Some here → ⊥
        nothing None e = absurd (cc)
        nothing (Some first) e = absurd (cc)
    by (Some (status, so_far)) (Some fs) (Some more) x y z f g less =
        join status so_far fs more (cc) (less fs more y z)
        (with_children due.room due.job.path (frame_of due.job status so_far) (child_jobs model due.job.path due.number due.job.view so_far.items)) refl g

-- without the frames of its steps there is no generation
generation_none : (model : Parts) (bound : ℕ) (dues : List PendingStep) → frames_of model bound (map (λ due. due.job) dues) ≡ None → generation model bound dues ≡ None
generation_none model bound [] f = absurd (cc)
generation_none model bound (due ∷ rest) f =
    by (job_step model bound due.job) (frames_of model bound (map (λ one. one.job) rest)) refl refl f (generation_none model bound rest)
  where
    beside_none : (first : Generation) → beside_generation first None ≡ None
    beside_none None = refl
    beside_none (Some first) = refl

    by : (stepped : Stepped) (others : Option (List Frame)) → job_step model bound due.job ≡ stepped → frames_of model bound (map (λ one. one.job) rest) ≡ others → with_step due.job stepped others ≡ None →
        (frames_of model bound (map (λ one. one.job) rest) ≡ None → generation model bound rest ≡ None) → beside_generation (step_generation model due (job_step model bound due.job)) (generation model bound rest) ≡ None
    by None others x y f none = ap (λ (s : Stepped). beside_generation (step_generation model due s) (generation model bound rest)) x
    by (Some (status, so_far)) None x y f none =
        ap (beside_generation (step_generation model due (job_step model bound due.job))) (none y) ∙ beside_none (step_generation model due (job_step model bound due.job))
    by (Some (status, so_far)) (Some fs) x y f none = absurd (cc)

-- ---- the batch

-- where the frames of all generations cost so much, or there are none
abbrev CostsFrom : ℕ → Option (List Frame) → Type 0
CostsFrom least None = Unit {0}
CostsFrom least (Some frames) = least ≤ cost_of frames

module _ (model : Parts) (bound spent : ℕ) (cells : List CellState) where
  limit_by : (making : Making) (frames : Option (List Frame)) (least : ℕ) → AlikeFrames (frames_in making) frames → CostsFrom least frames → bound < spent + least → judged bound spent cells making ≡ limit
  limit_by None frames least alike costs past = refl
  limit_by (Some made) None least alike costs past = absurd alike
  limit_by (Some made) (Some frames) least alike costs past = by (nat_lt bound (spent + cost_of made.frames)) refl
    where
      by : (over : Bool) → nat_lt bound (spent + cost_of made.frames) ≡ over → when_within (if over then false else true) made cells ≡ limit
      by true e = refl
      by false e = let fits = ltb-false bound (spent + cost_of made.frames) e in absurd (omega (arith, fits, alike.cost, costs, past))

  further_costs : (made : List Frame) (least : ℕ) (here : Generation) (go : List PendingStep → Option (List Frame)) → ((found : List Frame × List PendingStep) → here ≡ Some found → least ≤ cost_of found.0) →
      CostsFrom (cost_of made + least) (beside_frames (Some made) (further here go))
  further_costs made least None go costs = tt
  further_costs made least (Some found) go costs = by (go found.1)
    where
      by : (later : Option (List Frame)) → CostsFrom (cost_of made + least) (beside_frames (Some made) (beside_frames (Some found.0) later))
      by None = tt
      by (Some later) = omega (arith, costs found refl, cost_append made (found.0 ++ later), cost_append found.0 later)

pub spent_is_limit : SpentIsLimit
spent_is_limit model bound spent fuel cells jobs made count dues apart so_far least left w =
    by (frames_of model bound (map (λ due. due.job) dues)) refl
  where
    go : List PendingStep → Option (List Frame)
    go = generations model bound count

    alike : AlikeFrames (frames_in (made_by_all model bound jobs)) (beside_frames (Some made) (further (generation model bound dues) (generations model bound count)))
    alike = subst (AlikeFrames (frames_in (made_by_all model bound jobs))) so_far (alike_by_generations model bound jobs apart)

    by : (found : Option (List Frame)) → frames_of model bound (map (λ due. due.job) dues) ≡ found → judged bound spent cells (made_by_all model bound jobs) ≡ limit
    by None e =
        limit_by model bound spent cells (made_by_all model bound jobs) (beside_frames (Some made) (further (generation model bound dues) (generations model bound count))) (bound + 1) alike
        (subst (λ (g : Generation). CostsFrom (bound + 1) (beside_frames (Some made) (further g (generations model bound count)))) (sym (generation_none model bound dues e)) tt) (omega arith)
    by (Some frames) e =
        limit_by model bound spent cells (made_by_all model bound jobs) (beside_frames (Some made) (further (generation model bound dues) (generations model bound count))) (cost_of made + cost_of frames) alike
        (further_costs model bound spent cells made (cost_of frames) (generation model bound dues) (generations model bound count) (λ found g. generation_cost model bound dues frames found e g))
        (let past = spent_past model fuel bound least (map (λ due. due.job) dues) frames w e in omega (arith, left, past))
