-- A step after which its task is still open has run a statement, so that it costs something.
use Rattle.std.proofs.Common.{◌≡◌, inl, inr, ℕ, zero, suc, ◌+◌, ◌≤◌, Bool, List, [], ◌∷◌, ◌++◌, Some, None, Ok, Err, refl, ap, arith}
use Rattle.aerie_base.specs.declared.models.model.Parts.{Parts}
use Rattle.aerie_base.specs.declared.statements.Stmt.{Stmt, out-Stmt}
use Rattle.aerie_base.specs.declared.statements.Stmt.TheOpen.{Stmt-F}
use Rattle.aerie_base.specs.expressions.Arithmetic.{truth_in}
use Rattle.aerie_base.specs.expressions.Evaluation.{Evaluated}
use Rattle.aerie_base.specs.statements.Places.{Placed, left}
use Rattle.effect_cells.specs.declared.effects.CellState.{CellState}
use Rattle.effect_cells.specs.declared.effects.Effect.{Effect}
use Rattle.effect_cells.specs.Cells.{emitted}
use Rattle.run_data.specs.declared.tasks.BodyId.{BodyId}
use Rattle.run_data.specs.declared.jobs.Job.{Job}
use Rattle.run_data.specs.TaskFrames.{Frame}
use Rattle.run_data.specs.declared.frames.Item.{Item}
use Rattle.run_data.specs.declared.frames.Item.TheVariants as item
use Rattle.run_data.specs.declared.frames.Status.{Status}
use Rattle.run_data.specs.declared.frames.Status.TheVariants.{Delayed, Waiting, Calling, Done, Faulted}
use Rattle.run_data.specs.StepStates.{StepState, starting, valued, with_flags, paid}
use Rattle.run_data.specs.Steps.{Acted, onward, ended, Stepped, act, after, after_test, perform, steps}
use Rattle.run_data.specs.Frames.{job_step, frame_of, Making, with_effect, with_child, with_frame, child_job, of_items, of_step, too_deep, made_within, made_by, made_by_all, room_of}
use Rattle.run_data.specs.TaskStates.{body_of}
use Rattle.run_data.proofs.FramePaths.{HasPath}
use Rattle.run_data.proofs.Keeping.{ActedKeeps, act_keeps}
use Rattle.run_data.proofs.Reading.{both_are}
use Rattle.run_data.specs.laws.Orders.{EachOf}

-- ---- steps

-- whether the task is open after the step
abbrev pub open_status : Status → ℕ
open_status (Delayed by next) = 1
open_status (Waiting condition next) = 1
open_status (Calling into next) = 1
open_status (Done result) = 0
open_status (Faulted fault) = 0

at_most_one : (status : Status) → open_status status ≤ 1
at_most_one (Delayed by next) = omega arith
at_most_one (Waiting condition next) = omega arith
at_most_one (Calling into next) = omega arith
at_most_one (Done result) = omega arith
at_most_one (Faulted fault) = omega arith

abbrev CostsMore : (StepState → Stepped) → Status → StepState → Type 0
CostsMore go ending last = (so_far : StepState) → go so_far ≡ Some (ending, last) → so_far.cost ≤ last.cost

ended_costs : (status ending : Status) (so_far last : StepState) → ◌≡◌ {A = Stepped} (Some (status, so_far)) (Some (ending, last)) → so_far.cost ≤ last.cost
ended_costs status ending so_far last e = omega (arith, ap (λ c. c.cost) (both_are status ending so_far last e).1)

after_costs : (so_far : StepState) (acted : Acted) (go : StepState → Stepped) (ending : Status) (last : StepState) → ActedKeeps so_far acted → CostsMore go ending last →
    after acted go ≡ Some (ending, last) → so_far.cost ≤ last.cost
after_costs so_far (onward next) go ending last keeps h e = omega (arith, h next e, keeps.cost)
after_costs so_far (ended status c) go ending last keeps h e = omega (arith, ended_costs status ending c last e, keeps.cost)

test_costs : (so_far : StepState) (result : Evaluated) (go : Bool → StepState → Stepped) (ending : Status) (last : StepState) → ((holds : Bool) → CostsMore (go holds) ending last) →
    after_test so_far result go ≡ Some (ending, last) → so_far.cost ≤ last.cost
test_costs so_far (Err fault, read_flags) go ending last h e = ended_costs (Faulted fault) ending (with_flags so_far read_flags) last e
test_costs so_far (Ok value, read_flags) go ending last h e = h (truth_in value) (with_flags so_far read_flags) e

simple_costs : (kind : BodyId) (at : ℕ) (stmt : Stmt-F Stmt) (so_far : StepState) (go : StepState → Stepped) (ending : Status) (last : StepState) → CostsMore go ending last →
    after (act kind at stmt so_far) go ≡ Some (ending, last) → so_far.cost ≤ last.cost
simple_costs kind at stmt so_far go ending last = after_costs so_far (act kind at stmt so_far) go ending last (act_keeps kind at stmt so_far)

pub perform_costs : (kind : BodyId) (here : Placed) (rest : List Placed) (stmt : Stmt-F Stmt) (so_far : StepState) (go : List Placed → StepState → Stepped) (ending : Status) (last : StepState) →
    ((placed : List Placed) → CostsMore (go placed) ending last) → perform kind here rest stmt so_far go ≡ Some (ending, last) → so_far.cost ≤ last.cost
perform_costs kind here rest (Stmt-F.If test block other) so_far go ending last h e = test_costs so_far (valued so_far test) _ ending last (λ holds c. h _ c) e
perform_costs kind here rest (Stmt-F.While test body) so_far go ending last h e = test_costs so_far (valued so_far test) _ ending last (λ holds c. h _ c) e
perform_costs kind here rest (Stmt-F.Let slot expr) so_far go ending last h e = simple_costs kind here.at (Stmt-F.Let slot expr) so_far (go rest) ending last (h rest) e
perform_costs kind here rest (Stmt-F.Assign slot expr) so_far go ending last h e = simple_costs kind here.at (Stmt-F.Assign slot expr) so_far (go rest) ending last (h rest) e
perform_costs kind here rest (Stmt-F.Emit cell what) so_far go ending last h e = simple_costs kind here.at (Stmt-F.Emit cell what) so_far (go rest) ending last (h rest) e
perform_costs kind here rest (Stmt-F.Delay expr) so_far go ending last h e = simple_costs kind here.at (Stmt-F.Delay expr) so_far (go rest) ending last (h rest) e
perform_costs kind here rest (Stmt-F.WaitUntil condition) so_far go ending last h e = simple_costs kind here.at (Stmt-F.WaitUntil condition) so_far (go rest) ending last (h rest) e
perform_costs kind here rest (Stmt-F.Spawn child exprs) so_far go ending last h e = simple_costs kind here.at (Stmt-F.Spawn child exprs) so_far (go rest) ending last (h rest) e
perform_costs kind here rest (Stmt-F.Call child exprs into) so_far go ending last h e = simple_costs kind here.at (Stmt-F.Call child exprs into) so_far (go rest) ending last (h rest) e
perform_costs kind here rest (Stmt-F.Return value) so_far go ending last h e = simple_costs kind here.at (Stmt-F.Return value) so_far (go rest) ending last (h rest) e

pub steps_cost : (budget : ℕ) (kind : BodyId) (placed : List Placed) (ending : Status) (last so_far : StepState) → steps kind budget placed so_far ≡ Some (ending, last) →
    so_far.cost + open_status ending ≤ last.cost
steps_cost budget kind [] ending last so_far e =
    let both = both_are (Done None) ending so_far last e in omega (arith, ap (λ c. c.cost) both.1, ap open_status both.0)
steps_cost zero kind (here ∷ rest) ending last so_far e = absurd (cc)
steps_cost (suc budget) kind (here ∷ rest) ending last so_far e =
    let more = perform_costs kind here rest (out-Stmt here.what) (paid so_far) (steps kind budget) ending last
    (λ placed c f. (let g = steps_cost budget kind placed ending last c f in omega arith)) e in
    omega (arith, more, at_most_one ending)

-- ---- frames

abbrev pub Pays : Frame → Type 0
Pays frame = open_status frame.status ≤ frame.cost

abbrev pub AllPay : Making → Type 0
AllPay None = Unit {0}
AllPay (Some made) = EachOf Pays made.frames

abbrev pub HasFrameOf : List ℕ → Making → Type 0
HasFrameOf path None = Unit {0}
HasFrameOf path (Some made) = HasPath path made.frames

pub each_append : (P : Frame → Type 0) (first second : List Frame) → EachOf P first → EachOf P second → EachOf P (first ++ second)
each_append P [] second h k = k
each_append P (frame ∷ rest) second h k = (h.0, each_append P rest second h.1 k)

path_append : (path : List ℕ) (first second : List Frame) → HasPath path first → HasPath path (first ++ second)
path_append path [] second h = absurd h
path_append path (frame ∷ rest) second (inl h) = inl h
path_append path (frame ∷ rest) second (inr h) = inr (path_append path rest second h)

effect_pays : (cell : ℕ) (effect : Effect) (making : Making) → AllPay making → AllPay (with_effect cell effect making)
effect_pays cell effect None h = tt
effect_pays cell effect (Some made) h = h

child_pays : (child rest : Making) → AllPay child → AllPay rest → AllPay (with_child child rest)
child_pays None rest h k = tt
child_pays (Some child) None h k = tt
child_pays (Some child) (Some rest) h k = each_append Pays child.frames rest.frames h k

frame_pays : (frame : Frame) (making : Making) → Pays frame → AllPay making → AllPay (with_frame frame making)
frame_pays frame None h k = tt
frame_pays frame (Some made) h k = (h, k)

items_pay : (model : Parts) (of_child : Job → Making) (maker : List ℕ) (number : ℕ) (view : List CellState) (items : List Item) → ((job : Job) → AllPay (of_child job)) →
    AllPay (of_items model of_child maker number view items)
items_pay model of_child maker number view [] h = tt
items_pay model of_child maker number view (item.Emit cell effect ∷ rest) h =
    effect_pays cell effect (of_items model of_child maker number (emitted view cell effect) rest) (items_pay model of_child maker number (emitted view cell effect) rest h)
items_pay model of_child maker number view (item.Child kind arguments ∷ rest) h =
    child_pays (of_child (child_job model maker number view kind arguments)) (of_items model of_child maker (number + 1) view rest)
    (h (child_job model maker number view kind arguments)) (items_pay model of_child maker (number + 1) view rest h)

step_pays : (model : Parts) (of_child : Job → Making) (job : Job) (number budget : ℕ) (stepped : Stepped) → job_step model budget job ≡ stepped → ((job : Job) → AllPay (of_child job)) →
    AllPay (of_step model of_child job number stepped)
step_pays model of_child job number budget None e h = tt
step_pays model of_child job number budget (Some (status, so_far)) e h =
    frame_pays (frame_of job status so_far) (of_items model of_child job.path number job.view so_far.items)
    (let cost = steps_cost budget job.state.kind (left (body_of model job.state.kind) job.state.at) status so_far (starting job.view job.state.locals) e in omega arith)
    (items_pay model of_child job.path number job.view so_far.items h)

deep_pays : (maker : List ℕ) (child : Job) → AllPay (too_deep maker child)
deep_pays maker child = (omega arith, tt)

within_pays : (model : Parts) (budget room number : ℕ) (job : Job) → AllPay (made_within model budget room number job)
within_pays model budget zero number job = step_pays model (too_deep job.path) job number budget (job_step model budget job) refl (deep_pays job.path)
within_pays model budget (suc room) number job =
    step_pays model (made_within model budget room 0) job number budget (job_step model budget job) refl (λ child. within_pays model budget room 0 child)

pub all_pay : (model : Parts) (budget : ℕ) (jobs : List (ℕ × Job)) → AllPay (made_by_all model budget jobs)
all_pay model budget [] = tt
all_pay model budget (job ∷ rest) =
    child_pays (made_by model budget job) (made_by_all model budget rest) (within_pays model budget (room_of job.1.path) job.0 job.1) (all_pay model budget rest)

-- ---- the frame of a job

frame_first : (path : List ℕ) (frame : Frame) (making : Making) → frame.path ≡ path → HasFrameOf path (with_frame frame making)
frame_first path frame None e = tt
frame_first path frame (Some made) e = inl e

step_first : (model : Parts) (of_child : Job → Making) (job : Job) (number : ℕ) (stepped : Stepped) → HasFrameOf job.path (of_step model of_child job number stepped)
step_first model of_child job number None = tt
step_first model of_child job number (Some (status, so_far)) = frame_first job.path (frame_of job status so_far) (of_items model of_child job.path number job.view so_far.items) refl

within_first : (model : Parts) (budget room number : ℕ) (job : Job) → HasFrameOf job.path (made_within model budget room number job)
within_first model budget zero number job = step_first model (too_deep job.path) job number (job_step model budget job)
within_first model budget (suc room) number job = step_first model (made_within model budget room 0) job number (job_step model budget job)

child_first : (path : List ℕ) (child rest : Making) → HasFrameOf path child → HasFrameOf path (with_child child rest)
child_first path None rest h = tt
child_first path (Some child) None h = tt
child_first path (Some child) (Some rest) h = path_append path child.frames rest.frames h

pub all_first : (model : Parts) (budget : ℕ) (job : ℕ × Job) (rest : List (ℕ × Job)) → HasFrameOf job.1.path (made_by_all model budget (job ∷ rest))
all_first model budget job rest = child_first job.1.path (made_by model budget job) (made_by_all model budget rest) (within_first model budget (room_of job.1.path) job.0 job.1)
