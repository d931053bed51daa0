-- The frames that are made, and their paths.
use Rattle.std.proofs.Common.{◌≡◌, ◌⊎◌, inl, inr, ℕ, zero, suc, ◌+◌, ◌≤◌, nat_eq, true, ◌&&◌, List, [], ◌∷◌, ◌++◌, Some, None, refl, sym, ap, ◌∙◌, subst, arith}
use Rattle.std.proofs.lemmas.Bool.{false≢true, eq-eqb}
use Rattle.aerie_base.specs.declared.models.model.Parts.{Parts}
use Rattle.aerie_base.specs.Paths.{child_path, is_prefix}
use Rattle.effect_cells.specs.declared.effects.CellState.{CellState}
use Rattle.effect_cells.specs.declared.effects.Effect.{Effect}
use Rattle.effect_cells.specs.Cells.{emitted}
use Rattle.run_data.specs.declared.jobs.Job.{Job}
use Rattle.run_data.specs.TaskFrames.{Frame}
use Rattle.run_data.specs.declared.frames.Item.{Item}
use Rattle.run_data.specs.declared.frames.Item.TheVariants as item
use Rattle.run_data.specs.Steps.{Stepped}
use Rattle.run_data.specs.Frames.{Making, with_effect, with_child, with_frame, job_step, frame_of, child_job, of_items, of_step, too_deep, made_within, made_by, room_of}
use Rattle.run_data.specs.laws.PathsUnder.{both_true, same_number, under_itself, under_shorter}
use Rattle.run_data.specs.laws.Orders.{AreApart}

-- some frame is of this path
abbrev pub HasPath : List ℕ → List Frame → Type 0
HasPath path [] = ⊥
HasPath path (frame ∷ rest) = (frame.path ≡ path) ⊎ HasPath path rest

-- what two jobs make has no path in common
abbrev pub NoPathInBoth : Making → Making → Type 0
NoPathInBoth None other = Unit {0}
NoPathInBoth (Some made) None = Unit {0}
NoPathInBoth (Some made) (Some other) = (path : List ℕ) → HasPath path made.frames → HasPath path other.frames → ⊥

-- of two paths with a child above one path, they are the same, or the one has the child of the other above it
abbrev Related : List ℕ → List ℕ → ℕ → ℕ → Type 0
Related path other number second = (path ≡ other) ⊎ ((is_prefix (child_path path number) other ≡ true) ⊎ (is_prefix (child_path other second) path ≡ true))

related_behind : (first again : ℕ) (path other : List ℕ) (number second : ℕ) → first ≡ again → Related path other number second → Related (first ∷ path) (again ∷ other) number second
related_behind first again path other number second e (inl h) = inl (λ i. e i ∷ h i)
related_behind first again path other number second e (inr (inl h)) = inr (inl (λ i. eq-eqb first again e i && h i))
related_behind first again path other number second e (inr (inr h)) = inr (inr (λ i. eq-eqb again first (sym e) i && h i))

related : (path other below : List ℕ) (number second : ℕ) → is_prefix (child_path path number) below ≡ true → is_prefix (child_path other second) below ≡ true → Related path other number second
related [] [] below number second h k = inl refl
related [] (first ∷ other) [] number second h k = absurd (false≢true h)
related [] (first ∷ other) (here ∷ below) number second h k =
    let up = both_true (nat_eq number here) (is_prefix [] below) h in
    let right = both_true (nat_eq first here) (is_prefix (child_path other second) below) k in
    inr (inl (λ i. eq-eqb number first (same_number number here up.0 ∙ sym (same_number first here right.0)) i && true))
related (first ∷ path) [] [] number second h k = absurd (false≢true h)
related (first ∷ path) [] (here ∷ below) number second h k =
    let up = both_true (nat_eq first here) (is_prefix (child_path path number) below) h in
    let right = both_true (nat_eq second here) (is_prefix [] below) k in
    inr (inr (λ i. eq-eqb second first (same_number second here right.0 ∙ sym (same_number first here up.0)) i && true))
related (first ∷ path) (again ∷ other) [] number second h k = absurd (false≢true h)
related (first ∷ path) (again ∷ other) (here ∷ below) number second h k =
    let up = both_true (nat_eq first here) (is_prefix (child_path path number) below) h in
    let right = both_true (nat_eq again here) (is_prefix (child_path other second) below) k in
    related_behind first again path other number second (same_number first here up.0 ∙ sym (same_number again here right.0)) (related path other below number second up.1 right.1)

-- ---- what a job makes is its own or below a child that it makes now

abbrev pub IsOf : List ℕ → ℕ → List ℕ → Type 0
IsOf path made other = (other ≡ path) ⊎ ((number : ℕ) × (made ≤ number) × (is_prefix (child_path path number) other ≡ true))

abbrev pub AllOf : (List ℕ → Type 0) → List Frame → Type 0
AllOf P [] = Unit {0}
AllOf P (frame ∷ rest) = P frame.path × AllOf P rest

abbrev pub MadeOf : (List ℕ → Type 0) → Making → Type 0
MadeOf P None = Unit {0}
MadeOf P (Some made) = AllOf P made.frames

pub all_append : (P : List ℕ → Type 0) (first second : List Frame) → AllOf P first → AllOf P second → AllOf P (first ++ second)
all_append P [] second h k = k
all_append P (frame ∷ rest) second h k = (h.0, all_append P rest second h.1 k)

pub all_weaker : (P Q : List ℕ → Type 0) → ((path : List ℕ) → P path → Q path) → (frames : List Frame) → AllOf P frames → AllOf Q frames
all_weaker P Q gives [] h = tt
all_weaker P Q gives (frame ∷ rest) h = (gives frame.path h.0, all_weaker P Q gives rest h.1)

pub made_weaker : (P Q : List ℕ → Type 0) → ((path : List ℕ) → P path → Q path) → (making : Making) → MadeOf P making → MadeOf Q making
made_weaker P Q gives None h = tt
made_weaker P Q gives (Some made) h = all_weaker P Q gives made.frames h

pub effect_of_all : (P : List ℕ → Type 0) (cell : ℕ) (effect : Effect) (making : Making) → MadeOf P making → MadeOf P (with_effect cell effect making)
effect_of_all P cell effect None h = tt
effect_of_all P cell effect (Some made) h = h

pub child_of_all : (P : List ℕ → Type 0) (child rest : Making) → MadeOf P child → MadeOf P rest → MadeOf P (with_child child rest)
child_of_all P None rest h k = tt
child_of_all P (Some child) None h k = tt
child_of_all P (Some child) (Some rest) h k = all_append P child.frames rest.frames h k

pub frame_of_all : (P : List ℕ → Type 0) (frame : Frame) (making : Making) → P frame.path → MadeOf P making → MadeOf P (with_frame frame making)
frame_of_all P frame None h k = tt
frame_of_all P frame (Some made) h k = (h, k)

-- the children that items make from a number on keep a property of all paths, where each such child does
pub items_of_all : (P : List ℕ → Type 0) (model : Parts) (of_child : Job → Making) (maker : List ℕ) (made number : ℕ) (view : List CellState) (items : List Item) → made ≤ number →
    ((count : ℕ) (kind : ℕ) (arguments : List _) (value_read : List CellState) → made ≤ count → MadeOf P (of_child (child_job model maker count value_read kind arguments))) →
    MadeOf P (of_items model of_child maker number view items)
items_of_all P model of_child maker made number view [] less h = tt
items_of_all P model of_child maker made number view (item.Emit cell effect ∷ rest) less h =
    effect_of_all P cell effect (of_items model of_child maker number (emitted view cell effect) rest)
    (items_of_all P model of_child maker made number (emitted view cell effect) rest less h)
items_of_all P model of_child maker made number view (item.Child kind arguments ∷ rest) less h =
    child_of_all P (of_child (child_job model maker number view kind arguments)) (of_items model of_child maker (number + 1) view rest)
    (h number kind arguments view less) (items_of_all P model of_child maker made (number + 1) view rest (omega arith) h)

-- what a child makes that made none before is under its path
pub under_of : (path other : List ℕ) → IsOf path 0 other → is_prefix path other ≡ true
under_of path other (inl e) = ap (is_prefix path) e ∙ under_itself path
under_of path other (inr h) = under_shorter path (h.0 ∷ []) other h.2

pub below_is : (path other : List ℕ) (made count : ℕ) → made ≤ count → IsOf (child_path path count) 0 other →
    (number : ℕ) × (made ≤ number) × (is_prefix (child_path path number) other ≡ true)
below_is path other made count less h = (count, less, under_of (child_path path count) other h)

pub below_child : (path other : List ℕ) (made count : ℕ) → made ≤ count → IsOf (child_path path count) 0 other → IsOf path made other
below_child path other made count less h = inr (below_is path other made count less h)

pub within_of : (model : Parts) (budget room number : ℕ) (job : Job) → MadeOf (IsOf job.path number) (made_within model budget room number job)
within_of model budget zero number job = by (job_step model budget job)
  where
    by : (stepped : Stepped) → MadeOf (IsOf job.path number) (of_step model (too_deep job.path) job number stepped)
    by None = tt
    by (Some (status, so_far)) =
        frame_of_all (IsOf job.path number) (frame_of job status so_far) (of_items model (too_deep job.path) job.path number job.view so_far.items) (inl refl)
        (items_of_all (IsOf job.path number) model (too_deep job.path) job.path number number job.view so_far.items (omega arith) (λ count kind arguments value_read less. (inl refl, tt)))
within_of model budget (suc room) number job =
    by (job_step model budget job)
    (λ count kind arguments value_read less.
    made_weaker (IsOf (child_path job.path count) 0) (IsOf job.path number) (λ other. below_child job.path other number count less)
    (made_within model budget room 0 (child_job model job.path count value_read kind arguments)) (within_of model budget room 0 (child_job model job.path count value_read kind arguments)))
  where
    by : (stepped : Stepped) →
        ((count : ℕ) (kind : ℕ) (arguments : List _) (value_read : List CellState) → number ≤ count →
        MadeOf (IsOf job.path number) (made_within model budget room 0 (child_job model job.path count value_read kind arguments))) →
        MadeOf (IsOf job.path number) (of_step model (made_within model budget room 0) job number stepped)
    by None h = tt
    by (Some (status, so_far)) h =
        frame_of_all (IsOf job.path number) (frame_of job status so_far) (of_items model (made_within model budget room 0) job.path number job.view so_far.items) (inl refl)
        (items_of_all (IsOf job.path number) model (made_within model budget room 0) job.path number number job.view so_far.items (omega arith) h)

pub has_is_of : (P : List ℕ → Type 0) (frames : List Frame) (path : List ℕ) → AllOf P frames → HasPath path frames → P path
has_is_of P [] path all has = absurd has
has_is_of P (frame ∷ rest) path all (inl e) = subst P e all.0
has_is_of P (frame ∷ rest) path all (inr has) = has_is_of P rest path all.1 has

pub never_both : (job other : ℕ × Job) (path : List ℕ) → AreApart job other → IsOf job.1.path job.0 path → IsOf other.1.path other.0 path → ⊥
never_both job other path apart (inl e) (inl f) = apart.different (sym e ∙ f)
never_both job other path apart (inl e) (inr k) = false≢true (sym (apart.no_parent k.0 k.1) ∙ ap (is_prefix (child_path other.1.path k.0)) (sym e) ∙ k.2)
never_both job other path apart (inr h) (inl f) = false≢true (sym (apart.no_child h.0 h.1) ∙ ap (is_prefix (child_path job.1.path h.0)) (sym f) ∙ h.2)
never_both job other path apart (inr h) (inr k) = by (related job.1.path other.1.path path h.0 k.0 h.2 k.2)
  where
    by : Related job.1.path other.1.path h.0 k.0 → ⊥
    by (inl e) = apart.different e
    by (inr (inl u)) = false≢true (sym (apart.no_child h.0 h.1) ∙ u)
    by (inr (inr u)) = false≢true (sym (apart.no_parent k.0 k.1) ∙ u)

making_apart : (job other : ℕ × Job) (making second : Making) → AreApart job other → MadeOf (IsOf job.1.path job.0) making → MadeOf (IsOf other.1.path other.0) second → NoPathInBoth making second
making_apart job other None second apart h k = tt
making_apart job other (Some made) None apart h k = tt
making_apart job other (Some made) (Some second) apart h k =
    λ path here there. never_both job other path apart
    (has_is_of (IsOf job.1.path job.0) made.frames path h here) (has_is_of (IsOf other.1.path other.0) second.frames path k there)

pub frames_apart : (model : Parts) (budget : ℕ) (job other : ℕ × Job) → AreApart job other → NoPathInBoth (made_by model budget job) (made_by model budget other)
frames_apart model budget job other apart =
    making_apart job other (made_by model budget job) (made_by model budget other) apart
    (within_of model budget (room_of job.1.path) job.0 job.1) (within_of model budget (room_of other.1.path) other.0 other.1)
