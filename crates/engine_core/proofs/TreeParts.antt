-- The parts of a task, item by item.
use Rattle.std.proofs.Common.{◌≡◌, ℕ, zero, suc, ◌+◌, ◌-◌, ◌<◌, ◌≤◌, Bool, true, false, IsTrue, if◌then◌else◌, List, [], ◌∷◌, ◌++◌, length, get_or, drop, Option, Some, None, slice_get, refl, sym, ap, ◌∙◌, subst, append_assoc, length-append, arith}
use Rattle.std.proofs.lemmas.List.{at_drop_all, append-nil}
use Rattle.std.proofs.lemmas.Bool.{ltb-false}
use Rattle.std.specs.BTreeMap.{is_at}
use Rattle.aerie_base.specs.Paths.{child_path, child_limit, children_of, child_of, may_have_children, is_path, path_cmp}
use Rattle.effect_cells.specs.declared.trees.Part.{Part, Emit, Child}
use Rattle.run_data.specs.TaskFrames.{Frame}
use Rattle.run_data.specs.declared.frames.Item.{Item}
use Rattle.run_data.specs.declared.frames.Item.TheVariants as item
use Rattle.run_data.specs.declared.jobs.Job.{Job}
use Rattle.run_data.specs.Frames.{room_of}
use Rattle.run_data.specs.laws.Orders.{EachOf}
use Rattle.run_data.specs.laws.Trees.{frame_at, parts_by, parts_of, rebuilt, rebuilt_all}
use Rattle.engine_core.specs.BatchTrees.{parts_below, part_by, children_by}
use Rattle.engine_core.proofs.FrameByFrame.{drop_here}
use Rattle.engine_core.proofs.ChildViews.{here}

-- a task's parts are those of its frame
pub rebuilt_is : (frames : List Frame) (room number : ℕ) (path : List ℕ) (frame : Option Frame) → frame ≡ frame_at frames path → rebuilt frames room number path ≡ parts_of (parts_below frames room) path number frame
rebuilt_is frames zero number path frame e = ap (parts_of (λ child. []) path number) (sym e)
rebuilt_is frames (suc room) number path frame e = ap (parts_of (rebuilt frames room 0) path number) (sym e)

first_part : (of_child : List ℕ → List Part) (path : List ℕ) (number : ℕ) (one : Item) (rest : List Item) →
    part_by of_child path number one ∷ parts_by of_child path (number + children_by one) rest ≡ parts_by of_child path number (one ∷ rest)
first_part of_child path number (item.Emit cell effect) rest =
    ap (λ n. Emit cell effect ∷ parts_by of_child path n rest) (let none : number + 0 ≡ number = omega arith in none)
first_part of_child path number (item.Child kind arguments) rest = refl

module _ (of_child : List ℕ → List Part) (path : List ℕ) (items : List Item) (number at : ℕ) (one : Item) (within : at < length items) (is : one ≡ get_or items at one) where
  -- one part more, and what is left makes the rest
  pub part_iteration : (parts whole more : List Part) (part : Part) → part ≡ part_by of_child path number one → more ≡ parts ++ part ∷ [] →
      parts ++ parts_by of_child path number (drop at items) ≡ whole → more ++ parts_by of_child path (number + children_by one) (drop (at + 1) items) ≡ whole
  part_iteration parts whole more part of put made =
      ap (λ (l : List Part). l ++ parts_by of_child path (number + children_by one) (drop (at + 1) items)) put
      ∙ append_assoc parts (part ∷ []) (parts_by of_child path (number + children_by one) (drop (at + 1) items))
      ∙ ap (λ (p : Part). parts ++ p ∷ parts_by of_child path (number + children_by one) (drop (at + 1) items)) of
      ∙ ap (λ (l : List Part). parts ++ l) (first_part of_child path number one (drop (at + 1) items))
      ∙ ap (λ (l : List Item). parts ++ parts_by of_child path number l) (sym (here items at one within is)) ∙ made

pub all_parts : (of_child : List ℕ → List Part) (path : List ℕ) (items : List Item) (number at : ℕ) (parts whole : List Part) → length items ≤ at →
    parts ++ parts_by of_child path number (drop at items) ≡ whole → parts ≡ whole
all_parts of_child path items number at parts whole past made =
    sym (append-nil parts) ∙ sym (ap (λ (l : List Item). parts ++ parts_by of_child path number l) (at_drop_all (λ (l : List Item). l) items at past)) ∙ made

-- ---- the frame of a path is one of the frames

pub of_found : (P : Frame → Type 0) (frames : List Frame) (path : List ℕ) (one : Frame) → EachOf P frames → frame_at frames path ≡ Some one → P one
of_found P [] path one h e = absurd (cc)
of_found P (frame ∷ rest) path one h e = by (is_at (path_cmp path) frame.path) e (of_found P rest path one h.1)
  where
    by : (b : Bool) → (if b then Some frame else frame_at rest path) ≡ Some one → (frame_at rest path ≡ Some one → P one) → P one
    by true e further = (let same : frame ≡ one = cc in subst P same h.0)
    by false e further = further e

-- ---- rooms

pub child_is_less : (path child : List ℕ) (number : ℕ) → IsTrue (is_path path) → length (children_of path) < child_limit → child ≡ child_path path number → room_of path ≡ suc (room_of child)
child_is_less [] child number good less is = absurd (cc)
child_is_less (kind ∷ []) child number good less is = absurd (cc)
child_is_less (kind ∷ id ∷ children) child number good less is =
    let one = length-append children (number ∷ []) in
    let same : room_of child ≡ child_limit - length (children ++ number ∷ []) = ap room_of is in omega (arith, one, less, same)

-- the parts of a child are those that its maker has below it
pub child_is_below : (frames : List Frame) (path child : List ℕ) (number : ℕ) → IsTrue (is_path path) → length (children_of path) < child_limit → child ≡ child_path path number →
    rebuilt frames (room_of child) 0 child ≡ parts_below frames (room_of path) (child_path path number)
child_is_below frames path child number good less is =
    let room = child_is_less path child number good less is in λ i. parts_below frames (sym room i) (is i)

pub none_below : (frames : List Frame) (path child : List ℕ) → child_limit ≤ length (children_of path) → [] ≡ parts_below frames (room_of path) child
none_below frames path child most = ap (λ n. parts_below frames n child) (let none : 0 ≡ room_of path = omega (arith, most) in none)

pub is_child : (path child : List ℕ) (number : ℕ) → Some child ≡ child_of path number → child ≡ child_path path number
is_child path child number e = by (may_have_children path) e
  where
    by : (may : Bool) → Some child ≡ (if may then Some (child_path path number) else None) → child ≡ child_path path number
    by true e = cc
    by false e = absurd (cc)

pub has_child : (path : List ℕ) (number : ℕ) → length (children_of path) < child_limit → None ≡ child_of path number → ⊥
has_child path number less e = by (may_have_children path) refl e
  where
    by : (may : Bool) → may_have_children path ≡ may → None ≡ (if may then Some (child_path path number) else None) → ⊥
    by true x e = cc
    by false x e = (let most = ltb-false (length (children_of path)) child_limit x in absurd (omega (arith, most, less)))

-- ---- the jobs of a batch

pub job_part : (frames : List Frame) (jobs : List (ℕ × Job)) (at : ℕ) (job : ℕ × Job) (parts whole more own : List Part) → slice_get jobs at ≡ Some job →
    own ≡ rebuilt frames (room_of job.1.path) job.0 job.1.path → more ≡ parts ++ Child (record { items = own }) ∷ [] →
    parts ++ rebuilt_all frames (drop at jobs) ≡ whole → more ++ rebuilt_all frames (drop (at + 1) jobs) ≡ whole
job_part frames jobs at job parts whole more own j of put made =
    ap (λ (l : List Part). l ++ rebuilt_all frames (drop (at + 1) jobs)) put
    ∙ append_assoc parts (Child (record { items = own }) ∷ []) (rebuilt_all frames (drop (at + 1) jobs))
    ∙ ap (λ (l : List Part). parts ++ Child (record { items = l }) ∷ rebuilt_all frames (drop (at + 1) jobs)) of
    ∙ ap (λ (l : List (ℕ × Job)). parts ++ rebuilt_all frames l) (sym (drop_here jobs at job j)) ∙ made

pub all_jobs : (frames : List Frame) (jobs : List (ℕ × Job)) (at : ℕ) (parts whole : List Part) → length jobs ≤ at → parts ++ rebuilt_all frames (drop at jobs) ≡ whole → parts ≡ whole
all_jobs frames jobs at parts whole past made =
    sym (append-nil parts) ∙ sym (ap (λ (l : List (ℕ × Job)). parts ++ rebuilt_all frames l) (at_drop_all (λ (l : List (ℕ × Job)). l) jobs at past)) ∙ made
