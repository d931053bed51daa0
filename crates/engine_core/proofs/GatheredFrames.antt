-- The parts of a batch's tree, gathered from the last to the first.
use Rattle.std.proofs.Common.{◌≡◌, ℕ, zero, suc, ◌+◌, ◌-◌, ◌<◌, ◌≤◌, ◌&&◌, Bool, true, false, nat_eq, if◌then◌else◌, List, [], ◌∷◌, ◌++◌, map, length, get_or, take, drop, Option, Some, None, Result, Ok, Err, OnOk, slice_get, refl, sym, ap, ◌∙◌, subst, arith}
use Rattle.std.proofs.lemmas.List.{append-nil}
use Rattle.std.proofs.lemmas.List.Sums.{sum_by-cons}
use Rattle.std.proofs.lemmas.Option.{slice_get_within}
use Rattle.effect_cells.specs.declared.effects.CellState.{CellState}
use Rattle.effect_cells.specs.declared.effects.Effect.{Effect}
use Rattle.effect_cells.specs.declared.trees.Part.{Part, Emit, Child}
use Rattle.effect_cells.specs.Cells.{accepts, accepted_by, fits_cells}
use Rattle.effect_cells.specs.Gathered.{Gathered, IsGathered, HasBegun, IsWhole, CanGather, BeginsReady, EntersWithNothing, ChildIsBeside, StaysReady}
use Rattle.effect_cells.specs.Sums.{sum_limit}
use Rattle.effect_cells.specs.TreeRecursion.{part_gives}
use Rattle.effect_cells.specs.TreeRecursionLaws.{gives-Child}
use Rattle.effect_cells.specs.Worth.{Before, in_front, beside, magnitude, part_magnitude, tree_magnitude, magnitude_of, part_fits, tree_fits, part_worth, tree_worth, worth_of}
use Rattle.run_data.specs.TaskFrames.{Frame}
use Rattle.run_data.specs.declared.frames.Item.{Item}
use Rattle.run_data.specs.declared.frames.Item.TheVariants as item
use Rattle.run_data.specs.declared.jobs.Job.{Job}
use Rattle.run_data.specs.Frames.{room_of}
use Rattle.run_data.specs.laws.Orders.{EachOf}
use Rattle.run_data.specs.laws.Trees.{parts_by, rebuilt, rebuilt_all}
use Rattle.effect_cells.specs.Cells.{emitted}
use Rattle.aerie_base.specs.declared.models.model.Parts.{Parts}
use Rattle.run_data.specs.laws.Generations.{child_jobs}
use Rattle.engine_core.specs.BatchDues.{fresh}
use Rattle.live_tasks.specs.declared.ready_jobs.Root.{Root}
use Rattle.engine_core.proofs.ChildViews.{here}
use Rattle.live_tasks.specs.ReadyJobs.{root_of}
use Rattle.engine_core.specs.BatchTrees.{part_by, children_by, children_among, rebuilt_roots, tree_with, AreGathered, MayGather}

-- ---- magnitudes and kinds of parts

abbrev size : List Part → ℕ
size parts = magnitude_of (tree_with parts)

abbrev one_size : Part → ℕ
one_size part = part_gives ℕ ℕ part_magnitude tree_magnitude part

size_cons : (part : Part) (rest : List Part) → size (part ∷ rest) ≡ one_size part + size rest
size_cons part rest = sum_by-cons (λ n. n) (one_size part) (map one_size rest)

size_emit : (cell : ℕ) (effect : Effect) (rest : List Part) → magnitude effect + size rest ≡ size (Emit cell effect ∷ rest)
size_emit cell effect rest = sym (size_cons (Emit cell effect) rest)

size_child : (child : List Part) (rest : List Part) → size child + size rest ≡ size (Child (tree_with child) ∷ rest)
size_child child rest = sym (size_cons (Child (tree_with child)) rest ∙ ap (λ n. n + size rest) (gives-Child ℕ ℕ part_magnitude tree_magnitude (tree_with child)))

size_drop : (parts : List Part) (i : ℕ) → size (drop i parts) ≤ size parts
size_drop [] zero = omega arith
size_drop [] (suc i) = omega arith
size_drop (part ∷ rest) zero = omega arith
size_drop (part ∷ rest) (suc i) = omega (arith, size_drop rest i, size_cons part rest)

second_true : (a b : Bool) → (a && b) ≡ true → b ≡ true
second_true true b ok = ok
second_true false b ok = absurd (cc)

only_first : (a b : Bool) → (a && b) ≡ true → (a && true) ≡ true
only_first true b ok = refl
only_first false b ok = absurd (cc)

first_true : (a : Bool) → (a && true) ≡ true → a ≡ true
first_true true ok = refl
first_true false ok = absurd (cc)

fits_drop : (cells : List CellState) (parts : List Part) (i : ℕ) → fits_cells cells (tree_with parts) ≡ true → fits_cells cells (tree_with (drop i parts)) ≡ true
fits_drop cells [] zero ok = refl
fits_drop cells [] (suc i) ok = refl
fits_drop cells (part ∷ rest) zero ok = ok
fits_drop cells (part ∷ rest) (suc i) ok =
    fits_drop cells rest i
    (second_true (part_gives Bool Bool (part_fits (accepts cells)) tree_fits part) (fits_cells cells (tree_with rest)) ok)

fits_first : (cells : List CellState) (part : Part) (rest : List Part) → fits_cells cells (tree_with (part ∷ rest)) ≡ true → fits_cells cells (tree_with (part ∷ [])) ≡ true
fits_first cells part rest ok = only_first (part_gives Bool Bool (part_fits (accepts cells)) tree_fits part) (fits_cells cells (tree_with rest)) ok

-- ---- a part more

-- the part in front of those that are gathered may be gathered
pub next_may : StaysReady → (cells : List CellState) (whole : List Part) (i left : ℕ) (part : Part) (old now : Gathered) → drop i whole ≡ part ∷ drop left whole →
    MayGather cells whole old → AreGathered cells (drop left whole) old now → MayGather cells (part ∷ []) now
next_may stays cells whole i left part old now first may g =
    let after = stays cells (worth_of (tree_with (drop left whole))) (size (drop left whole)) old now g in
    record {
      fits = fits_first cells part (drop left whole) (subst (λ (parts : List Part). fits_cells cells (tree_with parts) ≡ true) first (fits_drop cells whole i may.fits));
      ready = after.0;
      room = after.1 (size (part ∷ [])) (size whole) fits may.room;
    }
  where
    fits : size (part ∷ []) + size (drop left whole) ≤ size whole
    fits =
        let least : size (part ∷ drop left whole) ≤ size whole = subst (λ (parts : List Part). size parts ≤ size whole) first (size_drop whole i) in
        omega (arith, least, size_cons part (drop left whole), size_cons part [])

pub next_gathered : (cells : List CellState) (whole : List Part) (i left : ℕ) (part : Part) (old now : Gathered) → drop i whole ≡ part ∷ drop left whole →
    AreGathered cells (part ∷ drop left whole) old now → AreGathered cells (drop i whole) old now
next_gathered cells whole i left part old now first g = subst (λ (parts : List Part). AreGathered cells parts old now) (sym first) g

-- as a task is entered none of its parts is gathered
pub none_gathered : EntersWithNothing → (cells : List CellState) (whole parts : List Part) (now : Gathered) → MayGather cells whole now → [] ≡ parts → AreGathered cells parts now now
none_gathered enters cells whole parts now may none = subst (λ (parts : List Part). AreGathered cells parts now now) none (enters cells now may.ready)

none_behind : (parts : List Part) (left : ℕ) → length parts ≤ left → [] ≡ drop left parts
none_behind [] zero past = refl
none_behind [] (suc left) past = refl
none_behind (part ∷ rest) zero past = absurd (omega arith)
none_behind (part ∷ rest) (suc left) past = none_behind rest left (omega arith)

pub starts_gathered : EntersWithNothing → (cells : List CellState) (whole : List Part) (left : ℕ) (now : Gathered) → length whole ≤ left → MayGather cells whole now →
    AreGathered cells (drop left whole) now now
starts_gathered enters cells whole left now past may = none_gathered enters cells whole (drop left whole) now may (none_behind whole left past)

-- as nothing is gathered yet, parts of little numbers may be
pub begins_may : BeginsReady → (cells : List CellState) (parts : List Part) (begun : Gathered) → HasBegun cells begun → fits_cells cells (tree_with parts) ≡ true → size parts < sum_limit →
    MayGather cells parts begun
begins_may begins cells parts begun nothing fits small =
    let ready = begins cells (size parts) begun nothing small in record { fits = fits; ready = ready.0; room = ready.1 }

pub whole_is : (cells : List CellState) (parts : List Part) (begun now : Gathered) → HasBegun cells begun → AreGathered cells parts begun now → IsWhole cells (tree_with parts) now
whole_is cells parts begun now nothing all = record { begun = begun; nothing = nothing; all = all }

-- ---- an effect

is_inside : (cells : List CellState) (cell : ℕ) (effect : Effect) → accepts cells cell effect ≡ true → cell < length cells
is_inside cells cell effect ok = by (slice_get cells cell) refl ok
  where
    by : (there : Option CellState) → slice_get cells cell ≡ there → accepted_by there effect ≡ true → cell < length cells
    by None e ok = absurd (cc)
    by (Some state) e ok = slice_get_within cells cell state e

emit_accepted : (cells : List CellState) (cell : ℕ) (effect : Effect) (gathered : Gathered) → MayGather cells (Emit cell effect ∷ []) gathered → accepts cells cell effect ≡ true
emit_accepted cells cell effect gathered may = first_true (accepts cells cell effect) may.fits

pub can_emit : (cells : List CellState) (cell : ℕ) (effect : Effect) (gathered : Gathered) → MayGather cells (Emit cell effect ∷ []) gathered → CanGather cell effect gathered
can_emit cells cell effect gathered may =
    let inside : cell < length gathered.pending = omega (arith, is_inside cells cell effect (emit_accepted cells cell effect gathered may), may.ready.same) in
    record { within = inside; small = omega (arith, may.room cell inside, size_emit cell effect []) }

pub emit_gathered : (cells : List CellState) (entered_at cell : ℕ) (effect : Effect) (old now : Gathered) → MayGather cells (Emit cell effect ∷ []) old →
    ((cells : List CellState) (worth : ℕ → Option Effect) (amount : ℕ) (before : Gathered) → accepts cells cell effect ≡ true → before.clock ≡ entered_at →
    IsGathered cells worth amount before old → IsGathered cells (λ on. if nat_eq cell on then in_front effect (worth on) else worth on) (magnitude effect + amount) before now) →
    (parts : List Part) (before : Gathered) → before.clock ≡ entered_at → AreGathered cells parts before old → AreGathered cells (Emit cell effect ∷ parts) before now
emit_gathered cells entered_at cell effect old now may h parts before entered g =
    subst (λ n. IsGathered cells (worth_of (tree_with (Emit cell effect ∷ parts))) n before now) (size_emit cell effect parts)
    (h cells (worth_of (tree_with parts)) (size parts) before (emit_accepted cells cell effect old may) entered g)

-- ---- a child

-- a task's parts may be gathered where it may be as a child
pub child_may : (cells : List CellState) (parts : List Part) (gathered : Gathered) → MayGather cells (Child (tree_with parts) ∷ []) gathered → MayGather cells parts gathered
child_may cells parts gathered may = record {
  fits =
      sym (gives-Child Bool Bool (part_fits (accepts cells)) tree_fits (tree_with parts))
      ∙ first_true (part_gives Bool Bool (part_fits (accepts cells)) tree_fits (Child (tree_with parts))) may.fits;
  ready = may.ready;
  room = λ cell inside. omega (arith, may.room cell inside, size_child parts []);
}

child_worth : (child parts : List Part) → (λ cell. beside (worth_of (tree_with child) cell) (worth_of (tree_with parts) cell)) ≡ worth_of (tree_with (Child (tree_with child) ∷ parts))
child_worth child parts = λ i cell. sym (gives-Child Before (ℕ → Option Effect) part_worth tree_worth (tree_with child)) i cell (worth_of (tree_with parts) cell)

pub child_gathered : ChildIsBeside → (cells : List CellState) (child parts : List Part) (before old now : Gathered) → AreGathered cells parts before old → AreGathered cells child old now →
    AreGathered cells (Child (tree_with child) ∷ parts) before now
child_gathered beside_law cells child parts before old now g h =
    subst (λ n. IsGathered cells (worth_of (tree_with (Child (tree_with child) ∷ parts))) n before now) (size_child child parts)
    (subst (λ (worth : ℕ → Option Effect). IsGathered cells worth (size child + size parts) before now) (child_worth child parts)
    (beside_law cells (worth_of (tree_with parts)) (worth_of (tree_with child)) (size parts) (size child) before old now g h))

pub child_gathers : {A E : Type 0} → ChildIsBeside → (cells : List CellState) (entered_at : ℕ) (child : List Part) (old now : Gathered) (result : Result A E) →
    OnOk result (AreGathered cells child old now) →
    OnOk result ((parts : List Part) (before : Gathered) → before.clock ≡ entered_at → AreGathered cells parts before old → AreGathered cells (Child (tree_with child) ∷ parts) before now)
child_gathers beside_law cells entered_at child old now (Err error) h = tt
child_gathers beside_law cells entered_at child old now (Ok done) h = λ parts before entered g. child_gathered beside_law cells child parts before old now g h

-- ---- the items of a frame

pub part_of_item : (of_child : List ℕ → List Part) (path : List ℕ) (items : List Item) (number i : ℕ) (one : Item) → i < length items → one ≡ get_or items i one →
    drop i (parts_by of_child path number items) ≡ part_by of_child path (number + children_among (take i items)) one ∷ drop (i + 1) (parts_by of_child path number items)
part_of_item of_child path [] number i one within is = absurd (omega arith)
part_of_item of_child path (item.Emit cell effect ∷ rest) number zero one within is =
    (λ j. part_by of_child path (sym (let none : number + 0 ≡ number = omega arith in none) j) (sym is j) ∷ parts_by of_child path number rest)
part_of_item of_child path (item.Child kind arguments ∷ rest) number zero one within is =
    (λ j. part_by of_child path (sym (let none : number + 0 ≡ number = omega arith in none) j) (sym is j) ∷ parts_by of_child path (number + 1) rest)
part_of_item of_child path (item.Emit cell effect ∷ rest) number (suc i) one within is =
    let next : suc i + 1 ≡ suc (i + 1) = omega arith in
    let same : number + children_among (take i rest) ≡ number + (0 + children_among (take i rest)) = omega arith in
    rw (next, ← same) (part_of_item of_child path rest number i one (omega arith) is)
part_of_item of_child path (item.Child kind arguments ∷ rest) number (suc i) one within is =
    let next : suc i + 1 ≡ suc (i + 1) = omega arith in
    let same : number + 1 + children_among (take i rest) ≡ number + (1 + children_among (take i rest)) = omega arith in
    rw (next, ← same) (part_of_item of_child path rest (number + 1) i one (omega arith) is)

pub as_many_parts : (of_child : List ℕ → List Part) (path : List ℕ) (items : List Item) (number : ℕ) → length (parts_by of_child path number items) ≡ length items
as_many_parts of_child path [] number = refl
as_many_parts of_child path (item.Emit cell effect ∷ rest) number = ap suc (as_many_parts of_child path rest number)
as_many_parts of_child path (item.Child kind arguments ∷ rest) number = ap suc (as_many_parts of_child path rest (number + 1))

-- the children of the items in front of one, and its own
pub children_to : (items : List Item) (i : ℕ) (one : Item) → i < length items → one ≡ get_or items i one →
    children_among (take (i + 1) items) ≡ children_among (take i items) + children_by one
children_to [] i one within is = absurd (omega arith)
children_to (first ∷ rest) zero one within is = ap (λ n. n + 0) (ap children_by (sym is)) ∙ (omega arith)
children_to (first ∷ rest) (suc i) one within is =
    let next : suc i + 1 ≡ suc (i + 1) = omega arith in
    let further : children_among (take (i + 1) rest) ≡ children_among (take i rest) + children_by one = children_to rest i one (omega arith) is in
    rw next (omega (arith, further))

pub all_taken : (items : List Item) (n : ℕ) → length items ≤ n → children_among (take n items) ≡ children_among items
all_taken [] zero past = refl
all_taken [] (suc n) past = refl
all_taken (first ∷ rest) zero past = absurd (omega arith)
all_taken (first ∷ rest) (suc n) past = ap (λ (c : ℕ). children_by first + c) (all_taken rest n (omega arith))

-- one item more, from behind: the number of the next child falls by the children that it makes
module _ (of_child : List ℕ → List Part) (path : List ℕ) (items : List Item) (number left next made : ℕ) (one : Item) (some : 0 < left) (within : left ≤ length items)
    (is : one ≡ get_or items (left - 1) one) (numbered : next ≡ number + children_among (take left items)) (by : made ≡ children_by one) where
  before : left - 1 + 1 ≡ left
  before = omega arith

  children_here : children_among (take left items) ≡ children_among (take (left - 1) items) + made
  children_here = rw by (rw before at (children_to items (left - 1) one (omega arith) is))

  pub number_falls : made ≤ next
  number_falls = omega (arith, numbered, children_here)

  pub number_is : next - made ≡ number + children_among (take (left - 1) items)
  number_is = omega (arith, numbered, children_here)

  pub item_first : drop (left - 1) (parts_by of_child path number items) ≡ part_by of_child path (next - made) one ∷ drop left (parts_by of_child path number items)
  item_first = rw number_is (rw before at (part_of_item of_child path items number (left - 1) one (omega arith) is))

-- ---- the ready tasks

pub part_of_root : (frames : List Frame) (roots : List Root) (i : ℕ) (root : Root) → i < length roots → root ≡ get_or roots i root →
    drop i (rebuilt_roots frames roots) ≡ Child (tree_with (rebuilt frames (room_of root.path) root.made root.path)) ∷ drop (i + 1) (rebuilt_roots frames roots)
part_of_root frames [] i root within is = absurd (omega arith)
part_of_root frames (first ∷ rest) zero root within is =
    ap (λ (one : Root). Child (tree_with (rebuilt frames (room_of one.path) one.made one.path)) ∷ rebuilt_roots frames rest) (sym is)
part_of_root frames (first ∷ rest) (suc i) root within is =
    let next : suc i + 1 ≡ suc (i + 1) = omega arith in rw next (part_of_root frames rest i root (omega arith) is)

pub as_many_roots : (frames : List Frame) (roots : List Root) → length (rebuilt_roots frames roots) ≡ length roots
as_many_roots frames [] = refl
as_many_roots frames (root ∷ rest) = ap suc (as_many_roots frames rest)

pub roots_of_jobs : (frames : List Frame) (jobs : List (ℕ × Job)) → rebuilt_roots frames (map root_of jobs) ≡ rebuilt_all frames jobs
roots_of_jobs frames [] = refl
roots_of_jobs frames (job ∷ rest) =
    ap (λ (parts : List Part). Child (tree_with (rebuilt frames (room_of job.1.path) job.0 job.1.path)) ∷ parts) (roots_of_jobs frames rest)

module _ (frames : List Frame) (roots : List Root) (left : ℕ) (root : Root) (some : 0 < left) (within : left ≤ length roots) (is : root ≡ get_or roots (left - 1) root) where
  pub root_first : drop (left - 1) (rebuilt_roots frames roots) ≡ Child (tree_with (rebuilt frames (room_of root.path) root.made root.path)) ∷ drop left (rebuilt_roots frames roots)
  root_first = let before : left - 1 + 1 ≡ left = omega arith in rw before at (part_of_root frames roots (left - 1) root (omega arith) is)

pub root_within : (limit : ℕ) (roots : List Root) (i : ℕ) (root : Root) → EachOf (λ root. root.made ≤ limit) roots → i < length roots → root ≡ get_or roots i root → root.made ≤ limit
root_within limit [] i root each within is = absurd (omega arith)
root_within limit (first ∷ rest) zero root each within is = subst (λ (one : Root). one.made ≤ limit) (sym is) each.0
root_within limit (first ∷ rest) (suc i) root each within is = root_within limit rest i root each.1 (omega arith) is

pub roots_within : (limit : ℕ) (jobs : List (ℕ × Job)) → EachOf (λ job. job.0 ≤ limit) jobs → EachOf (λ root. root.made ≤ limit) (map root_of jobs)
roots_within limit [] each = tt
roots_within limit (job ∷ rest) each = (each.0, roots_within limit rest each.1)

-- no child is made where items make none
pub no_children : (model : Parts) (path : List ℕ) (number : ℕ) (view : List CellState) (items : List Item) (others : List (ℕ × Job)) → children_among items ≡ 0 →
    others ≡ others ++ fresh (child_jobs model path number view items)
no_children model path number view [] others none = sym (append-nil others)
no_children model path number view (item.Emit cell effect ∷ rest) others none = no_children model path number (emitted view cell effect) rest others (omega (arith, none))
no_children model path number view (item.Child kind arguments ∷ rest) others none = absurd (omega (arith, none))

-- one item more
pub one_counted : (items : List Item) (i count made : ℕ) (one : Item) → i < length items → one ≡ get_or items i one → made ≡ children_by one →
    count + children_among (drop i items) ≡ children_among items → count + made + children_among (drop (i + 1) items) ≡ children_among items
one_counted items i count made one within is by counted =
    let first : children_among (drop i items) ≡ children_by one + children_among (drop (i + 1) items) = ap children_among (here items i one within is) in
    omega (arith, first, by, counted)
