-- A batch does not depend on the order of its jobs.
use Rattle.std.specs.List.{list_all}
use Rattle.std.proofs.Common.{◌≡◌, ℕ, ℤ, zero, suc, ◌+◌, ◌+ℤ◌, ◌<◌, Bool, true, false, ◌&&◌, if◌then◌else◌, nat_eq, nat_lt, List, [], ◌∷◌, ◌++◌, map, length, Option, Some, None, is_some, slice_get, refl, sym, ap, ◌∙◌, subst, arith}
use Rattle.std.proofs.lemmas.Int.{ints}
use Rattle.aerie_base.specs.declared.models.model.Parts.{Parts}
use Rattle.effect_cells.specs.declared.effects.CellState.{CellState}
use Rattle.effect_cells.specs.declared.effects.CellState.TheVariants as state
use Rattle.effect_cells.specs.declared.effects.Effect.{Effect}
use Rattle.effect_cells.specs.declared.effects.Effect.TheVariants.{Add, Register, Flow}
use Rattle.effect_cells.specs.declared.registers.Change.{Change}
use Rattle.effect_cells.specs.declared.trees.Part.{Part, Emit, Child, Child', Row_of-Part, end_of-Part, more_of-Part}
use Rattle.effect_cells.specs.declared.trees.Tree.{Tree}
use Rattle.effect_cells.specs.Cells.{accepts, accepted_by, fits_cells, with_effects, first_out, committed_cells}
use Rattle.effect_cells.specs.ChangeLaws.{sides_commute, sides_associate}
use Rattle.effect_cells.specs.Changes.{change_beside}
use Rattle.effect_cells.specs.States.{applied_if_any, is_of_kind}
use Rattle.effect_cells.specs.TreeRecursion.{part_gives, items_give}
use Rattle.effect_cells.specs.TreeRecursionLaws.{gives-Child}
use Rattle.effect_cells.specs.Worth.{Before, effect_beside, in_front, beside, part_worth, tree_worth, items_worth, worth_of, part_fits, tree_fits}
use Rattle.run_data.specs.declared.jobs.Job.{Job}
use Rattle.run_data.specs.Batches.{committed, judged, when_within, when_no_fault, unless_out, touched_from, Blame, least_fault, tree_of, cost_of, by_path}
use Rattle.run_data.specs.Counts.{cost_append}
use Rattle.run_data.specs.Frames.{Made, Making, with_child, made_by, made_by_all}
use Rattle.run_data.specs.laws.Orders.{EachOf, EachTwo, AreApart, FitsCells, OrderDoesNotMatter}
use Rattle.run_data.proofs.FramePaths.{NoPathInBoth, frames_apart}
use Rattle.run_data.proofs.InTurn.{FitsAny, front_fits, both}
use Rattle.run_data.proofs.PathOrder.{least_exchange, least_behind, sorted_exchange, sorted_behind}
use Rattle.run_data.proofs.Reordering.{Reordered, same, behind, exchanged, in_turn, reordered}

-- ---- effects beside each other

change_exchange : (a b c : Change) → change_beside a (change_beside b c) ≡ change_beside b (change_beside a c)
change_exchange a b c = sym (sides_associate a b c) ∙ ap (λ x. change_beside x c) (sides_commute a b) ∙ sides_associate b a c

sum_exchange : (a b c : ℤ) → a +ℤ (b +ℤ c) ≡ b +ℤ (a +ℤ c)
sum_exchange a b c = omega (arith, ints)

beside_kind : (s : CellState) (e f : Effect) → is_of_kind s e ≡ true → is_of_kind s (effect_beside e f) ≡ true
beside_kind (state.Counter n) (Add x) (Add y) h = refl
beside_kind (state.Counter n) (Add x) (Register f) h = refl
beside_kind (state.Counter n) (Add x) (Flow a b) h = refl
beside_kind (state.Counter n) (Register e) f h = absurd (cc)
beside_kind (state.Counter n) (Flow a b) f h = absurd (cc)
beside_kind (state.Register v c) (Register e) (Register f) h = refl
beside_kind (state.Register v c) (Register e) (Add x) h = refl
beside_kind (state.Register v c) (Register e) (Flow a b) h = refl
beside_kind (state.Register v c) (Add x) f h = absurd (cc)
beside_kind (state.Register v c) (Flow a b) f h = absurd (cc)
beside_kind (state.Volume v r) (Flow a b) (Flow p q) h = refl
beside_kind (state.Volume v r) (Flow a b) (Add x) h = refl
beside_kind (state.Volume v r) (Flow a b) (Register f) h = refl
beside_kind (state.Volume v r) (Add x) f h = absurd (cc)
beside_kind (state.Volume v r) (Register e) f h = absurd (cc)

-- effects of one kind
data OneKind : Effect → Effect → Type 0 where
  adds : (x y : ℤ) → OneKind (Add x) (Add y)
  changes : (x y : Change) → OneKind (Register x) (Register y)
  flows : (v r w s : ℤ) → OneKind (Flow v r) (Flow w s)

one_kind : (s : CellState) (e f : Effect) → is_of_kind s e ≡ true → is_of_kind s f ≡ true → OneKind e f
one_kind (state.Counter n) (Add x) (Add y) h k = adds x y
one_kind (state.Counter n) (Add x) (Register f) h k = absurd (cc)
one_kind (state.Counter n) (Add x) (Flow a b) h k = absurd (cc)
one_kind (state.Counter n) (Register e) f h k = absurd (cc)
one_kind (state.Counter n) (Flow a b) f h k = absurd (cc)
one_kind (state.Register v c) (Register e) (Register f) h k = changes e f
one_kind (state.Register v c) (Register e) (Add x) h k = absurd (cc)
one_kind (state.Register v c) (Register e) (Flow a b) h k = absurd (cc)
one_kind (state.Register v c) (Add x) f h k = absurd (cc)
one_kind (state.Register v c) (Flow a b) f h k = absurd (cc)
one_kind (state.Volume v r) (Flow a b) (Flow p q) h k = flows a b p q
one_kind (state.Volume v r) (Flow a b) (Add x) h k = absurd (cc)
one_kind (state.Volume v r) (Flow a b) (Register f) h k = absurd (cc)
one_kind (state.Volume v r) (Add x) f h k = absurd (cc)
one_kind (state.Volume v r) (Register e) f h k = absurd (cc)

effects_commute : (e f : Effect) → OneKind e f → effect_beside e f ≡ effect_beside f e
effects_commute e f (adds x y) = let m : x +ℤ y ≡ y +ℤ x = omega (arith, ints) in ap Add m
effects_commute e f (changes x y) = ap Register (sides_commute x y)
effects_commute e f (flows v r w s) =
    let m : v +ℤ w ≡ w +ℤ v = omega (arith, ints) in let n : r +ℤ s ≡ s +ℤ r = omega (arith, ints) in λ i. Flow (m i) (n i)

effects_exchange : (e f g : Effect) → OneKind e f → OneKind f g → effect_beside e (effect_beside f g) ≡ effect_beside f (effect_beside e g)
effects_exchange e f g (adds x y) (adds p z) = ap Add (sum_exchange x y z)
effects_exchange e f g (changes x y) (changes p z) = ap Register (change_exchange x y z)
effects_exchange e f g (flows v r w s) (flows p q t u) = λ i. Flow (sum_exchange v w t i) (sum_exchange r s u i)

beside_exchange : (s : CellState) (first second rest : Option Effect) → FitsAny (Some s) first → FitsAny (Some s) second → FitsAny (Some s) rest →
    beside first (beside second rest) ≡ beside second (beside first rest)
beside_exchange s None second rest h k l = refl
beside_exchange s (Some e) None rest h k l = refl
beside_exchange s (Some e) (Some f) None h k l = ap Some (effects_commute e f (one_kind s e f h k))
beside_exchange s (Some e) (Some f) (Some g) h k l = ap Some (effects_exchange e f g (one_kind s e f h k) (one_kind s f g k l))

-- ---- what a tree comes to on a cell is of the kind of the cell

beside_fits : (found : Option CellState) (first rest : Option Effect) → FitsAny found first → FitsAny found rest → FitsAny found (beside first rest)
beside_fits None first rest h k = tt
beside_fits (Some s) None rest h k = k
beside_fits (Some s) (Some e) None h k = h
beside_fits (Some s) (Some e) (Some f) h k = beside_kind s e f h

none_fits : (found : Option CellState) → FitsAny found None
none_fits None = tt
none_fits (Some s) = tt

module _ (cells : List CellState) (cell : ℕ) where
  abbrev Fits : Option Effect → Type 0
  Fits worth = FitsAny (slice_get cells cell) worth

  emit_fits : (on : ℕ) (effect : Effect) (rest : Option Effect) → accepts cells on effect ≡ true → Fits rest → Fits (if nat_eq on cell then in_front effect rest else rest)
  emit_fits on effect rest a k = by (nat_eq on cell) refl
    where
      by : (here : Bool) → nat_eq on cell ≡ here → Fits (if here then in_front effect rest else rest)
      by true e = let is : on ≡ cell = grind arith in front_fits (slice_get cells cell) effect rest (subst (λ c. accepted_by (slice_get cells c) effect ≡ true) is a)
      by false e = k

  mutual
    part_fitting : (part : Part) (rest : Option Effect) → part_gives Bool Bool (part_fits (accepts cells)) tree_fits part ≡ true → Fits rest →
        Fits (part_gives Before (ℕ → Option Effect) part_worth tree_worth part cell rest)
    part_fitting (Emit on effect) rest h k = emit_fits on effect rest h k
    part_fitting (Child' _ items) rest h k = beside_fits (slice_get cells cell) _ rest (row_fitting items h) k

    row_fitting : {m : _} → (row : Row_of-Part m) → list_all (λ flag. flag) (items_give Bool Bool (part_fits (accepts cells)) tree_fits row) ≡ true →
        Fits (items_worth (items_give Before (ℕ → Option Effect) part_worth tree_worth row) cell)
    row_fitting end_of-Part h = none_fits (slice_get cells cell)
    row_fitting (more_of-Part part rest) h =
        let fit = both (part_gives Bool Bool (part_fits (accepts cells)) tree_fits part) (list_all (λ flag. flag) (items_give Bool Bool (part_fits (accepts cells)) tree_fits rest)) h in
        part_fitting part (items_worth (items_give Before (ℕ → Option Effect) part_worth tree_worth rest) cell) fit.0 (row_fitting rest fit.1)

  parts_fitting : (parts : List Part) → list_all (λ flag. flag) (map (part_gives Bool Bool (part_fits (accepts cells)) tree_fits) parts) ≡ true →
      Fits (items_worth (map (part_gives Before (ℕ → Option Effect) part_worth tree_worth) parts) cell)
  parts_fitting [] h = none_fits (slice_get cells cell)
  parts_fitting (part ∷ rest) h =
      let fit = both (part_gives Bool Bool (part_fits (accepts cells)) tree_fits part) (list_all (λ flag. flag) (map (part_gives Bool Bool (part_fits (accepts cells)) tree_fits) rest)) h in
      part_fitting part (items_worth (map (part_gives Before (ℕ → Option Effect) part_worth tree_worth) rest) cell) fit.0 (parts_fitting rest fit.1)

  tree_fitting : (tree : Tree) → fits_cells cells tree ≡ true → Fits (worth_of tree cell)
  tree_fitting tree h = parts_fitting tree.items h

-- ---- makings that come to the same

abbrev worth_in : Made → ℕ → Option Effect
worth_in made cell = worth_of (tree_of made) cell

record Alike (cells : List CellState) (made other : Made) : Type 0 where
  cost : cost_of made.frames ≡ cost_of other.frames
  fault : least_fault made.frames ≡ least_fault other.frames
  order : by_path made.frames ≡ by_path other.frames
  worth : (cell : ℕ) → cell < length cells → worth_in made cell ≡ worth_in other cell

abbrev AreAlike : List CellState → Making → Making → Type 0
AreAlike cells None None = Unit {0}
AreAlike cells None (Some other) = ⊥
AreAlike cells (Some made) None = ⊥
AreAlike cells (Some made) (Some other) = Alike cells made other

alike_itself : (cells : List CellState) (making : Making) → AreAlike cells making making
alike_itself cells None = tt
alike_itself cells (Some made) = record { cost = refl; fault = refl; order = refl; worth = λ cell less. refl }

alike_trans : (cells : List CellState) (first second third : Making) → AreAlike cells first second → AreAlike cells second third → AreAlike cells first third
alike_trans cells None None None h k = tt
alike_trans cells None None (Some third) h k = absurd k
alike_trans cells None (Some second) third h k = absurd h
alike_trans cells (Some first) None third h k = absurd h
alike_trans cells (Some first) (Some second) None h k = absurd k
alike_trans cells (Some first) (Some second) (Some third) h k = record {
  cost = h.cost ∙ k.cost;
  fault = h.fault ∙ k.fault;
  order = h.order ∙ k.order;
  worth = λ cell less. h.worth cell less ∙ k.worth cell less;
}

abbrev two_made : Made → Made → Made
two_made child rest = record { frames = child.frames ++ rest.frames; tree = Child (tree_of child) ∷ rest.tree }

two_worth : (child rest : Made) (cell : ℕ) → worth_in (two_made child rest) cell ≡ beside (worth_in child cell) (worth_in rest cell)
two_worth child rest cell = λ i. gives-Child Before (ℕ → Option Effect) part_worth tree_worth (tree_of child) i cell (worth_in rest cell)

alike_behind : (cells : List CellState) (child rest other : Making) → AreAlike cells rest other → AreAlike cells (with_child child rest) (with_child child other)
alike_behind cells None rest other h = tt
alike_behind cells (Some child) None None h = tt
alike_behind cells (Some child) None (Some other) h = absurd h
alike_behind cells (Some child) (Some rest) None h = absurd h
alike_behind cells (Some child) (Some rest) (Some other) h = record {
  cost = cost_append child.frames rest.frames ∙ ap (λ n. cost_of child.frames + n) h.cost ∙ sym (cost_append child.frames other.frames);
  fault = least_behind child.frames rest.frames other.frames h.fault;
  order = sorted_behind child.frames rest.frames other.frames h.order;
  worth = λ cell less. two_worth child rest cell ∙ ap (beside (worth_in child cell)) (h.worth cell less) ∙ sym (two_worth child other cell);
}

has_state : (cells : List CellState) (cell : ℕ) → cell < length cells → (s : CellState) × (slice_get cells cell ≡ Some s)
has_state [] cell less = absurd (omega arith)
has_state (s ∷ rest) zero less = (s, refl)
has_state (s ∷ rest) (suc cell) less = has_state rest cell (omega arith)

worth_exchange : (cells : List CellState) (first second rest : Made) (cell : ℕ) → cell < length cells → fits_cells cells (tree_of first) ≡ true → fits_cells cells (tree_of second) ≡ true →
    FitsCells cells (Some rest) → worth_in (two_made first (two_made second rest)) cell ≡ worth_in (two_made second (two_made first rest)) cell
worth_exchange cells first second rest cell less h k l =
    let found = has_state cells cell less in
    let fitting : (made : Made) → fits_cells cells (tree_of made) ≡ true → FitsAny (Some found.0) (worth_in made cell) =
    λ made fit. subst (λ f. FitsAny f (worth_in made cell)) found.1 (tree_fitting cells cell (tree_of made) fit) in
    two_worth first (two_made second rest) cell ∙ ap (beside (worth_in first cell)) (two_worth second rest cell)
    ∙ beside_exchange found.0 (worth_in first cell) (worth_in second cell) (worth_in rest cell) (fitting first h) (fitting second k) (fitting rest l)
    ∙ sym (two_worth second (two_made first rest) cell ∙ ap (beside (worth_in second cell)) (two_worth first rest cell))

alike_exchanged : (cells : List CellState) (first second rest : Making) → NoPathInBoth first second → FitsCells cells first → FitsCells cells second → FitsCells cells rest →
    AreAlike cells (with_child first (with_child second rest)) (with_child second (with_child first rest))
alike_exchanged cells None None rest apart h k l = tt
alike_exchanged cells None (Some second) rest apart h k l = tt
alike_exchanged cells (Some first) None rest apart h k l = tt
alike_exchanged cells (Some first) (Some second) None apart h k l = tt
alike_exchanged cells (Some first) (Some second) (Some rest) apart h k l = record {
  cost =
      cost_append first.frames (second.frames ++ rest.frames) ∙ ap (λ n. cost_of first.frames + n) (cost_append second.frames rest.frames)
      ∙ omega arith
      ∙ sym (cost_append second.frames (first.frames ++ rest.frames) ∙ ap (λ n. cost_of second.frames + n) (cost_append first.frames rest.frames));
  fault = least_exchange first.frames second.frames apart rest.frames;
  order = sorted_exchange first.frames second.frames apart rest.frames;
  worth = λ cell less. worth_exchange cells first second rest cell less h k l;
}

-- ---- all jobs

pub child_fits : (cells : List CellState) (child rest : Making) → FitsCells cells child → FitsCells cells rest → FitsCells cells (with_child child rest)
child_fits cells None rest h k = tt
child_fits cells (Some child) None h k = tt
child_fits cells (Some child) (Some rest) h k =
    (λ i. gives-Child Bool Bool (part_fits (accepts cells)) tree_fits (tree_of child) i && fits_cells cells (tree_of rest))
    ∙ ap (λ b. b && fits_cells cells (tree_of rest)) h ∙ k

module _ (model : Parts) (budget : ℕ) (cells : List CellState) where
  abbrev JobFits : ℕ × Job → Type 0
  JobFits job = FitsCells cells (made_by model budget job)

  all_fit : (jobs : List (ℕ × Job)) → EachOf JobFits jobs → FitsCells cells (made_by_all model budget jobs)
  all_fit [] fit = refl
  all_fit (job ∷ rest) fit = child_fits cells (made_by model budget job) (made_by_all model budget rest) fit.0 (all_fit rest fit.1)

  each_reordered : (P : ℕ × Job → Type 0) (jobs others : List (ℕ × Job)) → Reordered (ℕ × Job) jobs others → EachOf P jobs → EachOf P others
  each_reordered P jobs others (same list) each = each
  each_reordered P jobs others (behind first {list = list} {other = other} further) each = (each.0, each_reordered P list other further each.1)
  each_reordered P jobs others (exchanged first second rest) each = (each.1.0, (each.0, each.1.1))
  each_reordered P jobs others (in_turn {other = other} before later) each = each_reordered P other others later (each_reordered P jobs other before each)

  apart_sym : (first second : ℕ × Job) → AreApart first second → AreApart second first
  apart_sym first second apart = record { different = λ e. apart.different (sym e); no_child = apart.no_parent; no_parent = apart.no_child }

  two_reordered : (jobs others : List (ℕ × Job)) → Reordered (ℕ × Job) jobs others → EachTwo AreApart jobs → EachTwo AreApart others
  two_reordered jobs others (same list) two = two
  two_reordered jobs others (behind first {list = list} {other = other} further) two =
      (each_reordered (AreApart first) list other further two.0, two_reordered list other further two.1)
  two_reordered jobs others (exchanged first second rest) two =
      ((apart_sym first second two.0.0, two.1.0), (two.0.1, two.1.1))
  two_reordered jobs others (in_turn {other = other} before later) two = two_reordered other others later (two_reordered jobs other before two)

  all_alike : (jobs others : List (ℕ × Job)) → Reordered (ℕ × Job) jobs others → EachTwo AreApart jobs → EachOf JobFits jobs →
      AreAlike cells (made_by_all model budget jobs) (made_by_all model budget others)
  all_alike jobs others (same list) two fit = alike_itself cells (made_by_all model budget list)
  all_alike jobs others (behind first {list = list} {other = other} further) two fit =
      alike_behind cells (made_by model budget first) (made_by_all model budget list) (made_by_all model budget other) (all_alike list other further two.1 fit.1)
  all_alike jobs others (exchanged first second rest) two fit =
      alike_exchanged cells (made_by model budget first) (made_by model budget second) (made_by_all model budget rest) (frames_apart model budget first second two.0.0) fit.0 fit.1.0 (all_fit rest fit.1.1)
  all_alike jobs others (in_turn {other = other} before later) two fit =
      alike_trans cells (made_by_all model budget jobs) (made_by_all model budget other) (made_by_all model budget others)
      (all_alike jobs other before two fit)
      (all_alike other others later (two_reordered jobs other before two) (each_reordered JobFits jobs other before fit))

-- ---- the batch

effects_alike : (from : ℕ) (on other : ℕ → Option Effect) (cells : List CellState) → ((cell : ℕ) → cell < from + length cells → on cell ≡ other cell) → with_effects from on cells ≡ with_effects from other cells
effects_alike from on other [] h = refl
effects_alike from on other (s ∷ rest) h =
    λ i. applied_if_any s (h from (omega arith) i) ∷ effects_alike (from + 1) on other rest (λ cell less. h cell (omega arith)) i

touched_alike : (from : ℕ) (tree other : Tree) (cells : List CellState) → ((cell : ℕ) → cell < from + length cells → worth_of tree cell ≡ worth_of other cell) →
    touched_from from tree cells ≡ touched_from from other cells
touched_alike from tree other [] h = refl
touched_alike from tree other (s ∷ rest) h =
    let further = touched_alike (from + 1) tree other rest (λ cell less. h cell (omega arith)) in
    λ i. if is_some (h from (omega arith) i) then from ∷ further i else further i

module _ (bound spent : ℕ) (cells : List CellState) (made other : Made) (alike : Alike cells made other) where
  next_same : committed_cells cells (tree_of made) ≡ committed_cells cells (tree_of other)
  next_same = effects_alike 0 (worth_of (tree_of made)) (worth_of (tree_of other)) cells (λ cell less. alike.worth cell (omega arith))

  touched_same : touched_from 0 (tree_of made) cells ≡ touched_from 0 (tree_of other) cells
  touched_same = touched_alike 0 (tree_of made) (tree_of other) cells (λ cell less. alike.worth cell (omega arith))

  out_same : (out : Option ℕ) (next : List CellState) → unless_out out made cells next ≡ unless_out out other cells next
  out_same None next = λ i. committed next (touched_same i) (alike.order i)
  out_same (Some cell) next = refl

  fault_same : (blame : Option Blame) → when_no_fault blame made cells ≡ when_no_fault blame other cells
  fault_same None =
      out_same (first_out (committed_cells cells (tree_of made))) (committed_cells cells (tree_of made))
      ∙ ap (λ next. unless_out (first_out next) other cells next) next_same
  fault_same (Some (path, fault)) = refl

  within_same : (fit : Bool) → when_within fit made cells ≡ when_within fit other cells
  within_same true = fault_same (least_fault made.frames) ∙ ap (λ blame. when_no_fault blame other cells) alike.fault
  within_same false = refl

  judged_same : judged bound spent cells (Some made) ≡ judged bound spent cells (Some other)
  judged_same =
      within_same (if nat_lt bound (spent + cost_of made.frames) then false else true)
      ∙ ap (λ n. when_within (if nat_lt bound (spent + n) then false else true) other cells) alike.cost

judged_alike : (bound spent : ℕ) (cells : List CellState) (making other : Making) → AreAlike cells making other → judged bound spent cells making ≡ judged bound spent cells other
judged_alike bound spent cells None None h = refl
judged_alike bound spent cells None (Some other) h = absurd h
judged_alike bound spent cells (Some made) None h = absurd h
judged_alike bound spent cells (Some made) (Some other) h = judged_same bound spent cells made other h

pub order_does_not_matter : OrderDoesNotMatter
order_does_not_matter model bound spent cells jobs others apart fit order =
    sym (judged_alike bound spent cells (made_by_all model bound jobs) (made_by_all model bound others) (all_alike model bound cells jobs others (reordered jobs others order) apart fit))
