-- What one cell gathers, item by item from the back.
use Rattle.std.proofs.Common.{◌≡◌, ℕ, ◌+◌, ◌<◌, ◌≤◌, ℤ, Bool, true, false, Option, Some, None, nat_le, refl, sym, ap, ◌∙◌, arith}
use Rattle.std.proofs.lemmas.Int.{ints}
use Rattle.std.proofs.lemmas.Bool.{false≢true}
use Rattle.std.proofs.lemmas.Bool.Decides.{nat_tests}
use Rattle.effect_cells.specs.Changes.{change_in_turn, change_beside}
use Rattle.effect_cells.specs.ChangeLaws.{sides_associate}
use Rattle.effect_cells.specs.Worth.{effect_in_turn, effect_beside, in_front, beside, magnitude, magnitude_if_any}
use Rattle.effect_cells.specs.States.{is_of_kind}
use Rattle.effect_cells.specs.Gathering.{is_nothing, is_blank, suits_cell, gathered_with, Gathers}
use Rattle.effect_cells.specs.declared.registers.Change.{Change}
use Rattle.effect_cells.specs.declared.registers.Change.TheVariants.{Nothing, Set, Mark, SetMark}
use Rattle.effect_cells.specs.declared.effects.Effect.{Effect}
use Rattle.effect_cells.specs.declared.effects.Effect.TheVariants.{Add, Register, Flow}
use Rattle.effect_cells.specs.declared.effects.CellState.{CellState}
use Rattle.effect_cells.specs.declared.effects.CellState.TheVariants as state
use Rattle.effect_cells.specs.declared.pending.Pending.{Pending}

-- ---- effects of one kind

flow_is : (a b c d : ℤ) → a ≡ c → b ≡ d → Flow a b ≡ Flow c d
flow_is a b c d p q = λ i. Flow (p i) (q i)

-- before what does something, it is the same whether two changes are in turn or concurrent
conflicts : (e x z : Change) → is_nothing (Register z) ≡ false → change_beside e (change_beside x z) ≡ change_beside (change_in_turn e x) z
conflicts e x Nothing some = absurd (false≢true (sym some))
conflicts e Nothing (Set w) some = refl
conflicts e Nothing Mark some = refl
conflicts e Nothing (SetMark w) some = refl
conflicts e x z some = grind arith

-- an effect that was combined with another is of its kind
left_kind : (s : CellState) (x z : Effect) → is_of_kind s (effect_beside x z) ≡ true → is_of_kind s z ≡ true → is_of_kind s x ≡ true
left_kind s x z p q = grind arith

of_one_kind : (s : CellState) (e x z : Effect) → is_of_kind s e ≡ true → is_of_kind s x ≡ true → is_of_kind s z ≡ true →
    is_nothing z ≡ false → effect_beside e (effect_beside x z) ≡ effect_beside (effect_in_turn e x) z
of_one_kind (state.Counter n) (Add a) (Add b) (Add c) p q r some = ap Add (omega (arith, ints))
of_one_kind (state.Volume v w) (Flow a b) (Flow c d) (Flow f g) p q r some = flow_is _ _ _ _ (omega (arith, ints)) (omega (arith, ints))
of_one_kind (state.Register v f) (Register e) (Register x) (Register z) p q r some = ap Register (conflicts e x z some)
of_one_kind s e x z p q r some = absurd (cc)

pub in_turn_or_beside : (s : CellState) (e x z : Effect) → is_of_kind s e ≡ true → is_of_kind s (effect_beside x z) ≡ true → is_of_kind s z ≡ true →
    is_nothing z ≡ false → effect_beside e (effect_beside x z) ≡ effect_beside (effect_in_turn e x) z
in_turn_or_beside s e x z p q r some = of_one_kind s e x z p (left_kind s x z q r) r some

sides_of_one_kind : (s : CellState) (x y z : Effect) → is_of_kind s x ≡ true → is_of_kind s y ≡ true → is_of_kind s z ≡ true →
    effect_beside x (effect_beside y z) ≡ effect_beside (effect_beside x y) z
sides_of_one_kind (state.Counter n) (Add a) (Add b) (Add c) p q r = ap Add (omega (arith, ints))
sides_of_one_kind (state.Volume v w) (Flow a b) (Flow c d) (Flow f g) p q r = flow_is _ _ _ _ (omega (arith, ints)) (omega (arith, ints))
sides_of_one_kind (state.Register v f) (Register x) (Register y) (Register z) p q r = ap Register (sym (sides_associate x y z))
sides_of_one_kind s e x z p q r = absurd (cc)

-- what does nothing leaves what it is beside
nothing_beside : (x z : Effect) → is_nothing z ≡ true → effect_beside x z ≡ x
nothing_beside x z none = grind arith

nothing_behind : (x z : Effect) → is_nothing z ≡ true → effect_in_turn x z ≡ x
nothing_behind x z none = grind arith

-- two effects do something together where the second does
something_beside : (s : CellState) (x z : Effect) → is_of_kind s x ≡ true → is_of_kind s z ≡ true → is_nothing z ≡ false → is_nothing (effect_beside x z) ≡ false
something_beside s x z p q some = grind arith

kind_in_turn : (s : CellState) (x z : Effect) → is_of_kind s x ≡ true → is_of_kind s (effect_in_turn x z) ≡ true
kind_in_turn s x z p = grind arith

kind_beside : (s : CellState) (x z : Effect) → is_of_kind s x ≡ true → is_of_kind s (effect_beside x z) ≡ true
kind_beside s x z p = grind arith

small_in_turn : (x z : Effect) → magnitude (effect_in_turn x z) ≤ magnitude x + magnitude z
small_in_turn x z = grind (arith, ints)

small_beside : (x z : Effect) → magnitude (effect_beside x z) ≤ magnitude x + magnitude z
small_beside x z = grind (arith, ints)

-- ---- options of them

-- what does nothing leaves what comes to be in front of it
front_of_blank : (e : Effect) (rest : Option Effect) → is_blank rest ≡ true → in_front e rest ≡ Some e
front_of_blank e None none = refl
front_of_blank e (Some z) none = ap (λ (x : Effect). Some x) (nothing_behind e z none)

blank_beside : (more rest : Option Effect) → is_blank (beside more rest) ≡ true → is_blank rest ≡ true → is_blank more ≡ true
blank_beside None rest p q = refl
blank_beside (Some x) None p q = p
blank_beside (Some x) (Some z) p q = rw (← nothing_beside x z q) p

beside_blank : (x : Effect) (rest : Option Effect) → is_blank rest ≡ true → beside (Some x) rest ≡ Some x
beside_blank x None none = refl
beside_blank x (Some z) none = ap (λ (x : Effect). Some x) (nothing_beside x z none)

front_is : (e : Effect) (more : Option Effect) → (x : Effect) × (in_front e more ≡ Some x)
front_is e None = (e, refl)
front_is e (Some z) = (effect_in_turn e z, refl)

front_beside_blank : (e : Effect) (more rest : Option Effect) → is_blank rest ≡ true → beside (in_front e more) rest ≡ in_front e more
front_beside_blank e more rest none = let f : (x : Effect) × (in_front e more ≡ Some x) = front_is e more in rw f.1 (beside_blank f.0 rest none)

-- nothing yet where the walk has something, and nothing before: then it is what comes to be in front
follows : (e : Effect) (more rest : Option Effect) → is_blank rest ≡ true → is_blank (beside more rest) ≡ false →
    in_front e (beside more rest) ≡ beside (in_front e more) rest
follows e None rest none some = absurd (false≢true (sym some ∙ none))
follows e (Some x) rest none some = rw (beside_blank x rest none) (sym (front_beside_blank e (Some x) rest none))

-- the same in front of nothing at all
begins_here : (e : Effect) (more rest : Option Effect) → is_blank rest ≡ true → is_blank (beside more rest) ≡ true →
    Some e ≡ beside (in_front e more) rest
begins_here e more rest none both = rw (front_of_blank e more (blank_beside more rest both none)) (sym (beside_blank e rest none))

-- before what does something, all is beside it
stands_beside : (s : CellState) (e : Effect) (more rest : Option Effect) → is_of_kind s e ≡ true → suits_cell s (beside more rest) ≡ true → suits_cell s rest ≡ true →
    is_blank rest ≡ false → beside (Some e) (beside more rest) ≡ beside (in_front e more) rest
stands_beside s e None rest p q r some = refl
stands_beside s e (Some x) None p q r some = absurd (false≢true (sym some))
stands_beside s e (Some x) (Some z) p q r some = ap (λ (x : Effect). Some x) (in_turn_or_beside s e x z p q r some)

-- something beside something is something
still_something : (s : CellState) (more rest : Option Effect) → suits_cell s (beside more rest) ≡ true → suits_cell s rest ≡ true → is_blank rest ≡ false →
    is_blank (beside more rest) ≡ false
still_something s None rest p q some = some
still_something s (Some x) None p q some = absurd (false≢true (sym some))
still_something s (Some x) (Some z) p q some = something_beside s x z (left_kind s x z p q) q some

-- a tree within a tree
sides : (s : CellState) (child more rest : Option Effect) → suits_cell s (beside child (beside more rest)) ≡ true → suits_cell s (beside more rest) ≡ true → suits_cell s rest ≡ true →
    beside child (beside more rest) ≡ beside (beside child more) rest
sides s None more rest p q r = refl
sides s (Some x) None rest p q r = refl
sides s (Some x) (Some y) None p q r = refl
sides s (Some x) (Some y) (Some z) p q r =
    ap (λ (x : Effect). Some x) (sides_of_one_kind s x y z (left_kind s x (effect_beside y z) p q) (left_kind s y z q r) r)

small_front : (e : Effect) (rest : Option Effect) → magnitude_if_any (in_front e rest) ≤ magnitude e + magnitude_if_any rest
small_front e None = omega arith
small_front e (Some z) = small_in_turn e z

small_sides : (e : Effect) (rest : Option Effect) → magnitude_if_any (beside (Some e) rest) ≤ magnitude e + magnitude_if_any rest
small_sides e None = omega arith
small_sides e (Some z) = small_beside e z

suits_front : (s : CellState) (e : Effect) (rest : Option Effect) → is_of_kind s e ≡ true → suits_cell s (in_front e rest) ≡ true
suits_front s e None p = p
suits_front s e (Some z) p = kind_in_turn s e z p

suits_sides : (s : CellState) (e : Effect) (rest : Option Effect) → is_of_kind s e ≡ true → suits_cell s (beside (Some e) rest) ≡ true
suits_sides s e None p = p
suits_sides s e (Some z) p = kind_beside s e z p

-- ---- one cell

-- as the walk enters a tree, the tree has nothing yet
pub entered : (s : CellState) (now : ℕ) (one : Pending) → suits_cell s one.effect ≡ true → (is_blank one.effect ≡ false → one.gathered_at < now) →
    Gathers s now now None 0 one one
entered s now one suit past = record {
  effect = refl;
  small = omega arith;
  suits_before = suit;
  suits_after = suit;
  earlier = past;
  kept = λ some. refl;
  fresh = λ none some. absurd (false≢true (sym some ∙ none));
  past = past;
}

-- an effect on another cell
pub on_another : (s : CellState) (entered_at now size more : ℕ) (worth : Option Effect) (before after : Pending) → Gathers s entered_at now worth size before after →
    Gathers s entered_at (now + 1) worth (more + size) before after
on_another s entered_at now size more worth before after g = record {
  effect = g.effect;
  small = omega (arith, g.small);
  suits_before = g.suits_before;
  suits_after = g.suits_after;
  earlier = g.earlier;
  kept = g.kept;
  fresh = g.fresh;
  past = λ some. omega (arith, g.past some);
}

-- a tree within the tree
pub with_child : (s : CellState) (entered_at now next size more : ℕ) (worth child : Option Effect) (before middle after : Pending) → entered_at ≤ now →
    Gathers s entered_at now worth size before middle → Gathers s now next child more middle after →
    Gathers s entered_at next (beside child worth) (more + size) before after
with_child s entered_at now next size more worth child before middle after order g h =
    let inner : suits_cell s (beside worth before.effect) ≡ true = rw (← g.effect) g.suits_after in
    let outer : suits_cell s (beside child (beside worth before.effect)) ≡ true = rw (← g.effect, ← h.effect) h.suits_after in
    let middle_some : is_blank before.effect ≡ false → is_blank middle.effect ≡ false = λ some. rw g.effect (still_something s worth before.effect inner g.suits_before some) in
    record {
      effect = h.effect ∙ ap (beside child) g.effect ∙ sides s child worth before.effect outer inner g.suits_before;
      small = omega (arith, g.small, h.small);
      suits_before = g.suits_before;
      suits_after = h.suits_after;
      earlier = g.earlier;
      kept = λ some. h.kept (middle_some some) ∙ g.kept some;
      fresh = λ none some. fresh_within (is_blank middle.effect) refl none some;
      past = h.past;
    }
  where
    fresh_within : (v : Bool) → is_blank middle.effect ≡ v → is_blank before.effect ≡ true → is_blank after.effect ≡ false → entered_at ≤ after.gathered_at
    fresh_within true e none some = omega (arith, h.fresh e some)
    fresh_within false e none some = rw (h.kept e) (g.fresh none e)

at_most : (a b : ℕ) → nat_le a b ≡ true → a ≤ b
at_most a b e = grind (arith, nat_tests)

above : (a b : ℕ) → nat_le a b ≡ false → b < a
above a b e = grind (arith, nat_tests)

-- an effect on the cell
pub with_effect : (s : CellState) (entered_at now size : ℕ) (worth : Option Effect) (e : Effect) (before middle : Pending) → entered_at ≤ now → is_of_kind s e ≡ true →
    Gathers s entered_at now worth size before middle →
    Gathers s entered_at (now + 1) (in_front e worth) (magnitude e + size) before (gathered_with middle e entered_at now)
with_effect s entered_at now size worth e before middle order kind g = first (is_blank middle.effect) refl
  where
    inner : suits_cell s (beside worth before.effect) ≡ true
    inner = rw (← g.effect) g.suits_after

    middle_some : is_blank before.effect ≡ false → is_blank middle.effect ≡ false
    middle_some some = rw g.effect (still_something s worth before.effect inner g.suits_before some)

    nothing_before : is_blank middle.effect ≡ true → (v : Bool) → is_blank before.effect ≡ v → is_blank before.effect ≡ true
    nothing_before none true b = b
    nothing_before none false b = absurd (false≢true (sym (middle_some b) ∙ none))

    here : is_blank middle.effect ≡ true → Gathers s entered_at (now + 1) (in_front e worth) (magnitude e + size) before (record { effect = Some e; gathered_at = now })
    here none =
        let before_none : is_blank before.effect ≡ true = nothing_before none (is_blank before.effect) refl in
        record {
          effect = begins_here e worth before.effect before_none (rw (← g.effect) none);
          small = omega arith;
          suits_before = g.suits_before;
          suits_after = kind;
          earlier = g.earlier;
          kept = λ some. absurd (false≢true (sym some ∙ before_none));
          fresh = λ n some. order;
          past = λ some. omega arith;
        }

    none_before : entered_at ≤ middle.gathered_at → is_blank middle.effect ≡ false → (v : Bool) → is_blank before.effect ≡ v → is_blank before.effect ≡ true
    none_before le some true b = b
    none_before le some false b = absurd (omega (arith, g.earlier b, g.kept b))

    behind : is_blank middle.effect ≡ false → entered_at ≤ middle.gathered_at →
        Gathers s entered_at (now + 1) (in_front e worth) (magnitude e + size) before (record { effect = in_front e middle.effect; gathered_at = middle.gathered_at })
    behind some le =
        let before_none : is_blank before.effect ≡ true = none_before le some (is_blank before.effect) refl in
        record {
          effect = rw g.effect (follows e worth before.effect before_none (rw (← g.effect) some));
          small = omega (arith, g.small, small_front e middle.effect);
          suits_before = g.suits_before;
          suits_after = suits_front s e middle.effect kind;
          earlier = g.earlier;
          kept = g.kept;
          fresh = λ n m. le;
          past = λ m. omega (arith, g.past some);
        }

    some_before : middle.gathered_at < entered_at → is_blank middle.effect ≡ false → (v : Bool) → is_blank before.effect ≡ v → is_blank before.effect ≡ false
    some_before lt some false b = b
    some_before lt some true b = absurd (omega (arith, g.fresh b some))

    apart : is_blank middle.effect ≡ false → middle.gathered_at < entered_at →
        Gathers s entered_at (now + 1) (in_front e worth) (magnitude e + size) before (record { effect = beside (Some e) middle.effect; gathered_at = middle.gathered_at })
    apart some lt =
        let before_some : is_blank before.effect ≡ false = some_before lt some (is_blank before.effect) refl in
        record {
          effect = rw g.effect (stands_beside s e worth before.effect kind inner g.suits_before before_some);
          small = omega (arith, g.small, small_sides e middle.effect);
          suits_before = g.suits_before;
          suits_after = suits_sides s e middle.effect kind;
          earlier = g.earlier;
          kept = g.kept;
          fresh = λ n m. absurd (false≢true (sym before_some ∙ n));
          past = λ m. omega (arith, g.past some);
        }

    second : is_blank middle.effect ≡ false → (v : Bool) → nat_le entered_at middle.gathered_at ≡ v → Gathers s entered_at (now + 1) (in_front e worth) (magnitude e + size) before (gathered_with middle e entered_at now)
    second some true t = rw (some, t) (behind some (at_most entered_at middle.gathered_at t))
    second some false t = rw (some, t) (apart some (above entered_at middle.gathered_at t))

    first : (v : Bool) → is_blank middle.effect ≡ v → Gathers s entered_at (now + 1) (in_front e worth) (magnitude e + size) before (gathered_with middle e entered_at now)
    first true none = rw none (here none)
    first false some = second some (nat_le entered_at middle.gathered_at) refl
