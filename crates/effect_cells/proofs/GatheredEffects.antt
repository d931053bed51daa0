-- What is gathered of a batch, an effect, a child or a tree at a time.
use Rattle.std.proofs.Common.{◌≡◌, ℕ, ◌+◌, ◌<◌, List, length, set, get_or, true, Option, Some, None, Result, Ok, Err, OnOk, is_ok, nat_eq, if◌then◌else◌, refl, sym, ap, ◌∙◌, arith}
use Rattle.std.proofs.lemmas.Bool.{false≢true}
use Rattle.std.proofs.lemmas.List.{length-set}
use Rattle.effect_cells.specs.Sums.{sum_limit}
use Rattle.effect_cells.specs.Worth.{in_front, beside, magnitude, magnitude_if_any, magnitude_of, worth_of}
use Rattle.effect_cells.specs.Cells.{accepts, committed_cells}
use Rattle.effect_cells.specs.Pending.{with_pending, AreSmallPending}
use Rattle.effect_cells.specs.Gathering.{gathered_with, GatherAll, pending_at}
use Rattle.effect_cells.specs.Gathered.{Gathered, listed_from, IsGathered, IsWhole, CanGather, BeginsReady, EntersWithNothing, ChildIsBeside, StaysReady}
use Rattle.effect_cells.specs.Touched.{touched_from}
use Rattle.effect_cells.specs.declared.effects.Effect.{Effect}
use Rattle.effect_cells.specs.declared.effects.CellState.{CellState}
use Rattle.effect_cells.specs.declared.pending.Pending.{Pending}
use Rattle.effect_cells.specs.declared.trees.Tree.{Tree}
use Rattle.effect_cells.proofs.GatheringAll.{entered_all, child_all, default_of, effect_all, same_worth, ready_after, room_after}
use Rattle.effect_cells.proofs.Listed.{listed_are}
use Rattle.effect_cells.proofs.PendingLoops.{pending_is}
use Rattle.effect_cells.proofs.TouchedCells.{default_pending}

-- ---- an effect

pub effect_gathers : (old : Gathered) (items : List Pending) (clock cell at entered_at next : ℕ) (effect : Effect) (there one : Pending) →
    record { pending = items; clock = clock } ≡ old → CanGather cell effect old → at ≡ cell → next ≡ clock + 1 → there ≡ get_or items at there →
    one ≡ gathered_with there effect entered_at clock →
    (cells : List CellState) (worth : ℕ → Option Effect) (size : ℕ) (before : Gathered) → accepts cells cell effect ≡ true → before.clock ≡ entered_at →
    IsGathered cells worth size before old →
    IsGathered cells (λ on. if nat_eq cell on then in_front effect (worth on) else worth on) (magnitude effect + size) before (record { pending = set items at one; clock = next })
effect_gathers old items clock cell at entered_at next effect there one view can k later is made cells worth size before ok entered g =
    rw (whole, later, k) (record {
      on_each = effect_all cells before.clock clock size worth cell effect before.pending items ok same all;
      same = length-set items cell _ ∙ same;
    })
  where
    pending : old.pending ≡ items
    pending = sym (ap (λ (o : Gathered). o.pending) view)

    time : old.clock ≡ clock
    time = sym (ap (λ (o : Gathered). o.clock) view)

    same : length items ≡ length cells
    same = ap length (sym pending) ∙ g.same

    all : GatherAll cells before.clock clock worth size before.pending items
    all = rw (← pending, ← time) g.on_each

    within : cell < length items
    within = rw (← pending) can.within

    whole : one ≡ gathered_with (pending_at items cell) effect before.clock clock
    whole = made ∙ (λ i. gathered_with (is i) effect (sym entered i) clock) ∙ ap (λ (p : Pending). gathered_with p effect before.clock clock) (ap (λ n. get_or items n there) k ∙ default_of items cell there within)

-- ---- the laws of a walk over a tree

pub begins_ready : BeginsReady
begins_ready cells size gathered begun below = (
  record {
    pending = record {
      suit = λ cell within. let none : (pending_at gathered.pending cell).effect ≡ None = begun.blank cell within in rw none refl;
      past = λ cell within some. let none : (pending_at gathered.pending cell).effect ≡ None = begun.blank cell within in absurd (false≢true (sym some ∙ (rw none refl)));
    };
    same = begun.same;
  },
  λ cell within. let none : (pending_at gathered.pending cell).effect ≡ None = begun.blank cell within in rw none (omega arith),
)

pub enters_with_nothing : EntersWithNothing
enters_with_nothing cells gathered ready = record {
  on_each = entered_all cells gathered.clock gathered.pending ready.pending;
  same = ready.same;
}

pub child_is_beside : ChildIsBeside
child_is_beside cells worth child size more before middle after g h = record {
  on_each = child_all cells before.clock middle.clock after.clock size more worth child before.pending middle.pending after.pending g.on_each h.on_each;
  same = h.same;
}

pub stays_ready : StaysReady
stays_ready cells worth size before after g = (
  record { pending = ready_after cells before.clock after.clock size worth before.pending after.pending g.on_each; same = g.same },
  λ more whole fits room. room_after cells before.clock after.clock size more whole sum_limit worth before.pending after.pending fits room g.on_each,
)

pub same_gathered : (cells : List CellState) (worth other : ℕ → Option Effect) (size other_size : ℕ) (before after : Gathered) → ((cell : ℕ) → worth cell ≡ other cell) → size ≡ other_size →
    IsGathered cells worth size before after → IsGathered cells other other_size before after
same_gathered cells worth other size other_size before after w s g = record {
  on_each = same_worth cells before.clock after.clock size other_size worth other before.pending after.pending w s g.on_each;
  same = g.same;
}

-- ---- a whole tree

beside_nothing : (worth : Option Effect) → beside worth None ≡ worth
beside_nothing None = refl
beside_nothing (Some effect) = refl

whole_effect : (cells : List CellState) (tree : Tree) (gathered : Gathered) → IsWhole cells tree gathered → (cell : ℕ) → cell < length gathered.pending →
    (pending_at gathered.pending cell).effect ≡ worth_of tree cell
whole_effect cells tree gathered whole cell within =
    let inside : cell < length whole.begun.pending = omega (arith, within, whole.all.same, whole.nothing.same) in
    let none : (pending_at whole.begun.pending cell).effect ≡ None = whole.nothing.blank cell inside in
    (whole.all.on_each.each cell inside).effect ∙ ap (beside (worth_of tree cell)) none ∙ beside_nothing (worth_of tree cell)

pub whole_touches : (cells : List CellState) (tree : Tree) (gathered : Gathered) → IsWhole cells tree gathered → listed_from 0 gathered.pending ≡ touched_from 0 tree cells
whole_touches cells tree gathered whole =
    listed_are 0 tree cells gathered.pending whole.all.same
    (λ cell within. let zeroth : 0 + cell ≡ cell = omega arith in rw zeroth (whole_effect cells tree gathered whole cell within))

pub whole_commits : (cells : List CellState) (tree : Tree) (gathered : Gathered) → IsWhole cells tree gathered → with_pending cells gathered.pending ≡ committed_cells cells tree
whole_commits cells tree gathered whole =
    pending_is 0 (worth_of tree) cells gathered.pending whole.all.same
    (λ cell one within is. let zeroth : 0 + cell ≡ cell = omega arith in
    rw zeroth (ap (λ (p : Pending). p.effect) (is ∙ sym (default_pending gathered.pending cell one within)) ∙ whole_effect cells tree gathered whole cell within))

pub whole_is_small : (cells : List CellState) (tree : Tree) (gathered : Gathered) → magnitude_of tree < sum_limit → IsWhole cells tree gathered → AreSmallPending gathered.pending
whole_is_small cells tree gathered small whole cell one within is =
    let inside : cell < length whole.begun.pending = omega (arith, within, whole.all.same, whole.nothing.same) in
    let none : (pending_at whole.begun.pending cell).effect ≡ None = whole.nothing.blank cell inside in
    let nothing : magnitude_if_any (pending_at whole.begun.pending cell).effect ≡ 0 = rw none refl in
    let here : magnitude_if_any one.effect ≡ magnitude_if_any (pending_at gathered.pending cell).effect =
    ap (λ (p : Pending). magnitude_if_any p.effect) (is ∙ sym (default_pending gathered.pending cell one within)) in
    omega (arith, (whole.all.on_each.each cell inside).small, nothing, here, small)

-- ---- a walk that ended well

pub of_ok : {E : Type 0} (P : Type 0) (result : Result (Unit {0}) E) → is_ok result ≡ true → OnOk result P → P
of_ok P (Ok done) ok h = h
of_ok P (Err error) ok h = absurd (false≢true ok)

pub still_ok : {E : Type 0} (P Q : Type 0) (result : Result (Unit {0}) E) → (P → Q) → OnOk result P → OnOk result Q
still_ok P Q (Ok done) next h = next h
still_ok P Q (Err error) next h = tt
