-- A file of lemmas: what it proves need not be read to trust a clause.
--
-- The tests by which stored steps are found tell exactly where two states, and what two steps read, are equal.
use Rattle.std.proofs.Common.{◌≡◌, ℕ, ℤ, Bool, true, false, ◌&&◌, IsTrue, List, [], ◌∷◌, nat_eq, refl, ap, subst, arith, eq-eqb}
use Rattle.std.specs.Ordering.{int_eq}
use Rattle.std.specs.Cmp.{IsEquivalence, both_ways}
use Rattle.std.specs.Hash.{HashWrites}
use Rattle.std.proofs.lemmas.Cmp.{int_eq_equiv}
use Rattle.aerie_base.specs.declared.values.Value.{Value}
use Rattle.aerie_base.specs.declared.values.Value.TheVariants.{Int, Truth, Variant}
use Rattle.aerie_base.specs.SameValues.{numbers_are, truths_are, values_are}
use Rattle.aerie_base.specs.expressions.Arithmetic.{same_value, same_truth}
use Rattle.effect_cells.specs.declared.effects.CellState.{CellState}
use Rattle.effect_cells.specs.declared.effects.CellState.TheVariants.{Counter, Register, Volume}
use Rattle.run_data.specs.declared.tasks.BodyId.{BodyId}
use Rattle.run_data.specs.declared.tasks.BodyId.TheVariants as body
use Rattle.run_data.specs.declared.tasks.TaskState.{TaskState}
use Rattle.run_data.specs.Records.{same_body, same_locals, same_task, same_cell, same_reads}
use Rattle.run_data.specs.TaskHashes.{hashed_state}
use Rattle.run_data.specs.laws.ValidRecords.{SameTasksAreEqual, SameReadsAreEqual}

both_hold : (a b : Bool) → IsTrue (a && b) → IsTrue a × IsTrue b
both_hold true b h = (refl, h)
both_hold false b h = absurd (cc)

and_holds : (a b : Bool) → IsTrue a → IsTrue b → IsTrue (a && b)
and_holds true b h k = k
and_holds false b h k = absurd (cc)

-- ---- equal things pass

nats : (a : ℕ) → nat_eq a a ≡ true
nats a = eq-eqb a a refl

numbers : (a : ℤ) → int_eq a a ≡ true
numbers a = int_eq_equiv.refl a

truths : (a : Bool) → same_truth a a ≡ true
truths true = refl
truths false = refl

values : (a : Value) → same_value a a ≡ true
values (Int a) = numbers a
values (Truth a) = truths a
values (Variant of a) = and_holds (nat_eq of of) (nat_eq a a) (nats of) (nats a)

bodies : (a : BodyId) → same_body a a ≡ true
bodies (body.Activity kind) = nats kind
bodies (body.Daemon number) = nats number

locals : (a : List Value) → same_locals a a ≡ true
locals [] = refl
locals (value ∷ rest) = and_holds (same_value value value) (same_locals rest rest) (values value) (locals rest)

tasks : (a : TaskState) → same_task a a ≡ true
tasks a =
    and_holds (same_body a.kind a.kind && nat_eq a.at a.at) (same_locals a.locals a.locals)
    (and_holds (same_body a.kind a.kind) (nat_eq a.at a.at) (bodies a.kind) (nats a.at)) (locals a.locals)

cells : (a : CellState) → same_cell a a ≡ true
cells (Counter number) = numbers number
cells (Register value conflicted) = and_holds (same_value value value) (same_truth conflicted conflicted) (values value) (truths conflicted)
cells (Volume volume rate) = and_holds (int_eq volume volume) (int_eq rate rate) (numbers volume) (numbers rate)

all_reads : (a : List (ℕ × CellState)) → same_reads a a ≡ true
all_reads [] = refl
all_reads (read ∷ rest) =
    and_holds (nat_eq read.0 read.0 && same_cell read.1 read.1) (same_reads rest rest)
    (and_holds (nat_eq read.0 read.0) (same_cell read.1 read.1) (nats read.0) (cells read.1)) (all_reads rest)

-- ---- what passes is equal

nats_are : (a b : ℕ) → nat_eq a b ≡ true → a ≡ b
nats_are a b h = grind arith

bodies_are : (a b : BodyId) → same_body a b ≡ true → a ≡ b
bodies_are (body.Activity kind) (body.Activity other) h = ap body.Activity (nats_are kind other h)
bodies_are (body.Activity kind) (body.Daemon number) h = absurd (cc)
bodies_are (body.Daemon number) (body.Activity kind) h = absurd (cc)
bodies_are (body.Daemon number) (body.Daemon other) h = ap body.Daemon (nats_are number other h)

locals_are : (a b : List Value) → same_locals a b ≡ true → a ≡ b
locals_are [] [] h = refl
locals_are [] (other ∷ others) h = absurd (cc)
locals_are (value ∷ rest) [] h = absurd (cc)
locals_are (value ∷ rest) (other ∷ others) h =
    let parts = both_hold (same_value value other) (same_locals rest others) h in
    λ i. values_are value other parts.0 i ∷ locals_are rest others parts.1 i

tasks_are : (a b : TaskState) → same_task a b ≡ true → a ≡ b
tasks_are a b h =
    let parts = both_hold (same_body a.kind b.kind && nat_eq a.at b.at) (same_locals a.locals b.locals) h in
    let front = both_hold (same_body a.kind b.kind) (nat_eq a.at b.at) parts.0 in
    λ i. record { kind = bodies_are a.kind b.kind front.0 i; at = nats_are a.at b.at front.1 i; locals = locals_are a.locals b.locals parts.1 i }

cells_are : (a b : CellState) → same_cell a b ≡ true → a ≡ b
cells_are (Counter number) (Counter other) h = ap Counter (numbers_are number other h)
cells_are (Counter number) (Register value conflicted) h = absurd (cc)
cells_are (Counter number) (Volume volume rate) h = absurd (cc)
cells_are (Register value conflicted) (Counter other) h = absurd (cc)
cells_are (Register value conflicted) (Register other flag) h =
    let parts = both_hold (same_value value other) (same_truth conflicted flag) h in
    λ i. Register (values_are value other parts.0 i) (truths_are conflicted flag parts.1 i)
cells_are (Register value conflicted) (Volume volume rate) h = absurd (cc)
cells_are (Volume volume rate) (Counter other) h = absurd (cc)
cells_are (Volume volume rate) (Register value conflicted) h = absurd (cc)
cells_are (Volume volume rate) (Volume other flow) h =
    let parts = both_hold (int_eq volume other) (int_eq rate flow) h in
    λ i. Volume (numbers_are volume other parts.0 i) (numbers_are rate flow parts.1 i)

reads_are : (a b : List (ℕ × CellState)) → same_reads a b ≡ true → a ≡ b
reads_are [] [] h = refl
reads_are [] (other ∷ others) h = absurd (cc)
reads_are (read ∷ rest) [] h = absurd (cc)
reads_are (read ∷ rest) (other ∷ others) h =
    let parts = both_hold (nat_eq read.0 other.0 && same_cell read.1 other.1) (same_reads rest others) h in
    let front = both_hold (nat_eq read.0 other.0) (same_cell read.1 other.1) parts.0 in
    λ i. (nats_are read.0 other.0 front.0 i, cells_are read.1 other.1 front.1 i) ∷ reads_are rest others parts.1 i

-- ---- the laws

pub same_tasks_are_equal : SameTasksAreEqual
same_tasks_are_equal state other = (tasks_are state other, λ e. subst (λ (s : TaskState). IsTrue (same_task state s)) e (tasks state))

pub same_reads_are_equal : SameReadsAreEqual
same_reads_are_equal reads others = (reads_are reads others, λ e. subst (λ r. IsTrue (same_reads reads r)) e (all_reads reads))

-- ---- states as keys

pub same_task_equivalence : IsEquivalence same_task
same_task_equivalence = record {
  refl = tasks;
  symm = λ state other. both_ways (same_task state other) (same_task other state) (swapped state other) (swapped other state);
  congr = λ state other third same. ap (λ (s : TaskState). same_task s third) (tasks_are state other same);
}
  where
    swapped : (state other : TaskState) → same_task state other ≡ true → same_task other state ≡ true
    swapped state other same = subst (λ (s : TaskState). same_task s state ≡ true) (tasks_are state other same) (tasks state)

-- equal states are hashed alike
pub hashed_alike : (hashed_body : BodyId → HashWrites) (hashed_value : Value → HashWrites) (state other : TaskState) → same_task state other ≡ true →
    hashed_state hashed_body hashed_value state ≡ hashed_state hashed_body hashed_value other
hashed_alike hashed_body hashed_value state other same = ap (hashed_state hashed_body hashed_value) (tasks_are state other same)
