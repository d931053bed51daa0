-- The terms of a linear resource of a model, and the cells that they read.
use Rattle.std.proofs.Common.{◌≡◌, inl, inr, ℕ, zero, suc, ◌<◌, ◌≤◌, ℤ, pos, negsuc, ◌+ℤ◌, ◌*ℤ◌, Bool, true, ◌&&◌, IsTrue, List, [], ◌∷◌, ◌++◌, length, map, get_or, Option, None, option_map, slice_get, nat_le, nat_eq, unsigned_abs, refl, sym, ap, ◌∙◌, arith, All}
use Rattle.std.specs.List.{list_all}
use Rattle.std.specs.Option.{is_some}
use Rattle.std.proofs.lemmas.Bool.{false≢true, leb-true, eqb-true}
use Rattle.std.proofs.lemmas.Int.{ints}
use Rattle.std.proofs.lemmas.List.Elements.{All-nil, All-cons}
use Rattle.std.proofs.Math.IntN.{zero-*ℤ}
use Rattle.aerie_base.specs.declared.linear.Linear.{Linear}
use Rattle.aerie_base.specs.declared.linear.Term.{Term}
use Rattle.aerie_base.specs.declared.models.CellStart.{CellStart}
use Rattle.aerie_base.specs.declared.operands.CellRead.{CellRead}
use Rattle.aerie_base.specs.declared.operands.CellRead.TheVariants as read
use Rattle.aerie_base.specs.declared.operands.Operand.{Operand}
use Rattle.aerie_base.specs.declared.operands.Operand.TheVariants.{Read, Local}
use Rattle.aerie_base.specs.declared.values.Kind.{Kind}
use Rattle.aerie_base.specs.conditions.Holding.{operand_value, terms_value}
use Rattle.aerie_base.specs.expressions.Arithmetic.{number_in}
use Rattle.aerie_base.specs.expressions.Readings.{cell_of}
use Rattle.aerie_base.specs.models.Cells.{NamedCells, read_kind, counter_kind, register_kind, flag_kind, flow_kind}
use Rattle.aerie_base.specs.models.Conditions.{is_coefficient}
use Rattle.aerie_base.specs.models.Resources.{is_summand, is_summed, is_sum}
use Rattle.effect_cells.specs.declared.effects.CellState.{CellState}
use Rattle.effect_cells.specs.declared.effects.CellState.TheVariants.{Counter, Register, Volume}
use Rattle.effect_cells.specs.Cells.{passed, AreInRange}
use Rattle.effect_cells.specs.Reads.{value_on}
use Rattle.effect_cells.specs.States.{state_after}
use Rattle.run_data.specs.Values.{with_states, terms_rate, operand_rate}
use Rattle.profiles.specs.declared.watching.Watched.{Watched}
use Rattle.profiles.specs.States.{state_on}
use Rattle.profiles.specs.Touches.{IsReadBy, IsReadIn}
use Rattle.profiles.specs.Watching.{watched_operand, watched_on, advanced, read_number, read_rate, values_sum, rates_sum, IsSummed, IsWatchable}
use Rattle.profiles.proofs.Following.{state_next, state_later}
use Rattle.aerie_base.specs.Products.{sum_times, times_sum, times_times}
use Rattle.profiles.proofs.Walks.{seen_is, in_range_there}

-- ---- which cells there are

there : (kind : Option CellStart → Option Kind) → kind None ≡ None → (cells : NamedCells) (cell : ℕ) → is_some (kind (option_map (λ named. named.1) (slice_get cells cell))) ≡ true → cell < length cells
there kind none [] cell some = absurd (false≢true (sym (ap is_some none) ∙ some))
there kind none (first ∷ rest) zero some = omega arith
there kind none (first ∷ rest) (suc cell) some = let below = there kind none rest cell some in omega (arith, below)

-- a read of a model is of one of its cells
pub read_there : (cells : NamedCells) (one : CellRead) → is_some (read_kind cells one) ≡ true → cell_of one < length cells
read_there cells (read.Counter cell) some = there counter_kind refl cells cell some
read_there cells (read.Register cell) some = there register_kind refl cells cell some
read_there cells (read.Conflicted cell) some = there flag_kind refl cells cell some
read_there cells (read.Volume cell) some = there flow_kind refl cells cell some
read_there cells (read.Rate cell) some = there flow_kind refl cells cell some

-- ---- the terms

abbrev pub IsOperandOf : ℕ → Operand → Type 0
IsOperandOf count (Read one) = IsSummed one × (cell_of one < count)
IsOperandOf count (Local slot) = ⊥

abbrev pub AreTermsOf : ℕ → List Term → Type 0
AreTermsOf count [] = Unit {0}
AreTermsOf count (term ∷ rest) = IsOperandOf count term.operand × (unsigned_abs term.coefficient ≤ 1_000_000) × AreTermsOf count rest

both : (a b : Bool) → (a && b) ≡ true → (a ≡ true) × (b ≡ true)
both a b h = (grind arith, grind arith)

operand_of : (cells : NamedCells) (operand : Operand) → is_summed cells operand ≡ true → IsOperandOf (length cells) operand
operand_of cells (Read (read.Counter cell)) summed = (tt, read_there cells (read.Counter cell) summed)
operand_of cells (Read (read.Volume cell)) summed = (tt, read_there cells (read.Volume cell) summed)
operand_of cells (Read (read.Register cell)) summed = absurd (false≢true summed)
operand_of cells (Read (read.Conflicted cell)) summed = absurd (false≢true summed)
operand_of cells (Read (read.Rate cell)) summed = absurd (false≢true summed)
operand_of cells (Local slot) summed = absurd (false≢true summed)

terms_of : (cells : NamedCells) (terms : List Term) → list_all (is_summand cells) terms ≡ true → AreTermsOf (length cells) terms
terms_of cells [] all = tt
terms_of cells (term ∷ rest) all =
    let parts = both (is_summand cells term) (list_all (is_summand cells) rest) all in
    let summand = both (is_coefficient term) (is_summed cells term.operand) parts.0 in
    (operand_of cells term.operand summand.1, leb-true (unsigned_abs term.coefficient) 1_000_000 summand.0, terms_of cells rest parts.1)

no_size : (number : ℤ) → unsigned_abs number ≡ 0 → number ≡ pos 0
no_size (pos n) e = ap pos e
no_size (negsuc n) e = absurd (omega arith)

-- what is known of the form of a linear resource
pub record IsFormOf (cells : NamedCells) (form : Linear) : Type 0 where
  pub terms : AreTermsOf (length cells) form.terms
  pub few : length form.terms ≤ 16
  pub constant : form.constant ≡ pos 0

pub form_of : (cells : NamedCells) (form : Linear) → IsTrue (is_sum cells form) → IsFormOf cells form
form_of cells form sum =
    let sizes = nat_le 1 (length form.terms) && nat_le (length form.terms) 16 in
    let last = both (sizes && list_all (is_summand cells) form.terms) (nat_eq (unsigned_abs form.constant) 0) sum in
    let middle = both sizes (list_all (is_summand cells) form.terms) last.0 in
    let first = both (nat_le 1 (length form.terms)) (nat_le (length form.terms) 16) middle.0 in
    record {
      terms = terms_of cells form.terms middle.1;
      few = leb-true (length form.terms) 16 first.1;
      constant = no_size form.constant (eqb-true (unsigned_abs form.constant) 0 last.1);
    }

-- ---- what is watched

pub watched_few : (cells : List CellState) (terms : List Term) → length (watched_on cells terms) ≤ length terms
watched_few cells [] = omega arith
watched_few cells (term ∷ rest) = go term.operand (watched_few cells rest)
  where
    go : (operand : Operand) → length (watched_on cells rest) ≤ length rest → length (watched_operand cells term.coefficient operand ++ watched_on cells rest) ≤ suc (length rest)
    go (Read one) few = omega arith
    go (Local slot) few = omega arith

pub all_watchable : (count : ℕ) (cells : List CellState) (terms : List Term) → AreTermsOf count terms → AreInRange cells → All IsWatchable (watched_on cells terms)
all_watchable count cells [] are good = All-nil IsWatchable
all_watchable count cells (term ∷ rest) are good = go term.operand are.0 (all_watchable count cells rest are.2 good)
  where
    go : (operand : Operand) → IsOperandOf count operand → All IsWatchable (watched_on cells rest) → All IsWatchable (watched_operand cells term.coefficient operand ++ watched_on cells rest)
    go (Read one) is others =
        All-cons IsWatchable _ _ (record { summed = is.0; coefficient = are.1; in_range = in_range_there cells (cell_of one) good }) others
    go (Local slot) is others = absurd is

-- cells that are alike where the terms read are watched alike
pub watched_alike : (cells others : List CellState) (terms : List Term) → ((k : ℕ) → IsReadBy terms k → get_or cells k (Counter (pos 0)) ≡ get_or others k (Counter (pos 0))) →
    watched_on cells terms ≡ watched_on others terms
watched_alike cells others [] alike = refl
watched_alike cells others (term ∷ rest) alike =
    go term.operand (λ k is. alike k (inl is)) (watched_alike cells others rest (λ k is. alike k (inr is)))
  where
    go : (operand : Operand) → ((k : ℕ) → IsReadIn operand k → get_or cells k (Counter (pos 0)) ≡ get_or others k (Counter (pos 0))) → watched_on cells rest ≡ watched_on others rest →
        watched_operand cells term.coefficient operand ++ watched_on cells rest ≡ watched_operand others term.coefficient operand ++ watched_on others rest
    go (Read one) here further =
        ap (λ (s : CellState). record { read = one; coefficient = term.coefficient; state = s } ∷ watched_on cells rest) (here (cell_of one) refl)
        ∙ ap (λ (l : List Watched). record { read = one; coefficient = term.coefficient; state = state_on others one } ∷ l) further
    go (Local slot) here further = further

pub reads_inside : (count : ℕ) (terms : List Term) → AreTermsOf count terms → (k : ℕ) → IsReadBy terms k → k < count
reads_inside count [] are k is = absurd is
reads_inside count (term ∷ rest) are k (inl is) = go term.operand are.0 is
  where
    go : (operand : Operand) → IsOperandOf count operand → IsReadIn operand k → k < count
    go (Read one) of_model same = omega (arith, of_model.1, same)
    go (Local slot) of_model same = absurd same
reads_inside count (term ∷ rest) are k (inr is) = reads_inside count rest are.2 k is

-- from instant to instant
pub advanced_on : (cells : List CellState) (terms : List Term) (dt : ℕ) (changed : List (ℕ × CellState)) → AreTermsOf (length cells) terms →
    map (advanced dt changed) (watched_on cells terms) ≡ watched_on (with_states (passed cells dt) changed) terms
advanced_on cells [] dt changed are = refl
advanced_on cells (term ∷ rest) dt changed are = go term.operand are.0 (advanced_on cells rest dt changed are.2)
  where
    go : (operand : Operand) → IsOperandOf (length cells) operand → map (advanced dt changed) (watched_on cells rest) ≡ watched_on (with_states (passed cells dt) changed) rest →
        map (advanced dt changed) (watched_operand cells term.coefficient operand ++ watched_on cells rest) ≡
        watched_operand (with_states (passed cells dt) changed) term.coefficient operand ++ watched_on (with_states (passed cells dt) changed) rest
    go (Read one) is others =
        ap (λ (s : CellState). record { read = one; coefficient = term.coefficient; state = s } ∷ map (advanced dt changed) (watched_on cells rest)) (sym (state_next cells dt changed (cell_of one) is.1))
        ∙ ap (λ (l : List Watched). record { read = one; coefficient = term.coefficient; state = state_on (with_states (passed cells dt) changed) one } ∷ l) others
    go (Local slot) is others = absurd is

-- ---- what it comes to

pub values_are : (count : ℕ) (cells : List CellState) (terms : List Term) → AreTermsOf count terms → terms_value (value_on cells) [] terms ≡ values_sum (watched_on cells terms)
values_are count cells [] are = refl
values_are count cells (term ∷ rest) are = go term.operand are.0 (values_are count cells rest are.2)
  where
    go : (operand : Operand) → IsOperandOf count operand → terms_value (value_on cells) [] rest ≡ values_sum (watched_on cells rest) →
        (term.coefficient *ℤ number_in (operand_value (value_on cells) [] operand)) +ℤ terms_value (value_on cells) [] rest ≡ values_sum (watched_operand cells term.coefficient operand ++ watched_on cells rest)
    go (Read one) is others =
        ap (λ v. (term.coefficient *ℤ number_in v) +ℤ terms_value (value_on cells) [] rest) (seen_is one cells)
        ∙ ap (λ (z : ℤ). (term.coefficient *ℤ read_number one (state_on cells one)) +ℤ z) others
    go (Local slot) is others = absurd is

rate_is : (cells : List CellState) (one : CellRead) → IsSummed one → operand_rate cells (Read one) ≡ read_rate one (state_on cells one)
rate_is cells (read.Counter cell) is = refl
rate_is cells (read.Volume cell) is = ap number_in (seen_is (read.Rate cell) cells)
rate_is cells (read.Register cell) is = absurd is
rate_is cells (read.Conflicted cell) is = absurd is
rate_is cells (read.Rate cell) is = absurd is

pub rates_are : (count : ℕ) (cells : List CellState) (terms : List Term) → AreTermsOf count terms → terms_rate cells terms ≡ rates_sum (watched_on cells terms)
rates_are count cells [] are = refl
rates_are count cells (term ∷ rest) are = go term.operand are.0 (rates_are count cells rest are.2)
  where
    go : (operand : Operand) → IsOperandOf count operand → terms_rate cells rest ≡ rates_sum (watched_on cells rest) →
        (term.coefficient *ℤ operand_rate cells operand) +ℤ terms_rate cells rest ≡ rates_sum (watched_operand cells term.coefficient operand ++ watched_on cells rest)
    go (Read one) is others =
        ap (λ (z : ℤ). (term.coefficient *ℤ z) +ℤ terms_rate cells rest) (rate_is cells one is.0)
        ∙ ap (λ (z : ℤ). (term.coefficient *ℤ read_rate one (state_on cells one)) +ℤ z) others
    go (Local slot) is others = absurd is

-- ---- while time passes

still : (n : ℤ) (dt : ℕ) → n ≡ n +ℤ pos 0 *ℤ pos dt
still n dt = let none = zero-*ℤ (pos dt) in omega (arith, ints, none)

number_later : (one : CellRead) (dt : ℕ) (state : CellState) → IsSummed one → read_number one (state_after dt state) ≡ read_number one state +ℤ read_rate one state *ℤ pos dt
number_later (read.Counter cell) dt (Counter number) is = still number dt
number_later (read.Counter cell) dt (Register value flag) is = still (pos 0) dt
number_later (read.Counter cell) dt (Volume volume rate) is = still (pos 0) dt
number_later (read.Volume cell) dt (Counter number) is = still (pos 0) dt
number_later (read.Volume cell) dt (Register value flag) is = still (pos 0) dt
number_later (read.Volume cell) dt (Volume volume rate) is = refl
number_later (read.Register cell) dt state is = absurd is
number_later (read.Conflicted cell) dt state is = absurd is
number_later (read.Rate cell) dt state is = absurd is

rate_later : (one : CellRead) (dt : ℕ) (state : CellState) → IsSummed one → read_rate one (state_after dt state) ≡ read_rate one state
rate_later (read.Counter cell) dt state is = refl
rate_later (read.Volume cell) dt (Counter number) is = refl
rate_later (read.Volume cell) dt (Register value flag) is = refl
rate_later (read.Volume cell) dt (Volume volume rate) is = refl
rate_later (read.Register cell) dt state is = absurd is
rate_later (read.Conflicted cell) dt state is = absurd is
rate_later (read.Rate cell) dt state is = absurd is

spread : (c n r sum rates : ℤ) (dt : ℕ) → (c *ℤ (n +ℤ r *ℤ pos dt)) +ℤ (sum +ℤ rates *ℤ pos dt) ≡ ((c *ℤ n) +ℤ sum) +ℤ ((c *ℤ r) +ℤ rates) *ℤ pos dt
spread c n r sum rates dt =
    let one = times_sum c n (r *ℤ pos dt) in
    let two = times_times c r dt in
    let three = sum_times (c *ℤ r) rates dt in
    omega (arith, ints, one, two, three)

pub values_later : (count : ℕ) (cells : List CellState) (terms : List Term) (dt : ℕ) → AreTermsOf count terms →
    values_sum (watched_on (passed cells dt) terms) ≡ values_sum (watched_on cells terms) +ℤ rates_sum (watched_on cells terms) *ℤ pos dt
values_later count cells [] dt are = still (pos 0) dt
values_later count cells (term ∷ rest) dt are = go term.operand are.0 (values_later count cells rest dt are.2)
  where
    go : (operand : Operand) → IsOperandOf count operand →
        values_sum (watched_on (passed cells dt) rest) ≡ values_sum (watched_on cells rest) +ℤ rates_sum (watched_on cells rest) *ℤ pos dt →
        values_sum (watched_operand (passed cells dt) term.coefficient operand ++ watched_on (passed cells dt) rest) ≡
        values_sum (watched_operand cells term.coefficient operand ++ watched_on cells rest) +ℤ rates_sum (watched_operand cells term.coefficient operand ++ watched_on cells rest) *ℤ pos dt
    go (Read one) is others =
        ap (λ (s : CellState). (term.coefficient *ℤ read_number one s) +ℤ values_sum (watched_on (passed cells dt) rest)) (state_later cells dt (cell_of one))
        ∙ (ap (λ (z : ℤ). (term.coefficient *ℤ z) +ℤ values_sum (watched_on (passed cells dt) rest)) (number_later one dt (state_on cells one) is.0)
        ∙ (ap (λ (z : ℤ). (term.coefficient *ℤ (read_number one (state_on cells one) +ℤ read_rate one (state_on cells one) *ℤ pos dt)) +ℤ z) others
        ∙ spread term.coefficient (read_number one (state_on cells one)) (read_rate one (state_on cells one)) (values_sum (watched_on cells rest)) (rates_sum (watched_on cells rest)) dt))
    go (Local slot) is others = absurd is

pub rates_later : (count : ℕ) (cells : List CellState) (terms : List Term) (dt : ℕ) → AreTermsOf count terms → rates_sum (watched_on (passed cells dt) terms) ≡ rates_sum (watched_on cells terms)
rates_later count cells [] dt are = refl
rates_later count cells (term ∷ rest) dt are = go term.operand are.0 (rates_later count cells rest dt are.2)
  where
    go : (operand : Operand) → IsOperandOf count operand → rates_sum (watched_on (passed cells dt) rest) ≡ rates_sum (watched_on cells rest) →
        rates_sum (watched_operand (passed cells dt) term.coefficient operand ++ watched_on (passed cells dt) rest) ≡ rates_sum (watched_operand cells term.coefficient operand ++ watched_on cells rest)
    go (Read one) is others =
        ap (λ (s : CellState). (term.coefficient *ℤ read_rate one s) +ℤ rates_sum (watched_on (passed cells dt) rest)) (state_later cells dt (cell_of one))
        ∙ (ap (λ (z : ℤ). (term.coefficient *ℤ z) +ℤ rates_sum (watched_on (passed cells dt) rest)) (rate_later one dt (state_on cells one) is.0)
        ∙ ap (λ (z : ℤ). (term.coefficient *ℤ read_rate one (state_on cells one)) +ℤ z) others)
    go (Local slot) is others = absurd is
