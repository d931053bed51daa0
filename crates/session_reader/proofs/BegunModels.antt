-- A model of which no beginning is refused is valid with the beginnings in place.
use Rattle.std.proofs.Common.{◌≡◌, ℕ, zero, suc, ℤ, ◌≤◌, Bool, true, false, not, ◌||◌, List, [], ◌∷◌, ◌++◌, Option, Some, None, option_map, length, map, find, nat_le, IsTrue, refl, sym, ap, ◌∙◌, subst, arith, true≢false, if◌then◌else◌}
use Rattle.std.proofs.lemmas.Bool.{le-leb}
use Rattle.std.proofs.lemmas.List.{length-map}
use Rattle.std.specs.List.{AllByRecursion, list_all}
use Rattle.aerie_base.specs.Ranges.{is_number, is_rate, number_limit}
use Rattle.aerie_base.specs.declared.models.CellStart.{CellStart}
use Rattle.aerie_base.specs.declared.models.CellStart.TheVariants as cell
use Rattle.aerie_base.specs.declared.models.EnumType.{EnumType}
use Rattle.aerie_base.specs.declared.models.model.Parts.{Parts}
use Rattle.aerie_base.specs.declared.operands.CellRead.TheVariants as read
use Rattle.aerie_base.specs.declared.values.Kind.{Kind}
use Rattle.aerie_base.specs.models.Cells.{NamedCells, cell_start_at, counter_kind, flag_kind, flow_kind, is_cell, register_kind}
use Rattle.aerie_base.specs.models.Limits.{cell_limit, enum_limit}
use Rattle.aerie_base.specs.models.Names.{are_distinct, is_name_among, same_name}
use Rattle.aerie_base.specs.models.ValidModel.{activity_names, cell_names, enum_names, has_good_cells, has_good_names, resource_names, valid_model}
use Rattle.aerie_base.specs.models.ValidParts.{are_good}
use Rattle.aerie_base.specs.models.Values.{is_kind, is_value_of}
use Rattle.diagnostics.specs.Diagnostics.{all_of}
use Rattle.diagnostics.specs.declared.diagnostic.Diagnostic.{Diagnostic}
use Rattle.diagnostics.specs.NotedInTurn.{back_empty, each_empty, front_empty, holds_if_empty}
use Rattle.model_reader.specs.Limits.{IsLiteralInRange}
use Rattle.model_reader.specs.declared.raw.literals.RawLiteralKind.{RawLiteralKind}
use Rattle.model_reader.specs.declared.raw.literals.RawLiteralKind.TheVariants as literal
use Rattle.session_grammar.specs.SessionLimits.{IsBeginningInRange}
use Rattle.session_grammar.specs.declared.raw.plans.RawBeginning.{RawBeginning}
use Rattle.session_grammar.specs.declared.raw.plans.RawRate.{RawRate}
use Rattle.session_reader.specs.Beginnings.{beginning_diagnostics, beginning_named, beginnings_diagnostics, begun_if_good, cell_begun, first_value_diagnostics, model_begun, models_begun, models_of_plan, number_of_literal, plan_diagnostics, given_rate_diagnostics, rate_or, start_begun, start_diagnostics, start_named, start_or_begun}
use Rattle.session_reader.specs.CheckedModels.{AreValid}
use Rattle.session_reader.specs.Diagnostics.{first_diagnostic}
use Rattle.session_reader.specs.Literals.{literal_diagnostics, literal_kind, literal_value}
use Rattle.session_reader.specs.MappingDiagnostics.{same_if_known}
use Rattle.session_reader.specs.RepeatedNames.{repeated_diagnostics}
use Rattle.session_reader.specs.declared.causes.Cause.{Cause}
use Rattle.session_reader.specs.declared.causes.Cause.TheVariants.{OutOfRange, WrongType}
use Rattle.session_reader.proofs.Fits.{few_enums, good_literal}
use Rattle.session_reader.proofs.Found.{and_too, both_true, one_found, same_as, same_is}
use Rattle.session_reader.proofs.OtherStarts.{HaveSameKinds, valid_with}

-- ---- what reads have

-- a cell that begins otherwise has the same reads
module _ (enums : List EnumType) where
  counter_begun : (start : CellStart) (beginning : Option RawBeginning) → counter_kind (Some (start_or_begun enums start beginning)) ≡ counter_kind (Some start)
  counter_begun start None = refl
  counter_begun (cell.Counter number) (Some beginning) = refl
  counter_begun (cell.Register kind value) (Some beginning) = refl
  counter_begun (cell.Accumulator volume rate) (Some beginning) = refl

  register_begun : (start : CellStart) (beginning : Option RawBeginning) → register_kind (Some (start_or_begun enums start beginning)) ≡ register_kind (Some start)
  register_begun start None = refl
  register_begun (cell.Counter number) (Some beginning) = refl
  register_begun (cell.Register kind value) (Some beginning) = refl
  register_begun (cell.Accumulator volume rate) (Some beginning) = refl

  flag_begun : (start : CellStart) (beginning : Option RawBeginning) → flag_kind (Some (start_or_begun enums start beginning)) ≡ flag_kind (Some start)
  flag_begun start None = refl
  flag_begun (cell.Counter number) (Some beginning) = refl
  flag_begun (cell.Register kind value) (Some beginning) = refl
  flag_begun (cell.Accumulator volume rate) (Some beginning) = refl

  flow_begun : (start : CellStart) (beginning : Option RawBeginning) → flow_kind (Some (start_or_begun enums start beginning)) ≡ flow_kind (Some start)
  flow_begun start None = refl
  flow_begun (cell.Counter number) (Some beginning) = refl
  flow_begun (cell.Register kind value) (Some beginning) = refl
  flow_begun (cell.Accumulator volume rate) (Some beginning) = refl

module _ (enums : List EnumType) (beginnings : List RawBeginning) where
  abbrev begin_ : List ℕ × CellStart → List ℕ × CellStart
  begin_ = cell_begun enums beginnings

  -- a read of cells that begin otherwise
  at_begun : (kind_of : Option CellStart → Option Kind) →
      ((start : CellStart) (beginning : Option RawBeginning) → kind_of (Some (start_or_begun enums start beginning)) ≡ kind_of (Some start)) →
      (cells : NamedCells) (place : ℕ) → kind_of (cell_start_at cells place) ≡ kind_of (cell_start_at (map begin_ cells) place)
  at_begun kind_of each [] place = refl
  at_begun kind_of each (first ∷ rest) zero = sym (each first.1 (beginning_named beginnings first.0))
  at_begun kind_of each (first ∷ rest) (suc place) = at_begun kind_of each rest place

  same_kinds : (cells : NamedCells) → HaveSameKinds cells (map begin_ cells)
  same_kinds cells (read.Counter place) = at_begun counter_kind (counter_begun enums) cells place
  same_kinds cells (read.Register place) = at_begun register_kind (register_begun enums) cells place
  same_kinds cells (read.Conflicted place) = at_begun flag_kind (flag_begun enums) cells place
  same_kinds cells (read.Volume place) = at_begun flow_kind (flow_begun enums) cells place
  same_kinds cells (read.Rate place) = at_begun flow_kind (flow_begun enums) cells place

  names_begun : (cells : NamedCells) → map (λ (c : List ℕ × CellStart). c.0) (map begin_ cells) ≡ map (λ (c : List ℕ × CellStart). c.0) cells
  names_begun [] = refl
  names_begun (first ∷ rest) = ap (λ (names : List (List ℕ)). first.0 ∷ names) (names_begun rest)

-- ---- what a cell begins with

module _ (enums : List EnumType) (few : length enums ≤ enum_limit) where
  number_good : (what : RawLiteralKind) → IsLiteralInRange what → is_number (number_of_literal what) ≡ true
  number_good (literal.Number number) range = le-leb _ number_limit range
  number_good (literal.Truth truth) range = refl
  number_good (literal.Variant kind variant) range = refl

  rate_good : (old : ℤ) (volume : ℤ) (rate : Option RawRate) → is_rate old ≡ true → given_rate_diagnostics (cell.Accumulator volume old) rate ≡ [] → is_rate (rate_or old rate) ≡ true
  rate_good old volume None good empty = good
  rate_good old volume (Some rate) good empty = holds_if_empty (is_rate (number_of_literal rate.rate.what)) OutOfRange rate.rate.at empty

  -- what a cell begins with, where nothing is refused of that
  begun_good : (start : CellStart) (beginning : RawBeginning) → is_cell enums start ≡ true → IsLiteralInRange beginning.value.what →
      start_diagnostics enums beginning (Some start) ≡ [] → is_cell enums (start_begun enums start beginning) ≡ true
  begun_good (cell.Counter number) beginning good range empty = number_good beginning.value.what range
  begun_good (cell.Register kind value) beginning good range empty =
      let start = cell.Register kind value in
      let value_empty = front_empty (first_value_diagnostics enums start beginning) (given_rate_diagnostics start beginning.rate) empty in
      let fits = holds_if_empty (same_if_known (literal_kind enums beginning.value.what) kind) WrongType beginning.value.at
      (back_empty (literal_diagnostics enums beginning.value.what) _ value_empty) in
      and_too (is_kind enums kind) (is_value_of enums kind (literal_value enums beginning.value.what))
      (both_true (is_kind enums kind) (is_value_of enums kind value) good).0
      (good_literal enums few kind beginning.value.what range (front_empty (literal_diagnostics enums beginning.value.what) _ value_empty) fits)
  begun_good (cell.Accumulator volume rate) beginning good range empty =
      let start = cell.Accumulator volume rate in
      and_too (is_number (number_of_literal beginning.value.what)) (is_rate (rate_or rate beginning.rate))
      (number_good beginning.value.what range)
      (rate_good rate volume beginning.rate (both_true (is_number volume) (is_rate rate) good).1
      (back_empty (first_value_diagnostics enums start beginning) (given_rate_diagnostics start beginning.rate) empty))

-- ---- cells

-- a beginning of which nothing is refused, within its range
abbrev IsGood : Parts → RawBeginning → Type 0
IsGood model beginning = IsBeginningInRange beginning × (beginning_diagnostics model beginning ≡ [])

both_hold : {A : Type 0} (P Q : A → Type 0) (xs : List A) → AllByRecursion P xs → AllByRecursion Q xs → AllByRecursion (λ x. P x × Q x) xs
both_hold P Q [] p q = tt
both_hold P Q (x ∷ xs) p q = ((p.0, q.0), both_hold P Q xs p.1 q.1)

module _ (model : Parts) (beginnings : List RawBeginning) (valid : IsTrue (valid_model model)) (range : AllByRecursion IsBeginningInRange beginnings) (empty : beginnings_diagnostics model beginnings ≡ []) where
  all_good : AllByRecursion (IsGood model) beginnings
  all_good =
      both_hold IsBeginningInRange (λ beginning. beginning_diagnostics model beginning ≡ []) beginnings range
      (each_empty (beginning_diagnostics model) beginnings (back_empty (repeated_diagnostics [] (map (λ (beginning : RawBeginning). beginning.cell) beginnings)) (all_of (beginning_diagnostics model) beginnings) empty))

  -- of a cell and what begins it: the cell is the one that its beginning names
  cell_good : (named : List ℕ × CellStart) (found : Option RawBeginning) → beginning_named beginnings named.0 ≡ found → start_named model.cells named.0 ≡ Some named.1 →
      is_cell model.enums named.1 ≡ true → is_cell model.enums (start_or_begun model.enums named.1 found) ≡ true
  cell_good named None is here good = good
  cell_good named (Some beginning) is here good =
      let good_one = one_found (IsGood model) (λ (b : RawBeginning). same_name b.cell.name named.0) beginnings beginning all_good is in
      let name = same_is beginning.cell.name named.0 good_one.1 in
      let start : start_named model.cells beginning.cell.name ≡ Some named.1 = ap (start_named model.cells) name ∙ here in
      begun_good model.enums (few_enums model valid) named.1 beginning good good_one.0.0.0
      (subst (λ (s : Option CellStart). start_diagnostics model.enums beginning s ≡ []) start good_one.0.1)

  -- each of some cells that go by their names
  cells_good : (rest : NamedCells) → AllByRecursion (λ (named : List ℕ × CellStart). start_named model.cells named.0 ≡ Some named.1) rest →
      list_all (λ (named : List ℕ × CellStart). is_cell model.enums named.1) rest ≡ true →
      list_all (λ (named : List ℕ × CellStart). is_cell model.enums named.1) (map (cell_begun model.enums beginnings) rest) ≡ true
  cells_good [] here good = refl
  cells_good (first ∷ rest) here good =
      let parts = both_true (is_cell model.enums first.1) (list_all (λ (named : List ℕ × CellStart). is_cell model.enums named.1) rest) good in
      and_too (is_cell model.enums (start_or_begun model.enums first.1 (beginning_named beginnings first.0))) _
      (cell_good first (beginning_named beginnings first.0) refl here.0 parts.0) (cells_good rest here.1 parts.1)

-- ---- cells go by their names

neither : (a b : Bool) → not (a || b) ≡ true → (a ≡ false) × (not b ≡ true)
neither true b e = absurd (true≢false (sym e))
neither false b e = (refl, e)

front_distinct : (names others : List (List ℕ)) → are_distinct (names ++ others) ≡ true → are_distinct names ≡ true
front_distinct [] others e = refl
front_distinct (name ∷ names) others e =
    let parts = both_true (not (is_name_among name (names ++ others))) (are_distinct (names ++ others)) e in
    and_too (not (is_name_among name names)) (are_distinct names) (apart names parts.0) (front_distinct names others parts.1)
  where
    apart : (rest : List (List ℕ)) → not (is_name_among name (rest ++ others)) ≡ true → not (is_name_among name rest) ≡ true
    apart [] e = refl
    apart (first ∷ rest) e =
        let two = neither (same_name name first) (is_name_among name (rest ++ others)) e in
        ap (λ (v : Bool). not (v || is_name_among name rest)) two.0 ∙ apart rest two.1

back_distinct : (names others : List (List ℕ)) → are_distinct (names ++ others) ≡ true → are_distinct others ≡ true
back_distinct [] others e = e
back_distinct (name ∷ names) others e = back_distinct names others (both_true (not (is_name_among name (names ++ others))) (are_distinct (names ++ others)) e).1

-- a cell goes by its name
abbrev GoesByName : NamedCells → List ℕ × CellStart → Type 0
GoesByName cells named = start_named cells named.0 ≡ Some named.1

still_named : (first : List ℕ × CellStart) (cells rest : NamedCells) → not (is_name_among first.0 (map (λ (c : List ℕ × CellStart). c.0) rest)) ≡ true →
    AllByRecursion (GoesByName cells) rest → AllByRecursion (GoesByName (first ∷ cells)) rest
still_named first cells [] apart all = tt
still_named first cells (next ∷ rest) apart all =
    let two = neither (same_name first.0 next.0) (is_name_among first.0 (map (λ (c : List ℕ × CellStart). c.0) rest)) apart in (
      ap (λ (v : Bool). option_map (λ (c : List ℕ × CellStart). c.1) (if v then Some first else find (λ (c : List ℕ × CellStart). same_name c.0 next.0) cells)) two.0 ∙ all.0,
      still_named first cells rest two.1 all.1,
    )

all_named : (cells : NamedCells) → are_distinct (map (λ (c : List ℕ × CellStart). c.0) cells) ≡ true → AllByRecursion (GoesByName cells) cells
all_named [] distinct = tt
all_named (first ∷ rest) distinct =
    let parts = both_true (not (is_name_among first.0 (map (λ (c : List ℕ × CellStart). c.0) rest))) (are_distinct (map (λ (c : List ℕ × CellStart). c.0) rest)) distinct in (
      ap (λ (v : Bool). option_map (λ (c : List ℕ × CellStart). c.1) (if v then Some first else find (λ (c : List ℕ × CellStart). same_name c.0 first.0) rest)) (same_as first.0),
      still_named first rest rest parts.0 (all_named rest parts.1),
    )

cells_distinct : (model : Parts) → IsTrue (valid_model model) → are_distinct (cell_names model) ≡ true
unfolding has_good_names
cells_distinct model valid =
    let names = both_true (are_distinct (enum_names model ++ cell_names model ++ activity_names model)) (are_distinct (resource_names model)) (are_good model valid).names in
    back_distinct (enum_names model) (cell_names model) (front_distinct (enum_names model ++ cell_names model) (activity_names model) names.0)

-- ---- the model

pub begun_valid : (model : Parts) (beginnings : List RawBeginning) → IsTrue (valid_model model) → AllByRecursion IsBeginningInRange beginnings →
    beginnings_diagnostics model beginnings ≡ [] → IsTrue (valid_model (model_begun beginnings model))
unfolding has_good_cells
begun_valid model beginnings valid range empty =
    let begun = map (cell_begun model.enums beginnings) model.cells in
    let old = both_true (nat_le (length model.cells) cell_limit) (list_all (λ (named : List ℕ × CellStart). is_cell model.enums named.1) model.cells) (are_good model valid).cells in
    let few : nat_le (length begun) cell_limit ≡ true = ap (λ (n : ℕ). nat_le n cell_limit) (length-map model.cells (cell_begun model.enums beginnings)) ∙ old.0 in
    valid_with model begun valid (same_kinds model.enums beginnings model.cells) (names_begun model.enums beginnings model.cells)
    (and_too (nat_le (length begun) cell_limit) (list_all (λ (named : List ℕ × CellStart). is_cell model.enums named.1) begun) few
    (cells_good model beginnings valid range empty model.cells (all_named model.cells (cells_distinct model valid)) old.1))

-- ---- the models

-- the first one, and the others
pub are_begun : (beginnings : List RawBeginning) (models : List Parts) (first begun : Parts) (others : List Parts) → models ≡ first ∷ others →
    begun ≡ model_begun beginnings first → begun ∷ others ≡ models_begun beginnings models
are_begun beginnings models first begun others is e = (λ i. e i ∷ others) ∙ ap (models_begun beginnings) (sym is)

pub first_empty : (beginnings : List RawBeginning) (models : List Parts) (first : Parts) (others : List Parts) → models ≡ first ∷ others →
    plan_diagnostics beginnings models ≡ [] → beginnings_diagnostics first beginnings ≡ []
first_empty beginnings models first others is empty = ap (plan_diagnostics beginnings) (sym is) ∙ empty

pub others_valid : (models : List Parts) (first : Parts) (others : List Parts) → models ≡ first ∷ others → AreValid models → AreValid others
others_valid models first others is valid = (subst AreValid is valid).1

-- without beginnings a model is as it is written
cells_kept : (enums : List EnumType) (cells : NamedCells) → map (cell_begun enums []) cells ≡ cells
cells_kept enums [] = refl
cells_kept enums (first ∷ rest) = ap (λ (others : NamedCells). first ∷ others) (cells_kept enums rest)

pub nothing_begun : (models : List Parts) → models ≡ models_of_plan [] models
nothing_begun [] = refl
nothing_begun (model ∷ others) = ap (λ (cells : NamedCells). record model { cells = cells } ∷ others) (sym (cells_kept model.enums model.cells))

pub none_begun : (beginnings : List RawBeginning) (models : List Parts) → length beginnings ≡ 0 → models ≡ models_of_plan beginnings models
none_begun [] models none = nothing_begun models
none_begun (first ∷ rest) models none = absurd (omega (arith, none))

nothing_wrong : (models : List Parts) → plan_diagnostics [] models ≡ []
nothing_wrong [] = refl
nothing_wrong (model ∷ others) = refl

pub none_wrong : (beginnings : List RawBeginning) (models : List Parts) → length beginnings ≡ 0 → None ≡ first_diagnostic (plan_diagnostics beginnings models)
none_wrong [] models none = ap first_diagnostic (sym (nothing_wrong models))
none_wrong (first ∷ rest) models none = absurd (omega (arith, none))

pub some_wrong : (wrong : List (Diagnostic Cause)) (one : Diagnostic Cause) → first_diagnostic wrong ≡ Some one → wrong ≡ [] → ⊥
some_wrong [] one e empty = cc
some_wrong (first ∷ rest) one e empty = cc

-- where something is wrong the models are as they are written
pub wrong_kept : (beginnings : List RawBeginning) (models : List Parts) (wrong : List (Diagnostic Cause)) → (wrong ≡ [] → ⊥) → models ≡ begun_if_good wrong beginnings models
wrong_kept beginnings models [] some = absurd (some refl)
wrong_kept beginnings models (first ∷ rest) some = refl

pub good_begun : (beginnings : List RawBeginning) (models : List Parts) → plan_diagnostics beginnings models ≡ [] → models_begun beginnings models ≡ models_of_plan beginnings models
good_begun beginnings models empty = ap (λ (wrong : List (Diagnostic Cause)). begun_if_good wrong beginnings models) (sym empty)

-- ---- names and numbers

begun_names : (beginnings : List RawBeginning) (models : List Parts) → map (λ (model : Parts). model.name) (models_begun beginnings models) ≡ map (λ (model : Parts). model.name) models
begun_names beginnings [] = refl
begun_names beginnings (model ∷ others) = refl

if_good_names : (wrong : List (Diagnostic Cause)) (beginnings : List RawBeginning) (models : List Parts) →
    map (λ (model : Parts). model.name) (begun_if_good wrong beginnings models) ≡ map (λ (model : Parts). model.name) models
if_good_names [] beginnings models = begun_names beginnings models
if_good_names (first ∷ rest) beginnings models = refl

pub names_of_plan : (beginnings : List RawBeginning) (models : List Parts) → map (λ (model : Parts). model.name) (models_of_plan beginnings models) ≡ map (λ (model : Parts). model.name) models
names_of_plan beginnings models = if_good_names (plan_diagnostics beginnings models) beginnings models

pub number_of_plan : (beginnings : List RawBeginning) (models : List Parts) → length (models_of_plan beginnings models) ≡ length models
number_of_plan beginnings models =
    sym (length-map (models_of_plan beginnings models) (λ (model : Parts). model.name)) ∙ ap length (names_of_plan beginnings models) ∙ length-map models (λ (model : Parts). model.name)
