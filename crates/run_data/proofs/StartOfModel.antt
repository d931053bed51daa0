-- A simulation begins with tasks and cells of the model.
use Rattle.std.proofs.Common.{◌≡◌, ℕ, zero, suc, ◌+◌, ◌≤◌, Bool, true, false, ◌&&◌, cond, IsTrue, List, [], ◌∷◌, map, length, replicate, Option, Some, None, slice_get, nat_lt, refl, sym, ap, ◌∙◌, subst, arith}
use Rattle.std.proofs.lemmas.Bool.{false≢true, leb-true}
use Rattle.std.proofs.lemmas.List.{length-replicate}
use Rattle.std.specs.Prelude.{option_map}
use Rattle.std.specs.BTreeMap.{is_at}
use Rattle.std.specs.List.{list_all}
use Rattle.aerie_base.specs.declared.values.Kind.{Kind}
use Rattle.aerie_base.specs.declared.values.Value.{Value}
use Rattle.aerie_base.specs.declared.values.Value.TheVariants as kinds
use Rattle.aerie_base.specs.declared.names.Name.{Name}
use Rattle.aerie_base.specs.declared.operands.CellRead.{CellRead}
use Rattle.aerie_base.specs.declared.operands.CellRead.TheVariants as read
use Rattle.aerie_base.specs.declared.models.Activity.{Activity}
use Rattle.aerie_base.specs.declared.models.CellStart.{CellStart}
use Rattle.aerie_base.specs.declared.models.CellStart.TheVariants as start
use Rattle.aerie_base.specs.declared.models.Daemon.{Daemon}
use Rattle.aerie_base.specs.declared.models.EnumType.{EnumType}
use Rattle.aerie_base.specs.declared.models.Parameter.{Parameter}
use Rattle.aerie_base.specs.declared.models.model.Parts.{Parts}
use Rattle.aerie_base.specs.declared.plans.Anchor.{Anchor}
use Rattle.aerie_base.specs.declared.plans.Directive.{Directive}
use Rattle.aerie_base.specs.declared.plans.Plan.{Plan}
use Rattle.aerie_base.specs.expressions.Arithmetic.{value_kind}
use Rattle.aerie_base.specs.expressions.Readings.{cell_of}
use Rattle.aerie_base.specs.expressions.Typing.{same_kind}
use Rattle.aerie_base.specs.models.Cells.{NamedCells, cell_start_at, counter_kind, register_kind, flag_kind, flow_kind, read_kind, is_cell}
use Rattle.aerie_base.specs.models.ValidModel.{valid_model, has_good_cells}
use Rattle.aerie_base.specs.models.ValidParts.{are_good}
use Rattle.aerie_base.specs.models.Values.{is_kind, is_value, is_value_of}
use Rattle.aerie_base.specs.Paths.{root, daemon_root, path_cmp}
use Rattle.aerie_base.specs.plans.OfModel.{are_values_of, takes, is_directive_of, is_there, anchored_to, IsPlanOf}
use Rattle.effect_cells.specs.declared.effects.CellState.{CellState}
use Rattle.effect_cells.specs.Cells.{initial, first_state, first_out_from, AreInRange}
use Rattle.effect_cells.specs.Reads.{state_kind}
use Rattle.effect_cells.specs.States.{is_in_range}
use Rattle.run_data.specs.declared.tasks.BodyId.TheVariants as body
use Rattle.run_data.specs.declared.tasks.TaskState.{TaskState}
use Rattle.run_data.specs.Fresh.{start as first_point_of}
use Rattle.run_data.specs.Jobs.{AreCellsOf}
use Rattle.run_data.specs.Numbers.{HasNumber}
use Rattle.run_data.specs.Scopes.{suits}
use Rattle.run_data.specs.laws.Orders.{EachOf}
use Rattle.run_data.proofs.StepEndings.{unset_numbers, begun_goes}
use Rattle.run_data.specs.Tasks.{TaskPhase, anchored, ready, delayed, waiting, calling, over, Task, Table, task_at, with_task, planned, with_directives, with_daemons, rested}
use Rattle.run_data.specs.TaskStates.{body_of, activity_begun, daemon_begun, unset}
use Rattle.run_data.specs.laws.OrderedTables.{IsOrderedTable}
use Rattle.run_data.specs.laws.ReachedStates.{MayGoOn, IsPhaseOf, ComesFrom, directive, daemon, IsTableOf}
use Rattle.run_data.proofs.BodyPlaces.{first_place, its_state}
use Rattle.run_data.proofs.Children.{HaveKinds, child_begins}
use Rattle.run_data.proofs.KnownKinds.{kinds_agree}
use Rattle.run_data.proofs.ModelBodies.{setting_of, IsBodyOf, daemon_good}
use Rattle.run_data.specs.TableLaws.{at_with, is_same, order_with}
use Rattle.run_data.proofs.Scoping.{both_hold}
use Rattle.run_data.proofs.TableOfModel.{table_changed, rested_keeps, found_at}

-- ---- tasks that have not begun

module _ (model : Parts) where
  abbrev FirstPhase : TaskPhase → Type 0
  FirstPhase (anchored to edge start state) = MayGoOn model state
  FirstPhase (delayed until state) = MayGoOn model state
  FirstPhase (ready state) = ⊥
  FirstPhase (waiting condition state) = ⊥
  FirstPhase (calling child into state) = ⊥
  FirstPhase (over result) = ⊥

  IsRoot : List ℕ → Type 0
  IsRoot path = (table : Table) → ComesFrom table path

  record IsFirst (table : Table) : Type 0 where
    order : IsOrderedTable table
    phases : (path : List ℕ) (task : Task) → task_at table path ≡ Some task → FirstPhase task.phase
    made : (path : List ℕ) (task : Task) → task_at table path ≡ Some task → task.made ≡ 0
    roots : (path : List ℕ) (task : Task) → task_at table path ≡ Some task → (others : Table) → ComesFrom others path

  put_first : (table : Table) (path : List ℕ) (task : Task) → IsFirst table → FirstPhase task.phase → task.made ≡ 0 → ((others : Table) → ComesFrom others path) → IsFirst (with_task table path task)
  put_first table path task is phase none comes = record {
    order = order_with table path task is.order;
    made = λ other found e. made_by other found (is_at (path_cmp other) path) (sym (at_with table path other task) ∙ e);
    phases = λ other found e. phase_by other found (is_at (path_cmp other) path) (sym (at_with table path other task) ∙ e);
    roots = λ other found e. root_by other found (is_at (path_cmp other) path) refl (sym (at_with table path other task) ∙ e);
  }
    where
      made_by : (other : List ℕ) (found : Task) (here : Bool) → cond here (Some task) (task_at table other) ≡ Some found → found.made ≡ 0
      made_by other found true e = let same : task ≡ found = cc in ap (λ (t : Task). t.made) (sym same) ∙ none
      made_by other found false e = is.made other found e

      phase_by : (other : List ℕ) (found : Task) (here : Bool) → cond here (Some task) (task_at table other) ≡ Some found → FirstPhase found.phase
      phase_by other found true e = let same : task ≡ found = cc in subst (λ (t : Task). FirstPhase t.phase) same phase
      phase_by other found false e = is.phases other found e

      root_by : (other : List ℕ) (found : Task) (here : Bool) → is_at (path_cmp other) path ≡ here → cond here (Some task) (task_at table other) ≡ Some found → (others : Table) → ComesFrom others other
      root_by other found true same e = subst (λ p. (others : Table) → ComesFrom others p) (sym (is_same other path same)) comes
      root_by other found false same e = is.roots other found e

  first_goes : (table : Table) (path : List ℕ) (phase : TaskPhase) → FirstPhase phase → IsPhaseOf model table path phase
  first_goes table path (anchored to edge start state) h = h
  first_goes table path (delayed until state) h = h
  first_goes table path (ready state) h = absurd h
  first_goes table path (waiting condition state) h = absurd h
  first_goes table path (calling child into state) h = absurd h
  first_goes table path (over result) h = absurd h

  table_of_first : (table : Table) → IsFirst table → IsTableOf model table
  table_of_first table is = record {
    order = is.order;
    phases = λ path task e. first_goes table path task.phase (is.phases path task e);
    makers = λ path task e. is.roots path task e table;
  }

  planned_first : (anchor : Option Anchor) (from : ℕ) (state : TaskState) → MayGoOn model state → FirstPhase (planned anchor from state)
  planned_first None from state h = h
  planned_first (Some anchor) from state h = h

module _ (model : Parts) (valid : IsTrue (valid_model model)) where
  -- ---- daemons

  none_suits : (count : ℕ) → IsTrue (suits [] (replicate count unset))
  none_suits count = refl

  abbrev daemon_body_is : (number : ℕ) (one : Daemon) → slice_get model.daemons number ≡ Some one → IsBodyOf model (body.Daemon number)
  daemon_body_is number one e = record {
    parameters = 0;
    result = None;
    kinds = [];
    slots = one.slots;
    good = rw e (daemon_good model valid number one e);
    result_is = refl;
    ends = λ h. absurd (false≢true h);
    states_are = λ place values. rw e refl;
  }

  daemon_goes : (number : ℕ) (one : Daemon) → slice_get model.daemons number ≡ Some one → MayGoOn model (daemon_begun number one)
  daemon_goes number one e =
      let is = daemon_body_is number one e in
      let place = first_place (setting_of model 0 None) [] one.slots (body_of model (body.Daemon number)) is.good in record {
        of_model = its_state model (body.Daemon number) is [] 0 (replicate one.slots unset) place.0 (length-replicate one.slots unset) (none_suits one.slots);
        under_way = λ none. refl;
        numbers = unset_numbers one.slots;
      }

  with_daemons_first : (number : ℕ) (daemons : List Daemon) (table : Table) → ((k : ℕ) (one : Daemon) → slice_get daemons k ≡ Some one → slice_get model.daemons (number + k) ≡ Some one) → IsFirst model table →
      IsFirst model (with_daemons number daemons table)
  with_daemons_first number [] table at is = is
  with_daemons_first number (one ∷ rest) table at is =
      with_daemons_first (number + 1) rest _
      (λ k other e. (let place : number + suc k ≡ number + 1 + k = omega arith in subst (λ n. slice_get model.daemons n ≡ Some other) place (at (suc k) other e)))
      (put_first model table (daemon_root number) _ is
      (daemon_goes number one (let place : number + 0 ≡ number = omega arith in subst (λ n. slice_get model.daemons n ≡ Some one) place (at 0 one refl))) refl
      (λ others. daemon number refl))

  -- ---- directives

  have_kinds : (enums : List EnumType) (parameters : List Parameter) (values : List Value) → IsTrue (are_values_of enums (map (λ parameter. parameter.kind) parameters) values) → HaveKinds values parameters
  have_kinds enums [] [] h = tt
  have_kinds enums [] (value ∷ values) h = absurd (cc)
  have_kinds enums (parameter ∷ parameters) [] h = absurd (cc)
  have_kinds enums (parameter ∷ parameters) (value ∷ values) h =
      let parts = both_hold (is_value_of enums parameter.kind value) (are_values_of enums (map (λ p. p.kind) parameters) values) h in
      (kinds_agree (value_kind value) parameter.kind (both_hold (same_kind (value_kind value) parameter.kind) (is_value enums value) parts.0).0, have_kinds enums parameters values parts.1)

  value_in_range : (enums : List EnumType) (value : Value) → IsTrue (is_value enums value) → HasNumber value
  value_in_range enums (kinds.Int number) h = leb-true _ _ h
  value_in_range enums (kinds.Truth truth) h = tt
  value_in_range enums (kinds.Variant of number) h = tt

  values_in_range : (enums : List EnumType) (parameters : List Parameter) (values : List Value) → IsTrue (are_values_of enums (map (λ parameter. parameter.kind) parameters) values) → EachOf HasNumber values
  values_in_range enums [] [] h = tt
  values_in_range enums [] (value ∷ values) h = absurd (cc)
  values_in_range enums (parameter ∷ parameters) [] h = absurd (cc)
  values_in_range enums (parameter ∷ parameters) (value ∷ values) h =
      let parts = both_hold (is_value_of enums parameter.kind value) (are_values_of enums (map (λ p. p.kind) parameters) values) h in
      (value_in_range enums value (both_hold (same_kind (value_kind value) parameter.kind) (is_value enums value) parts.0).1, values_in_range enums parameters values parts.1)

  takes_goes : (kind : ℕ) (found : Option Activity) (values : List Value) → slice_get model.activities kind ≡ found → IsTrue (takes model.enums found values) → MayGoOn model (activity_begun model kind values)
  takes_goes kind None values e h = absurd (cc)
  takes_goes kind (Some activity) values e h =
      begun_goes model kind values valid (child_begins model valid kind activity values e (have_kinds model.enums activity.parameters values h))
      (values_in_range model.enums activity.parameters values h)

  directive_goes : (plan : Plan) (one : Directive) → IsTrue (is_directive_of model plan one) → MayGoOn model (activity_begun model one.kind one.arguments)
  directive_goes plan one h =
      takes_goes one.kind (slice_get model.activities one.kind) one.arguments refl
      (both_hold (takes model.enums (slice_get model.activities one.kind) one.arguments) (nat_lt one.start plan.duration)
      (both_hold (takes model.enums (slice_get model.activities one.kind) one.arguments && nat_lt one.start plan.duration) (is_there plan.directives (anchored_to one)) h).0).0

  with_directives_first : (plan : Plan) (directives : List Directive) (table : Table) → IsTrue (list_all (is_directive_of model plan) directives) → IsFirst model table → IsFirst model (with_directives model directives table)
  with_directives_first plan [] table all is = is
  with_directives_first plan (one ∷ rest) table all is =
      let parts = both_hold (is_directive_of model plan one) (list_all (is_directive_of model plan) rest) all in
      with_directives_first plan rest _ parts.1
      (put_first model table (root one.id) _ is
      (planned_first model one.anchor one.start (activity_begun model one.kind one.arguments) (directive_goes plan one parts.0)) refl
      (λ others. directive one.id refl))

  none_first : IsFirst model []
  none_first = record { order = tt; phases = λ path task e. absurd (cc); made = λ path task e. absurd (cc); roots = λ path task e. absurd (cc) }

  first_of : (plan : Plan) → IsPlanOf model plan → IsFirst model (with_directives model plan.directives (with_daemons 0 model.daemons []))
  first_of plan is =
      with_directives_first plan plan.directives (with_daemons 0 model.daemons []) is.directives
      (with_daemons_first 0 model.daemons [] (λ k one e. (let place : k ≡ 0 + k = omega arith in subst (λ n. slice_get model.daemons n ≡ Some one) place e)) none_first)

  pub start_made : (plan : Plan) → IsPlanOf model plan → (path : List ℕ) (task : Task) → task_at (first_point_of model plan).table path ≡ Some task → task.made ≤ 0
  start_made plan is path task e =
      let found = found_at model (rested 0) (with_directives model plan.directives (with_daemons 0 model.daemons [])) path task e in
      let none : found.old.made ≡ 0 = (first_of plan is).made path found.old found.there in
      let same : found.old.made ≡ task.made = ap (λ (t : Task). t.made) found.is in omega (arith, none, same)

  pub start_table : (plan : Plan) → IsPlanOf model plan → IsTableOf model (first_point_of model plan).table
  start_table plan is =
      table_changed model (rested 0) (with_directives model plan.directives (with_daemons 0 model.daemons []))
      (table_of_first model _
      (with_directives_first plan plan.directives (with_daemons 0 model.daemons []) is.directives
      (with_daemons_first 0 model.daemons [] (λ k one e. (let place : k ≡ 0 + k = omega arith in subst (λ n. slice_get model.daemons n ≡ Some one) place e)) none_first)))
      (rested_keeps model 0 (with_directives model plan.directives (with_daemons 0 model.daemons [])))

  -- ---- cells

  good_cells : IsTrue (list_all (λ (cell : Name × CellStart). is_cell model.enums cell.1) model.cells)
  unfolding has_good_cells
  good_cells = (both_hold _ (list_all (λ (cell : Name × CellStart). is_cell model.enums cell.1) model.cells) (are_good model valid).cells).1

  abbrev IsGoodStart : Option CellStart → Type 0
  IsGoodStart None = Unit {0}
  IsGoodStart (Some begins) = IsTrue (is_cell model.enums begins)

  abbrev kind_at : CellRead → Option CellStart → Option Kind
  kind_at (read.Counter cell) found = counter_kind found
  kind_at (read.Register cell) found = register_kind found
  kind_at (read.Conflicted cell) found = flag_kind found
  kind_at (read.Volume cell) found = flow_kind found
  kind_at (read.Rate cell) found = flow_kind found

  register_begins : (kind : Kind) (value : Value) → IsTrue (is_cell model.enums (start.Register kind value)) → ◌≡◌ {A = Option Kind} (Some (value_kind value)) (Some kind)
  register_begins kind value h =
      ap Some (kinds_agree (value_kind value) kind (both_hold (same_kind (value_kind value) kind) (is_value model.enums value)
      (both_hold (is_kind model.enums kind) (is_value_of model.enums kind value) h).1).0)

  begun_kind : (what : CellRead) (found : Option CellStart) → IsGoodStart found → state_kind what (option_map first_state found) ≡ kind_at what found
  begun_kind (read.Counter cell) None h = refl
  begun_kind (read.Counter cell) (Some (start.Counter number)) h = refl
  begun_kind (read.Counter cell) (Some (start.Register kind value)) h = refl
  begun_kind (read.Counter cell) (Some (start.Accumulator volume rate)) h = refl
  begun_kind (read.Register cell) None h = refl
  begun_kind (read.Register cell) (Some (start.Counter number)) h = refl
  begun_kind (read.Register cell) (Some (start.Register kind value)) h = register_begins kind value h
  begun_kind (read.Register cell) (Some (start.Accumulator volume rate)) h = refl
  begun_kind (read.Conflicted cell) None h = refl
  begun_kind (read.Conflicted cell) (Some (start.Counter number)) h = refl
  begun_kind (read.Conflicted cell) (Some (start.Register kind value)) h = refl
  begun_kind (read.Conflicted cell) (Some (start.Accumulator volume rate)) h = refl
  begun_kind (read.Volume cell) None h = refl
  begun_kind (read.Volume cell) (Some (start.Counter number)) h = refl
  begun_kind (read.Volume cell) (Some (start.Register kind value)) h = refl
  begun_kind (read.Volume cell) (Some (start.Accumulator volume rate)) h = refl
  begun_kind (read.Rate cell) None h = refl
  begun_kind (read.Rate cell) (Some (start.Counter number)) h = refl
  begun_kind (read.Rate cell) (Some (start.Register kind value)) h = refl
  begun_kind (read.Rate cell) (Some (start.Accumulator volume rate)) h = refl

  read_is : (what : CellRead) (cells : NamedCells) → kind_at what (cell_start_at cells (cell_of what)) ≡ read_kind cells what
  read_is (read.Counter cell) cells = refl
  read_is (read.Register cell) cells = refl
  read_is (read.Conflicted cell) cells = refl
  read_is (read.Volume cell) cells = refl
  read_is (read.Rate cell) cells = refl

  abbrev begun : NamedCells → List CellState
  begun cells = map (λ cell. first_state cell.1) cells

  begun_at : (cells : NamedCells) (cell : ℕ) → slice_get (begun cells) cell ≡ option_map first_state (cell_start_at cells cell)
  begun_at [] cell = refl
  begun_at (one ∷ rest) zero = refl
  begun_at (one ∷ rest) (suc cell) = begun_at rest cell

  good_at : (cells : NamedCells) (cell : ℕ) → IsTrue (list_all (λ (one : Name × CellStart). is_cell model.enums one.1) cells) → IsGoodStart (cell_start_at cells cell)
  good_at [] cell h = tt
  good_at (one ∷ rest) zero h = (both_hold (is_cell model.enums one.1) (list_all (λ (other : Name × CellStart). is_cell model.enums other.1) rest) h).0
  good_at (one ∷ rest) (suc cell) h = good_at rest cell (both_hold (is_cell model.enums one.1) (list_all (λ (other : Name × CellStart). is_cell model.enums other.1) rest) h).1

  begun_length : (cells : NamedCells) → length (begun cells) ≡ length cells
  begun_length [] = refl
  begun_length (one ∷ rest) = ap suc (begun_length rest)

  pub start_cells : AreCellsOf model (initial model)
  start_cells = record {
    count = begun_length model.cells;
    kinds = λ what.
        ap (state_kind what) (begun_at model.cells (cell_of what)) ∙ begun_kind what (cell_start_at model.cells (cell_of what)) (good_at model.cells (cell_of what) good_cells)
        ∙ read_is what model.cells;
  }

  begins_in : (begins : CellStart) → IsTrue (is_cell model.enums begins) → is_in_range (first_state begins) ≡ true
  begins_in (start.Counter number) h = h
  begins_in (start.Register kind value) h = refl
  begins_in (start.Accumulator volume rate) h = h

  begun_in : (from : ℕ) (cells : NamedCells) → IsTrue (list_all (λ (one : Name × CellStart). is_cell model.enums one.1) cells) → first_out_from from (begun cells) ≡ None
  begun_in from [] h = refl
  begun_in from (one ∷ rest) h =
      let parts = both_hold (is_cell model.enums one.1) (list_all (λ (other : Name × CellStart). is_cell model.enums other.1) rest) h in
      let good : is_in_range (first_state one.1) ≡ true = begins_in one.1 parts.0 in
      rw good (begun_in (from + 1) rest parts.1)

  pub start_in_range : AreInRange (initial model)
  start_in_range = begun_in 0 model.cells good_cells
