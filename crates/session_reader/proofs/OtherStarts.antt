-- A model whose cells begin otherwise, with what cells of their kinds may begin with, is valid.
use Rattle.std.proofs.Common.{◌≡◌, ℕ, Bool, true, ◌&&◌, List, [], ◌∷◌, ◌++◌, Option, Some, None, is_some, option_and_then, slice_get, length, map, nat_le, nat_eq, IsTrue, refl, sym, ap, ◌∙◌}
use Rattle.std.specs.List.{list_all}
use Rattle.std.specs.Int.RustNames.{unsigned_abs}
use Rattle.aerie_base.specs.declared.models.Activity.{Activity}
use Rattle.aerie_base.specs.declared.models.CellStart.{CellStart}
use Rattle.aerie_base.specs.declared.models.Daemon.{Daemon}
use Rattle.aerie_base.specs.declared.models.EnumType.{EnumType}
use Rattle.aerie_base.specs.declared.models.Resource.{Resource}
use Rattle.aerie_base.specs.declared.models.Resource.TheVariants as resource
use Rattle.aerie_base.specs.declared.models.model.Parts.{Parts}
use Rattle.aerie_base.specs.declared.expressions.Expr.{Expr}
use Rattle.aerie_base.specs.declared.linear.Term.{Term}
use Rattle.aerie_base.specs.declared.operands.CellRead.{CellRead}
use Rattle.aerie_base.specs.declared.operands.CellRead.TheVariants as read
use Rattle.aerie_base.specs.declared.operands.Operand.{Operand}
use Rattle.aerie_base.specs.declared.operands.Operand.TheVariants as operand
use Rattle.aerie_base.specs.declared.statements.Emission.{Emission}
use Rattle.aerie_base.specs.declared.statements.Emission.TheVariants as emission
use Rattle.aerie_base.specs.declared.statements.Stmt.{Stmt}
use Rattle.aerie_base.specs.declared.statements.Stmt.TheOpen.{Stmt-F}
use Rattle.aerie_base.specs.declared.values.Kind.{Kind}
use Rattle.aerie_base.specs.declared.values.Kind.TheVariants.{Int, Truth}
use Rattle.aerie_base.specs.models.Activities.{are_parameters, are_requires, is_activity, is_daemon, is_result}
use Rattle.aerie_base.specs.models.Bodies.{Checked, Setting, are_arguments, behind_call, block_checked, checked, checked_step, has_slots, in_block, is_body, is_emission, is_in, is_invoked, is_returned, is_wanted_kind, kind_in, next_scope_if, same_scope_if}
use Rattle.aerie_base.specs.models.Cells.{NamedCells, read_kind}
use Rattle.aerie_base.specs.models.Conditions.{is_coefficient, is_condition}
use Rattle.aerie_base.specs.models.Depth.{body_depth}
use Rattle.aerie_base.specs.models.Expressions.{is_kind_of, typed}
use Rattle.aerie_base.specs.models.Limits.{daemon_limit, depth_limit, resource_limit, statement_limit, term_limit, type_limit}
use Rattle.aerie_base.specs.models.Names.{are_distinct}
use Rattle.aerie_base.specs.models.Resources.{is_resource, is_shown, is_summed}
use Rattle.aerie_base.specs.models.Scopes.{Scope, known, with_local}
use Rattle.aerie_base.specs.models.Signatures.{Signature, parameter_kinds, signature_result, signatures_of}
use Rattle.aerie_base.specs.models.ValidModel.{activity_names, cell_names, enum_names, has_good_activities, has_good_cells, has_good_daemons, has_good_enums, has_good_names, has_good_resources, resource_names, valid_model}
use Rattle.aerie_base.specs.models.ValidParts.{are_good}
use Rattle.aerie_base.specs.statements.Places.{block_count}
use Rattle.aerie_base.specs.statements.Recursion.{stmt_gives}

six_true : (a b c d e f : Bool) → a ≡ true → b ≡ true → c ≡ true → d ≡ true → e ≡ true → f ≡ true → (a && b && c && d && e && f) ≡ true
six_true a b c d e f is_a is_b is_c is_d is_e is_f = rw (is_a, is_b, is_c, is_d, is_e, is_f) refl

-- what reads of two lists of cells have is the same
abbrev pub HaveSameKinds : NamedCells → NamedCells → Type 0
HaveSameKinds cells others = (r : CellRead) → read_kind cells r ≡ read_kind others r

-- ---- bodies

module _ (enums : List EnumType) (cells others : NamedCells) (signatures : List Signature) (parameters : ℕ) (result : Option Kind) (same : HaveSameKinds cells others) where
  abbrev one : Setting
  one = record { enums = enums; cells = cells; signatures = signatures; parameters = parameters; result = result }

  abbrev other : Setting
  other = record { enums = enums; cells = others; signatures = signatures; parameters = parameters; result = result }

  kind_same : (scope : Scope) (expr : Expr) → kind_in one scope expr ≡ kind_in other scope expr
  kind_same scope expr = λ i. typed enums (known scope) (λ r. same r i) expr

  is_same : (scope : Scope) (expr : Expr) (kind : Kind) → is_in one scope expr kind ≡ is_in other scope expr kind
  is_same scope expr kind = λ i. is_kind_of (kind_same scope expr i) kind

  emission_same : (scope : Scope) (cell : ℕ) (what : Emission) → is_emission one scope cell what ≡ is_emission other scope cell what
  emission_same scope cell (emission.Add by) = λ i. is_kind_of (same (read.Counter cell) i) Int && is_same scope by Int i
  emission_same scope cell (emission.Set to) = λ i. is_wanted_kind (same (read.Register cell) i) (kind_same scope to i)
  emission_same scope cell (emission.Volume by) = λ i. is_kind_of (same (read.Volume cell) i) Int && is_same scope by Int i
  emission_same scope cell (emission.Rate by) = λ i. is_kind_of (same (read.Rate cell) i) Int && is_same scope by Int i

  arguments_same : (scope : Scope) (given : List Expr) (kinds : List Kind) → are_arguments one scope given kinds ≡ are_arguments other scope given kinds
  arguments_same scope [] [] = refl
  arguments_same scope [] (kind ∷ kinds) = refl
  arguments_same scope (argument ∷ arguments) [] = refl
  arguments_same scope (argument ∷ arguments) (kind ∷ kinds) = λ i. is_same scope argument kind i && arguments_same scope arguments kinds i

  invoked_same : (scope : Scope) (signature : Option Signature) (given : List Expr) → is_invoked one scope signature given ≡ is_invoked other scope signature given
  invoked_same scope None given = refl
  invoked_same scope (Some signature) given = arguments_same scope given signature.parameters

  returned_same : (scope : Scope) (value : Option Expr) (kind : Option Kind) → is_returned one scope value kind ≡ is_returned other scope value kind
  returned_same scope None None = refl
  returned_same scope None (Some kind) = refl
  returned_same scope (Some value) None = refl
  returned_same scope (Some value) (Some kind) = is_same scope value kind

  step_same : (step : Stmt-F (Stmt × Checked)) (scope : Scope) → checked_step one step scope ≡ checked_step other step scope
  step_same (Stmt-F.Let slot value) scope = λ i. with_local slot (kind_same scope value i) scope
  step_same (Stmt-F.Assign slot value) scope = λ i. same_scope_if (nat_le parameters slot && is_wanted_kind (known scope slot) (kind_same scope value i)) scope
  step_same (Stmt-F.Emit cell what) scope = λ i. same_scope_if (emission_same scope cell what i) scope
  step_same (Stmt-F.Delay by) scope = λ i. same_scope_if (is_same scope by Int i) scope
  step_same (Stmt-F.WaitUntil condition) scope = λ i. same_scope_if (is_condition enums (known scope) (λ r. same r i) condition) scope
  step_same (Stmt-F.Spawn kind arguments) scope = λ i. same_scope_if (invoked_same scope (slice_get signatures kind) arguments i) scope
  step_same (Stmt-F.Call kind arguments into) scope =
      λ i. next_scope_if (invoked_same scope (slice_get signatures kind) arguments i) (behind_call into (signature_result (slice_get signatures kind)) scope)
  step_same (Stmt-F.If test block rest) scope = λ i. next_scope_if (is_same scope test Truth i) (option_and_then (in_block rest) (in_block block scope))
  step_same (Stmt-F.While test body) scope = λ i. next_scope_if (is_same scope test Truth i) (in_block body scope)
  step_same (Stmt-F.Return value) scope = λ i. same_scope_if (returned_same scope value result i) scope

  statement_same : checked one ≡ checked other
  unfolding checked
  statement_same = λ i. stmt_gives Checked (λ step scope. step_same step scope i)

  block_same : (block : List Stmt) (scope : Scope) → block_checked one block scope ≡ block_checked other block scope
  block_same [] scope = refl
  block_same (stmt ∷ rest) scope = λ i. option_and_then (λ inner. block_same rest inner i) (statement_same i stmt scope)

  pub body_same : (kinds : List Kind) (slots : ℕ) (body : List Stmt) → is_body one kinds slots body ≡ is_body other kinds slots body
  unfolding is_body
  body_same kinds slots body =
      λ i. has_slots slots (block_same body (map Some kinds) i) && nat_le (block_count body) statement_limit && nat_le (body_depth body) depth_limit

-- ---- resources, activity types and daemons

module _ (cells others : NamedCells) (same : HaveSameKinds cells others) where
  summed_same : (what : Operand) → is_summed cells what ≡ is_summed others what
  summed_same (operand.Read (read.Counter c)) = ap is_some (same (read.Counter c))
  summed_same (operand.Read (read.Volume c)) = ap is_some (same (read.Volume c))
  summed_same (operand.Read (read.Register c)) = refl
  summed_same (operand.Read (read.Conflicted c)) = refl
  summed_same (operand.Read (read.Rate c)) = refl
  summed_same (operand.Local slot) = refl

  resource_same : (what : Resource) → is_resource cells what ≡ is_resource others what
  resource_same (resource.Discrete r) = λ i. is_shown r && is_some (same r i)
  resource_same (resource.Linear form) =
      λ i. nat_le 1 (length form.terms) && nat_le (length form.terms) term_limit
      && list_all (λ (term : Term). is_coefficient term && summed_same term.operand i) form.terms && nat_eq (unsigned_abs form.constant) 0

  activity_same : (enums : List EnumType) (signatures : List Signature) (taken : List (List ℕ)) (activity : Activity) →
      is_activity enums cells signatures taken activity ≡ is_activity enums others signatures taken activity
  unfolding is_activity
  activity_same enums signatures taken activity =
      λ i. are_parameters enums taken activity && are_requires enums activity && is_result enums activity.result activity.body
      && body_same enums cells others signatures (length activity.parameters) activity.result same (parameter_kinds activity) activity.slots activity.body i

  daemon_same : (enums : List EnumType) (signatures : List Signature) (daemon : Daemon) → is_daemon enums cells signatures daemon ≡ is_daemon enums others signatures daemon
  unfolding is_daemon
  daemon_same enums signatures daemon = body_same enums cells others signatures 0 None same [] daemon.slots daemon.body

-- ---- models

module _ (model : Parts) (others : NamedCells) (valid : IsTrue (valid_model model)) where
  abbrev pub with_cells : Parts
  with_cells = record model { cells = others }

  module _ (same : HaveSameKinds model.cells others) (names : map (λ (c : List ℕ × CellStart). c.0) others ≡ cell_names model) where
    names_good : IsTrue (has_good_names with_cells)
    unfolding has_good_names
    names_good =
        (λ i. are_distinct (enum_names model ++ names i ++ activity_names model) && are_distinct (resource_names model)) ∙ (are_good model valid).names

    resources_good : IsTrue (has_good_resources with_cells)
    unfolding has_good_resources
    resources_good =
        (λ i. nat_le (length model.resources) resource_limit && list_all (λ (r : List ℕ × Resource). sym (resource_same model.cells others same r.1) i) model.resources)
        ∙ (are_good model valid).resources

    activities_good : IsTrue (has_good_activities with_cells)
    unfolding has_good_activities
    activities_good =
        (λ i. nat_le (length model.activities) type_limit
        && list_all (λ (a : Activity). sym (activity_same model.cells others same model.enums (signatures_of model.activities) (enum_names model ++ names i) a) i) model.activities)
        ∙ (are_good model valid).activities

    daemons_good : IsTrue (has_good_daemons with_cells)
    unfolding has_good_daemons
    daemons_good =
        (λ i. nat_le (length model.daemons) daemon_limit
        && list_all (λ (d : Daemon). sym (daemon_same model.cells others same model.enums (signatures_of model.activities) d) i) model.daemons)
        ∙ (are_good model valid).daemons

    enums_good : IsTrue (has_good_enums with_cells)
    unfolding has_good_enums
    enums_good = (are_good model valid).enums

    pub valid_with : IsTrue (has_good_cells with_cells) → IsTrue (valid_model with_cells)
    unfolding valid_model
    valid_with cells_good =
        six_true (has_good_names with_cells) (has_good_enums with_cells) (has_good_cells with_cells) (has_good_resources with_cells) (has_good_activities with_cells) (has_good_daemons with_cells)
        names_good enums_good cells_good resources_good activities_good daemons_good
