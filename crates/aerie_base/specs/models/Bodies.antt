-- The bodies that a model may have: what each statement names is there and of its type, and how much there is.
use Rattle.std.specs.Prelude.{ℕ, ◌&&◌, Bool, true, false, List, [], ◌∷◌, Option, Some, None, option_and_then, nat_eq, nat_le, length, map, slice_get}
use Rattle.aerie_base.specs.statements.Recursion.{stmt_gives}
use Rattle.aerie_base.specs.statements.Places.{block_count}
use Rattle.aerie_base.specs.declared.values.Kind.{Kind}
use Rattle.aerie_base.specs.declared.values.Kind.TheVariants.{Int, Truth}
use Rattle.aerie_base.specs.declared.operands.CellRead.TheVariants as read
use Rattle.aerie_base.specs.declared.expressions.Expr.{Expr}
use Rattle.aerie_base.specs.declared.statements.Emission.{Emission}
use Rattle.aerie_base.specs.declared.statements.Emission.TheVariants as emission
use Rattle.aerie_base.specs.declared.statements.Stmt.{Stmt}
use Rattle.aerie_base.specs.declared.statements.Stmt.TheOpen.{Stmt-F}
use Rattle.aerie_base.specs.declared.models.EnumType.{EnumType}
use Rattle.aerie_base.specs.models.Cells.{NamedCells, read_kind}
use Rattle.aerie_base.specs.models.Conditions.{is_condition}
use Rattle.aerie_base.specs.models.Depth.{body_depth}
use Rattle.aerie_base.specs.models.Expressions.{typed, is_kind_of}
use Rattle.aerie_base.specs.models.Limits.{depth_limit, local_limit, statement_limit}
use Rattle.aerie_base.specs.models.Scopes.{Scope, known, with_local, behind}
use Rattle.aerie_base.specs.models.Signatures.{Signature, signature_result}

-- what a body may name
pub record Setting : Type 0 where
  pub enums : List EnumType
  pub cells : NamedCells
  -- of the activity types that it may start
  pub signatures : List Signature
  -- how many of the slots are parameters
  pub parameters : ℕ
  -- the type of what the body returns, where it returns a value
  pub result : Option Kind

-- ---- statements

abbrev pub kind_in : Setting → Scope → Expr → Option Kind
kind_in setting scope = typed setting.enums (known scope) (read_kind setting.cells)

abbrev pub is_in : Setting → Scope → Expr → Kind → Bool
is_in setting scope expr kind = is_kind_of (kind_in setting scope expr) kind

-- the same scope, where a statement is as it should be
abbrev pub same_scope_if : Bool → Scope → Option Scope
same_scope_if true scope = Some scope
same_scope_if false scope = None

-- whether the type that is wanted is there, and the other one is it
abbrev pub is_wanted_kind : Option Kind → Option Kind → Bool
is_wanted_kind None found = false
is_wanted_kind (Some wanted) found = is_kind_of found wanted

-- an effect on a cell of its kind
abbrev pub is_emission : Setting → Scope → ℕ → Emission → Bool
is_emission setting scope cell (emission.Add by) =
    is_kind_of (read_kind setting.cells (read.Counter cell)) Int && is_in setting scope by Int
is_emission setting scope cell (emission.Set to) =
    is_wanted_kind (read_kind setting.cells (read.Register cell)) (kind_in setting scope to)
is_emission setting scope cell (emission.Volume by) =
    is_kind_of (read_kind setting.cells (read.Volume cell)) Int && is_in setting scope by Int
is_emission setting scope cell (emission.Rate by) =
    is_kind_of (read_kind setting.cells (read.Rate cell)) Int && is_in setting scope by Int

-- a value for each parameter, of its type
abbrev pub are_arguments : Setting → Scope → List Expr → List Kind → Bool
are_arguments setting scope [] [] = true
are_arguments setting scope [] (kind ∷ kinds) = false
are_arguments setting scope (argument ∷ arguments) [] = false
are_arguments setting scope (argument ∷ arguments) (kind ∷ kinds) =
    is_in setting scope argument kind && are_arguments setting scope arguments kinds

-- an activity type of the model, with its arguments
abbrev pub is_invoked : Setting → Scope → Option Signature → List Expr → Bool
is_invoked setting scope None arguments = false
is_invoked setting scope (Some signature) arguments = are_arguments setting scope arguments signature.parameters

-- the scope behind a call: a `let` takes the result, where the activity type has one
abbrev pub behind_call : Option ℕ → Option Kind → Scope → Option Scope
behind_call None result scope = Some scope
behind_call (Some slot) result scope = with_local slot result scope

-- the scope behind a statement, where the statement is as it should be
abbrev pub next_scope_if : Bool → Option Scope → Option Scope
next_scope_if true scope = scope
next_scope_if false scope = None

-- a value is assigned to a local of its type that is no parameter
abbrev pub is_assigned : Setting → Scope → ℕ → Expr → Bool
is_assigned setting scope slot value =
    nat_le setting.parameters slot && is_wanted_kind (known scope slot) (kind_in setting scope value)

-- a value is returned exactly where the activity has a result
abbrev pub is_returned : Setting → Scope → Option Expr → Option Kind → Bool
is_returned setting scope None None = true
is_returned setting scope None (Some result) = false
is_returned setting scope (Some value) None = false
is_returned setting scope (Some value) (Some result) = is_in setting scope value result

-- the scope behind a statement, by the scope in front of it, where all in the statement is as it should be
abbrev pub Checked : Type 0
Checked = Scope → Option Scope

abbrev pub in_turn : List (Stmt × Checked) → Checked
in_turn [] scope = Some scope
in_turn (stmt ∷ rest) scope = option_and_then (in_turn rest) (stmt.1 scope)

-- a block, behind which its locals are no longer known
abbrev pub in_block : List (Stmt × Checked) → Checked
in_block block scope = option_and_then (λ inner. Some (behind scope inner)) (in_turn block scope)

abbrev pub checked_step : Setting → Stmt-F (Stmt × Checked) → Checked
checked_step setting (Stmt-F.Let slot value) scope = with_local slot (kind_in setting scope value) scope
checked_step setting (Stmt-F.Assign slot value) scope = same_scope_if (is_assigned setting scope slot value) scope
checked_step setting (Stmt-F.Emit cell what) scope = same_scope_if (is_emission setting scope cell what) scope
checked_step setting (Stmt-F.Delay by) scope = same_scope_if (is_in setting scope by Int) scope
checked_step setting (Stmt-F.WaitUntil condition) scope =
    same_scope_if (is_condition setting.enums (known scope) (read_kind setting.cells) condition) scope
checked_step setting (Stmt-F.Spawn kind arguments) scope =
    same_scope_if (is_invoked setting scope (slice_get setting.signatures kind) arguments) scope
checked_step setting (Stmt-F.Call kind arguments into) scope =
    next_scope_if (is_invoked setting scope (slice_get setting.signatures kind) arguments)
    (behind_call into (signature_result (slice_get setting.signatures kind)) scope)
checked_step setting (Stmt-F.If test block other) scope =
    next_scope_if (is_in setting scope test Truth) (option_and_then (in_block other) (in_block block scope))
checked_step setting (Stmt-F.While test body) scope =
    next_scope_if (is_in setting scope test Truth) (in_block body scope)
checked_step setting (Stmt-F.Return value) scope = same_scope_if (is_returned setting scope value setting.result) scope

-- the scope behind a statement, where all in it is as it should be
unfoldable pub checked : Setting → Stmt → Checked
checked setting = stmt_gives Checked (checked_step setting)

-- the same of a block's statements
abbrev pub block_checked : Setting → List Stmt → Checked
block_checked setting [] scope = Some scope
block_checked setting (stmt ∷ rest) scope = option_and_then (block_checked setting rest) (checked setting stmt scope)

-- ---- bodies

-- whether there are so many slots at the end
abbrev pub has_slots : ℕ → Option Scope → Bool
has_slots slots None = false
has_slots slots (Some scope) = nat_eq slots (length scope) && nat_le slots local_limit

-- whether a body is as it should be, by the types of the parameters and the number of slots
unfoldable pub is_body : Setting → List Kind → ℕ → List Stmt → Bool
is_body setting parameters slots body =
    has_slots slots (block_checked setting body (map Some parameters))
    && nat_le (block_count body) statement_limit
    && nat_le (body_depth body) depth_limit
