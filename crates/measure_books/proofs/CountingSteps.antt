-- The counting model is valid, its steps are, and its cells stay of the model where the counter rises.
use Rattle.std.proofs.Common.{◌≡◌, ◌<◌, ◌≤◌, ◌^◌, ℕ, zero, suc, ℤ, pos, true, List, [], ◌∷◌, Option, Some, Ok, length, nat_le, slice_get, refl, sym, ap, subst, arith}
use Rattle.std.specs.Bool.{IsTrue}
use denote.Hole.Carrier.{hidden, shown, out}
use Rattle.aerie_base.specs.Ranges.{is_number, number_limit}
use Rattle.aerie_base.specs.declared.values.Value.TheVariants.{Int}
use Rattle.aerie_base.specs.declared.operands.CellRead.{CellRead}
use Rattle.aerie_base.specs.declared.operands.CellRead.TheVariants as read
use Rattle.aerie_base.specs.declared.models.model.Parts.{Parts}
use Rattle.aerie_base.specs.declared.statements.Stmt.{out-Stmt}
use Rattle.aerie_base.specs.declared.statements.Stmt.TheBlock.{hidden-the_row-Stmt-0, shape-the_row-Stmt-0, shown-the_row-Stmt-0}
use Rattle.aerie_base.specs.expressions.Arithmetic.{ValueOrFault, ranged}
use Rattle.aerie_base.specs.expressions.Evaluation.{evaluated}
use Rattle.aerie_base.specs.expressions.Typing.{kind_of}
use Rattle.aerie_base.specs.models.Activities.{is_daemon}
use Rattle.aerie_base.specs.models.Bodies.{checked, is_body}
use Rattle.aerie_base.specs.models.Cells.{read_kind}
use Rattle.aerie_base.specs.models.Depth.{stmt_depth}
use Rattle.aerie_base.specs.models.Expressions.{typed, has_literals, expr_depth}
use Rattle.aerie_base.specs.models.ValidModel.{valid_model, has_good_names, has_good_enums, has_good_cells, has_good_resources, has_good_activities, has_good_daemons}
use Rattle.aerie_base.specs.statements.Places.{count, left, lefts, size}
use Rattle.effect_cells.specs.declared.effects.CellState.{CellState}
use Rattle.effect_cells.specs.declared.effects.CellState.TheVariants.{Counter}
use Rattle.effect_cells.specs.declared.effects.Effect.TheVariants.{Add}
use Rattle.effect_cells.specs.Cells.{emitted}
use Rattle.effect_cells.specs.Reads.{kind_on}
use Rattle.run_data.specs.declared.tasks.BodyId.TheVariants as body
use Rattle.run_data.specs.declared.frames.Record.{Record}
use Rattle.run_data.specs.Jobs.{AreCellsOf}
use Rattle.run_data.specs.Records.{IsValid, stepped_record}
use Rattle.run_data.specs.StepStates.{assigned, paid, starting}
use Rattle.run_data.specs.Steps.{after, onward, step_of, steps, with_evaluated}
use Rattle.run_data.specs.TaskStates.{body_of}
use Rattle.measure_books.specs.Counting.{counting, counting_state, counting_step}

-- ---- the model

pub counting_is_valid : IsTrue (valid_model counting)
unfolding valid_model has_good_names has_good_enums has_good_cells has_good_resources has_good_activities has_good_daemons is_daemon is_body checked count stmt_depth typed has_literals expr_depth kind_of
counting_is_valid = refl

-- ---- cells

kind_of_counter : (number : ℤ) (what : CellRead) → kind_on (Counter number ∷ []) what ≡ read_kind counting.cells what
kind_of_counter number (read.Counter zero) = refl
kind_of_counter number (read.Counter (suc cell)) = refl
kind_of_counter number (read.Register zero) = refl
kind_of_counter number (read.Register (suc cell)) = refl
kind_of_counter number (read.Conflicted zero) = refl
kind_of_counter number (read.Conflicted (suc cell)) = refl
kind_of_counter number (read.Volume zero) = refl
kind_of_counter number (read.Volume (suc cell)) = refl
kind_of_counter number (read.Rate zero) = refl
kind_of_counter number (read.Rate (suc cell)) = refl

one_counter : (number : ℤ) → AreCellsOf counting (Counter number ∷ [])
one_counter number = record { count = refl; kinds = kind_of_counter number }

-- cells of the model are one counter
is_one_counter : (cells : List CellState) (number : ℤ) → length cells ≡ 1 → slice_get cells 0 ≡ Some (Counter number) → cells ≡ Counter number ∷ []
is_one_counter [] number count found = absurd (cc)
is_one_counter (cell ∷ []) number count found = cc
is_one_counter (cell ∷ other ∷ rest) number count found = absurd (cc)

-- where the counter rises, the cells are still of the model
pub risen_are_cells : (cells : List CellState) (number by : ℤ) → AreCellsOf counting cells → slice_get cells 0 ≡ Some (Counter number) →
    AreCellsOf counting (emitted cells 0 (Add by))
risen_are_cells cells number by are found =
    subst (λ (cells : List CellState). AreCellsOf counting (emitted cells 0 (Add by))) (sym (is_one_counter cells number are.count found)) (one_counter _)

-- so they are of a model that is this one
pub are_cells_of : (model : Parts) (cells : List CellState) → model ≡ counting → AreCellsOf counting cells → AreCellsOf model cells
are_cells_of model cells is are = subst (λ (model : Parts). AreCellsOf model cells) (sym is) are

-- ---- steps

-- the record, by the outcome of the read
recorded : (local number : ℕ) → ValueOrFault → Option Record
recorded local number outcome =
    stepped_record (counting_state local)
    (after (with_evaluated (paid (starting (Counter (pos number) ∷ []) (Int (pos local) ∷ []))) (outcome, true ∷ []) (λ value c. onward (assigned c 0 value))) (steps (body.Daemon 0) 0 []))

in_range : (number : ℤ) → is_number number ≡ true → ranged number ≡ Ok (Int number)
in_range number within = rw within refl

stepped : (local number : ℕ) → is_number (pos number) ≡ true →
    stepped_record (counting_state local) (step_of (body_of counting (body.Daemon 0)) (counting_state local) (Counter (pos number) ∷ []) 1)
    ≡ Some (counting_step local number)
unfolding left lefts size evaluated out-Stmt out shown hidden shown-the_row-Stmt-0 hidden-the_row-Stmt-0 shape-the_row-Stmt-0 recorded
stepped local number within = ap (recorded local number) (in_range (pos number) within)

is_at_most : (a b : ℕ) → a ≤ b → nat_le a b ≡ true
is_at_most a b h = grind arith

-- a number of 32 bits is in range
small_number : (number : ℕ) → number < 2 ^ 32 → is_number (pos number) ≡ true
small_number number small = is_at_most number number_limit (omega arith)

pub steps_are_valid : (local number : ℕ) → number < 2 ^ 32 → IsValid counting (counting_step local number)
steps_are_valid local number small view are agrees =
    subst (λ (cells : List CellState). stepped_record (counting_state local) (step_of (body_of counting (body.Daemon 0)) (counting_state local) cells 1) ≡ Some (counting_step local number))
    (sym (is_one_counter view (pos number) are.count agrees.0)) (stepped local number (small_number number small))
