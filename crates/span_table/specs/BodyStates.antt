-- What is known of a body after some frames.
use Rattle.std.specs.Prelude.{ℕ, Bool, true, false, not, ◌&&◌, List, Option, Some, None}
use Rattle.std.specs.List.{list_any}
use Rattle.aerie_base.specs.declared.values.Value.{Value}
use Rattle.run_data.specs.declared.frames.Status.{Status}
use Rattle.run_data.specs.Spans.{Timed, is_done, returned, is_of_path, body_ended, result_in}
use Rattle.span_table.specs.declared.body_states.BodyState.{BodyState}
use Rattle.span_table.specs.declared.body_states.BodyState.TheVariants.{Open, Over}

abbrev pub is_open_body : BodyState → Bool
is_open_body Open = true
is_open_body (Over result) = false

abbrev pub is_open_state : Option BodyState → Bool
is_open_state None = false
is_open_state (Some state) = is_open_body state

-- ---- by frames

abbrev pub state_if : Bool → Bool → Option Value → Option BodyState
state_if false ended result = None
state_if true false result = Some Open
state_if true true result = Some (Over result)

-- none where no frame is of the path
abbrev pub body_after : List Timed → List ℕ → Option BodyState
body_after frames path = state_if (list_any (is_of_path path) frames) (body_ended frames path) (result_in frames path)

-- whether the body of a path has begun and not ended
abbrev pub is_open_after : List Timed → List ℕ → Bool
is_open_after frames path = list_any (is_of_path path) frames && not (body_ended frames path)

-- ---- by one frame more

abbrev pub state_by : Bool → Option Value → BodyState
state_by true result = Over result
state_by false result = Open

-- the state of a body after a step of it that ended so; it ends once
abbrev pub noted_state : Option BodyState → Status → BodyState
noted_state (Some (Over result)) status = Over result
noted_state (Some Open) status = state_by (is_done status) (returned status)
noted_state None status = state_by (is_done status) (returned status)

-- what a body is known to have returned
abbrev pub known_result : Option BodyState → Option Value
known_result None = None
known_result (Some Open) = None
known_result (Some (Over result)) = result
