-- Frames in order of path.
use Rattle.std.specs.Prelude.{◌≡◌, Bool, false, List, [], ◌∷◌}
use Rattle.std.specs.Ordering.{is_lt}
use Rattle.aerie_base.specs.Paths.{path_cmp}
use Rattle.run_data.specs.TaskFrames.{Frame}
use Rattle.run_data.specs.laws.Orders.{EachOf}

-- whether the path of a frame is before that of another
abbrev pub is_before : Frame → Frame → Bool
is_before frame other = is_lt (path_cmp frame.path other.path)

-- no frame is before one that it stands behind
abbrev pub AreByPath : List Frame → Type 0
AreByPath [] = Unit {0}
AreByPath (frame ∷ rest) = EachOf (λ other. is_before other frame ≡ false) rest × AreByPath rest
