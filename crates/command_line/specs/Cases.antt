-- Worked cases of command lines.
use Rattle.std.specs.Prelude.{◌≡◌, true, false, [], ◌∷◌, Some, None, codes, refl}
use Rattle.command_line.specs.Grammar.{parts_from}
use Rattle.command_line.specs.Invocations.{invocation_of}
use Rattle.command_line.specs.declared.invocation.Invocation.{Invocation}
use Rattle.command_line.specs.declared.invocation.Mode.{Mode}
use Rattle.command_line.specs.declared.invocation.Mode.TheVariants.{Run, Check, Make}

-- a mode alone
abbrev alone : Mode → Invocation
alone mode = record { mode = mode; limit = 1_000_000; pieces = 4; serial = false; stats = false; explain = false; detail = false }

pub a_mode : invocation_of (codes "run" ∷ []) ≡ Some (alone Run)
unfolding invocation_of parts_from
a_mode = refl

pub options_in_any_order :
    invocation_of (codes "--pieces=64" ∷ codes "--serial" ∷ codes "check" ∷ codes "--limit" ∷ codes "+0065" ∷ []) ≡
    Some (record (alone Check) { limit = 65; pieces = 64; serial = true })
unfolding invocation_of parts_from
options_in_any_order = refl

pub a_session_is_made : invocation_of (codes "--text" ∷ codes "--number=300" ∷ codes "make" ∷ codes "--stats" ∷ []) ≡
    Some (record (alone (Make 300 true)) { stats = true })
unfolding invocation_of parts_from
a_session_is_made = refl

pub a_refusal_is_explained : invocation_of (codes "check" ∷ codes "--explain" ∷ []) ≡ Some (record (alone Check) { explain = true })
unfolding invocation_of parts_from
a_refusal_is_explained = refl

pub reports_in_detail : invocation_of (codes "--detail" ∷ codes "run" ∷ codes "--explain" ∷ []) ≡
    Some (record (alone Run) { explain = true; detail = true })
unfolding invocation_of parts_from
reports_in_detail = refl

pub the_mode_behind_hyphens : invocation_of (codes "--limit" ∷ codes "9" ∷ codes "--" ∷ codes "run" ∷ []) ≡
    Some (record (alone Run) { limit = 9 })
unfolding invocation_of parts_from
the_mode_behind_hyphens = refl

pub nothing_behind_hyphens : invocation_of (codes "run" ∷ codes "--" ∷ []) ≡ Some (alone Run)
unfolding invocation_of parts_from
nothing_behind_hyphens = refl

-- ---- words that are in no grammar

pub no_option_behind_hyphens : invocation_of (codes "run" ∷ codes "--" ∷ codes "--serial" ∷ []) ≡ None
unfolding invocation_of parts_from
no_option_behind_hyphens = refl

pub no_mode : invocation_of (codes "--serial" ∷ []) ≡ None
unfolding invocation_of parts_from
no_mode = refl

pub two_modes : invocation_of (codes "run" ∷ codes "check" ∷ []) ≡ None
unfolding invocation_of parts_from
two_modes = refl

pub a_mode_in_capitals : invocation_of (codes "Run" ∷ []) ≡ None
unfolding invocation_of parts_from
a_mode_in_capitals = refl

pub no_help : invocation_of (codes "run" ∷ codes "--help" ∷ []) ≡ None
unfolding invocation_of parts_from
no_help = refl

pub no_short_option : invocation_of (codes "run" ∷ codes "-s" ∷ []) ≡ None
unfolding invocation_of parts_from
no_short_option = refl

pub a_name_in_part : invocation_of (codes "run" ∷ codes "--lim" ∷ codes "1" ∷ []) ≡ None
unfolding invocation_of parts_from
a_name_in_part = refl

pub a_flag_twice : invocation_of (codes "run" ∷ codes "--stats" ∷ codes "--stats" ∷ []) ≡ None
unfolding invocation_of parts_from
a_flag_twice = refl

pub an_option_twice : invocation_of (codes "run" ∷ codes "--limit" ∷ codes "1" ∷ codes "--limit=1" ∷ []) ≡ None
unfolding invocation_of parts_from
an_option_twice = refl

pub a_flag_with_a_value : invocation_of (codes "run" ∷ codes "--serial=true" ∷ []) ≡ None
unfolding invocation_of parts_from
a_flag_with_a_value = refl

pub an_option_without_a_value : invocation_of (codes "run" ∷ codes "--limit" ∷ []) ≡ None
unfolding invocation_of parts_from
an_option_without_a_value = refl

pub an_option_with_nothing : invocation_of (codes "--limit=" ∷ codes "9" ∷ codes "run" ∷ []) ≡ None
unfolding invocation_of parts_from
an_option_with_nothing = refl

pub below_the_limit : invocation_of (codes "run" ∷ codes "--limit" ∷ codes "0" ∷ []) ≡ None
unfolding invocation_of parts_from
below_the_limit = refl

pub the_greatest_limit : invocation_of (codes "run" ∷ codes "--limit" ∷ codes "100000000" ∷ []) ≡
    Some (record (alone Run) { limit = 100_000_000 })
unfolding invocation_of parts_from
the_greatest_limit = refl

pub past_the_limit : invocation_of (codes "run" ∷ codes "--limit" ∷ codes "100000001" ∷ []) ≡ None
unfolding invocation_of parts_from
past_the_limit = refl

pub too_many_pieces : invocation_of (codes "run" ∷ codes "--pieces" ∷ codes "65" ∷ []) ≡ None
unfolding invocation_of parts_from
too_many_pieces = refl

pub the_greatest_session : invocation_of (codes "make" ∷ codes "--number" ∷ codes "20000" ∷ []) ≡
    Some (alone (Make 20_000 false))
unfolding invocation_of parts_from
the_greatest_session = refl

pub too_great_a_session : invocation_of (codes "make" ∷ codes "--number" ∷ codes "20001" ∷ []) ≡ None
unfolding invocation_of parts_from
too_great_a_session = refl

pub a_number_without_make : invocation_of (codes "check" ∷ codes "--number" ∷ codes "5" ∷ []) ≡ None
unfolding invocation_of parts_from
a_number_without_make = refl

pub make_without_a_number : invocation_of (codes "make" ∷ codes "--text" ∷ []) ≡ None
unfolding invocation_of parts_from
make_without_a_number = refl

pub a_text_without_make : invocation_of (codes "run" ∷ codes "--text" ∷ []) ≡ None
unfolding invocation_of parts_from
a_text_without_make = refl

pub no_detail_without_a_run : invocation_of (codes "check" ∷ codes "--detail" ∷ []) ≡ None
unfolding invocation_of parts_from
no_detail_without_a_run = refl

pub nothing_is_explained_with_make : invocation_of (codes "make" ∷ codes "--number=9" ∷ codes "--explain" ∷ []) ≡ None
unfolding invocation_of parts_from
nothing_is_explained_with_make = refl

pub a_number_with_a_letter : invocation_of (codes "run" ∷ codes "--limit" ∷ codes "1x" ∷ []) ≡ None
unfolding invocation_of parts_from
a_number_with_a_letter = refl

pub a_number_with_a_minus : invocation_of (codes "run" ∷ codes "--limit=-1" ∷ []) ≡ None
unfolding invocation_of parts_from
a_number_with_a_minus = refl
