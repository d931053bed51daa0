-- The generated session: one spacecraft, so many directives spread evenly over a week, constraints, goals and three clients.
use Rattle.std.specs.Prelude.{◌≡◌, ℕ, zero, suc, ◌*◌, ◌/◌, ◌%◌, List, [], ◌∷◌, ◌++◌, codes, slice_index_or, if◌then◌else◌, nat_eq, refl}
use Rattle.std.specs.Fmt.{decimal, digits}

-- ---- the model, and the plan up to its directives

abbrev pub head : List ℕ
head =
    codes "model orbiter {\n"
    ++ codes "  enum Mode { SAFE, NOMINAL }\n"
    ++ codes "  register mode: Mode = Mode.NOMINAL;\n"
    ++ codes "  register pointing: int = 0;\n"
    ++ codes "  counter images = 0;\n"
    ++ codes "  counter heaters = 0;\n"
    ++ codes "  counter passes = 0;\n"
    ++ codes "  accumulator storage = 0 rate 0;\n"
    ++ codes "  accumulator energy = 20000000000000 rate -20;\n"
    ++ codes "  counter alarms = 0;\n"
    ++ codes "  counter power = 20;\n"
    ++ codes "  discrete mode = mode;\n"
    ++ codes "  discrete pointing = pointing;\n"
    ++ codes "  discrete torn = pointing.conflicted;\n"
    ++ codes "  discrete images = images;\n"
    ++ codes "  discrete heaters = heaters;\n"
    ++ codes "  discrete power = power;\n"
    ++ codes "  linear storage = storage.volume;\n"
    ++ codes "  linear energy = energy.volume;\n"
    ++ codes "  activity Slew(target: int = 0) { power += 30; delay 2min; pointing := target; power += -30; }\n"
    ++ codes "  activity Image(size: int = 5) { power += 15; storage.rate += size; delay 1min; storage.rate += -size; power += -15; images += 1; }\n"
    ++ codes "  activity ImageSet(shots: int = 3) { let k = 0; while k < shots { call Image(); k = k + 1; } }\n"
    ++ codes "  activity HeaterOn() { heaters += 1; power += 10; }\n"
    ++ codes "  activity HeaterOff() { if heaters > 0 { heaters += -1; power += -10; } }\n"
    ++ codes "  activity Downlink() { storage.rate += -10; delay 1min; storage.rate += 10; passes += 1; }\n"
    ++ codes "  activity Charge() { energy.rate += 50; delay 10min; energy.rate += -50; }\n"
    ++ codes "  activity Calibrate() -> int { delay 30s; return pointing; }\n"
    ++ codes "  activity SafeCheck() { let p = call Calibrate(); if p < 0 { mode := Mode.SAFE; alarms += 1; } }\n"
    ++ codes "  activity Track(level: int = 0) { wait until images >= level; passes += 1; }\n"
    ++ codes "  activity Burst() { spawn Image(size = 1); spawn Image(size = 2); delay 1s; }\n"
    ++ codes "  activity Mark() { }\n"
    ++ codes "}\n"
    ++ codes "plan main {\n"
    ++ codes "  start \"2030-01-01T00:00:00Z\";\n"
    ++ codes "  duration 7d;\n"

-- ---- what stands behind the directives

abbrev pub tail : List ℕ
tail =
    codes "}\n"
    ++ codes "constraints {\n"
    ++ codes "  energy_ok: energy >= 0;\n"
    ++ codes "  storage_ok: storage >= 0;\n"
    ++ codes "  power_ok: power <= 100;\n"
    ++ codes "  apart: forbid Slew, Image;\n"
    ++ codes "  calm: for a in Downlink: not during(a) or heaters <= 1;\n"
    ++ codes "  steady: not torn;\n"
    ++ codes "}\n"
    ++ codes "goals {\n"
    ++ codes "  marks: cardinality Mark() count 10 in [0us, 7d);\n"
    ++ codes "  checks: coexistence Calibrate() for end of Charge from 0us to 2h keeping power_ok;\n"
    ++ codes "  beacon: recurrence Mark() every 6h in [0us, 7d) rollback;\n"
    ++ codes "}\n"
    ++ codes "client a { simulate main; schedule main; simulate main; }\n"
    ++ codes "client b { fork b1 from main; move b1 1 to 1s; simulate b1; }\n"
    ++ codes "client c { fork c1 from main; add c1 at 1h Mark(); simulate c1; simulate c1; }\n"

-- ---- the directives

-- the microseconds of the week for which the plan lasts
abbrev pub week : ℕ
week = 604_800_000_000

-- The activities in the order of the model; the twelve come one after another.
abbrev pub activities : List (List ℕ)
activities =
    codes "Slew" ∷ codes "Image" ∷ codes "ImageSet" ∷ codes "HeaterOn" ∷ codes "HeaterOff" ∷ codes "Downlink" ∷ codes "Charge"
    ∷ codes "Calibrate" ∷ codes "SafeCheck" ∷ codes "Track" ∷ codes "Burst" ∷ codes "Mark" ∷ []

-- what stands in the brackets: a Slew turns to the directive's position, the others have the model's defaults
abbrev pub arguments : ℕ → List ℕ
arguments position = if nat_eq (position % 12) 0 then codes "target = " ++ decimal position else []

-- the line of the directive at a position from 0, where directives follow one another after so many microseconds
abbrev pub directive : ℕ → ℕ → List ℕ
directive spacing position =
    codes "  at " ++ decimal (position * spacing) ++ codes "us " ++ slice_index_or activities (position % 12) [] ++ codes "("
    ++ arguments position ++ codes ");\n"

-- the lines of so many directives
abbrev pub directives : ℕ → ℕ → List ℕ
directives spacing zero = []
directives spacing (suc count) = directives spacing count ++ directive spacing count

-- the session with so many directives
abbrev pub session : ℕ → List ℕ
session number = head ++ directives (week / number) number ++ tail

-- ---- worked cases

pub a_slew_turns_to_its_place : directive (week / 300) 12 ≡ codes "  at 24192000000us Slew(target = 12);\n"
unfolding digits
a_slew_turns_to_its_place = refl

pub the_last_of_thirteen : directive (week / 13) 11 ≡ codes "  at 511753846153us Mark();\n"
unfolding digits
the_last_of_thirteen = refl
