-- Rules of a session's models.
use Rattle.std.specs.Prelude.{IsTrue, Bool, List, [], ◌∷◌}
use Rattle.std.specs.List.{list_all}
use Rattle.aerie_base.specs.declared.models.model.Parts.{Parts}
use Rattle.constraints.specs.OfModel.{is_constraint}
use Rattle.constraints.specs.declared.types.Constraint.{Constraint}
use Rattle.goals.specs.OfModel.{is_goal}
use Rattle.goals.specs.declared.types.Goal.{Goal}
use Rattle.seq_expand.specs.OfModel.{have_shifts}
use Rattle.seq_expand.specs.declared.rules.Sequencing.{Sequencing}
use Rattle.session_reader.specs.declared.session.ModelPart.{ModelPart}
use Rattle.session_judge.specs.declared.judged.JudgedSession.{JudgedSession}

-- for each part one entry, which belongs to it by a test
abbrev pub AreEach : {P A : Type 0} → (P → A → Bool) → List P → List A → Type 0
AreEach test [] [] = Unit {0}
AreEach test [] (rules ∷ more) = ⊥
AreEach test (part ∷ parts) [] = ⊥
AreEach test (part ∷ parts) (rules ∷ more) = IsTrue (test part rules) × AreEach test parts more

-- for each model one entry, which is of that model by a test
abbrev pub AreOfModels : {A : Type 0} → (Parts → A → Bool) → List ModelPart → List A → Type 0
AreOfModels test parts rules = AreEach (λ part. test part.model) parts rules

-- constraints of a model
abbrev pub are_constraints : Parts → List Constraint → Bool
are_constraints model constraints = list_all (is_constraint model) constraints

-- goals of a model
abbrev pub are_goals : Parts → List Goal → Bool
are_goals model goals = list_all (is_goal model) goals

-- rules whose commands lie near their spans, whatever the model
abbrev pub are_sendable : Parts → Sequencing → Bool
are_sendable model sequencing = list_all have_shifts sequencing.rules

-- the constraints of a judged session
abbrev pub HasConstraintsOfModels : JudgedSession → Type 0
HasConstraintsOfModels judged = AreOfModels are_constraints judged.session.models judged.constraints

-- its goals
abbrev pub HasGoalsOfModels : JudgedSession → Type 0
HasGoalsOfModels judged = AreOfModels are_goals judged.session.models judged.goals

-- its rules of sequences
abbrev pub HasSequencesOfModels : JudgedSession → Type 0
HasSequencesOfModels judged = AreOfModels are_sendable judged.session.models judged.sequences
