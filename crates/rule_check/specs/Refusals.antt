-- What is refused of rules: why a part of one is refused, and by which rank the first of several causes at one place is told.
use Rattle.std.specs.Prelude.{ℕ, zero, suc, List, [], ◌∷◌, ◌++◌, Option}
use Rattle.diagnostics.specs.declared.diagnostic.Diagnostic.{Diagnostic}
use Rattle.diagnostics.specs.Diagnostics.{noted_by, first_by}
use Rattle.rule_check.specs.declared.causes.WrongRule.{WrongRule}
use Rattle.rule_check.specs.declared.causes.WrongRule.TheVariants.{Unknown, Duplicate, WrongType, OutOfRange, TooMany, Invalid}

abbrev pub number_of_wrong : WrongRule → ℕ
number_of_wrong Unknown = 2
number_of_wrong Duplicate = 3
number_of_wrong WrongType = 4
number_of_wrong OutOfRange = 5
number_of_wrong (TooMany limit) = 6
number_of_wrong Invalid = 7

-- the first of what was found so far and more of them
abbrev pub noted : Option (Diagnostic WrongRule) → List (Diagnostic WrongRule) → Option (Diagnostic WrongRule)
noted = noted_by number_of_wrong

-- the first of them, where there is one
abbrev pub first_diagnostic : List (Diagnostic WrongRule) → Option (Diagnostic WrongRule)
first_diagnostic = first_by number_of_wrong

-- ---- of several parts

-- parts of which there may be so many more; nothing is refused of what stands behind the first beyond them
abbrev pub refusals_up_to : {A : Type 0} → (A → List (Diagnostic WrongRule)) → (A → List (Diagnostic WrongRule)) → ℕ → List A → List (Diagnostic WrongRule)
refusals_up_to one beyond room [] = []
refusals_up_to one beyond zero (part ∷ rest) = beyond part
refusals_up_to one beyond (suc room) (part ∷ rest) = one part ++ refusals_up_to one beyond room rest

-- the same of parts that are judged by those in front of them, behind others
abbrev pub refusals_in_turn : {A : Type 0} → (List A → A → List (Diagnostic WrongRule)) → (A → List (Diagnostic WrongRule)) → ℕ → List A → List A → List (Diagnostic WrongRule)
refusals_in_turn one beyond room others [] = []
refusals_in_turn one beyond zero others (part ∷ rest) = beyond part
refusals_in_turn one beyond (suc room) others (part ∷ rest) = one others part ++ refusals_in_turn one beyond room (others ++ part ∷ []) rest

-- what is refused of the one, or else of what may be judged only where nothing is refused of it
abbrev pub refusals_or : List (Diagnostic WrongRule) → List (Diagnostic WrongRule) → List (Diagnostic WrongRule)
refusals_or [] others = others
refusals_or (first ∷ rest) others = first ∷ rest
