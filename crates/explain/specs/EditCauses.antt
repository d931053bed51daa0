-- Why a directive of the plan is not added, and why a text is no dataset.
use Rattle.std.specs.Prelude.{ℕ, ◌+◌, List, [], ◌∷◌, drop, None, if◌then◌else◌}
use Rattle.aerie_text.specs.Sorts.{same_sort}
use Rattle.aerie_text.specs.declared.sorts.Sort.TheVariants as sort
use Rattle.dataset_in.specs.declared.dataset_error.DatasetError.{DatasetError}
use Rattle.dataset_in.specs.declared.dataset_error.DatasetError.TheVariants as dataset
use Rattle.plan_edit.specs.declared.errors.EditError.{EditError}
use Rattle.plan_edit.specs.declared.errors.EditError.TheVariants as edit
use Rattle.explain.specs.Becauses.{about, about_line, of_line, plain}
use Rattle.explain.specs.Causes.{because_line, cause_line}
use Rattle.explain.specs.TypeCauses.{is_argument_given}
use Rattle.explain.specs.WordsOfTokens.{or_none, token_at_number}
use Rattle.explain.specs.declared.causes.Because.{Because}
use Rattle.explain.specs.declared.causes.Cause.{Cause}
use Rattle.explain.specs.declared.causes.Cause.TheVariants as cause
use Rattle.explain.specs.declared.sorted.SortedToken.{SortedToken}

-- the token before the first parenthesis, where the tokens follow this one: of a directive, its type
abbrev pub before_parenthesis : SortedToken → List SortedToken → SortedToken
before_parenthesis last [] = or_none None
before_parenthesis last (token ∷ later) = if same_sort sort.OpenParenthesis token.sort then last else before_parenthesis token later

-- the type of the directive whose `at` has this number
abbrev pub type_of_directive : List SortedToken → ℕ → SortedToken
type_of_directive tokens at = before_parenthesis (or_none None) (drop at tokens)

-- an argument that is given is wrong, one that is not is missing
abbrev pub argument_cause : List ℕ → List ℕ → List SortedToken → Cause
argument_cause bytes name directive =
    if is_argument_given bytes name (or_none None) directive then cause.BadArgument else cause.MissingArgument

abbrev pub argument_line : List ℕ → List SortedToken → ℕ → List ℕ → List ℕ
argument_line bytes tokens at parameter = cause_line parameter 0 (argument_cause bytes parameter (drop at tokens))

-- why the directive is not added whose `at` has this number
abbrev pub edit_line : List ℕ → List SortedToken → ℕ → EditError → List ℕ
edit_line bytes tokens at edit.NoDirective = because_line bytes (plain cause.OtherEdit)
edit_line bytes tokens at edit.UnknownType = because_line bytes (about (type_of_directive tokens at) cause.UnknownType)
edit_line bytes tokens at (edit.BadArgument parameter) = argument_line bytes tokens at parameter
edit_line bytes tokens at (edit.Invalid number) = because_line bytes (about_line (type_of_directive tokens at) cause.RequireNotMet (number + 1))
edit_line bytes tokens at edit.OutsidePlan = because_line bytes (plain cause.OutsidePlan)
edit_line bytes tokens at edit.TooMany = because_line bytes (plain cause.ManyDirectives)
edit_line bytes tokens at edit.NotAPlan = because_line bytes (plain cause.OtherEdit)
edit_line bytes tokens at edit.OutOfMemory = because_line bytes (plain cause.OtherEdit)
edit_line bytes tokens at edit.NoAnchor = because_line bytes (about (token_at_number tokens (at + 3)) cause.NoAnchor)
edit_line bytes tokens at edit.Cycle = because_line bytes (plain cause.AnchorCycle)
edit_line bytes tokens at (edit.Anchored by) = because_line bytes (plain cause.OtherEdit)

-- why a text is no dataset
abbrev pub fault_because : DatasetError → Because
fault_because dataset.NotADataset = plain cause.NotADataset
fault_because dataset.TooMany = plain cause.ManySegments
fault_because (dataset.BadSegment number) = of_line cause.BadSegment (number + 1)
fault_because dataset.OutOfMemory = plain cause.NotADataset
