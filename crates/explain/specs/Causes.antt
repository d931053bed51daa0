-- Why a text is refused, each cause with its sentence.
use Rattle.std.specs.Prelude.{◌≡◌, ℕ, ◌==◌, List, [], ◌∷◌, ◌++◌, codes, if◌then◌else◌, refl}
use Rattle.std.specs.Fmt.{decimal, digits}
use Rattle.aerie_text.specs.Marks.{slice_of}
use Rattle.explain.specs.Shown.{as_shown, shown_byte}
use Rattle.explain.specs.declared.causes.Because.{Because}
use Rattle.explain.specs.declared.causes.Cause.{Cause}
use Rattle.explain.specs.declared.causes.Cause.TheVariants as cause

-- the sentence of each cause: the table; in it `$` stands for a word of the text and `#` for a number
unfoldable pub template : Cause → List ℕ
template cause.TooLarge = codes "the session has more than 16777216 bytes: split it"
template cause.NotText = codes "this byte belongs to no character of UTF-8: save the file as UTF-8"
template cause.ByteOrderMark = codes "the file begins with a byte order mark: save it without one"
template cause.BadUnit = codes "`$` is no duration: the units are d, h, min, s, ms and us, the greater first"
template cause.LongNumber = codes "`$` is too large: a number is at most 1000000000000000000"
template cause.LongWord = codes "this word is too long: a word has at most 64 characters"
template cause.OpenQuote = codes "the text that begins here has no `\"` at its end, on the same line"
template cause.OpenBackquote = codes "the text that begins here has no backquote at its end"
template cause.NoToken = codes "`$` begins no word, number or symbol of the language"
template cause.Fraction = codes "`$` has a fraction, and numbers are whole: count in a smaller unit"
template cause.ReservedName = codes "`$` is a reserved word; a name is expected here"
template cause.ReservedValue = codes "`$` is a reserved word; a value or a name is expected here"
template cause.GroupedDigits = codes "the digits of a number stand together, without commas"
template cause.SpacedUnit = codes "`$` is two words: a duration has no space before its unit"
template cause.NoUnit = codes "`$` has no unit: write `$s`, `$min` or `$h`"
template cause.AnchorTime = codes "behind the id stands `+` and a duration, as `+ 0us`"
template cause.StartText = codes "a start stands in quotation marks, as `start \"2030-01-01T00:00:00Z\";`"
template cause.PlanBegins = codes "a plan begins with `start \"..\";` and then `duration ..;`"
template cause.WordOperator = codes "in a model `&&`, `||` and `!` are written, and not `$`"
template cause.SignOperator = codes "in rules `and`, `or` and `not` are written, and not `$`"
template cause.ElseIf = codes "behind `else` stands a block: write `else { if .. }`"
template cause.WaitUntil = codes "behind `wait` stands `until` and a condition; `delay` lets so much time pass"
template cause.CompareWanted = codes "`=` gives a local its value: two values are compared by `==`"
template cause.DeclaredByEqual = codes "a declaration is written with `=`, and not with `$`"
template cause.RegisterType = codes "a register has a type: write `register $: int = ..`, or another one"
template cause.AccumulatorRate = codes "an accumulator begins with a volume and a rate: write `rate 0` before the `;`"
template cause.CallWord = codes "an activity is begun by `call $(..)`, or by `spawn $(..)` beside this one"
template cause.MissingParentheses = codes "the arguments of `$` stand behind it in parentheses, also where there are none: write `$()`"
template cause.DirectiveAt = codes "a directive begins with `at` and its time, as `at 10min TYPE();`"
template cause.NamedArgument = codes "an argument is given by its name, as `NAME = VALUE`"
template cause.ParameterType = codes "a parameter has a type: write `$: int`, or another one"
template cause.NoCommand = codes "`$` begins no command: these are new, fork, drop, add, remove, move, set, load, show, simulate, schedule, merge and expand"
template cause.NoPart = codes "`$` begins no part of a model: these are enum, counter, register, accumulator, discrete, linear, activity and daemon"
template cause.NoSection = codes "`$` begins no section: these are model, from, plan, load, constraints, goals, sequence and client, in this order"
template cause.SectionOrder = codes "`$` does not stand here: the order is model, from, plan, load, constraints, goals, sequence, client"
template cause.NameWanted = codes "a name is expected here, and not `$`"
template cause.ValueWanted = codes "a value is expected here, and not `$`"
template cause.OpenBrace = codes "a `}` is missing: the `{` of line # is not closed"
template cause.ClosesNothing = codes "this `}` closes nothing: there is one too many, or a `{` is missing before it"
template cause.MissingSemicolon = codes "`$` is not expected here: a `;` may be missing at the end of line #"
template cause.EndsTooEarly = codes "the text ends here, and more is expected"
template cause.MoreExpected = codes "more is expected here"
template cause.Unexpected = codes "`$` is not expected here"
template cause.NoStart = codes "`$` is no time: it has the form YYYY-MM-DDThh:mm:ss or YYYY-DDDThh:mm:ss, and exists"
template cause.SameClient = codes "a client of line # is called `$` too: give each a name of its own"
template cause.UnknownVariant = codes "`$` names no variant of this enumeration"
template cause.UnknownParameter = codes "`$` names no parameter of this activity type"
template cause.UnknownType = codes "`$` names no activity type"
template cause.UnknownModel = codes "`$` names no model"
template cause.UnknownKind = codes "`$` names no type: these are int, duration, truth and the enumerations of the model"
template cause.UnknownCell = codes "`$` names no cell and no local that is known here"
template cause.UnknownConstraint = codes "`$` names no constraint"
template cause.CellForResource = codes "`$` is a cell, and a resource is wanted here: declare one, as `discrete $ = $;` or `linear $ = $.volume;`"
template cause.ResourceForCell = codes "`$` is a resource, and here cells, locals and parameters are read"
template cause.RequireReads = codes "`$` is no parameter, and a `require` reads parameters alone"
template cause.UnknownName = codes "`$` names nothing that may stand here"
template cause.SecondTime = codes "`$` stands here a second time: the first is on line #"
template cause.NameTaken = codes "`$` is the name of something else already"
template cause.WrongReturn = codes "a `return` has a value exactly in activities with a result type"
template cause.NoReturn = codes "`$` has a result type, so its last statement has to be a `return` with a value"
template cause.CounterChange = codes "`$` is a counter: it is changed by `$ += ..`"
template cause.RegisterChange = codes "`$` is a register: it is set by `$ := ..`"
template cause.AccumulatorChange = codes "`$` is an accumulator: it is changed by `$.volume += ..` and `$.rate += ..`"
template cause.LocalChange = codes "`$` is no cell that is changed so: a local is given a value by `=`, a parameter never"
template cause.MissingArgument = codes "the argument `$` is missing: its parameter has no default"
template cause.TruthWanted = codes "a truth is wanted here, and `$` begins a value of another type"
template cause.NumberWanted = codes "a whole number is wanted here, and `$` begins a value of another type"
template cause.TruthGiven = codes "`$` is a truth, and a value of another type is wanted here"
template cause.NumberGiven = codes "`$` is a number, and a value of another type is wanted here"
template cause.ArgumentType = codes "the value of `$` is not of the type of that parameter"
template cause.OtherType = codes "`$` is not of the type or kind that is wanted here"
template cause.NotLinear = codes "`$` stands in no sum of reads, each with a number in front at most: compute it before, with `let`"
template cause.RateRange = codes "a rate is from -1000000000000 to 1000000000000"
template cause.EveryRange = codes "an `every` is at least 1us"
template cause.CountRange = codes "a count is from 1 to 10000"
template cause.RangeEnd = codes "a range ends behind its beginning, and at the plan's end at most"
template cause.ToRange = codes "this `to` is below its `from`"
template cause.CoefficientRange = codes "a coefficient is from -1000000 to 1000000"
template cause.RequireOfGoal = codes "the arguments of `$` do not meet a `require` of its type"
template cause.DirectiveNumber = codes "directive # of the plan cannot be added:"
template cause.BadArgument = codes "the argument `$` is given twice, is of another type, or names no parameter"
template cause.RequireNotMet = codes "the arguments of `$` do not meet `require` # of its type"
template cause.OutsidePlan = codes "it begins outside the plan: choose an earlier start, or a longer `duration`"
template cause.ManyDirectives = codes "a plan has at most 65536 directives"
template cause.NoAnchor = codes "the plan has no directive `$` to hang on: ids count the directives from 1"
template cause.AnchorCycle = codes "following its anchor leads back to it: give it a time of its own"
template cause.OtherEdit = codes "it is no directive of this plan"
template cause.DatasetNumber = codes "dataset # is no series:"
template cause.NotADataset = codes "its text is no object of a `kind` and a list of `segments` alone"
template cause.ManySegments = codes "a dataset has at most 10000 segments"
template cause.BadSegment = codes "segment #: the first begins at 0, each later one behind the one before, with values of the kind"
template cause.ManyCells = codes "a model has at most 256 cells"
template cause.ManyTypes = codes "a model has at most 256 activity types"
template cause.ManyParameters = codes "an activity type has at most 16 parameters"
template cause.ManyLocals = codes "a body has at most 64 locals, parameters included: split the activity"
template cause.ManyStatements = codes "a body has at most 4096 statements: split the activity"
template cause.ManyEnums = codes "a model has at most 64 enumerations"
template cause.ManyVariants = codes "an enumeration has at most 256 variants"
template cause.ManyResources = codes "a model has at most 256 resources"
template cause.ManyDaemons = codes "a model has at most 64 daemons"
template cause.ManyRequires = codes "an activity type has at most 64 `require`s"
template cause.TooDeep = codes "at most 64 blocks, operators and parentheses stand inside one another: split it, with `let`"
template cause.ManyTerms = codes "a sum has at most 16 terms: compute a part before, with `let`"
template cause.ManyConstraints = codes "a model has at most 256 constraints"
template cause.ManyGoals = codes "a model has at most 64 goals"
template cause.ManyClients = codes "a session has at most 16 clients"
template cause.ManyCommands = codes "a client has at most 4096 commands"
template cause.ManyModels = codes "a session has at most 4 models"
template cause.ManyMappings = codes "a session has at most 16 mappings"
template cause.ManyDatasets = codes "a session has at most 64 datasets"
template cause.ManyRules = codes "the sequence sections have at most 256 rules"
template cause.ManySteps = codes "a sequence rule has at most 64 steps"
template cause.ManyWords = codes "a step has at most 16 words"
template cause.Refused = codes "the session is refused here"

-- what stands for a byte of a template
abbrev pub part_of_template : List ℕ → ℕ → ℕ → List ℕ
part_of_template word number byte =
    if byte == 36 then as_shown word
    else if byte == 35 then decimal number
    else shown_byte byte ∷ []

-- a template with its word and its number
abbrev pub filled_sentence : List ℕ → ℕ → List ℕ → List ℕ
filled_sentence word number [] = []
filled_sentence word number (byte ∷ rest) = part_of_template word number byte ++ filled_sentence word number rest

-- the line that tells a cause
abbrev pub cause_line : List ℕ → ℕ → Cause → List ℕ
cause_line word number cause = codes "  " ++ filled_sentence word number (template cause) ++ codes "\n"

-- the line that tells why a text is refused
abbrev pub because_line : List ℕ → Because → List ℕ
because_line bytes because = cause_line (slice_of bytes because.from because.to) because.number because.cause

-- ---- worked cases

pub not_expected : cause_line (codes ";") 0 cause.Unexpected ≡ codes "  `;` is not expected here\n"
unfolding template
not_expected = refl

pub a_brace_is_missing : cause_line [] 12 cause.OpenBrace ≡ codes "  a `}` is missing: the `{` of line 12 is not closed\n"
unfolding template digits
a_brace_is_missing = refl
