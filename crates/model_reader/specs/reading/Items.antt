-- Reading the items of a model, with the limits of how many of each it has.
use Rattle.std.specs.Prelude.{ℕ, ◌+◌, Bool, List, [], ◌∷◌, ◌++◌, nat_le, Option, Some, None}
use Rattle.aerie_base.specs.models.Limits.{cell_limit, type_limit, parameter_limit, enum_limit, variant_limit, resource_limit, daemon_limit, require_limit}
use Rattle.readers.specs.declared.limits.Limit.TheVariants.{Cells, Types, Parameters, Enums, Variants, Resources, Daemons, Requires}
use Rattle.readers.specs.Lists.{listed_at, parenthesized_at, row_at}
use Rattle.readers.specs.Marks.{Mark}
use Rattle.aerie_text.specs.declared.sorts.Sort.TheVariants as sort
use Rattle.readers.specs.Parsed.{Parsed, parsed, failed, ◌>>=◌, next_is, next_is_one_of, is_one_of, chosen, limited, repeated, take_at}
use Rattle.model_reader.specs.declared.raw.expressions.RawExpr.{RawExpr}
use Rattle.model_reader.specs.declared.raw.items.RawItem.{RawItem}
use Rattle.model_reader.specs.declared.raw.items.RawItem.TheVariants as item
use Rattle.model_reader.specs.declared.raw.items.RawParameter.{RawParameter}
use Rattle.model_reader.specs.declared.raw.literals.RawLiteral.{RawLiteral}
use Rattle.model_reader.specs.declared.raw.literals.RawLiteralKind.TheVariants as literal
use Rattle.model_reader.specs.declared.raw.names.RawName.{RawName}
use Rattle.model_reader.specs.declared.raw.statements.RawStmt.{RawStmt}
use Rattle.model_reader.specs.declared.raw.types.RawType.{RawType}
use Rattle.model_reader.specs.declared.reading.declarations.Declarations.{Declarations}
use Rattle.model_reader.specs.declared.reading.declarations.ItemKind.{ItemKind}
use Rattle.model_reader.specs.declared.reading.declarations.ItemKind.TheVariants as kind
use Rattle.readers.specs.declared.lists.Most.{Most}
use Rattle.model_reader.specs.reading.Expressions.{expr_at}
use Rattle.model_reader.specs.reading.Literals.{int_at, literal_at}
use Rattle.model_reader.specs.reading.Names.{raw_name_at}
use Rattle.model_reader.specs.reading.Statements.{body_at}
use Rattle.model_reader.specs.reading.Types.{read_at, type_at}

-- ---- enumerations

-- how many variants an enumeration may have
abbrev pub most_variants : Option Most
most_variants = Some (record { count = variant_limit; limit = Variants })

-- "{" NAME { "," NAME } "}"
unfoldable pub variants_at : List Mark → Parsed (List RawName)
variants_at marks = do
  brace ← take_at sort.OpenBrace marks
  variants ← listed_at sort.Name most_variants raw_name_at brace.1
  close ← take_at sort.CloseBrace variants.1
  parsed variants.0 close.1

-- "enum" NAME "{" NAME { "," NAME } "}"
unfoldable pub enum_at : List Mark → Parsed RawItem
enum_at marks = do
  word ← take_at sort.Enum marks
  name ← raw_name_at word.1
  variants ← variants_at name.1
  parsed (item.Enum name.0 variants.0) variants.1

-- ---- cells

-- "counter" NAME "=" int ";"
unfoldable pub counter_at : List Mark → Parsed RawItem
counter_at marks = do
  word ← take_at sort.Counter marks
  name ← raw_name_at word.1
  equals ← take_at sort.Assign name.1
  start ← int_at equals.1
  end ← take_at sort.Semicolon start.1
  parsed (item.Counter name.0 start.0.1) end.1

-- "register" NAME ":" type "=" literal ";"
unfoldable pub register_at : List Mark → Parsed RawItem
register_at marks = do
  word ← take_at sort.Register marks
  name ← raw_name_at word.1
  colon ← take_at sort.Colon name.1
  kind ← type_at colon.1
  equals ← take_at sort.Assign kind.1
  start ← literal_at equals.1
  end ← take_at sort.Semicolon start.1
  parsed (item.Register name.0 kind.0 start.0) end.1

-- a whole number as a literal
unfoldable pub int_literal_at : List Mark → Parsed RawLiteral
int_literal_at marks = do
  number ← int_at marks
  parsed (record { at = number.0.0; what = literal.Number number.0.1 }) number.1

-- "accumulator" NAME "=" int "rate" int ";"
unfoldable pub accumulator_at : List Mark → Parsed RawItem
accumulator_at marks = do
  word ← take_at sort.Accumulator marks
  name ← raw_name_at word.1
  equals ← take_at sort.Assign name.1
  volume ← int_at equals.1
  rate_word ← take_at sort.Rate volume.1
  rate ← int_literal_at rate_word.1
  end ← take_at sort.Semicolon rate.1
  parsed (item.Accumulator name.0 volume.0.1 rate.0) end.1

-- ---- resources

-- "discrete" NAME "=" read ";"
unfoldable pub discrete_at : List Mark → Parsed RawItem
discrete_at marks = do
  word ← take_at sort.Discrete marks
  name ← raw_name_at word.1
  equals ← take_at sort.Assign name.1
  read ← read_at equals.1
  end ← take_at sort.Semicolon read.1
  parsed (item.Discrete name.0 read.0) end.1

-- "linear" NAME "=" expr ";"
unfoldable pub linear_at : List Mark → Parsed RawItem
linear_at marks = do
  word ← take_at sort.Linear marks
  name ← raw_name_at word.1
  equals ← take_at sort.Assign name.1
  sum ← expr_at equals.1
  end ← take_at sort.Semicolon sum.1
  parsed (item.Linear name.0 sum.0) end.1

-- ---- activities

-- "=" literal
unfoldable pub given_default_at : List Mark → Parsed (Option RawLiteral)
given_default_at marks = do
  equals ← take_at sort.Assign marks
  value ← literal_at equals.1
  parsed (Some value.0) value.1

-- [ "=" literal ]
unfoldable pub default_at : List Mark → Parsed (Option RawLiteral)
default_at marks = chosen (next_is sort.Assign marks) given_default_at (parsed None) marks

-- param = NAME ":" type [ "=" literal ]
unfoldable pub param_at : List Mark → Parsed RawParameter
param_at marks = do
  name ← raw_name_at marks
  colon ← take_at sort.Colon name.1
  kind ← type_at colon.1
  default ← default_at kind.1
  parsed (record { name = name.0; kind = kind.0; default = default.0 }) default.1

-- how many parameters an activity type may have
abbrev pub most_parameters : Option Most
most_parameters = Some (record { count = parameter_limit; limit = Parameters })

-- "(" [ param { "," param } ] ")"
unfoldable pub params_at : List Mark → Parsed (List RawParameter)
params_at marks = parenthesized_at sort.Name most_parameters param_at marks

-- "->" type
unfoldable pub given_result_at : List Mark → Parsed (Option RawType)
given_result_at marks = do
  arrow ← take_at sort.Arrow marks
  kind ← type_at arrow.1
  parsed (Some kind.0) kind.1

-- [ "->" type ]
unfoldable pub result_at : List Mark → Parsed (Option RawType)
result_at marks = chosen (next_is sort.Arrow marks) given_result_at (parsed None) marks

-- "require" expr ";"
unfoldable pub require_at : List Mark → Parsed RawExpr
require_at marks = do
  word ← take_at sort.Require marks
  condition ← expr_at word.1
  end ← take_at sort.Semicolon condition.1
  parsed condition.0 end.1

-- how many requirements an activity type may have
abbrev pub most_requires : Option Most
most_requires = Some (record { count = require_limit; limit = Requires })

-- { "require" expr ";" }
unfoldable pub requires_at : List Mark → Parsed (List RawExpr)
requires_at marks = row_at (sort.Require ∷ []) most_requires require_at marks

-- "{" { "require" expr ";" } { stmt } "}"
unfoldable pub activity_body_at : List Mark → Parsed (List RawExpr × List RawStmt)
activity_body_at marks = do
  brace ← take_at sort.OpenBrace marks
  conditions ← requires_at brace.1
  body ← body_at conditions.1
  close ← take_at sort.CloseBrace body.1
  parsed (conditions.0, body.0) close.1

-- "activity" NAME "(" [ param { "," param } ] ")" [ "->" type ] "{" { "require" expr ";" } { stmt } "}"
unfoldable pub activity_at : List Mark → Parsed RawItem
activity_at marks = do
  word ← take_at sort.Activity marks
  name ← raw_name_at word.1
  parameters ← params_at name.1
  result ← result_at parameters.1
  inner ← activity_body_at result.1
  parsed (item.Activity name.0 parameters.0 result.0 inner.0.0 inner.0.1) inner.1

-- "daemon" "{" { stmt } "}"
unfoldable pub daemon_at : List Mark → Parsed RawItem
daemon_at marks = do
  word ← take_at sort.Daemon marks
  brace ← take_at sort.OpenBrace word.1
  body ← body_at brace.1
  close ← take_at sort.CloseBrace body.1
  parsed (item.Daemon body.0) close.1

-- ---- items

-- no item yet
abbrev pub none_declared : Declarations
none_declared = record { items = []; enums = 0; cells = 0; resources = 0; types = 0; daemons = 0 }

-- how many there are of a kind
abbrev pub declared_count : ItemKind → Declarations → ℕ
declared_count kind.Enum d = d.enums
declared_count kind.Cell d = d.cells
declared_count kind.Resource d = d.resources
declared_count kind.Activity d = d.types
declared_count kind.Daemon d = d.daemons

-- how many there may be, and the limit that more of them pass
abbrev pub most_of : ItemKind → Most
most_of kind.Enum = record { count = enum_limit; limit = Enums }
most_of kind.Cell = record { count = cell_limit; limit = Cells }
most_of kind.Resource = record { count = resource_limit; limit = Resources }
most_of kind.Activity = record { count = type_limit; limit = Types }
most_of kind.Daemon = record { count = daemon_limit; limit = Daemons }

-- declarations and one more of a kind behind them
abbrev pub with_item : ItemKind → Declarations → RawItem → Declarations
with_item kind.Enum d last = record d { items = d.items ++ last ∷ []; enums = d.enums + 1 }
with_item kind.Cell d last = record d { items = d.items ++ last ∷ []; cells = d.cells + 1 }
with_item kind.Resource d last = record d { items = d.items ++ last ∷ []; resources = d.resources + 1 }
with_item kind.Activity d last = record d { items = d.items ++ last ∷ []; types = d.types + 1 }
with_item kind.Daemon d last = record d { items = d.items ++ last ∷ []; daemons = d.daemons + 1 }

-- counter | register | accumulator
unfoldable pub cell_at : List Mark → Parsed RawItem
cell_at marks =
    chosen (next_is sort.Counter marks) counter_at
    (chosen (next_is sort.Register marks) register_at accumulator_at) marks

-- discrete | linear
unfoldable pub resource_at : List Mark → Parsed RawItem
resource_at marks = chosen (next_is sort.Discrete marks) discrete_at linear_at marks

-- an item of a kind
abbrev pub kind_at : ItemKind → List Mark → Parsed RawItem
kind_at kind.Enum = enum_at
kind_at kind.Cell = cell_at
kind_at kind.Resource = resource_at
kind_at kind.Activity = activity_at
kind_at kind.Daemon = daemon_at

-- the same, behind the others
unfoldable pub declared_at : ItemKind → Declarations → List Mark → Parsed Declarations
declared_at kind d marks = do
  last ← kind_at kind marks
  parsed (with_item kind d last.0) last.1

-- the same, where the model may have one more of the kind
unfoldable pub iteration_at : ItemKind → Declarations → List Mark → Parsed Declarations
iteration_at kind d marks =
    let most = most_of kind in limited (nat_le most.count (declared_count kind d)) most.limit (declared_at kind d) marks

-- item, behind the others
unfoldable pub item_at : Declarations → List Mark → Parsed Declarations
item_at d marks =
    chosen (next_is sort.Enum marks) (iteration_at kind.Enum d)
    (chosen (next_is_one_of (sort.Counter ∷ sort.Register ∷ sort.Accumulator ∷ []) marks) (iteration_at kind.Cell d)
    (chosen (next_is_one_of (sort.Discrete ∷ sort.Linear ∷ []) marks) (iteration_at kind.Resource d)
    (chosen (next_is sort.Activity marks) (iteration_at kind.Activity d)
    (chosen (next_is sort.Daemon marks) (iteration_at kind.Daemon d) failed)))) marks

-- the mark begins an item
abbrev pub begins_item : Mark → Bool
begins_item =
    is_one_of
    (sort.Enum ∷ sort.Counter ∷ sort.Register ∷ sort.Accumulator ∷ sort.Discrete ∷ sort.Linear ∷ sort.Activity ∷ sort.Daemon ∷ [])

-- { item }
unfoldable pub items_at : List Mark → Parsed (List RawItem)
items_at marks = do
  d ← repeated begins_item item_at none_declared marks
  parsed d.0.items d.1
