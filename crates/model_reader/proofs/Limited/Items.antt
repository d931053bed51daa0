-- What is read of the declarations of a model is within the limits, and each kind has as many as it may.
use Rattle.std.proofs.Common.{◌≡◌, ℕ, ◌+◌, ◌<◌, ◌≤◌, List, [], ◌∷◌, ◌++◌, nat_le, refl, sym, ap, ◌∙◌, subst, arith}
use Rattle.std.proofs.lemmas.Bool.{leb-false}
use Rattle.std.specs.List.{AllByRecursion}
use Rattle.aerie_text.specs.declared.sorts.Sort.TheVariants as sort
use Rattle.readers.specs.Marks.{Mark}
use Rattle.readers.specs.Parsed.{next_is, next_is_one_of}
use Rattle.model_reader.specs.declared.raw.expressions.RawExpr.{RawExpr}
use Rattle.model_reader.specs.declared.raw.items.RawItem.{RawItem}
use Rattle.model_reader.specs.declared.raw.items.RawParameter.{RawParameter}
use Rattle.model_reader.specs.declared.raw.statements.RawStmt.{RawStmt}
use Rattle.model_reader.specs.declared.reading.declarations.Declarations.{Declarations}
use Rattle.model_reader.specs.declared.reading.declarations.ItemKind.{ItemKind}
use Rattle.model_reader.specs.declared.reading.declarations.ItemKind.TheVariants as kind
use Rattle.model_reader.specs.Limits.{CountNumbers, IsLimitedExpr, IsLimitedBody, IsLimitedDefault, IsLimitedItem, kind_of_item, one_where_same, count_of_kind}
use Rattle.model_reader.specs.reading.Items.{most_variants, variants_at, enum_at, counter_at, register_at, int_literal_at, accumulator_at, discrete_at, linear_at, given_default_at, default_at, param_at, most_parameters, params_at, given_result_at, result_at, require_at, most_requires, requires_at, activity_body_at, activity_at, daemon_at, none_declared, declared_count, most_of, with_item, cell_at, resource_at, kind_at, declared_at, iteration_at, item_at, begins_item, items_at}
use Rattle.model_reader.proofs.Limited.Keeping.{Nothing, Keeps, gives, fails, and_then, one_of_two, unless_over, take_keeps, repeated_keeps}
use Rattle.model_reader.proofs.Limited.Lists.{AreListed, AreSome, all_behind, listed_keeps, parenthesized_keeps, row_keeps}
use Rattle.model_reader.proofs.Limited.Literals.{InRange, raw_name_keeps, type_keeps, read_keeps, int_keeps, literal_keeps}
use Rattle.model_reader.proofs.Limited.Expressions.{expr_keeps}
use Rattle.model_reader.proofs.Limited.Statements.{body_keeps}

-- a declaration of a kind, within the limits
record IsOfKind (kind : ItemKind) (item : RawItem) : Type 0 where
  of : kind_of_item item ≡ kind
  limited : IsLimitedItem item

-- ---- enumerations

variants_keep : (marks : List Mark) → CountNumbers marks → Keeps (AreSome Nothing most_variants) (variants_at marks)
unfolding variants_at
variants_keep marks count =
    and_then _ (take_keeps sort.OpenBrace marks count) (λ brace rest unit left. and_then _ (listed_keeps raw_name_keeps sort.Name most_variants rest left)
    (λ variants behind are from. and_then _ (take_keeps sort.CloseBrace behind from) (λ close last unit_ after. gives are after)))

enum_keeps : (marks : List Mark) → CountNumbers marks → Keeps (IsOfKind kind.Enum) (enum_at marks)
unfolding enum_at
enum_keeps marks count =
    and_then _ (take_keeps sort.Enum marks count) (λ word rest unit left. and_then _ (raw_name_keeps rest left)
    (λ name behind unit_ from. and_then _ (variants_keep behind from) (λ variants last are after. let listed = are.listed in gives (record { of = refl; limited = (are.some, listed.few) }) after)))

-- ---- cells

counter_keeps : (marks : List Mark) → CountNumbers marks → Keeps (IsOfKind kind.Cell) (counter_at marks)
unfolding counter_at
counter_keeps marks count =
    and_then _ (take_keeps sort.Counter marks count) (λ word rest unit left. and_then _ (raw_name_keeps rest left) (λ name behind unit_ from. and_then _ (take_keeps sort.Assign behind from)
    (λ equals on unit__ further. and_then _ (int_keeps on further) (λ start last is after. and_then _ (take_keeps sort.Semicolon last after)
    (λ end over unit___ finally. gives (record { of = refl; limited = is }) finally)))))

register_keeps : (marks : List Mark) → CountNumbers marks → Keeps (IsOfKind kind.Cell) (register_at marks)
unfolding register_at
register_keeps marks count =
    and_then _ (take_keeps sort.Register marks count) (λ word rest unit left. and_then _ (raw_name_keeps rest left) (λ name behind unit_ from. and_then _ (take_keeps sort.Colon behind from)
    (λ colon on unit__ further. and_then _ (type_keeps on further) (λ type beyond unit___ there. and_then _ (take_keeps sort.Assign beyond there)
    (λ equals later unit____ then. and_then _ (literal_keeps later then) (λ start last is after. and_then _ (take_keeps sort.Semicolon last after)
    (λ end over unit_____ finally. gives (record { of = refl; limited = is }) finally)))))))

int_literal_keeps : (marks : List Mark) → CountNumbers marks → Keeps InRange (int_literal_at marks)
unfolding int_literal_at
int_literal_keeps marks count = and_then _ (int_keeps marks count) (λ number rest is left. gives is left)

accumulator_keeps : (marks : List Mark) → CountNumbers marks → Keeps (IsOfKind kind.Cell) (accumulator_at marks)
unfolding accumulator_at
accumulator_keeps marks count =
    and_then _ (take_keeps sort.Accumulator marks count) (λ word rest unit left. and_then _ (raw_name_keeps rest left) (λ name behind unit_ from. and_then _ (take_keeps sort.Assign behind from)
    (λ equals on unit__ further. and_then _ (int_keeps on further) (λ volume beyond is there. and_then _ (take_keeps sort.Rate beyond there)
    (λ rate_word later unit____ then. and_then _ (int_literal_keeps later then) (λ rate last also after. and_then _ (take_keeps sort.Semicolon last after)
    (λ end over unit_____ finally. gives (record { of = refl; limited = is }) finally)))))))

-- ---- resources

discrete_keeps : (marks : List Mark) → CountNumbers marks → Keeps (IsOfKind kind.Resource) (discrete_at marks)
unfolding discrete_at
discrete_keeps marks count =
    and_then _ (take_keeps sort.Discrete marks count) (λ word rest unit left. and_then _ (raw_name_keeps rest left) (λ name behind unit_ from. and_then _ (take_keeps sort.Assign behind from)
    (λ equals on unit__ further. and_then _ (read_keeps on further) (λ read last unit____ after. and_then _ (take_keeps sort.Semicolon last after)
    (λ end over unit___ finally. gives (record { of = refl; limited = tt }) finally)))))

linear_keeps : (marks : List Mark) → CountNumbers marks → Keeps (IsOfKind kind.Resource) (linear_at marks)
unfolding linear_at
linear_keeps marks count =
    and_then _ (take_keeps sort.Linear marks count) (λ word rest unit left. and_then _ (raw_name_keeps rest left) (λ name behind unit_ from. and_then _ (take_keeps sort.Assign behind from)
    (λ equals on unit__ further. and_then _ (expr_keeps on further) (λ sum last is after. and_then _ (take_keeps sort.Semicolon last after)
    (λ end over unit___ finally. gives (record { of = refl; limited = is }) finally)))))

-- ---- activities

given_default_keeps : (marks : List Mark) → CountNumbers marks → Keeps IsLimitedDefault (given_default_at marks)
unfolding given_default_at
given_default_keeps marks count =
    and_then _ (take_keeps sort.Assign marks count) (λ equals rest unit left. and_then _ (literal_keeps rest left) (λ value behind is from. gives is from))

default_keeps : (marks : List Mark) → CountNumbers marks → Keeps IsLimitedDefault (default_at marks)
unfolding default_at
default_keeps marks count = one_of_two (next_is sort.Assign marks) _ _ (given_default_keeps marks count) (gives tt count)

param_keeps : (marks : List Mark) → CountNumbers marks → Keeps (λ parameter. IsLimitedDefault parameter.default) (param_at marks)
unfolding param_at
param_keeps marks count =
    and_then _ (raw_name_keeps marks count) (λ name rest unit left. and_then _ (take_keeps sort.Colon rest left) (λ colon behind unit_ from. and_then _ (type_keeps behind from)
    (λ type on unit__ further. and_then _ (default_keeps on further) (λ default last is after. gives is after))))

abbrev AreParameters : List RawParameter → Type 0
AreParameters = AreListed (λ parameter. IsLimitedDefault parameter.default) most_parameters

params_keep : (marks : List Mark) → CountNumbers marks → Keeps AreParameters (params_at marks)
unfolding params_at
params_keep marks count = parenthesized_keeps param_keeps sort.Name most_parameters marks count

given_result_keeps : (marks : List Mark) → CountNumbers marks → Keeps Nothing (given_result_at marks)
unfolding given_result_at
given_result_keeps marks count = and_then _ (take_keeps sort.Arrow marks count) (λ arrow rest unit left. and_then _ (type_keeps rest left) (λ type behind unit_ from. gives tt from))

result_keeps : (marks : List Mark) → CountNumbers marks → Keeps Nothing (result_at marks)
unfolding result_at
result_keeps marks count = one_of_two (next_is sort.Arrow marks) _ _ (given_result_keeps marks count) (gives tt count)

require_keeps : (marks : List Mark) → CountNumbers marks → Keeps IsLimitedExpr (require_at marks)
unfolding require_at
require_keeps marks count =
    and_then _ (take_keeps sort.Require marks count) (λ word rest unit left. and_then _ (expr_keeps rest left)
    (λ condition behind is from. and_then _ (take_keeps sort.Semicolon behind from) (λ end last unit_ after. gives is after)))

requires_keep : (marks : List Mark) → CountNumbers marks → Keeps (AreListed IsLimitedExpr most_requires) (requires_at marks)
unfolding requires_at
requires_keep marks count = row_keeps require_keeps (sort.Require ∷ []) most_requires marks count

abbrev IsInner : List RawExpr × List RawStmt → Type 0
IsInner inner = AreListed IsLimitedExpr most_requires inner.0 × IsLimitedBody inner.1

activity_body_keeps : (marks : List Mark) → CountNumbers marks → Keeps IsInner (activity_body_at marks)
unfolding activity_body_at
activity_body_keeps marks count =
    and_then _ (take_keeps sort.OpenBrace marks count) (λ brace rest unit left. and_then _ (requires_keep rest left) (λ conditions behind are from. and_then _ (body_keeps behind from)
    (λ body last is after. and_then _ (take_keeps sort.CloseBrace last after) (λ close over unit_ finally. gives (are, is) finally))))

activity_keeps : (marks : List Mark) → CountNumbers marks → Keeps (IsOfKind kind.Activity) (activity_at marks)
unfolding activity_at
activity_keeps marks count =
    and_then _ (take_keeps sort.Activity marks count) (λ word rest unit left. and_then _ (raw_name_keeps rest left) (λ name behind unit_ from. and_then _ (params_keep behind from)
    (λ parameters on are further. and_then _ (result_keeps on further) (λ result last unit__ after. and_then _ (activity_body_keeps last after)
    (λ inner over is finally. let conditions = is.0 in gives (record { of = refl; limited = ((are.few, are.all), (conditions.few, conditions.all), is.1) }) finally)))))

daemon_keeps : (marks : List Mark) → CountNumbers marks → Keeps (IsOfKind kind.Daemon) (daemon_at marks)
unfolding daemon_at
daemon_keeps marks count =
    and_then _ (take_keeps sort.Daemon marks count) (λ word rest unit left. and_then _ (take_keeps sort.OpenBrace rest left) (λ brace behind unit_ from. and_then _ (body_keeps behind from)
    (λ body last is after. and_then _ (take_keeps sort.CloseBrace last after) (λ close over unit__ finally. gives (record { of = refl; limited = is }) finally))))

-- ---- items

cell_keeps : (marks : List Mark) → CountNumbers marks → Keeps (IsOfKind kind.Cell) (cell_at marks)
unfolding cell_at
cell_keeps marks count =
    one_of_two (next_is sort.Counter marks) _ _ (counter_keeps marks count) (one_of_two (next_is sort.Register marks) _ _ (register_keeps marks count) (accumulator_keeps marks count))

resource_keeps : (marks : List Mark) → CountNumbers marks → Keeps (IsOfKind kind.Resource) (resource_at marks)
unfolding resource_at
resource_keeps marks count = one_of_two (next_is sort.Discrete marks) _ _ (discrete_keeps marks count) (linear_keeps marks count)

kind_keeps : (of : ItemKind) (marks : List Mark) → CountNumbers marks → Keeps (IsOfKind of) (kind_at of marks)
kind_keeps kind.Enum marks count = enum_keeps marks count
kind_keeps kind.Cell marks count = cell_keeps marks count
kind_keeps kind.Resource marks count = resource_keeps marks count
kind_keeps kind.Activity marks count = activity_keeps marks count
kind_keeps kind.Daemon marks count = daemon_keeps marks count

-- what is counted is what there is of each kind, and as many as there may be
record AreCounted (d : Declarations) : Type 0 where
  counts : (of : ItemKind) → count_of_kind of d.items ≡ declared_count of d
  few : (of : ItemKind) → declared_count of d ≤ (most_of of).count
  limited : AllByRecursion IsLimitedItem d.items

none_counted : AreCounted none_declared
none_counted = record { counts = none; few = λ of. omega (arith, none of); limited = tt }
  where
    none : (of : ItemKind) → 0 ≡ declared_count of none_declared
    none kind.Enum = refl
    none kind.Cell = refl
    none kind.Resource = refl
    none kind.Activity = refl
    none kind.Daemon = refl

count_behind : (of : ItemKind) (items : List RawItem) (last : RawItem) → count_of_kind of (items ++ last ∷ []) ≡ count_of_kind of items + one_where_same of (kind_of_item last)
count_behind of [] last = omega arith
count_behind of (item ∷ items) last = omega (arith, count_behind of items last)

items_with : (of : ItemKind) (d : Declarations) (last : RawItem) → (with_item of d last).items ≡ d.items ++ last ∷ []
items_with kind.Enum d last = refl
items_with kind.Cell d last = refl
items_with kind.Resource d last = refl
items_with kind.Activity d last = refl
items_with kind.Daemon d last = refl

count_with : (of other : ItemKind) (d : Declarations) (last : RawItem) → declared_count of (with_item other d last) ≡ declared_count of d + one_where_same of other
count_with kind.Enum kind.Enum d last = omega arith
count_with kind.Enum kind.Cell d last = omega arith
count_with kind.Enum kind.Resource d last = omega arith
count_with kind.Enum kind.Activity d last = omega arith
count_with kind.Enum kind.Daemon d last = omega arith
count_with kind.Cell kind.Enum d last = omega arith
count_with kind.Cell kind.Cell d last = omega arith
count_with kind.Cell kind.Resource d last = omega arith
count_with kind.Cell kind.Activity d last = omega arith
count_with kind.Cell kind.Daemon d last = omega arith
count_with kind.Resource kind.Enum d last = omega arith
count_with kind.Resource kind.Cell d last = omega arith
count_with kind.Resource kind.Resource d last = omega arith
count_with kind.Resource kind.Activity d last = omega arith
count_with kind.Resource kind.Daemon d last = omega arith
count_with kind.Activity kind.Enum d last = omega arith
count_with kind.Activity kind.Cell d last = omega arith
count_with kind.Activity kind.Resource d last = omega arith
count_with kind.Activity kind.Activity d last = omega arith
count_with kind.Activity kind.Daemon d last = omega arith
count_with kind.Daemon kind.Enum d last = omega arith
count_with kind.Daemon kind.Cell d last = omega arith
count_with kind.Daemon kind.Resource d last = omega arith
count_with kind.Daemon kind.Activity d last = omega arith
count_with kind.Daemon kind.Daemon d last = omega arith

few_with : (of other : ItemKind) (d : Declarations) (last : RawItem) → declared_count of d ≤ (most_of of).count → declared_count other d < (most_of other).count
    → declared_count of (with_item other d last) ≤ (most_of of).count
few_with kind.Enum kind.Enum d last few free = omega (arith, few, free)
few_with kind.Enum kind.Cell d last few free = omega (arith, few, free)
few_with kind.Enum kind.Resource d last few free = omega (arith, few, free)
few_with kind.Enum kind.Activity d last few free = omega (arith, few, free)
few_with kind.Enum kind.Daemon d last few free = omega (arith, few, free)
few_with kind.Cell kind.Enum d last few free = omega (arith, few, free)
few_with kind.Cell kind.Cell d last few free = omega (arith, few, free)
few_with kind.Cell kind.Resource d last few free = omega (arith, few, free)
few_with kind.Cell kind.Activity d last few free = omega (arith, few, free)
few_with kind.Cell kind.Daemon d last few free = omega (arith, few, free)
few_with kind.Resource kind.Enum d last few free = omega (arith, few, free)
few_with kind.Resource kind.Cell d last few free = omega (arith, few, free)
few_with kind.Resource kind.Resource d last few free = omega (arith, few, free)
few_with kind.Resource kind.Activity d last few free = omega (arith, few, free)
few_with kind.Resource kind.Daemon d last few free = omega (arith, few, free)
few_with kind.Activity kind.Enum d last few free = omega (arith, few, free)
few_with kind.Activity kind.Cell d last few free = omega (arith, few, free)
few_with kind.Activity kind.Resource d last few free = omega (arith, few, free)
few_with kind.Activity kind.Activity d last few free = omega (arith, few, free)
few_with kind.Activity kind.Daemon d last few free = omega (arith, few, free)
few_with kind.Daemon kind.Enum d last few free = omega (arith, few, free)
few_with kind.Daemon kind.Cell d last few free = omega (arith, few, free)
few_with kind.Daemon kind.Resource d last few free = omega (arith, few, free)
few_with kind.Daemon kind.Activity d last few free = omega (arith, few, free)
few_with kind.Daemon kind.Daemon d last few free = omega (arith, few, free)

one_more_counted : (other : ItemKind) (d : Declarations) (last : RawItem) → declared_count other d < (most_of other).count → AreCounted d → IsOfKind other last → AreCounted (with_item other d last)
one_more_counted other d last free are is = record { counts = counts; few = few; limited = limited }
  where
    counts : (of : ItemKind) → count_of_kind of (with_item other d last).items ≡ declared_count of (with_item other d last)
    counts of =
        ap (count_of_kind of) (items_with other d last) ∙ count_behind of d.items last
        ∙ ap (λ (n : ℕ). n + one_where_same of (kind_of_item last)) (are.counts of) ∙ ap (λ (k : ItemKind). declared_count of d + one_where_same of k) is.of ∙ sym (count_with of other d last)

    few : (of : ItemKind) → declared_count of (with_item other d last) ≤ (most_of of).count
    few of = few_with of other d last (are.few of) free

    limited : AllByRecursion IsLimitedItem (with_item other d last).items
    limited = subst (AllByRecursion IsLimitedItem) (sym (items_with other d last)) (all_behind IsLimitedItem d.items last are.limited is.limited)

declared_keeps : (other : ItemKind) (d : Declarations) (marks : List Mark) → declared_count other d < (most_of other).count → AreCounted d → CountNumbers marks → Keeps AreCounted (declared_at other d marks)
unfolding declared_at
declared_keeps other d marks free are count = and_then _ (kind_keeps other marks count) (λ last rest is left. gives (one_more_counted other d last free are is) left)

iteration_keeps : (other : ItemKind) (d : Declarations) (marks : List Mark) → AreCounted d → CountNumbers marks → Keeps AreCounted (iteration_at other d marks)
unfolding iteration_at
iteration_keeps other d marks are count =
    unless_over (nat_le (most_of other).count (declared_count other d)) _ _ (λ free. declared_keeps other d marks (leb-false (most_of other).count (declared_count other d) free) are count)

item_keeps : (d : Declarations) (marks : List Mark) → AreCounted d → CountNumbers marks → Keeps AreCounted (item_at d marks)
unfolding item_at
item_keeps d marks are count =
    one_of_two (next_is sort.Enum marks) _ _ (iteration_keeps kind.Enum d marks are count)
    (one_of_two (next_is_one_of (sort.Counter ∷ sort.Register ∷ sort.Accumulator ∷ []) marks) _ _ (iteration_keeps kind.Cell d marks are count)
    (one_of_two (next_is_one_of (sort.Discrete ∷ sort.Linear ∷ []) marks) _ _ (iteration_keeps kind.Resource d marks are count)
    (one_of_two (next_is sort.Activity marks) _ _ (iteration_keeps kind.Activity d marks are count)
    (one_of_two (next_is sort.Daemon marks) _ _ (iteration_keeps kind.Daemon d marks are count) fails))))

abbrev pub AreWithinLimits : List RawItem → Type 0
AreWithinLimits items = ((of : ItemKind) → count_of_kind of items ≤ (most_of of).count) × AllByRecursion IsLimitedItem items

within : (d : Declarations) → AreCounted d → AreWithinLimits d.items
within d are = (λ of. omega (arith, are.counts of, are.few of), are.limited)

pub items_keep : (marks : List Mark) → CountNumbers marks → Keeps AreWithinLimits (items_at marks)
unfolding items_at
items_keep marks count = and_then _ (repeated_keeps begins_item item_at item_keeps none_declared marks none_counted count) (λ d rest are left. gives (within d are) left)
