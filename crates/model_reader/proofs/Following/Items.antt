-- What is read of the items of a model conforms to the grammar of models, the limits of how many of each it has included: they
-- are passed at the mark that begins one.
use Rattle.std.proofs.Common.{◌≡◌, true, List, [], ◌∷◌, refl}
use Rattle.readers.specs.Marks.{Mark}
use Rattle.aerie_text.specs.declared.sorts.Sort.{Sort}
use Rattle.aerie_text.specs.declared.sorts.Sort.TheVariants as sort
use Rattle.readers.specs.grammar.Forms.{Form, rule, many}
use Rattle.readers.specs.grammar.Lookahead.{next_in_first}
use Rattle.readers.specs.Parsed.{is_of, is_one_of}
use Rattle.readers.proofs.Conforming.{Begins, begins_both, begins_either, begins_rule, begins_here, in_table, and_then, then_value, value, either_conforms, option_conforms, chosen_conforms, repeated_conforms, rule_conforms, limited_conforms, failed_conforms}
use Rattle.readers.proofs.Listing.{listed_conforms, parenthesized_conforms, row_conforms}
use Rattle.model_reader.specs.declared.reading.declarations.Declarations.{Declarations}
use Rattle.model_reader.specs.declared.reading.declarations.ItemKind.{ItemKind}
use Rattle.model_reader.specs.declared.reading.declarations.ItemKind.TheVariants as kind
use Rattle.model_reader.specs.grammar.Factored.{look, item_first, variants_form, cell_form, resource_form, given_default_form, default_form, parameters_form, given_result_form, result_form, require_form, activity_body_form, activity_form}
use Rattle.model_reader.specs.grammar.Written.{enum_form, counter_form, register_form, accumulator_form, discrete_form, linear_form, daemon_form}
use Rattle.model_reader.specs.grammar.Rules.{Rule, item_rule, param_rule, int_rule}
use Rattle.model_reader.specs.reading.Items.{most_variants, most_parameters, most_requires, variants_at, enum_at, counter_at, register_at, int_literal_at, accumulator_at, discrete_at, linear_at, given_default_at, default_at, param_at, params_at, given_result_at, result_at, require_at, requires_at, activity_body_at, activity_at, daemon_at, kind_at, declared_at, iteration_at, cell_at, resource_at, item_at, begins_item, items_at}
use Rattle.model_reader.proofs.Following.Expressions.{expr_conforms}
use Rattle.model_reader.proofs.Following.Literals.{int_conforms, literal_conforms}
use Rattle.model_reader.proofs.Following.Names.{Along, begins_with, take_conforms, raw_name_conforms}
use Rattle.model_reader.proofs.Following.Statements.{body_conforms}
use Rattle.model_reader.proofs.Following.Types.{type_conforms, read_conforms}
use Rattle.model_reader.proofs.Grammar.Predictive.{predictive}

-- ---- enumerations

variants_conform : (marks : List Mark) → Along variants_form marks (variants_at marks)
unfolding variants_at
variants_conform marks =
    and_then _ (take_conforms sort.OpenBrace marks) (λ brace rest. and_then _ (listed_conforms predictive sort.Name (λ k. refl) (begins_with sort.Name) refl raw_name_conforms most_variants rest) (λ variants behind. then_value _ (take_conforms sort.CloseBrace behind) (λ close left. value)))

enum_conforms : (marks : List Mark) → Along enum_form marks (enum_at marks)
unfolding enum_at
enum_conforms marks =
    and_then _ (take_conforms sort.Enum marks) (λ word rest. and_then _ (raw_name_conforms rest) (λ name behind. then_value _ (variants_conform behind) (λ variants left. value)))

-- ---- cells

counter_conforms : (marks : List Mark) → Along counter_form marks (counter_at marks)
unfolding counter_at
counter_conforms marks =
    and_then _ (take_conforms sort.Counter marks) (λ word rest. and_then _ (raw_name_conforms rest) (λ name behind. and_then _ (take_conforms sort.Assign behind)
    (λ equals from. and_then _ (int_conforms from) (λ start left. then_value _ (take_conforms sort.Semicolon left) (λ end last. value)))))

register_conforms : (marks : List Mark) → Along register_form marks (register_at marks)
unfolding register_at
register_conforms marks =
    and_then _ (take_conforms sort.Register marks) (λ word rest. and_then _ (raw_name_conforms rest) (λ name behind. and_then _ (take_conforms sort.Colon behind)
    (λ colon from. and_then _ (type_conforms from) (λ kind left. and_then _ (take_conforms sort.Assign left)
    (λ equals given. and_then _ (literal_conforms given) (λ start last. then_value _ (take_conforms sort.Semicolon last) (λ end over. value)))))))

int_literal_conforms : (marks : List Mark) → Along (rule int_rule) marks (int_literal_at marks)
unfolding int_literal_at
int_literal_conforms marks = then_value _ (int_conforms marks) (λ number rest. value)

accumulator_conforms : (marks : List Mark) → Along accumulator_form marks (accumulator_at marks)
unfolding accumulator_at
accumulator_conforms marks =
    and_then _ (take_conforms sort.Accumulator marks) (λ word rest. and_then _ (raw_name_conforms rest) (λ name behind. and_then _ (take_conforms sort.Assign behind)
    (λ equals from. and_then _ (int_conforms from) (λ volume left. and_then _ (take_conforms sort.Rate left)
    (λ rate_word given. and_then _ (int_literal_conforms given) (λ rate last. then_value _ (take_conforms sort.Semicolon last) (λ end over. value)))))))

cell_conforms : (marks : List Mark) → Along cell_form marks (cell_at marks)
unfolding cell_at
cell_conforms marks =
    either_conforms _ _ (begins_both (begins_with sort.Counter) refl) refl (λ next. counter_conforms marks)
    (λ next. either_conforms _ _ (begins_both (begins_with sort.Register) refl) refl (λ next. register_conforms marks) (λ next. accumulator_conforms marks))

-- ---- resources

discrete_conforms : (marks : List Mark) → Along discrete_form marks (discrete_at marks)
unfolding discrete_at
discrete_conforms marks =
    and_then _ (take_conforms sort.Discrete marks) (λ word rest. and_then _ (raw_name_conforms rest) (λ name behind. and_then _ (take_conforms sort.Assign behind)
    (λ equals from. and_then _ (read_conforms from) (λ read left. then_value _ (take_conforms sort.Semicolon left) (λ end last. value)))))

linear_conforms : (marks : List Mark) → Along linear_form marks (linear_at marks)
unfolding linear_at
linear_conforms marks =
    and_then _ (take_conforms sort.Linear marks) (λ word rest. and_then _ (raw_name_conforms rest) (λ name behind. and_then _ (take_conforms sort.Assign behind)
    (λ equals from. and_then _ (expr_conforms from) (λ sum left. then_value _ (take_conforms sort.Semicolon left) (λ end last. value)))))

resource_conforms : (marks : List Mark) → Along resource_form marks (resource_at marks)
unfolding resource_at
resource_conforms marks = either_conforms _ _ (begins_both (begins_with sort.Discrete) refl) refl (λ next. discrete_conforms marks) (λ next. linear_conforms marks)

-- ---- activities

given_default_conforms : (marks : List Mark) → Along given_default_form marks (given_default_at marks)
unfolding given_default_at
given_default_conforms marks = and_then _ (take_conforms sort.Assign marks) (λ equals rest. then_value _ (literal_conforms rest) (λ given behind. value))

default_conforms : (marks : List Mark) → Along default_form marks (default_at marks)
unfolding default_at
default_conforms marks = option_conforms _ _ (begins_both (begins_with sort.Assign) refl) (λ next. given_default_conforms marks) value

param_conforms : (marks : List Mark) → Along (rule param_rule) marks (param_at marks)
unfolding param_at
param_conforms marks =
    rule_conforms predictive (and_then _ (raw_name_conforms marks) (λ name rest. and_then _ (take_conforms sort.Colon rest) (λ colon behind. and_then _ (type_conforms behind)
    (λ kind left. then_value _ (default_conforms left) (λ default last. value)))))

params_conform : (marks : List Mark) → Along parameters_form marks (params_at marks)
unfolding params_at
params_conform marks = parenthesized_conforms predictive sort.Name (λ k. refl) (λ k. refl) (λ k. refl) (begins_rule (in_table (sort.Name ∷ []))) refl param_conforms most_parameters marks

given_result_conforms : (marks : List Mark) → Along given_result_form marks (given_result_at marks)
unfolding given_result_at
given_result_conforms marks = and_then _ (take_conforms sort.Arrow marks) (λ arrow rest. then_value _ (type_conforms rest) (λ kind behind. value))

result_conforms : (marks : List Mark) → Along result_form marks (result_at marks)
unfolding result_at
result_conforms marks = option_conforms _ _ (begins_both (begins_with sort.Arrow) refl) (λ next. given_result_conforms marks) value

require_conforms : (marks : List Mark) → Along require_form marks (require_at marks)
unfolding require_at
require_conforms marks =
    and_then _ (take_conforms sort.Require marks) (λ word rest. and_then _ (expr_conforms rest) (λ condition behind. then_value _ (take_conforms sort.Semicolon behind) (λ end left. value)))

requires_conform : (marks : List Mark) → Along (many require_form) marks (requires_at marks)
unfolding requires_at
requires_conform marks = row_conforms predictive (sort.Require ∷ []) (begins_both (begins_with sort.Require) refl) refl require_conforms most_requires marks

activity_body_conforms : (marks : List Mark) → Along activity_body_form marks (activity_body_at marks)
unfolding activity_body_at
activity_body_conforms marks =
    and_then _ (take_conforms sort.OpenBrace marks) (λ brace rest. and_then _ (requires_conform rest) (λ conditions behind. and_then _ (body_conforms behind)
    (λ body left. then_value _ (take_conforms sort.CloseBrace left) (λ close last. value))))

activity_conforms : (marks : List Mark) → Along activity_form marks (activity_at marks)
unfolding activity_at
activity_conforms marks =
    and_then _ (take_conforms sort.Activity marks) (λ word rest. and_then _ (raw_name_conforms rest) (λ name behind. and_then _ (params_conform behind)
    (λ parameters left. and_then _ (result_conforms left) (λ result last. then_value _ (activity_body_conforms last) (λ inner over. value)))))

-- ---- daemons

daemon_conforms : (marks : List Mark) → Along daemon_form marks (daemon_at marks)
unfolding daemon_at
daemon_conforms marks =
    and_then _ (take_conforms sort.Daemon marks) (λ word rest. and_then _ (take_conforms sort.OpenBrace rest) (λ brace behind. and_then _ (body_conforms behind)
    (λ body left. then_value _ (take_conforms sort.CloseBrace left) (λ close last. value))))

-- ---- items

enum_begins : Begins look (is_of sort.Enum) enum_form
enum_begins = begins_both (begins_with sort.Enum) refl

activity_begins : Begins look (is_of sort.Activity) activity_form
activity_begins = begins_both (begins_with sort.Activity) refl

daemon_begins : Begins look (is_of sort.Daemon) daemon_form
daemon_begins = begins_both (begins_with sort.Daemon) refl

resource_begins : Begins look (is_one_of (sort.Discrete ∷ sort.Linear ∷ [])) resource_form
resource_begins = begins_either (begins_both (begins_with sort.Discrete) refl) (begins_both (begins_with sort.Linear) refl)

cell_begins : Begins look (is_one_of (sort.Counter ∷ sort.Register ∷ sort.Accumulator ∷ [])) cell_form
cell_begins = begins_either (begins_both (begins_with sort.Counter) refl) (begins_either (begins_both (begins_with sort.Register) refl) (begins_both (begins_with sort.Accumulator) refl))

item_rule_begins : Begins look begins_item (rule item_rule)
item_rule_begins = begins_rule (in_table item_first)

-- the form of an item of a kind
abbrev pub form_of_kind : ItemKind → Form Rule Sort
form_of_kind kind.Enum = enum_form
form_of_kind kind.Cell = cell_form
form_of_kind kind.Resource = resource_form
form_of_kind kind.Activity = activity_form
form_of_kind kind.Daemon = daemon_form

kind_conforms : (kind : ItemKind) (marks : List Mark) → Along (form_of_kind kind) marks (kind_at kind marks)
kind_conforms kind.Enum marks = enum_conforms marks
kind_conforms kind.Cell marks = cell_conforms marks
kind_conforms kind.Resource marks = resource_conforms marks
kind_conforms kind.Activity marks = activity_conforms marks
kind_conforms kind.Daemon marks = daemon_conforms marks

declared_conforms : (kind : ItemKind) (d : Declarations) (marks : List Mark) → Along (form_of_kind kind) marks (declared_at kind d marks)
unfolding declared_at
declared_conforms kind d marks = then_value _ (kind_conforms kind marks) (λ last rest. value)

-- the same, where it begins here and the model may have one more
iteration_conforms : (kind : ItemKind) (d : Declarations) (marks : List Mark) → next_in_first look (form_of_kind kind) marks ≡ true → Along (form_of_kind kind) marks (iteration_at kind d marks)
unfolding iteration_at
iteration_conforms kind d marks begun = limited_conforms _ _ (declared_at kind d) predictive (λ past. begun) (λ within. declared_conforms kind d marks)

item_conforms : (d : Declarations) (marks : List Mark) → Along (rule item_rule) marks (item_at d marks)
unfolding item_at
item_conforms d marks =
    rule_conforms predictive (either_conforms _ _ enum_begins refl (λ next. iteration_conforms kind.Enum d marks (begins_here marks enum_begins next))
    (λ next. either_conforms _ _ cell_begins refl (λ next. iteration_conforms kind.Cell d marks (begins_here marks cell_begins next))
    (λ next. either_conforms _ _ resource_begins refl (λ next. iteration_conforms kind.Resource d marks (begins_here marks resource_begins next))
    (λ next. either_conforms _ _ activity_begins refl (λ next. iteration_conforms kind.Activity d marks (begins_here marks activity_begins next))
    (λ next. chosen_conforms _ _ _ (λ next. iteration_conforms kind.Daemon d marks (begins_here marks daemon_begins next)) (λ next. failed_conforms (begins_here marks daemon_begins next) refl))))))

pub items_conform : (marks : List Mark) → Along (many (rule item_rule)) marks (items_at marks)
unfolding items_at
items_conform marks = then_value _ (repeated_conforms _ item_rule_begins refl (λ now here next. item_conforms now here)) (λ d rest. value)
