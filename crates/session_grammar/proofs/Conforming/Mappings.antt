-- What is read of mappings conforms to the grammar of sessions.
use Rattle.std.proofs.Common.{Bool, List, [], ◌∷◌, None, refl}
use Rattle.aerie_text.specs.declared.sorts.Sort.{Sort}
use Rattle.aerie_text.specs.declared.sorts.Sort.TheVariants as sort
use Rattle.model_reader.specs.declared.raw.names.RawName.{RawName}
use Rattle.model_reader.specs.reading.Literals.{minus_at, sign_at}
use Rattle.model_reader.specs.reading.Names.{raw_name_at}
use Rattle.readers.specs.Marks.{Mark}
use Rattle.readers.specs.Parsed.{is_of}
use Rattle.readers.specs.grammar.Forms.{both, many, option, rule, separated, token}
use Rattle.readers.proofs.Conforming.{and_then, then_value, value, either_conforms, option_conforms, rule_conforms, Begins, begins_both, begins_rule}
use Rattle.readers.proofs.Listing.{optional_list_conforms, row_conforms}
use Rattle.session_grammar.specs.grammar.Factored.{look, fed_value_form, name_or_variant_form, named_form, signed_amount_form}
use Rattle.session_grammar.specs.grammar.Rules.{feed_rule, mapping_rule}
use Rattle.session_grammar.specs.grammar.Terminals.{plain}
use Rattle.session_grammar.specs.grammar.Written.{mapped_type_form}
use Rattle.session_grammar.specs.reading.Mappings.{raw_named_at, fed_amount_at, fed_truth_at, fed_variant_at, fed_behind_name_at, fed_name_at, fed_value_at, feed_at, feeds_at, type_rule_at, mapping_at, most_mappings, mappings_at}
use Rattle.session_grammar.proofs.Conforming.Directives.{Along, IsPlain, taken, begins_with, amount_begins, amount_law}
use Rattle.session_grammar.proofs.Conforming.Terminals.{in_terminals, plain_fits}
use Rattle.session_grammar.proofs.Grammar.Predictive.{predictive}

pub raw_name_law : (marks : List Mark) → Along (token (plain sort.Name)) marks (raw_name_at marks)
unfolding raw_name_at
raw_name_law marks = then_value _ (taken sort.Name _ (refl, refl)) (λ name rest. value)

pub raw_named_law : (s : Sort) → IsPlain s → (marks : List Mark) → Along (both (token (plain s)) (token (plain sort.Name))) marks (raw_named_at s marks)
unfolding raw_named_at
raw_named_law s is marks = and_then _ (taken s _ is) (λ word rest. raw_name_law rest)

-- ---- feeds

minus_law : (marks : List Mark) → Along (token (plain sort.Minus)) marks (minus_at marks)
unfolding minus_at
minus_law marks = then_value _ (taken sort.Minus _ (refl, refl)) (λ minus rest. value)

pub sign_law : (marks : List Mark) → Along (option (token (plain sort.Minus))) marks (sign_at marks)
unfolding sign_at
sign_law marks = option_conforms _ _ (begins_with sort.Minus (refl, refl)) (λ next. minus_law marks) value

fed_amount_law : (marks : List Mark) → Along signed_amount_form marks (fed_amount_at marks)
unfolding fed_amount_at
fed_amount_law marks = and_then _ (sign_law marks) (λ sign rest. then_value _ (amount_law rest) (λ amount behind. value))

fed_truth_law : (s : Sort) (truth : Bool) → IsPlain s → (marks : List Mark) → Along (token (plain s)) marks (fed_truth_at s truth marks)
unfolding fed_truth_at
fed_truth_law s truth is marks = then_value _ (taken s _ is) (λ word rest. value)

fed_variant_law : (name : RawName) (marks : List Mark) → Along (named_form sort.Dot) marks (fed_variant_at name marks)
unfolding fed_variant_at
fed_variant_law name marks = then_value _ (raw_named_law sort.Dot (refl, refl) marks) (λ variant rest. value)

fed_behind_name_law : (name : RawName) (marks : List Mark) → Along (option (named_form sort.Dot)) marks (fed_behind_name_at name marks)
unfolding fed_behind_name_at
fed_behind_name_law name marks = option_conforms _ _ (begins_both (begins_with sort.Dot (refl, refl)) refl) (λ next. fed_variant_law name marks) value

fed_name_law : (marks : List Mark) → Along name_or_variant_form marks (fed_name_at marks)
unfolding fed_name_at
fed_name_law marks = and_then _ (raw_name_law marks) (λ name rest. fed_behind_name_law name rest)

fed_value_law : (marks : List Mark) → Along fed_value_form marks (fed_value_at marks)
unfolding fed_value_at
fed_value_law marks =
    either_conforms _ _ amount_begins refl (λ next. fed_amount_law marks)
    (λ next. either_conforms _ _ (begins_with sort.True (refl, refl)) refl (λ next. fed_truth_law sort.True _ (refl, refl) marks)
    (λ next. either_conforms _ _ (begins_with sort.False (refl, refl)) refl (λ next. fed_truth_law sort.False _ (refl, refl) marks)
    (λ next. fed_name_law marks)))

feed_law : (marks : List Mark) → Along (rule feed_rule) marks (feed_at marks)
unfolding feed_at
feed_law marks =
    rule_conforms predictive (and_then _ (raw_name_law marks) (λ parameter rest. and_then _ (taken sort.Assign _ (refl, refl)) (λ sign rest.
    then_value _ (fed_value_law rest) (λ fed rest. value))))

-- ---- mappings

-- a feed begins with a name
feed_begins : Begins look (is_of sort.Name) (rule feed_rule)
feed_begins = begins_rule (λ k. in_terminals (sort.Name ∷ []) refl k)

feeds_law : (marks : List Mark) → Along (both (token (plain sort.OpenParenthesis)) (both (option (separated (token (plain sort.Comma)) (rule feed_rule))) (both (token (plain sort.CloseParenthesis)) (token (plain sort.Semicolon))))) marks (feeds_at marks)
unfolding feeds_at
feeds_law marks =
    and_then _ (taken sort.OpenParenthesis _ (refl, refl)) (λ front rest.
    and_then _ (optional_list_conforms predictive sort.Name (λ k. plain_fits k sort.Comma refl refl) feed_begins refl feed_law None rest) (λ feeds rest.
    and_then _ (taken sort.CloseParenthesis _ (refl, refl)) (λ close rest. then_value _ (taken sort.Semicolon _ (refl, refl)) (λ end rest. value))))

type_rule_law : (marks : List Mark) → Along mapped_type_form marks (type_rule_at marks)
unfolding type_rule_at
type_rule_law marks =
    and_then _ (raw_name_law marks) (λ old rest. and_then _ (taken sort.To _ (refl, refl)) (λ word rest. and_then _ (raw_name_law rest) (λ new rest.
    then_value _ (feeds_law rest) (λ feeds rest. value))))

mapping_law : (marks : List Mark) → Along (rule mapping_rule) marks (mapping_at marks)
unfolding mapping_at
mapping_law marks =
    rule_conforms predictive (and_then _ (raw_named_law sort.From (refl, refl) marks) (λ from rest. and_then _ (raw_named_law sort.To (refl, refl) rest) (λ to rest.
    and_then _ (taken sort.OpenBrace _ (refl, refl)) (λ front rest.
    and_then _ (row_conforms predictive (sort.Name ∷ []) (begins_both (begins_with sort.Name (refl, refl)) refl) refl type_rule_law None rest) (λ rules rest.
    then_value _ (taken sort.CloseBrace _ (refl, refl)) (λ end rest. value))))))

pub mappings_law : (marks : List Mark) → Along (many (rule mapping_rule)) marks (mappings_at marks)
unfolding mappings_at
mappings_law marks = row_conforms predictive (sort.From ∷ []) (begins_rule (λ k. in_terminals (sort.From ∷ []) refl k)) refl mapping_law most_mappings marks
