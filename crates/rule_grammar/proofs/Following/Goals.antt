-- What is read of goals conforms to the grammar of rules.
use Rattle.std.proofs.Common.{List, [], ◌∷◌, None, refl}
use Rattle.aerie_base.specs.declared.plans.Edge.TheVariants as edge
use Rattle.aerie_text.specs.declared.sorts.Sort.{Sort}
use Rattle.aerie_text.specs.declared.sorts.Sort.TheVariants as sort
use Rattle.readers.specs.Marks.{Mark}
use Rattle.readers.specs.grammar.Forms.{token, rule, both, either, option}
use Rattle.readers.proofs.Conforming.{begins_both, and_then, then_value, value, either_conforms, option_conforms, rule_conforms, one_of_conforms}
use Rattle.readers.proofs.Listing.{row_conforms, listed_conforms}
use Rattle.model_reader.specs.declared.raw.names.RawName.{RawName}
use Rattle.readers.specs.Verdicts.{JudgesAll}
use Rattle.rule_grammar.specs.declared.raw.goals.RawAnchor.{RawAnchor}
use Rattle.rule_grammar.specs.declared.raw.goals.RawGoalKind.{RawGoalKind}
use Rattle.rule_grammar.specs.declared.raw.goals.RawTemplate.{RawTemplate}
use Rattle.rule_grammar.specs.grammar.Rules.{goals_rule, kind_rule, anchor_rule, range_rule, sdur_rule, window_rule}
use Rattle.rule_grammar.specs.grammar.Written.{keeping_form, goal_form, recurrence_form, coexistence_form, cardinality_form, written}
use Rattle.rule_grammar.specs.reading.Edges.{placed_edge_at, edge_at}
use Rattle.rule_grammar.specs.reading.Goals.{range_at, edges_at, window_anchor_at, anchor_at, counted_at, recurrence_at, cardinality_at, distance_at, beside_at, coexisting_at, coexistence_at, kind_at, kept_at, keeping_at, terms_at, ended_goal_at, goal_at, goals_at}
use Rattle.rule_grammar.specs.reading.ToTheEnd.{to_the_end}
use Rattle.rule_grammar.proofs.Following.Names.{Along, begins_with, begins_with_one_of, taken, had, raw_name_conforms}
use Rattle.rule_grammar.proofs.Following.Templates.{raw_number_conforms, placed_duration_conforms, template_conforms}
use Rattle.rule_grammar.proofs.Following.Windows.{signed_duration_conforms, window_conforms}
use Rattle.rule_grammar.proofs.Grammar.Alike.{goals_alike}
use Rattle.rule_grammar.proofs.Grammar.Predictive.{predictive}
use Rattle.rule_grammar.proofs.Grammar.Verdicts.{judged_to_the_end}

range_conforms : (marks : List Mark) → Along (rule range_rule) marks (range_at marks)
unfolding range_at
range_conforms marks =
    rule_conforms predictive (and_then _ (taken sort.OpenBracket _) (λ front rest. and_then _ (taken sort.Time _) (λ from rest. and_then _ (taken sort.Comma _) (λ comma rest.
    and_then _ (raw_number_conforms sort.Time rest) (λ to rest. then_value _ (taken sort.CloseParenthesis _) (λ close rest. value))))))

-- ---- anchors

pub placed_edge_conforms : (marks : List Mark) → Along (either (token sort.Start) (token sort.End)) marks (placed_edge_at marks)
unfolding placed_edge_at
placed_edge_conforms marks = one_of_conforms (λ t k. refl) (sort.Start, edge.Start) ((sort.End, edge.End) ∷ [])

edge_conforms : (marks : List Mark) → Along (either (token sort.Start) (token sort.End)) marks (edge_at marks)
unfolding edge_at
edge_conforms marks = then_value _ (placed_edge_conforms marks) (λ edge rest. value)

edges_conform : (marks : List Mark) → Along (both (either (token sort.Start) (token sort.End)) (both (token sort.Of) (token sort.Name))) marks (edges_at marks)
unfolding edges_at
edges_conform marks = and_then _ (edge_conforms marks) (λ edge rest. and_then _ (taken sort.Of _) (λ word rest. then_value _ (raw_name_conforms rest) (λ name rest. value)))

window_anchor_conforms : (marks : List Mark) → Along (both (token sort.Window) (both (token sort.OpenParenthesis) (both (rule window_rule) (token sort.CloseParenthesis)))) marks (window_anchor_at marks)
unfolding window_anchor_at
window_anchor_conforms marks =
    and_then _ (taken sort.Window _) (λ word rest. and_then _ (taken sort.OpenParenthesis _) (λ front rest.
    and_then _ (window_conforms rest) (λ window rest. then_value _ (taken sort.CloseParenthesis _) (λ close rest. value))))

anchor_conforms : (marks : List Mark) → Along (rule anchor_rule) marks (anchor_at marks)
unfolding anchor_at
anchor_conforms marks =
    rule_conforms predictive (either_conforms _ _ (begins_both (begins_with_one_of sort.Start (sort.End ∷ [])) refl) refl (λ next. edges_conform marks) (λ next. window_anchor_conforms marks))

-- ---- kinds

counted_conforms : (word number : Sort) (marks : List Mark) → Along (both (token word) (both (token number) (both (token sort.In) (rule range_rule)))) marks (counted_at word number marks)
unfolding counted_at
counted_conforms word number marks =
    and_then _ (taken word _) (λ front rest. and_then _ (raw_number_conforms number rest) (λ count rest. and_then _ (taken sort.In _) (λ in_word rest. then_value _ (range_conforms rest) (λ range rest. value))))

recurrence_conforms : (marks : List Mark) → Along recurrence_form marks (recurrence_at marks)
unfolding recurrence_at
recurrence_conforms marks =
    and_then _ (taken sort.Recurrence _) (λ word rest. and_then _ (template_conforms rest) (λ template rest. then_value _ (counted_conforms sort.Every sort.Time rest) (λ every rest. value)))

cardinality_conforms : (marks : List Mark) → Along cardinality_form marks (cardinality_at marks)
unfolding cardinality_at
cardinality_conforms marks =
    and_then _ (taken sort.Cardinality _) (λ word rest. and_then _ (template_conforms rest) (λ template rest. then_value _ (counted_conforms sort.Count sort.Number rest) (λ count rest. value)))

distance_conforms : (marks : List Mark) → Along (both (token sort.From) (both (rule sdur_rule) (both (token sort.To) (rule sdur_rule)))) marks (distance_at marks)
unfolding distance_at
distance_conforms marks =
    and_then _ (taken sort.From _) (λ word rest. and_then _ (signed_duration_conforms rest) (λ from rest. and_then _ (taken sort.To _) (λ word rest. then_value _ (placed_duration_conforms rest) (λ to rest. value))))

beside_conforms : (anchor : RawAnchor) (marks : List Mark) → Along (both (token sort.From) (both (rule sdur_rule) (both (token sort.To) (rule sdur_rule)))) marks (beside_at anchor marks)
unfolding beside_at
beside_conforms anchor marks = then_value _ (distance_conforms marks) (λ distance rest. value)

coexistence_conforms : (marks : List Mark) → Along coexistence_form marks (coexistence_at marks)
unfolding coexistence_at coexisting_at
coexistence_conforms marks =
    and_then _ (taken sort.Coexistence _) (λ word rest. and_then _ (template_conforms rest) (λ template rest. then_value _
    (and_then _ (taken sort.For _) (λ for_word rest. and_then _ (anchor_conforms rest) (λ anchor rest. beside_conforms anchor rest))) (λ kind rest. value)))

kind_conforms : (marks : List Mark) → Along (rule kind_rule) marks (kind_at marks)
unfolding kind_at
kind_conforms marks =
    rule_conforms predictive (either_conforms _ _ (begins_both (begins_with sort.Recurrence) refl) refl (λ next. recurrence_conforms marks)
    (λ next. either_conforms _ _ (begins_both (begins_with sort.Coexistence) refl) refl (λ next. coexistence_conforms marks) (λ next. cardinality_conforms marks)))

-- ---- goals

kept_conforms : (marks : List Mark) → Along keeping_form marks (kept_at marks)
unfolding kept_at
kept_conforms marks = and_then _ (taken sort.Keeping _) (λ word rest. listed_conforms predictive sort.Name (λ k. refl) (begins_with sort.Name) refl raw_name_conforms None rest)

keeping_conforms : (marks : List Mark) → Along (option keeping_form) marks (keeping_at marks)
unfolding keeping_at
keeping_conforms marks = option_conforms _ _ (begins_both (begins_with sort.Keeping) refl) (λ next. kept_conforms marks) value

terms_conform : (marks : List Mark) → Along (both (option keeping_form) (both (option (token sort.Rollback)) (token sort.Semicolon))) marks (terms_at marks)
unfolding terms_at
terms_conform marks = and_then _ (keeping_conforms marks) (λ keeping rest. and_then _ (had sort.Rollback) (λ rollback rest. then_value _ (taken sort.Semicolon _) (λ end rest. value)))

ended_goal_conforms : (name : RawName) (kind : RawTemplate × RawGoalKind) (marks : List Mark) → Along (both (option keeping_form) (both (option (token sort.Rollback)) (token sort.Semicolon))) marks (ended_goal_at name kind marks)
unfolding ended_goal_at
ended_goal_conforms name kind marks = then_value _ (terms_conform marks) (λ terms rest. value)

goal_conforms : (marks : List Mark) → Along goal_form marks (goal_at marks)
unfolding goal_at
goal_conforms marks =
    and_then _ (raw_name_conforms marks) (λ name rest. and_then _ (taken sort.Colon _) (λ colon rest. and_then _ (kind_conforms rest) (λ kind rest. ended_goal_conforms name kind rest)))

goals_conform : (marks : List Mark) → Along (rule goals_rule) marks (goals_at marks)
unfolding goals_at
goals_conform marks = rule_conforms predictive (row_conforms predictive (sort.Name ∷ []) (begins_both (begins_with sort.Name) refl) refl goal_conforms None marks)

pub goals_judged : (marks : List Mark) → JudgesAll written goals_rule marks (to_the_end (goals_at marks))
goals_judged marks = judged_to_the_end goals_rule goals_alike marks _ (goals_conform marks)
