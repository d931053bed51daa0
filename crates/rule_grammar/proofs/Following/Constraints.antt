-- What is read of constraints conforms to the grammar of rules.
use Rattle.std.proofs.Common.{List, [], ◌∷◌, None, refl}
use Rattle.aerie_text.specs.declared.sorts.Sort.TheVariants as sort
use Rattle.readers.specs.Marks.{Mark}
use Rattle.readers.specs.grammar.Forms.{rule, both, option}
use Rattle.readers.proofs.Conforming.{begins_both, and_then, then_value, value, either_conforms, option_conforms, rule_conforms}
use Rattle.readers.proofs.Listing.{row_conforms}
use Rattle.readers.specs.Verdicts.{JudgesAll}
use Rattle.rule_grammar.specs.grammar.Rules.{constraints_rule, window_rule}
use Rattle.rule_grammar.specs.grammar.Written.{forbid_form, each_form, constraint_form, written}
use Rattle.rule_grammar.specs.reading.Constraints.{forbid_at, each_at, optional_each_at, window_rule_at, rule_at, constraint_at, constraints_at}
use Rattle.rule_grammar.specs.reading.ToTheEnd.{to_the_end}
use Rattle.rule_grammar.proofs.Following.Names.{Along, begins_with, taken, raw_name_conforms}
use Rattle.rule_grammar.proofs.Following.Windows.{window_conforms}
use Rattle.rule_grammar.proofs.Grammar.Alike.{constraints_alike}
use Rattle.rule_grammar.proofs.Grammar.Predictive.{predictive}
use Rattle.rule_grammar.proofs.Grammar.Verdicts.{judged_to_the_end}

forbid_conforms : (marks : List Mark) → Along forbid_form marks (forbid_at marks)
unfolding forbid_at
forbid_conforms marks =
    and_then _ (taken sort.Forbid _) (λ word rest. and_then _ (raw_name_conforms rest) (λ first rest. and_then _ (taken sort.Comma _) (λ comma rest. then_value _ (raw_name_conforms rest) (λ second rest. value))))

each_conforms : (marks : List Mark) → Along each_form marks (each_at marks)
unfolding each_at
each_conforms marks =
    and_then _ (taken sort.For _) (λ word rest. and_then _ (raw_name_conforms rest) (λ bound rest. and_then _ (taken sort.In _) (λ word rest.
    and_then _ (raw_name_conforms rest) (λ kind rest. then_value _ (taken sort.Colon _) (λ colon rest. value)))))

optional_each_conforms : (marks : List Mark) → Along (option each_form) marks (optional_each_at marks)
unfolding optional_each_at
optional_each_conforms marks = option_conforms _ _ (begins_both (begins_with sort.For) refl) (λ next. each_conforms marks) value

window_rule_conforms : (marks : List Mark) → Along (both (option each_form) (rule window_rule)) marks (window_rule_at marks)
unfolding window_rule_at
window_rule_conforms marks = and_then _ (optional_each_conforms marks) (λ each rest. then_value _ (window_conforms rest) (λ window rest. value))

constraint_conforms : (marks : List Mark) → Along constraint_form marks (constraint_at marks)
unfolding constraint_at rule_at
constraint_conforms marks =
    and_then _ (raw_name_conforms marks) (λ name rest. and_then _ (taken sort.Colon _) (λ colon rest.
    and_then _ (either_conforms _ _ (begins_both (begins_with sort.Forbid) refl) refl (λ next. forbid_conforms rest) (λ next. window_rule_conforms rest))
    (λ what rest. then_value _ (taken sort.Semicolon _) (λ end rest. value))))

constraints_conform : (marks : List Mark) → Along (rule constraints_rule) marks (constraints_at marks)
unfolding constraints_at
constraints_conform marks = rule_conforms predictive (row_conforms predictive (sort.Name ∷ []) (begins_both (begins_with sort.Name) refl) refl constraint_conforms None marks)

pub constraints_judged : (marks : List Mark) → JudgesAll written constraints_rule marks (to_the_end (constraints_at marks))
constraints_judged marks = judged_to_the_end constraints_rule constraints_alike marks _ (constraints_conform marks)
