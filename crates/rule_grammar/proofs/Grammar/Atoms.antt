-- Atoms as they are written and as they are factored have the same expansions, where the forms of sums and of terms stand for
-- their rules.
use Rattle.std.proofs.Common.{List, [], ◌∷◌, refl}
use Rattle.aerie_text.specs.declared.sorts.Sort.{Sort}
use Rattle.aerie_text.specs.declared.sorts.Sort.TheVariants as sort
use Rattle.readers.specs.grammar.Alternatives.{SameExpansions}
use Rattle.readers.specs.grammar.Expansions.{Symbol, IsExpansion, of_first, of_second}
use Rattle.readers.specs.grammar.Forms.{Form, token, nothing, many, option}
use Rattle.readers.specs.grammar.Notation.{◌then◌, ◌or◌}
use Rattle.readers.proofs.Grammars.Alternatives.{same_alternatives}
use Rattle.rule_grammar.specs.grammar.Factored.{variant_part_form, order_sign_form}
use Rattle.rule_grammar.specs.grammar.Rules.{Rule}
use Rattle.rule_grammar.specs.grammar.Written.{not_form, parenthesis_form, during_form, shift_form, longer_form, variant_form, same_sign_form, compare_sign_form, scaled_form, wterm_form}
use Rattle.rule_grammar.proofs.Grammar.Same.{same_itself, same_swapped, same_chained, same_both, same_either, same_second, same_behind, in_sequence, in_choice, choice_before, choice_behind, nothing_in_front, iterations}

-- ---- the forms, with no rules of sums and terms in them

abbrev pub signed_term : Form Rule Sort
signed_term = (token sort.Plus or token sort.Minus) then wterm_form

abbrev pub more_terms : Form Rule Sort
more_terms = many signed_term

abbrev pub sum : Form Rule Sort
sum = option (token sort.Minus) then wterm_form then more_terms

abbrev named_sum : Form Rule Sort
named_sum = token sort.Name then more_terms

abbrev unnamed_sum : Form Rule Sort
unnamed_sum = (token sort.Minus then wterm_form or scaled_form or token sort.Time) then more_terms

abbrev right_side : Form Rule Sort
right_side = compare_sign_form then sum

abbrev value : Form Rule Sort
value = token sort.True or token sort.False or variant_form

abbrev operand : Form Rule Sort
operand = token sort.True or token sort.False or token sort.Name then (variant_part_form or more_terms) or unnamed_sum

abbrev same : Form Rule Sort
same = same_sign_form then operand

abbrev order : Form Rule Sort
order = order_sign_form then sum

abbrev longer_left : Form Rule Sort
longer_left = signed_term then more_terms then right_side

abbrev written_tests : Form Rule Sort
written_tests = token sort.Name then option (same_sign_form then value) or sum then right_side

abbrev factored_tests : Form Rule Sort
factored_tests = token sort.Name then option (same or order or longer_left) or unnamed_sum then right_side

-- ---- sums

a_sum : SameExpansions sum (named_sum or unnamed_sum)
a_sum =
    same_alternatives sum (named_sum or unnamed_sum)
    (record { in_second = 1 ∷ 2 ∷ 3 ∷ 4 ∷ 5 ∷ 6 ∷ 7 ∷ 0 ∷ []; in_first = 7 ∷ 0 ∷ 1 ∷ 2 ∷ 3 ∷ 4 ∷ 5 ∷ 6 ∷ []; onward = refl; back = refl })

-- a value or a sum
an_operand : SameExpansions (value or sum) operand
an_operand =
    same_alternatives (value or sum) operand
    (record {
      in_second = 0 ∷ 1 ∷ 2 ∷ 4 ∷ 5 ∷ 6 ∷ 7 ∷ 8 ∷ 9 ∷ 10 ∷ 3 ∷ [];
      in_first = 0 ∷ 1 ∷ 2 ∷ 10 ∷ 3 ∷ 4 ∷ 5 ∷ 6 ∷ 7 ∷ 8 ∷ 9 ∷ [];
      onward = refl;
      back = refl;
    })

-- ---- comparisons

-- the right side begins with "==" or "!=", or with the sign of an order
a_right_side : SameExpansions right_side (same_sign_form then sum or order)
a_right_side =
    same_chained (same_both (same_swapped (in_choice (token sort.DoubleEqual) (token sort.NotEqual) order_sign_form)) (same_itself sum))
    (choice_before same_sign_form order_sign_form sum)

-- further terms and the right side: there is one more at least, or none
after_name : SameExpansions (more_terms then right_side) (longer_left or same_sign_form then sum or order)
after_name =
    same_chained (same_both (iterations signed_term) (same_itself right_side))
    (same_chained (choice_before (signed_term then more_terms) nothing right_side)
    (same_either (in_sequence signed_term more_terms right_side) (same_chained (nothing_in_front right_side) a_right_side)))

module _ (x n l s o : Form Rule Sort) where
  rearranged_onward : (us : List (Symbol Rule Sort)) → IsExpansion ((x or n) or (l or s or o)) us → IsExpansion (((x or s) or (o or l)) or n) us
  rearranged_onward us (of_first (of_first e)) = of_first (of_first (of_first e))
  rearranged_onward us (of_first (of_second e)) = of_second e
  rearranged_onward us (of_second (of_first e)) = of_first (of_second (of_second e))
  rearranged_onward us (of_second (of_second (of_first e))) = of_first (of_first (of_second e))
  rearranged_onward us (of_second (of_second (of_second e))) = of_first (of_second (of_first e))

  rearranged_back : (us : List (Symbol Rule Sort)) → IsExpansion (((x or s) or (o or l)) or n) us → IsExpansion ((x or n) or (l or s or o)) us
  rearranged_back us (of_first (of_first (of_first e))) = of_first (of_first e)
  rearranged_back us (of_second e) = of_first (of_second e)
  rearranged_back us (of_first (of_second (of_second e))) = of_second (of_first e)
  rearranged_back us (of_first (of_first (of_second e))) = of_second (of_second (of_first e))
  rearranged_back us (of_first (of_second (of_first e))) = of_second (of_second (of_second e))

  rearranged : SameExpansions ((x or n) or (l or s or o)) (((x or s) or (o or l)) or n)
  rearranged = record { onward = rearranged_onward; back = rearranged_back }

a_same : SameExpansions (same_sign_form then value or same_sign_form then sum) same
a_same = same_chained (same_swapped (choice_behind same_sign_form value sum)) (same_behind same_sign_form an_operand)

-- what follows a NAME
a_named_tail : SameExpansions (option (same_sign_form then value) or more_terms then right_side) (option (same or order or longer_left))
a_named_tail =
    same_chained (same_second (option (same_sign_form then value)) after_name)
    (same_chained (rearranged (same_sign_form then value) nothing longer_left (same_sign_form then sum) order)
    (same_either (same_either a_same (same_itself (order or longer_left))) (same_itself nothing)))

-- a comparison begins with a NAME, or does not
a_comparison : SameExpansions (sum then right_side) (token sort.Name then (more_terms then right_side) or unnamed_sum then right_side)
a_comparison =
    same_chained (same_both a_sum (same_itself right_side))
    (same_chained (choice_before named_sum unnamed_sum right_side)
    (same_either (in_sequence (token sort.Name) more_terms right_side) (same_itself (unnamed_sum then right_side))))

some_tests : SameExpansions written_tests factored_tests
some_tests =
    same_chained (same_second (token sort.Name then option (same_sign_form then value)) a_comparison)
    (same_chained (same_swapped (in_choice (token sort.Name then option (same_sign_form then value)) (token sort.Name then (more_terms then right_side)) (unnamed_sum then right_side)))
    (same_either
    (same_chained (same_swapped (choice_behind (token sort.Name) (option (same_sign_form then value)) (more_terms then right_side))) (same_behind (token sort.Name) a_named_tail))
    (same_itself (unnamed_sum then right_side))))

-- the other atoms, and these
abbrev pub with_others : Form Rule Sort → Form Rule Sort
with_others tests = not_form or parenthesis_form or token sort.True or token sort.False or during_form or shift_form or longer_form or tests

pub atoms : SameExpansions (with_others written_tests) (with_others factored_tests)
atoms =
    same_second not_form (same_second parenthesis_form (same_second (token sort.True) (same_second (token sort.False)
    (same_second during_form (same_second shift_form (same_second longer_form some_tests))))))
