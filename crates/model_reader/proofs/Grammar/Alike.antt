-- The grammar of models as it is written and the factored one read the same tokens. In both the form of the rule `read` is put
-- wherever the rule is named, since a primary may begin as a read does. The two grammars that this gives have the same
-- expansions, rule by rule.
use Rattle.std.proofs.Common.{◌≡◌, ℕ, zero, suc, List, [], ◌∷◌, ◌++◌, refl, false}
use Rattle.readers.specs.Marks.{Mark}
use Rattle.readers.specs.Parsed.{is_of}
use Rattle.aerie_text.specs.declared.sorts.Sort.{Sort}
use Rattle.readers.specs.grammar.Forms.{Form, rule, Grammar}
use Rattle.readers.specs.grammar.Alternatives.{SameExpansions}
use Rattle.readers.specs.grammar.Alike.{AreAlike, rewritten, is_rule, StandsFor, named, inlined}
use Rattle.readers.proofs.Grammars.Alternatives.{same_form, same_alternatives}
use Rattle.readers.proofs.Grammars.Alike.{alike_forms, alike_named, alike_swapped, alike_chained}
use Rattle.model_reader.specs.grammar.Rules.{Rule, model_rule, item_rule, param_rule, type_rule, int_rule, literal_rule, read_rule, stmt_rule, block_rule, invoke_rule, expr_rule, and_rule, compare_rule, sum_rule, product_rule, unary_rule, primary_rule}
use Rattle.model_reader.specs.grammar.Written.{written, read_form}
use Rattle.model_reader.specs.grammar.Factored.{factored}

-- a read is its form, each other rule is itself
abbrev pub without_read : Rule → Form Rule Sort
without_read model_rule = rule model_rule
without_read item_rule = rule item_rule
without_read param_rule = rule param_rule
without_read type_rule = rule type_rule
without_read int_rule = rule int_rule
without_read literal_rule = rule literal_rule
without_read read_rule = read_form
without_read stmt_rule = rule stmt_rule
without_read block_rule = rule block_rule
without_read invoke_rule = rule invoke_rule
without_read expr_rule = rule expr_rule
without_read and_rule = rule and_rule
without_read compare_rule = rule compare_rule
without_read sum_rule = rule sum_rule
without_read product_rule = rule product_rule
without_read unary_rule = rule unary_rule
without_read primary_rule = rule primary_rule

-- a grammar with the form of a read wherever a read is named
abbrev pub put_in : Grammar Rule Sort Mark → Grammar Rule Sort Mark
put_in g = record { fits = is_of; form = λ r. rewritten without_read (g.form r) }

module _ (g : Grammar Rule Sort Mark) (same_fits : (t : Sort) (k : Mark) → g.fits t k ≡ is_of t k) (read : without_read read_rule ≡ rewritten without_read (g.form read_rule)) (no_rule : is_rule (g.form read_rule) ≡ false) where
  stands : (r : Rule) → StandsFor g (put_in g) without_read r
  stands model_rule = named model_rule refl refl
  stands item_rule = named item_rule refl refl
  stands param_rule = named param_rule refl refl
  stands type_rule = named type_rule refl refl
  stands int_rule = named int_rule refl refl
  stands literal_rule = named literal_rule refl refl
  stands read_rule = inlined read no_rule
  stands stmt_rule = named stmt_rule refl refl
  stands block_rule = named block_rule refl refl
  stands invoke_rule = named invoke_rule refl refl
  stands expr_rule = named expr_rule refl refl
  stands and_rule = named and_rule refl refl
  stands compare_rule = named compare_rule refl refl
  stands sum_rule = named sum_rule refl refl
  stands product_rule = named product_rule refl refl
  stands unary_rule = named unary_rule refl refl
  stands primary_rule = named primary_rule refl refl

  alike_put_in : (r : Rule) → without_read r ≡ rule r → AreAlike g r (put_in g) r
  alike_put_in r e = alike_named g (put_in g) without_read (record { same_fits = same_fits; stands = stands }) r r e

-- so many places, from one on
abbrev pub places : ℕ → ℕ → List ℕ
places from zero = []
places from (suc count) = from ∷ places (suc from) count

same : (r : Rule) → SameExpansions ((put_in written).form r) ((put_in factored).form r)
same model_rule = same_form ((put_in written).form model_rule)
same item_rule =
    same_alternatives ((put_in written).form item_rule) ((put_in factored).form item_rule) (record { in_second = places 0 14; in_first = places 0 14; onward = refl; back = refl })
same param_rule = same_form ((put_in written).form param_rule)
same type_rule = same_form ((put_in written).form type_rule)
same int_rule = same_form ((put_in written).form int_rule)
same literal_rule =
    same_alternatives ((put_in written).form literal_rule) ((put_in factored).form literal_rule) (record { in_second = 0 ∷ 2 ∷ 1 ∷ places 3 4; in_first = 0 ∷ 2 ∷ 1 ∷ places 3 4; onward = refl; back = refl })
same read_rule = same_form ((put_in written).form read_rule)
same stmt_rule =
    same_alternatives ((put_in written).form stmt_rule) ((put_in factored).form stmt_rule) (record { in_second = 4 ∷ 3 ∷ places 5 9 ++ (0 ∷ 1 ∷ 2 ∷ 14 ∷ 15 ∷ []); in_first = 11 ∷ 12 ∷ 13 ∷ 1 ∷ 0 ∷ places 2 9 ++ (14 ∷ 15 ∷ []); onward = refl; back = refl })
same block_rule = same_form ((put_in written).form block_rule)
same invoke_rule = same_form ((put_in written).form invoke_rule)
same expr_rule = same_form ((put_in written).form expr_rule)
same and_rule = same_form ((put_in written).form and_rule)
same compare_rule = same_form ((put_in written).form compare_rule)
same sum_rule = same_form ((put_in written).form sum_rule)
same product_rule = same_form ((put_in written).form product_rule)
same unary_rule = same_form ((put_in written).form unary_rule)
same primary_rule =
    same_alternatives ((put_in written).form primary_rule) ((put_in factored).form primary_rule) (record { in_second = places 0 10; in_first = places 0 10; onward = refl; back = refl })

pub alike : AreAlike written model_rule factored model_rule
alike =
    alike_chained written model_rule (put_in written) model_rule factored model_rule (alike_put_in written (λ t k. refl) refl refl model_rule refl)
    (alike_chained (put_in written) model_rule (put_in factored) model_rule factored model_rule (alike_forms (put_in written) (put_in factored) (λ t k. refl) same model_rule)
    (alike_swapped factored model_rule (put_in factored) model_rule (alike_put_in factored (λ t k. refl) refl refl model_rule refl)))
