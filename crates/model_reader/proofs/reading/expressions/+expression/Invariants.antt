use Rattle.std.proofs.Common.{◌≤◌, length, ◌+◌, ◌*◌}
use Rattle.aerie_base.specs.declared.expressions.Operator.TheVariants.{And, Or}
use Rattle.aerie_text.specs.declared.sorts.Sort.TheVariants.{DoubleAmpersand, DoubleBar}
use Rattle.readers.specs.Parsed.{is_of}
use Rattle.readers.proofs.Going.{Going}
use Rattle.model_reader.specs.declared.reading.expressions.precedence.Precedence.TheVariants.{Conjunction, Comparison, Product, Unary}
use Rattle.model_reader.specs.reading.Names.{standing_for}
use Rattle.model_reader.specs.reading.Expressions.{inner_readers, operation_at, is_product_sign, product_sign_at, is_sum_sign, sum_sign_at}
use Rattle.model_reader.proofs.reading.expressions.+expression.Given as goal

abbrev pub decreases-parenthesis : goal.decreases-parenthesis
decreases-parenthesis l = 10 * l.room + 2

abbrev pub decreases-primary : goal.decreases-primary
decreases-primary l = 10 * l.room + 3

abbrev pub decreases-unary : goal.decreases-unary
decreases-unary l = 10 * l.room + 4

abbrev pub decreases-operand : goal.decreases-operand
decreases-operand l = 10 * l.room + 1

abbrev pub decreases-operation : goal.decreases-operation
decreases-operation l = 10 * l.room + 2

abbrev pub decreases-product : goal.decreases-product
decreases-product l = 10 * l.room + 5

abbrev pub decreases-sum : goal.decreases-sum
decreases-sum l = 10 * l.room + 6

abbrev pub decreases-comparison : goal.decreases-comparison
decreases-comparison l = 10 * l.room + 7

abbrev pub decreases-conjunction : goal.decreases-conjunction
decreases-conjunction l = 10 * l.room + 8

abbrev pub decreases-disjunction : goal.decreases-disjunction
decreases-disjunction l = 10 * l.room + 9

abbrev pub decreases-inner : goal.decreases-inner
decreases-inner l = 10 * l.room + 0

abbrev pub invariant-product-loop-alloc : goal.invariant-product-loop-alloc
invariant-product-loop-alloc l =
    Going is_product_sign (operation_at l.room product_sign_at (inner_readers l.room Unary)) l.initial.left l.initial.reader l.left l.reader
    × (l.left.height ≤ l.room)

abbrev pub decreases-product-loop-alloc : goal.decreases-product-loop-alloc
decreases-product-loop-alloc l = length l.reader

abbrev pub invariant-sum-loop-alloc : goal.invariant-sum-loop-alloc
invariant-sum-loop-alloc l =
    Going is_sum_sign (operation_at l.room sum_sign_at (inner_readers l.room Product)) l.initial.left l.initial.reader l.left l.reader
    × (l.left.height ≤ l.room)

abbrev pub decreases-sum-loop-alloc : goal.decreases-sum-loop-alloc
decreases-sum-loop-alloc l = length l.reader

abbrev pub invariant-conjunction-loop-alloc : goal.invariant-conjunction-loop-alloc
invariant-conjunction-loop-alloc l =
    Going (is_of DoubleAmpersand) (operation_at l.room (standing_for DoubleAmpersand And) (inner_readers l.room Comparison)) l.initial.left l.initial.reader l.left l.reader
    × (l.left.height ≤ l.room)

abbrev pub decreases-conjunction-loop-alloc : goal.decreases-conjunction-loop-alloc
decreases-conjunction-loop-alloc l = length l.reader

abbrev pub invariant-disjunction-loop-alloc : goal.invariant-disjunction-loop-alloc
invariant-disjunction-loop-alloc l =
    Going (is_of DoubleBar) (operation_at l.room (standing_for DoubleBar Or) (inner_readers l.room Conjunction)) l.initial.left l.initial.reader l.left l.reader
    × (l.left.height ≤ l.room)

abbrev pub decreases-disjunction-loop-alloc : goal.decreases-disjunction-loop-alloc
decreases-disjunction-loop-alloc l = length l.reader
