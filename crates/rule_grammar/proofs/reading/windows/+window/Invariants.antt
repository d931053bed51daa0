use Rattle.std.proofs.Common.{◌≤◌, length, ◌+◌, ◌*◌}
use Rattle.aerie_text.specs.declared.sorts.Sort.TheVariants as sort
use Rattle.readers.specs.Parsed.{is_of}
use Rattle.readers.proofs.Going.{Going}
use Rattle.rule_grammar.specs.declared.reading.leveled.Joining.TheVariants.{And, Or}
use Rattle.rule_grammar.specs.reading.Windows.{inner_readers, operation_at}
use Rattle.rule_grammar.proofs.reading.windows.+window.Given as goal

abbrev pub decreases-inner : goal.decreases-inner
decreases-inner l = 10 * l.room

abbrev pub decreases-parentheses : goal.decreases-parentheses
decreases-parentheses l = 10 * l.room + 1

abbrev pub decreases-not : goal.decreases-not
decreases-not l = 10 * l.room + 1

abbrev pub decreases-read_shifted : goal.decreases-read_shifted
decreases-read_shifted l = 10 * l.room + 1

abbrev pub decreases-read_lasting : goal.decreases-read_lasting
decreases-read_lasting l = 10 * l.room + 1

abbrev pub decreases-shift : goal.decreases-shift
decreases-shift l = 10 * l.room + 2

abbrev pub decreases-longer : goal.decreases-longer
decreases-longer l = 10 * l.room + 2

abbrev pub decreases-simple_atom : goal.decreases-simple_atom
decreases-simple_atom l = 10 * l.room + 3

abbrev pub decreases-atom : goal.decreases-atom
decreases-atom l = 10 * l.room + 4

abbrev pub decreases-operand : goal.decreases-operand
decreases-operand l = 10 * l.room + 1

abbrev pub decreases-operated : goal.decreases-operated
decreases-operated l = 10 * l.room + 2

abbrev pub decreases-operation : goal.decreases-operation
decreases-operation l = 10 * l.room + 3

abbrev pub decreases-conjunction : goal.decreases-conjunction
decreases-conjunction l = 10 * l.room + 5

abbrev pub decreases-disjunction : goal.decreases-disjunction
decreases-disjunction l = 10 * l.room + 6

abbrev pub invariant-conjunction-loop-alloc : goal.invariant-conjunction-loop-alloc
invariant-conjunction-loop-alloc l =
    Going (is_of sort.And) (operation_at l.room And (inner_readers l.room)) l.initial.left l.initial.reader l.left l.reader
    × (l.left.height ≤ l.room)

abbrev pub decreases-conjunction-loop-alloc : goal.decreases-conjunction-loop-alloc
decreases-conjunction-loop-alloc l = length l.reader

abbrev pub invariant-disjunction-loop-alloc : goal.invariant-disjunction-loop-alloc
invariant-disjunction-loop-alloc l =
    Going (is_of sort.Or) (operation_at l.room Or (inner_readers l.room)) l.initial.left l.initial.reader l.left l.reader
    × (l.left.height ≤ l.room)

abbrev pub decreases-disjunction-loop-alloc : goal.decreases-disjunction-loop-alloc
decreases-disjunction-loop-alloc l = length l.reader
