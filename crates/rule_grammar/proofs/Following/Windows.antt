-- What is read of windows conforms to the grammar of rules, the limit of their depth included: it is passed at a mark with
-- which a level opens, and which some reading reads.
use Rattle.std.proofs.Common.{◌≡◌, ℕ, zero, suc, Bool, true, false, ◌==◌, List, nat_le, if◌then◌else◌, leb-false, ne_eqb, arith, refl}
use Rattle.aerie_base.specs.models.Limits.{depth_limit}
use Rattle.aerie_text.specs.declared.sorts.Sort.{Sort}
use Rattle.aerie_text.specs.declared.sorts.Sort.TheVariants as sort
use Rattle.readers.specs.Marks.{Mark}
use Rattle.readers.specs.Parsed.{Parsed, is_of, next_is}
use Rattle.readers.specs.grammar.Forms.{Form, token, rule, both}
use Rattle.readers.proofs.Conforming.{Begins, begins_both, begins_here, and_then, then_value, value, either_conforms, chosen_conforms, repeated_conforms, rule_conforms, limited_conforms, failed_conforms}
use Rattle.rule_grammar.specs.declared.reading.leveled.Joining.{Joining}
use Rattle.rule_grammar.specs.declared.reading.leveled.Joining.TheVariants.{And, Or}
use Rattle.rule_grammar.specs.declared.reading.leveled.LeveledWindow.{LeveledWindow}
use Rattle.rule_grammar.specs.declared.reading.leveled.WindowPart.{WindowPart}
use Rattle.rule_grammar.specs.declared.reading.leveled.WindowPart.TheVariants.{Window, Conjunction, Atom}
use Rattle.rule_grammar.specs.grammar.Factored.{look}
use Rattle.rule_grammar.specs.grammar.Rules.{Rule, window_rule, conj_rule, atom_rule, sdur_rule}
use Rattle.rule_grammar.specs.grammar.Written.{not_form, parenthesis_form, during_form, shift_form, longer_form}
use Rattle.rule_grammar.specs.reading.Levels.{parenthesis_opening}
use Rattle.rule_grammar.specs.reading.Windows.{Readers, truth_at, during_span_at, during_at, signed_duration_at, parentheses_at, not_at, bounds_at, shifted_at, shift_at, least_at, lasting_at, longer_at, simple_atom_at, atom_at, word_of_joining, operand_of_joining, operand_at, operated_at, operation_at, conjunction_at, disjunction_at, readers_by, inner_readers, whole_at, window_at}
use Rattle.rule_grammar.proofs.Following.Names.{Along, begins_with, taken, had, raw_name_conforms}
use Rattle.rule_grammar.proofs.Following.Sums.{opening_conforms}
use Rattle.rule_grammar.proofs.Following.Tested.{named_atom_conforms, unnamed_atom_conforms}
use Rattle.rule_grammar.proofs.Grammar.Predictive.{predictive}

-- ---- levels

-- where a height is below the room, there is some room
some_room : (room height : ℕ) → nat_le room height ≡ false → (room == 0) ≡ false
some_room room height e = ne_eqb room 0 (λ none. let l = leb-false room height e in omega (arith, l, none))

-- a form that begins with a parenthesis, which opens a level
parenthesis_opening_conforms : (room : ℕ) (b : Form Rule Sort) (part : List Mark → Parsed LeveledWindow) (marks : List Mark)
    → ((room == 0) ≡ false → Along (both (token sort.OpenParenthesis) b) marks (part marks)) → Along (both (token sort.OpenParenthesis) b) marks (parenthesis_opening room part marks)
unfolding parenthesis_opening
parenthesis_opening_conforms room b part marks law =
    let begin : Begins look (is_of sort.OpenParenthesis) (both (token sort.OpenParenthesis) b) = begins_both (begins_with sort.OpenParenthesis) refl in
    chosen_conforms _ _ _ (λ next. opening_conforms room _ part marks (begins_here marks begin next) law) (λ next. failed_conforms (begins_here marks begin next) refl)

-- ---- atoms without operators

truth_conforms : (truth : Bool) (marks : List Mark) → Along (token (if truth then sort.True else sort.False)) marks (truth_at truth marks)
unfolding truth_at
truth_conforms truth marks = then_value _ (taken _ _) (λ word rest. value)

during_span_conforms : (marks : List Mark) → Along (both (token sort.OpenParenthesis) (both (token sort.Name) (token sort.CloseParenthesis))) marks (during_span_at marks)
unfolding during_span_at
during_span_conforms marks = and_then _ (taken sort.OpenParenthesis _) (λ front rest. and_then _ (raw_name_conforms rest) (λ name rest. then_value _ (taken sort.CloseParenthesis _) (λ close rest. value)))

during_conforms : (room : ℕ) (marks : List Mark) → Along during_form marks (during_at room marks)
unfolding during_at
during_conforms room marks = and_then _ (taken sort.During _) (λ word rest. parenthesis_opening_conforms room _ _ rest (λ free. during_span_conforms rest))

pub signed_duration_conforms : (marks : List Mark) → Along (rule sdur_rule) marks (signed_duration_at marks)
unfolding signed_duration_at
signed_duration_conforms marks = rule_conforms predictive (and_then _ (had sort.Minus) (λ negative rest. then_value _ (taken sort.Time _) (λ time behind. value)))

bounds_conform : (marks : List Mark) → Along (both (token sort.Comma) (both (rule sdur_rule) (both (token sort.Comma) (both (rule sdur_rule) (token sort.CloseParenthesis))))) marks (bounds_at marks)
unfolding bounds_at
bounds_conform marks =
    and_then _ (taken sort.Comma _) (λ comma rest. and_then _ (signed_duration_conforms rest) (λ start rest. and_then _ (taken sort.Comma _) (λ comma rest.
    and_then _ (signed_duration_conforms rest) (λ end rest. then_value _ (taken sort.CloseParenthesis _) (λ close rest. value)))))

least_conforms : (marks : List Mark) → Along (both (token sort.Comma) (both (token sort.Time) (token sort.CloseParenthesis))) marks (least_at marks)
unfolding least_at
least_conforms marks = and_then _ (taken sort.Comma _) (λ comma rest. and_then _ (taken sort.Time _) (λ time rest. then_value _ (taken sort.CloseParenthesis _) (λ close rest. value)))

-- ---- atoms and operators, by the readers within a level

-- the rule of a part
abbrev pub rule_of : WindowPart → Rule
rule_of Window = window_rule
rule_of Conjunction = conj_rule
rule_of Atom = atom_rule

-- each of the readers follows its rule
abbrev pub FollowTheirRules : Readers → Type 0
FollowTheirRules inner = (part : WindowPart) (marks : List Mark) → Along (rule (rule_of part)) marks (inner part marks)

-- The readers where so many levels may be opened follow their rules if those with one level less do. Where no level may be
-- opened those are not asked.
module _ (room : ℕ) (inner : Readers) (law : (room == 0) ≡ false → FollowTheirRules inner) where
  parentheses_conform : (room == 0) ≡ false → (marks : List Mark) → Along parenthesis_form marks (parentheses_at inner marks)
  unfolding parentheses_at
  parentheses_conform free marks =
      and_then _ (taken sort.OpenParenthesis _) (λ front rest. and_then _ (law free Window rest) (λ whole rest. then_value _ (taken sort.CloseParenthesis _) (λ close rest. value)))

  not_conforms : (room == 0) ≡ false → (marks : List Mark) → Along not_form marks (not_at inner marks)
  unfolding not_at
  not_conforms free marks = and_then _ (taken sort.Not _) (λ word rest. then_value _ (law free Atom rest) (λ operand rest. value))

  shift_conforms : (marks : List Mark) → Along shift_form marks (shift_at room inner marks)
  unfolding shift_at shifted_at
  shift_conforms marks =
      and_then _ (taken sort.Shift _) (λ word rest. parenthesis_opening_conforms room _ _ rest
      (λ free. and_then _ (taken sort.OpenParenthesis _) (λ front rest. and_then _ (law free Window rest) (λ whole rest. then_value _ (bounds_conform rest) (λ by rest. value)))))

  longer_conforms : (marks : List Mark) → Along longer_form marks (longer_at room inner marks)
  unfolding longer_at lasting_at
  longer_conforms marks =
      and_then _ (taken sort.Longer _) (λ word rest. parenthesis_opening_conforms room _ _ rest
      (λ free. and_then _ (taken sort.OpenParenthesis _) (λ front rest. and_then _ (law free Window rest) (λ whole rest. then_value _ (least_conforms rest) (λ least rest. value)))))

  not_begins : Begins look (is_of sort.Not) not_form
  not_begins = begins_both (begins_with sort.Not) refl

  parenthesis_begins : Begins look (is_of sort.OpenParenthesis) parenthesis_form
  parenthesis_begins = begins_both (begins_with sort.OpenParenthesis) refl

  atom_conforms : (marks : List Mark) → Along (rule atom_rule) marks (atom_at room inner marks)
  unfolding atom_at simple_atom_at
  atom_conforms marks =
      rule_conforms predictive (either_conforms _ _ not_begins refl (λ next. opening_conforms room not_form _ marks (begins_here marks not_begins next) (λ free. not_conforms free marks))
      (λ next. either_conforms _ _ parenthesis_begins refl (λ next. opening_conforms room parenthesis_form _ marks (begins_here marks parenthesis_begins next) (λ free. parentheses_conform free marks))
      (λ next. either_conforms _ _ (begins_with sort.True) refl (λ next. truth_conforms true marks)
      (λ next. either_conforms _ _ (begins_with sort.False) refl (λ next. truth_conforms false marks)
      (λ next. either_conforms _ _ (begins_both (begins_with sort.During) refl) refl (λ next. during_conforms room marks)
      (λ next. either_conforms _ _ (begins_both (begins_with sort.Shift) refl) refl (λ next. shift_conforms marks)
      (λ next. either_conforms _ _ (begins_both (begins_with sort.Longer) refl) refl (λ next. longer_conforms marks)
      (λ next. either_conforms _ _ (begins_both (begins_with sort.Name) refl) refl (λ next. named_atom_conforms room marks)
      (λ next. unnamed_atom_conforms room marks)))))))))

  -- an operator and its right side
  operand_conforms : (joining : Joining) → (room == 0) ≡ false → (marks : List Mark) → Along (both (token (word_of_joining joining)) (rule (rule_of (operand_of_joining joining)))) marks (operand_at joining inner marks)
  unfolding operand_at
  operand_conforms joining free marks = and_then _ (taken (word_of_joining joining) _) (λ word rest. law free (operand_of_joining joining) rest)

  operated_conforms : (joining : Joining) → (room == 0) ≡ false → (left : LeveledWindow) (marks : List Mark)
      → Along (both (token (word_of_joining joining)) (rule (rule_of (operand_of_joining joining)))) marks (operated_at joining inner left marks)
  unfolding operated_at
  operated_conforms joining free left marks = then_value _ (operand_conforms joining free marks) (λ right rest. value)

  operation_begins : (joining : Joining) → Begins look (is_of (word_of_joining joining)) (both (token (word_of_joining joining)) (rule (rule_of (operand_of_joining joining))))
  operation_begins joining = begins_both (begins_with (word_of_joining joining)) refl

  operation_conforms : (joining : Joining) (left : LeveledWindow) (marks : List Mark) → next_is (word_of_joining joining) marks ≡ true
      → Along (both (token (word_of_joining joining)) (rule (rule_of (operand_of_joining joining)))) marks (operation_at room joining inner left marks)
  unfolding operation_at
  operation_conforms joining left marks next =
      limited_conforms _ _ _ predictive (λ past. begins_here marks (operation_begins joining) next) (λ within. operated_conforms joining (some_room room left.height within) left marks)

  conjunction_conforms : (marks : List Mark) → Along (rule conj_rule) marks (conjunction_at room inner marks)
  unfolding conjunction_at
  conjunction_conforms marks =
      rule_conforms predictive (and_then _ (atom_conforms marks) (λ left rest. repeated_conforms _ (operation_begins And) refl (λ now here next. operation_conforms And now here next)))

  disjunction_conforms : (marks : List Mark) → Along (rule window_rule) marks (disjunction_at room inner marks)
  unfolding disjunction_at
  disjunction_conforms marks =
      rule_conforms predictive (and_then _ (conjunction_conforms marks) (λ left rest. repeated_conforms _ (operation_begins Or) refl (λ now here next. operation_conforms Or now here next)))

  one_level_conforms : FollowTheirRules (readers_by room inner)
  one_level_conforms Window marks = disjunction_conforms marks
  one_level_conforms Conjunction marks = conjunction_conforms marks
  one_level_conforms Atom marks = atom_conforms marks

-- ---- windows

-- the readers within a level follow their rules where there may be one
inner_readers_conform : (room : ℕ) → (room == 0) ≡ false → FollowTheirRules (inner_readers room)
inner_readers_conform zero free = cc
inner_readers_conform (suc room) free = one_level_conforms room (inner_readers room) (inner_readers_conform room)

whole_conforms : (room : ℕ) (marks : List Mark) → Along (rule window_rule) marks (whole_at room marks)
whole_conforms room marks = disjunction_conforms room (inner_readers room) (inner_readers_conform room) marks

pub window_conforms : (marks : List Mark) → Along (rule window_rule) marks (window_at marks)
unfolding window_at
window_conforms marks = then_value _ (whole_conforms depth_limit marks) (λ whole rest. value)
