-- A resource of which nothing is refused is one of the model.
use Rattle.std.proofs.Common.{◌≡◌, ℕ, suc, ◌≤◌, ℤ, pos, ◌+ℤ◌, Bool, true, false, ◌&&◌, List, [], ◌∷◌, ◌++◌, Option, Some, None, option_to_list, is_some, length, nat_le, if◌then◌else◌, refl, sym, ap, subst, arith}
use Rattle.std.proofs.lemmas.Bool.{le-leb}
use Rattle.std.proofs.lemmas.List.{take_all, length-append}
use Rattle.std.specs.List.{AllByRecursion, list_all}
use Rattle.std.specs.Int.RustNames.{unsigned_abs}
use Rattle.aerie_base.specs.declared.expressions.Operator.TheVariants as operator
use Rattle.aerie_base.specs.declared.linear.Term.{Term}
use Rattle.aerie_base.specs.declared.operands.CellRead.{CellRead}
use Rattle.aerie_base.specs.declared.operands.CellRead.TheVariants as read
use Rattle.aerie_base.specs.declared.operands.Operand.{Operand}
use Rattle.aerie_base.specs.declared.operands.Operand.TheVariants as operand
use Rattle.aerie_base.specs.declared.places.Place.{Place}
use Rattle.aerie_base.specs.declared.values.Kind.{Kind}
use Rattle.aerie_base.specs.declared.values.Kind.TheVariants.{Int, Truth, Enum}
use Rattle.aerie_base.specs.models.Cells.{NamedCells, read_kind}
use Rattle.aerie_base.specs.models.Limits.{term_limit, coefficient_limit}
use Rattle.aerie_base.specs.models.Resources.{is_shown, is_summed, is_summand, is_sum}
use Rattle.model_reader.specs.Limits.{HasLiteralsInRange}
use Rattle.model_reader.specs.declared.raw.expressions.RawExpr.{RawExpr}
use Rattle.model_reader.specs.declared.raw.expressions.RawExprKind.{RawExprKind, Literal, Read, Not', Negate', Binary', end_of-RawExpr, more_of-RawExpr}
use Rattle.model_reader.specs.declared.raw.reads.RawPart.{RawPart}
use Rattle.model_reader.specs.declared.raw.reads.RawPart.TheVariants.{Whole, Volume, Rate, Conflicted}
use Rattle.model_reader.specs.declared.raw.reads.RawRead.{RawRead}
use Rattle.model_check.specs.declared.causes.Cause.TheVariants.{OutOfRange}
use Rattle.diagnostics.specs.declared.diagnostic.Diagnostic.{Diagnostic}
use Rattle.model_check.specs.declared.causes.Cause.{Cause}
use Rattle.model_check.specs.declared.leaves.FormUse.TheVariants.{Resource}
use Rattle.model_check.specs.declared.leaves.Leaf.{Leaf}
use Rattle.model_check.specs.declared.scopes.LocalSymbol.{LocalSymbol}
use Rattle.model_check.specs.declared.symbols.CellSort.{CellSort}
use Rattle.model_check.specs.declared.symbols.CellSort.TheVariants.{Counter, Register, Accumulator}
use Rattle.model_check.specs.declared.symbols.CellSymbol.{CellSymbol}
use Rattle.model_check.specs.declared.symbols.Symbols.{Symbols}
use Rattle.model_check.specs.BodyScopes.{empty_scope}
use Rattle.model_check.specs.CellReads.{FoundCell, whole_sort, flow_sort, flag_sort, sort_operand, part_diagnostics, part_operand, read_diagnostics, read_operand}
use Rattle.model_check.specs.Expressions.{expr_diagnostics}
use Rattle.model_check.specs.LinearForms.{is_leaf_kind, is_leaf_read, is_counter_sort, is_summed_part, may_stand, coefficient_wrong, signed_by, read_leaf, unfit_leaf, plain_number, negated_leaf, negated_leaves, Leaves, leaves_step, no_leaves, leaves_of, terms_in, constants_in, sum_of_leaves, linear_of}
use Rattle.diagnostics.specs.ShortNumbers.{short}
use Rattle.model_check.specs.ModelDiagnostics.{shown_diagnostics, discrete_diagnostics, linear_diagnostics}
use Rattle.model_check.specs.ModelMeaning.{read_of}
use Rattle.model_check.specs.NameTables.{entry_in}
use Rattle.model_check.specs.RawExpressions.{raw_gives}
use Rattle.diagnostics.specs.NotedInTurn.{front_empty, back_empty}
use Rattle.model_check.proofs.Sound.Knows.{IsCell, IsLocal, part_typed}
use Rattle.model_check.proofs.Sound.Linear.{all_of_form, few_leaves, none_wrong, signed_size}

module _ (symbols : Symbols) (cells : NamedCells) (its : (name : List ℕ) (entry : ℕ × CellSymbol) → entry_in name symbols.cells ≡ Some entry → IsCell (read_kind cells) (short entry.0) entry.1.sort) where
  some_kind : {of : Kind} {found : Option Kind} → found ≡ Some of → is_some found ≡ true
  some_kind e = ap is_some e

  -- ---- discrete resources

  abbrev IsShownRead : CellRead → Type 0
  IsShownRead of = (is_shown of ≡ true) × (is_some (read_kind cells of) ≡ true)

  shown_whole : (at : Place) (cell : ℕ) (sort : CellSort) → IsCell (read_kind cells) cell sort → whole_sort at sort ≡ [] → IsShownRead (read_of (sort_operand cell sort))
  shown_whole at cell Counter is none = (refl, some_kind is)
  shown_whole at cell (Register kind) is none = (refl, some_kind is.2)
  shown_whole at cell Accumulator is none = cc

  shown_rate : (at : Place) (cell : ℕ) (sort : CellSort) → IsCell (read_kind cells) cell sort → flow_sort at sort ≡ [] → IsShownRead (read.Rate cell)
  shown_rate at cell Counter is none = cc
  shown_rate at cell (Register kind) is none = cc
  shown_rate at cell Accumulator is none = (refl, some_kind is.1)

  shown_flag : (at : Place) (cell : ℕ) (sort : CellSort) → IsCell (read_kind cells) cell sort → flag_sort at sort ≡ [] → IsShownRead (read.Conflicted cell)
  shown_flag at cell Counter is none = cc
  shown_flag at cell (Register kind) is none = (refl, some_kind is.3)
  shown_flag at cell Accumulator is none = cc

  shown_part : (part : RawPart) (at : Place) (cell : FoundCell) → ((entry : ℕ × CellSymbol) → cell ≡ Some entry → IsCell (read_kind cells) (short entry.0) entry.1.sort)
      → part_diagnostics part at None cell ++ shown_diagnostics part at cell ≡ [] → IsShownRead (read_of (part_operand part None cell))
  shown_part Whole at None is none = cc
  shown_part Whole at (Some cell) is none = shown_whole at (short cell.0) cell.1.sort (is cell refl) (front_empty (whole_sort at cell.1.sort) _ none)
  shown_part Volume at None is none = cc
  shown_part Volume at (Some cell) is none = absurd (no_one (back_empty (flow_sort at cell.1.sort) _ none))
    where
      no_one : {A : Type 0} {a : A} → a ∷ [] ≡ [] → ⊥
      no_one h = cc
  shown_part Rate at None is none = cc
  shown_part Rate at (Some cell) is none = shown_rate at (short cell.0) cell.1.sort (is cell refl) (front_empty (flow_sort at cell.1.sort) _ none)
  shown_part Conflicted at None is none = cc
  shown_part Conflicted at (Some cell) is none = shown_flag at (short cell.0) cell.1.sort (is cell refl) (front_empty (flag_sort at cell.1.sort) _ none)

  pub discrete_good : (raw : RawRead) → discrete_diagnostics symbols raw ≡ []
      → (is_shown (read_of (read_operand symbols empty_scope raw)) && is_some (read_kind cells (read_of (read_operand symbols empty_scope raw)))) ≡ true
  discrete_good raw none =
      let shown = shown_part raw.part raw.name.at (entry_in raw.name.name symbols.cells) (its raw.name.name) none in
      rw (shown.0, shown.1) refl

  -- ---- linear resources

  abbrev IsSummand : Option Term → ℤ → Type 0
  IsSummand None constant = ⊥
  IsSummand (Some term) constant = (is_summand cells term ≡ true) × (constant ≡ pos 0)

  abbrev Right : Leaf → Type 0
  Right leaf = leaf.wrong ≡ None → IsSummand leaf.term leaf.constant

  small_coefficient : (at : Place) (coefficient : ℤ) → coefficient_wrong at coefficient ≡ None → nat_le (unsigned_abs coefficient) coefficient_limit ≡ true
  small_coefficient at coefficient = go (nat_le (unsigned_abs coefficient) coefficient_limit)
    where
      go : (b : Bool) → (let wrong : Option (Diagnostic Cause) = if b then None else Some (record { place = at; cause = OutOfRange }) in wrong) ≡ None → b ≡ true
      go true none = refl
      go false none = cc

  stands_if : (kind : Kind) (stands : Bool) → is_leaf_kind (Some kind) stands ≡ true → stands ≡ true
  stands_if Int stands e = e
  stands_if Truth stands e = cc
  stands_if (Enum number) stands e = cc

  no_local : (name : List ℕ) (entry : ℕ × LocalSymbol) → entry_in name empty_scope.known ≡ Some entry → IsLocal (λ slot. None) entry.1
  no_local name entry e = cc

  stands : (raw : RawRead) → read_diagnostics symbols empty_scope raw ≡ [] → is_leaf_read Resource symbols empty_scope raw ≡ true → may_stand Resource symbols raw ≡ true
  stands raw none leaf =
      let typed = part_typed (λ slot. None) (read_kind cells) raw.part raw.name.at None (entry_in raw.name.name symbols.cells) (no_local raw.name.name) (its raw.name.name) none in
      stands_if typed.0 (may_stand Resource symbols raw) (subst (λ (k : Option Kind). is_leaf_kind k (may_stand Resource symbols raw) ≡ true) typed.1 leaf)

  summed_whole : (at : Place) (cell : ℕ) (sort : CellSort) → IsCell (read_kind cells) cell sort → whole_sort at sort ≡ [] → is_counter_sort sort ≡ true → is_summed cells (sort_operand cell sort) ≡ true
  summed_whole at cell Counter is none counter = some_kind is
  summed_whole at cell (Register kind) is none counter = cc
  summed_whole at cell Accumulator is none counter = cc

  summed_volume : (at : Place) (cell : ℕ) (sort : CellSort) → IsCell (read_kind cells) cell sort → flow_sort at sort ≡ [] → is_summed cells (operand.Read (read.Volume cell)) ≡ true
  summed_volume at cell Counter is none = cc
  summed_volume at cell (Register kind) is none = cc
  summed_volume at cell Accumulator is none = some_kind is.0

  summed_part : (part : RawPart) (at : Place) (cell : FoundCell) → ((entry : ℕ × CellSymbol) → cell ≡ Some entry → IsCell (read_kind cells) (short entry.0) entry.1.sort)
      → part_diagnostics part at None cell ≡ [] → is_summed_part part cell ≡ true → is_summed cells (part_operand part None cell) ≡ true
  summed_part Whole at None is none stands = cc
  summed_part Whole at (Some cell) is none stands = summed_whole at (short cell.0) cell.1.sort (is cell refl) none stands
  summed_part Volume at None is none stands = cc
  summed_part Volume at (Some cell) is none stands = summed_volume at (short cell.0) cell.1.sort (is cell refl) none
  summed_part Rate at cell is none stands = cc
  summed_part Conflicted at cell is none stands = cc

  summand_is : (negative : Bool) (coefficient : ℤ) (of : Operand) → nat_le (unsigned_abs coefficient) coefficient_limit ≡ true → is_summed cells of ≡ true
      → is_summand cells (record { coefficient = signed_by negative coefficient; operand = of }) ≡ true
  summand_is negative coefficient of small summed = rw (signed_size negative coefficient, small, summed) refl

  read_right : (at coefficient_at : Place) (negative : Bool) (coefficient : ℤ) (raw : RawRead) → read_diagnostics symbols empty_scope raw ≡ []
      → Right (read_leaf Resource symbols empty_scope at coefficient_at negative coefficient raw)
  read_right at coefficient_at negative coefficient raw none = go (is_leaf_read Resource symbols empty_scope raw) refl
    where
      go : (b : Bool) → is_leaf_read Resource symbols empty_scope raw ≡ b →
          Right (if b
          then record {
            at = at;
            wrong = coefficient_wrong coefficient_at coefficient;
            term = Some (record { coefficient = signed_by negative coefficient; operand = read_operand symbols empty_scope raw });
            constant = pos 0;
          }
          else unfit_leaf at)
      go true e right = (
        summand_is negative coefficient (read_operand symbols empty_scope raw) (small_coefficient coefficient_at coefficient right)
            (summed_part raw.part raw.name.at (entry_in raw.name.name symbols.cells) (its raw.name.name) none (stands raw none e)),
        refl,
      )
      go false e right = cc

  right_leaves : (raw : RawExpr) → HasLiteralsInRange raw.what → expr_diagnostics symbols empty_scope raw ≡ [] → AllByRecursion Right (leaves_of Resource symbols empty_scope raw false)
  right_leaves raw within none = all_of_form Resource symbols empty_scope Right (λ at number is right. cc) read_right (λ at right. cc) raw within none

  -- ---- sums

  record IsSumOf (terms : List Term) (constant : ℤ) (count : ℕ) : Type 0 where
    right : list_all (is_summand cells) terms ≡ true
    as_many : length terms ≡ count
    nothing : constant ≡ pos 0

  one_more : (term : Option Term) (here : ℤ) (terms : List Term) (constant : ℤ) (count : ℕ) → IsSummand term here → IsSumOf terms constant count → IsSumOf (option_to_list term ++ terms) (here +ℤ constant) (suc count)
  one_more None here terms constant count is sum = absurd is
  one_more (Some term) here terms constant count is sum =
      record { right = rw is.0 sum.right; as_many = ap suc sum.as_many; nothing = (λ i. is.1 i +ℤ sum.nothing i) }

  sum_is : (leaves : List Leaf) → AllByRecursion (λ leaf. IsSummand leaf.term leaf.constant) leaves → IsSumOf (terms_in leaves) (constants_in leaves) (length leaves)
  sum_is [] all = record { right = refl; as_many = refl; nothing = refl }
  sum_is (leaf ∷ rest) all = one_more leaf.term leaf.constant (terms_in rest) (constants_in rest) (length rest) all.0 (sum_is rest all.1)

  is_sum_if : (terms : List Term) (constant : ℤ) (count : ℕ) → 1 ≤ count → count ≤ term_limit → IsSumOf terms constant count → is_sum cells (record { terms = terms; constant = constant }) ≡ true
  is_sum_if terms constant count some few sum =
      let many = sum.as_many in
      rw (le-leb 1 (length terms) (omega (arith, many, some)), le-leb (length terms) term_limit (omega (arith, many, few)), sum.right, sum.nothing) refl

  more_in_front : (xs more : List Leaf) → 1 ≤ length xs → 1 ≤ length (xs ++ more)
  more_in_front xs more some = let long = length-append xs more in omega (arith, some, long)

  some_negated : (leaf : Option Leaf) (inner : Leaves) (negative : Bool) → ((other : Bool) → 1 ≤ length (inner other)) → 1 ≤ length (negated_leaves leaf inner negative)
  some_negated None inner true some = some false
  some_negated None inner false some = some true
  some_negated (Some leaf) inner negative some = omega arith

  -- there is a leaf in each form
  some_leaf : (at : Place) (what : RawExprKind) (negative : Bool) → 1 ≤ length (raw_gives Leaves no_leaves (leaves_step Resource symbols empty_scope) at what negative)
  some_leaf at (Literal literal) negative = omega arith
  some_leaf at (Read read) negative = omega arith
  some_leaf at (Not' _ inner) negative = omega arith
  some_leaf at (Negate' s (more_of-RawExpr inner_at inner end_of-RawExpr)) negative =
      some_negated (negated_leaf Resource at negative (plain_number inner)) (raw_gives Leaves no_leaves (leaves_step Resource symbols empty_scope) inner_at inner) negative (λ other. some_leaf inner_at inner other)
  some_leaf at (Binary' operator.Plus s (more_of-RawExpr left_at left end_of-RawExpr) _ right) negative = more_in_front _ _ (some_leaf left_at left negative)
  some_leaf at (Binary' operator.Minus s (more_of-RawExpr left_at left end_of-RawExpr) _ right) negative = more_in_front _ _ (some_leaf left_at left negative)
  some_leaf at (Binary' operator.Times _ left _ right) negative = omega arith
  some_leaf at (Binary' operator.Or _ left _ right) negative = omega arith
  some_leaf at (Binary' operator.And _ left _ right) negative = omega arith
  some_leaf at (Binary' (operator.Compare how) _ left _ right) negative = omega arith
  some_leaf at (Binary' operator.Divide _ left _ right) negative = omega arith
  some_leaf at (Binary' operator.Remainder _ left _ right) negative = omega arith

  some_leaves : (raw : RawExpr) → 1 ≤ length (leaves_of Resource symbols empty_scope raw false)
  unfolding leaves_of
  some_leaves raw = some_leaf raw.at raw.what false

  pub linear_good : (raw : RawExpr) → HasLiteralsInRange raw.what → linear_diagnostics symbols raw ≡ [] → is_sum cells (linear_of Resource symbols empty_scope raw) ≡ true
  linear_good raw within none =
      let expr_none = front_empty (expr_diagnostics symbols empty_scope raw) _ none in
      let form = back_empty (expr_diagnostics symbols empty_scope raw) _ none in
      let leaves = leaves_of Resource symbols empty_scope raw false in
      let most = few_leaves 0 leaves (omega arith) form in
      let few : length leaves ≤ term_limit = omega (arith, most) in
      let all = none_wrong (λ leaf. IsSummand leaf.term leaf.constant) 0 leaves (right_leaves raw within expr_none) form in
      subst (λ (some : List Leaf). is_sum cells (sum_of_leaves some) ≡ true) (sym (take_all term_limit leaves few))
      (is_sum_if (terms_in leaves) (constants_in leaves) (length leaves) (some_leaves raw) few (sum_is leaves all))
