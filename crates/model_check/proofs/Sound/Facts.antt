-- What each declaration of a model is, of which nothing is refused: types, values, cells, and what stands for them in the
-- text.
use Rattle.std.proofs.Common.{◌≡◌, ℕ, suc, ◌≤◌, ◌<◌, Bool, true, false, ◌&&◌, List, [], ◌∷◌, ◌++◌, Option, Some, None, option_map, position, nat_lt, slice_get, length, if◌then◌else◌, refl, sym, ap, ◌∙◌, subst, arith}
use Rattle.std.proofs.lemmas.Bool.{le-leb}
use Rattle.std.proofs.lemmas.Bool.Decides.{nat_tests}
use Rattle.std.specs.List.{list_all, position_or_len}
use Rattle.aerie_base.specs.Ranges.{number_limit, is_rate}
use Rattle.std.specs.Int.RustNames.{unsigned_abs}
use Rattle.aerie_base.specs.declared.models.CellStart.{CellStart}
use Rattle.aerie_base.specs.declared.models.CellStart.TheVariants as start
use Rattle.aerie_base.specs.declared.models.EnumType.{EnumType}
use Rattle.aerie_base.specs.declared.places.Place.{Place}
use Rattle.aerie_base.specs.declared.values.Kind.{Kind}
use Rattle.aerie_base.specs.declared.values.Kind.TheVariants.{Int, Truth}
use Rattle.aerie_base.specs.expressions.Arithmetic.{value_kind}
use Rattle.aerie_base.specs.models.Cells.{NamedCells, cell_start_at, counter_kind, register_kind, flag_kind, flow_kind, read_kind, is_cell}
use Rattle.aerie_base.specs.models.Names.{are_distinct}
use Rattle.aerie_base.specs.models.ValidModel.{is_enum}
use Rattle.aerie_base.specs.models.Limits.{variant_limit}
use Rattle.aerie_base.specs.models.Values.{is_kind, is_value_of, variants_of, variant_count}
use Rattle.model_reader.specs.Limits.{IsLiteralInRange, IsLimitedItem}
use Rattle.model_reader.specs.declared.raw.items.RawItem.{RawItem}
use Rattle.model_reader.specs.declared.raw.items.RawItem.TheVariants as item
use Rattle.model_reader.specs.declared.raw.literals.RawLiteral.{RawLiteral}
use Rattle.model_reader.specs.declared.raw.literals.RawLiteralKind.{RawLiteralKind}
use Rattle.model_reader.specs.declared.raw.literals.RawLiteralKind.TheVariants as literal
use Rattle.model_reader.specs.declared.raw.names.RawName.{RawName}
use Rattle.model_reader.specs.declared.raw.types.RawType.{RawType}
use Rattle.model_reader.specs.declared.raw.types.RawType.TheVariants as type
use Rattle.model_check.specs.declared.symbols.CellSort.{CellSort}
use Rattle.model_check.specs.declared.symbols.CellSort.TheVariants as sort
use Rattle.model_check.specs.declared.symbols.CellSymbol.{CellSymbol}
use Rattle.model_check.specs.declared.symbols.EnumSymbol.{EnumSymbol}
use Rattle.model_check.specs.declared.symbols.Symbols.{Symbols}
use Rattle.diagnostics.specs.ShortNumbers.{short}
use Rattle.model_check.specs.Literals.{enum_kind, literal_kind, literal_diagnostics, literal_value, mismatch}
use Rattle.model_check.specs.ModelDiagnostics.{typed_literal_diagnostics, rate_diagnostics, item_diagnostics}
use Rattle.model_check.specs.ModelMeaning.{names_of, enum_of, known_kind, kind_written, rate_of, cell_of_item}
use Rattle.model_check.specs.ModelSymbols.{type_kind, known_enum, type_diagnostics}
use Rattle.model_check.specs.NameTables.{entry_in}
use Rattle.diagnostics.specs.NotedInTurn.{front_empty, back_empty, holds_if_empty}
use Rattle.model_check.proofs.Sound.Empty.{kinds_match, same_kind_swapped}
use Rattle.model_check.proofs.Sound.Invokes.{AllPairs}
use Rattle.model_check.proofs.Sound.Knows.{IsCell, IsEnum, sound_literal}
use Rattle.model_check.proofs.Sound.Names.{are_new}
use Rattle.model_check.proofs.Sound.Tables.{pair_at, enum_symbol, cell_symbol}

-- nothing is refused of a declaration within the limits
abbrev pub IsGood : Symbols → RawItem → Type 0
IsGood symbols one = IsLimitedItem one × (item_diagnostics symbols one ≡ [])

-- ---- numbers of 16 bits

pub short_is : (number : ℕ) → number ≤ 65535 → short number ≡ number
short_is number le = omega arith

pub short_below : (number count : ℕ) → number < count → nat_lt (short number) count ≡ true
short_below number count lt = grind (arith, nat_tests)

-- ---- enumerations

abbrev pub SameVariants : EnumSymbol → EnumType → Type 0
SameVariants symbol enum = symbol.variants ≡ enum.variants

names_count : (names : List RawName) → length (names_of names) ≡ length names
names_count [] = refl
names_count (name ∷ rest) = ap suc (names_count rest)

pub enum_pairs : (symbols : Symbols) (one : RawItem) → IsGood symbols one → AllPairs SameVariants (enum_symbol one) (enum_of one)
enum_pairs symbols (item.Enum name variants) good = let new = are_new [] variants refl good.1 in (new.together, tt)
enum_pairs symbols (item.Counter name start) good = tt
enum_pairs symbols (item.Register name type start) good = tt
enum_pairs symbols (item.Accumulator name volume rate) good = tt
enum_pairs symbols (item.Discrete name read) good = tt
enum_pairs symbols (item.Linear name sum) good = tt
enum_pairs symbols (item.Activity name parameters result requires_ body) good = tt
enum_pairs symbols (item.Daemon body) good = tt

is_enum_if : (name : List ℕ) (variants : List (List ℕ)) → 1 ≤ length variants → length variants ≤ variant_limit → are_distinct variants ≡ true → is_enum (record { name = name; variants = variants }) ≡ true
is_enum_if name variants some few distinct = rw (le-leb 1 (length variants) some, le-leb (length variants) variant_limit few, distinct) refl

pub enum_good : (symbols : Symbols) (one : RawItem) → IsGood symbols one → list_all is_enum (enum_of one) ≡ true
enum_good symbols (item.Enum name variants) good =
    let new = are_new [] variants refl good.1 in
    let limited = good.0 in
    let count = names_count variants in
    rw (is_enum_if name.name (names_of variants) (omega (arith, count, limited.0)) (omega (arith, count, limited.1)) new.distinct) refl
enum_good symbols (item.Counter name start) good = refl
enum_good symbols (item.Register name type start) good = refl
enum_good symbols (item.Accumulator name volume rate) good = refl
enum_good symbols (item.Discrete name read) good = refl
enum_good symbols (item.Linear name sum) good = refl
enum_good symbols (item.Activity name parameters result requires_ body) good = refl
enum_good symbols (item.Daemon body) good = refl

pub position_within : {A : Type 0} (test : A → Bool) (xs : List A) (number : ℕ) → position test xs ≡ Some number → number < length xs
position_within test xs number e = go (nat_lt (position_or_len test xs) (length xs)) refl e
  where
    go : (b : Bool) → nat_lt (position_or_len test xs) (length xs) ≡ b → (if b then Some (position_or_len test xs) else None) ≡ Some number → number < length xs
    go true h k = let same : position_or_len test xs ≡ number = cc in let lt : position_or_len test xs < length xs = grind (arith, nat_tests) in omega (arith, same, lt)
    go false h k = cc

-- an enumeration that is found is one of the model
pub found_enum : (symbols : List EnumSymbol) (enums : List EnumType) (entry : ℕ × EnumSymbol) → AllPairs SameVariants symbols enums → length enums ≤ 64 → slice_get symbols entry.0 ≡ Some entry.1
    → (nat_lt (short entry.0) (length enums) ≡ true) × IsEnum enums entry
found_enum symbols enums entry pairs few stands =
    let pair = pair_at SameVariants symbols enums entry.0 entry.1 pairs stands in
    let here : short entry.0 ≡ entry.0 = short_is entry.0 (omega (arith, pair.below, few)) in
    let count : variant_count enums (short entry.0) ≡ length entry.1.variants =
    ap (variant_count enums) here ∙ ap variants_of pair.stands ∙ ap length (sym pair.related) in (
      short_below entry.0 (length enums) pair.below,
      λ name number e.
          subst (λ (n : ℕ). nat_lt (short number) n ≡ true) (sym count) (short_below number (length entry.1.variants) (position_within _ entry.1.variants number e)),
    )

-- ---- types and literals

module _ (symbols : Symbols) (enums : List EnumType) (known : (name : List ℕ) (entry : ℕ × EnumSymbol) → entry_in name symbols.enums ≡ Some entry → (nat_lt (short entry.0) (length enums) ≡ true) × IsEnum enums entry) where
  pub record IsWritten (written : RawType) : Type 0 where
    pub of : Kind
    pub kind_is : type_kind symbols.enums written ≡ Some of
    pub written_is : kind_written symbols written ≡ of
    pub in_model : is_kind enums of ≡ true

  named : (name : RawName) (found : Option (ℕ × EnumSymbol)) → entry_in name.name symbols.enums ≡ found → known_enum name found ≡ []
      → (of : Kind) × (option_map enum_kind found ≡ Some of) × (is_kind enums of ≡ true)
  named name None e none = cc
  named name (Some entry) e none = (enum_kind entry, refl, (known name.name entry e).0)

  -- a type that is not refused is one of the model
  pub type_written : (written : RawType) → type_diagnostics symbols.enums written ≡ [] → IsWritten written
  type_written type.Int none = record { of = Int; kind_is = refl; written_is = refl; in_model = refl }
  type_written type.Truth none = record { of = Truth; kind_is = refl; written_is = refl; in_model = refl }
  type_written (type.Named name) none =
      let it = named name (entry_in name.name symbols.enums) refl none in
      record { of = it.0; kind_is = it.1; written_is = ap known_kind it.1; in_model = it.2 }

  -- a literal that is not refused is a value of its type
  pub literal_written : (written : RawType) (of : Kind) (raw : RawLiteral) → type_kind symbols.enums written ≡ Some of → IsLiteralInRange raw.what → typed_literal_diagnostics symbols written raw ≡ []
      → is_value_of enums of (literal_value symbols.enums raw.what) ≡ true
  literal_written written of raw e within none =
      let sound = sound_literal symbols.enums enums (λ name entry found. (known name entry found).1) raw.what within (front_empty (literal_diagnostics symbols.enums raw.what) _ none) in
      let found = subst (λ (k : Option Kind). mismatch raw.at (Some of) k ≡ []) sound.kind
      (subst (λ (k : Option Kind). mismatch raw.at k (literal_kind symbols.enums raw.what) ≡ []) e (back_empty (literal_diagnostics symbols.enums raw.what) _ none)) in
      rw (same_kind_swapped of (value_kind (literal_value symbols.enums raw.what)) (kinds_match raw.at of (value_kind (literal_value symbols.enums raw.what)) found), sound.value) refl

  -- ---- cells

  abbrev pub SortFits : CellSort → CellStart → Type 0
  SortFits sort.Counter (start.Counter number) = Unit {0}
  SortFits sort.Counter (start.Register kind value) = ⊥
  SortFits sort.Counter (start.Accumulator volume rate) = ⊥
  SortFits (sort.Register known_as) (start.Counter number) = ⊥
  SortFits (sort.Register known_as) (start.Register kind value) = known_as ≡ Some kind
  SortFits (sort.Register known_as) (start.Accumulator volume rate) = ⊥
  SortFits sort.Accumulator (start.Counter number) = ⊥
  SortFits sort.Accumulator (start.Register kind value) = ⊥
  SortFits sort.Accumulator (start.Accumulator volume rate) = Unit {0}

  abbrev pub SameCell : CellSymbol → List ℕ × CellStart → Type 0
  SameCell symbol cell = SortFits symbol.sort cell.1

  pub cell_pairs : (one : RawItem) → IsGood symbols one → AllPairs SameCell (cell_symbol symbols.enums one) (cell_of_item symbols one)
  cell_pairs (item.Enum name variants) good = tt
  cell_pairs (item.Counter name start) good = (tt, tt)
  cell_pairs (item.Register name written start) good =
      let it = type_written written (front_empty (type_diagnostics symbols.enums written) _ good.1) in
      (it.kind_is ∙ ap Some (sym it.written_is), tt)
  cell_pairs (item.Accumulator name volume rate) good = (tt, tt)
  cell_pairs (item.Discrete name read) good = tt
  cell_pairs (item.Linear name sum) good = tt
  cell_pairs (item.Activity name parameters result requires_ body) good = tt
  cell_pairs (item.Daemon body) good = tt

  rate_right : (at : Place) (what : RawLiteralKind) → rate_diagnostics at what ≡ [] → is_rate (rate_of what) ≡ true
  rate_right at (literal.Number number) none = holds_if_empty (is_rate number) _ at none
  rate_right at (literal.Truth truth) none = cc
  rate_right at (literal.Variant kind variant) none = cc

  register_right : (written : RawType) (raw : RawLiteral) → IsLiteralInRange raw.what → type_diagnostics symbols.enums written ++ typed_literal_diagnostics symbols written raw ≡ []
      → (is_kind enums (kind_written symbols written) && is_value_of enums (kind_written symbols written) (literal_value symbols.enums raw.what)) ≡ true
  register_right written raw within none =
      let it = type_written written (front_empty (type_diagnostics symbols.enums written) _ none) in
      let value = literal_written written it.of raw it.kind_is within (back_empty (type_diagnostics symbols.enums written) _ none) in
      subst (λ (k : Kind). (is_kind enums k && is_value_of enums k (literal_value symbols.enums raw.what)) ≡ true) (sym it.written_is) (both_hold it.in_model value)
    where
      both_hold : {a b : Bool} → a ≡ true → b ≡ true → (a && b) ≡ true
      both_hold {a = a} {b = b} e f = rw (e, f) refl

  pub cell_good : (one : RawItem) → IsGood symbols one → list_all (λ cell. is_cell enums cell.1) (cell_of_item symbols one) ≡ true
  cell_good (item.Enum name variants) good = refl
  cell_good (item.Counter name start) good = rw (le-leb (unsigned_abs start) number_limit good.0) refl
  cell_good (item.Register name written start) good = rw (register_right written start good.0 good.1) refl
  cell_good (item.Accumulator name volume rate) good = rw (le-leb (unsigned_abs volume) number_limit good.0, rate_right rate.at rate.what good.1) refl
  cell_good (item.Discrete name read) good = refl
  cell_good (item.Linear name sum) good = refl
  cell_good (item.Activity name parameters result requires_ body) good = refl
  cell_good (item.Daemon body) good = refl

  sort_is : (cells : NamedCells) (number : ℕ) (of : CellSort) (cell : CellStart) → cell_start_at cells number ≡ Some cell → SortFits of cell → IsCell (read_kind cells) number of
  sort_is cells number sort.Counter (start.Counter value) e fits = ap counter_kind e
  sort_is cells number sort.Counter (start.Register kind value) e fits = absurd fits
  sort_is cells number sort.Counter (start.Accumulator volume rate) e fits = absurd fits
  sort_is cells number (sort.Register known_as) (start.Counter value) e fits = absurd fits
  sort_is cells number (sort.Register known_as) (start.Register kind value) e fits = (kind, fits, ap register_kind e, ap flag_kind e)
  sort_is cells number (sort.Register known_as) (start.Accumulator volume rate) e fits = absurd fits
  sort_is cells number sort.Accumulator (start.Counter value) e fits = absurd fits
  sort_is cells number sort.Accumulator (start.Register kind value) e fits = absurd fits
  sort_is cells number sort.Accumulator (start.Accumulator volume rate) e fits = (ap flow_kind e, ap flow_kind e)

  -- a cell that is found is one of the model
  pub found_cell : (its_symbols : List CellSymbol) (cells : NamedCells) (entry : ℕ × CellSymbol) → AllPairs SameCell its_symbols cells → length cells ≤ 256 → slice_get its_symbols entry.0 ≡ Some entry.1
      → IsCell (read_kind cells) (short entry.0) entry.1.sort
  found_cell its_symbols cells entry pairs few stands =
      let pair = pair_at SameCell its_symbols cells entry.0 entry.1 pairs stands in
      let here : short entry.0 ≡ entry.0 = short_is entry.0 (omega (arith, pair.below, few)) in
      subst (λ (number : ℕ). IsCell (read_kind cells) number entry.1.sort) (sym here)
      (sort_is cells entry.0 entry.1.sort pair.other.1 (ap (option_map (λ cell. cell.1)) pair.stands) pair.related)
