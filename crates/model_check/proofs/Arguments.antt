-- What was given of arguments is, for each parameter, the value of the first argument of its name.
use Rattle.std.proofs.Common.{◌≡◌, ℕ, suc, ◌+◌, ◌<◌, Bool, true, false, not, List, [], ◌∷◌, ◌++◌, Option, Some, None, option_map, option_and_then, is_some, if◌then◌else◌, ◌||◌, subst, nat_eq, length, get_or, set, slice_get, replicate, refl, sym, ap, ◌∙◌, arith, append_assoc}
use Rattle.std.proofs.lemmas.Bool.Decides.{nat_tests}
use Rattle.std.proofs.lemmas.List.{get_or-set_same, get_or-set_other, length-set, length-replicate, get_or-replicate, append-nil}
use Rattle.std.proofs.lemmas.Option.{slice_get_within, slice_get-get_or}
use Rattle.aerie_base.specs.declared.expressions.Expr.{Expr}
use Rattle.aerie_base.specs.declared.places.Place.{Place}
use Rattle.model_reader.specs.declared.raw.expressions.RawExpr.{RawExpr}
use Rattle.model_check.specs.declared.causes.Cause.TheVariants.{Duplicate, WrongType}
use Rattle.diagnostics.specs.declared.diagnostic.Diagnostic.{Diagnostic}
use Rattle.model_check.specs.declared.causes.Cause.{Cause}
use Rattle.model_check.specs.declared.scopes.BodyScope.{BodyScope}
use Rattle.model_check.specs.declared.symbols.ParameterSymbol.{ParameterSymbol}
use Rattle.model_check.specs.declared.symbols.Symbols.{Symbols}
use Rattle.diagnostics.specs.Diagnostics.{refused_unless}
use Rattle.model_check.specs.Diagnostics.{number_of_cause, noted, Makes}
use Rattle.model_check.specs.Expressions.{raw_kind, expr_diagnostics, expr_of}
use Rattle.model_check.specs.GivenArguments.{GivenValues, slot_given, put_given, put_found, given_with, given_with_all, name_found, argument_found, arguments_found, missing_found, given_or_default, filled_values}
use Rattle.model_check.specs.Invokes.{NamedArgument, Parameters, is_this_number, given_value, parameter_kind, argument_name_diagnostics, argument_diagnostics, arguments_diagnostics, missing_diagnostics, argument_expr, filled_arguments}
use Rattle.model_check.specs.Literals.{mismatch}
use Rattle.diagnostics.specs.NameLists.{name_number}
use Rattle.model_check.specs.NameTables.{numbered_value, entry_in}
use Rattle.diagnostics.specs.NotedInTurn.{noted_in_turn}

-- ---- the first argument of a name, and one argument more

abbrev first_or : Option RawExpr → Option RawExpr → Option RawExpr
first_or (Some value) other = Some value
first_or None other = other

abbrev value_if : Bool → RawExpr → Option RawExpr
value_if true value = Some value
value_if false value = None

module _ (parameters : Parameters) (number : ℕ) where
  abbrev is_of : NamedArgument → Bool
  is_of argument = is_this_number number (name_number argument.0.name parameters.names)

  given_more : (earlier : List NamedArgument) (argument : NamedArgument) →
      given_value parameters number (earlier ++ argument ∷ []) ≡ first_or (given_value parameters number earlier) (value_if (is_of argument) argument.1)
  given_more [] argument = go (is_of argument) refl
    where
      go : (b : Bool) → is_of argument ≡ b → given_value parameters number (argument ∷ []) ≡ value_if (is_of argument) argument.1
      go true e = rw e refl
      go false e = rw e refl
  given_more (first ∷ rest) argument = go (is_of first) refl (given_more rest argument)
    where
      go : (b : Bool) → is_of first ≡ b →
          given_value parameters number (rest ++ argument ∷ []) ≡ first_or (given_value parameters number rest) (value_if (is_of argument) argument.1) →
          given_value parameters number (first ∷ (rest ++ argument ∷ [])) ≡ first_or (given_value parameters number (first ∷ rest)) (value_if (is_of argument) argument.1)
      go true e h = rw e refl
      go false e h = rw e h

-- ---- what is given

pub record AreGiven (symbols : Symbols) (scope : BodyScope) (parameters : Parameters) (earlier : List NamedArgument) (given : GivenValues) : Type 0 where
  pub count : length given ≡ length parameters.values
  pub each : (k : ℕ) → k < length given → slot_given given k ≡ option_map (expr_of symbols scope) (given_value parameters k earlier)

-- a name has a number below that of the values
entry_within : (parameters : Parameters) (name : List ℕ) (entry : ℕ × ParameterSymbol) → entry_in name parameters ≡ Some entry → entry.0 < length parameters.values
entry_within parameters name entry = go (name_number name parameters.names)
  where
    within : (m : ℕ) (s : Option ParameterSymbol) → slice_get parameters.values m ≡ s → option_map (λ value. (m, value)) s ≡ Some entry → entry.0 < length parameters.values
    within m None e h = cc
    within m (Some value) e h =
        let same : m ≡ entry.0 = cc in
        let lt : m < length parameters.values = slice_get_within parameters.values m value e in
        omega arith

    go : (n : Option ℕ) → option_and_then (numbered_value parameters.values) n ≡ Some entry → entry.0 < length parameters.values
    go None h = cc
    go (Some m) h = within m (slice_get parameters.values m) refl h

first_none : (value : Option RawExpr) → first_or value None ≡ value
first_none None = refl
first_none (Some value) = refl

module _ (symbols : Symbols) (scope : BodyScope) where
  some_first : (value other : Option RawExpr) (made : Expr) → Some made ≡ option_map (expr_of symbols scope) value → first_or value other ≡ value
  some_first None other made h = cc
  some_first (Some value) other made h = refl

  none_first : (value : Option RawExpr) → None ≡ option_map (expr_of symbols scope) value → value ≡ None
  none_first None h = refl
  none_first (Some value) h = cc

  is_some_made : (value : Option RawExpr) → is_some (option_map (expr_of symbols scope) value) ≡ is_some value
  is_some_made None = refl
  is_some_made (Some value) = refl

  module _ (parameters : Parameters) (earlier : List NamedArgument) (argument : NamedArgument) (given : GivenValues) (are : AreGiven symbols scope parameters earlier given) where
    abbrev made : Option RawExpr → Option Expr
    made = option_map (expr_of symbols scope)

    abbrev now_given : ℕ → Option RawExpr
    now_given k = given_value parameters k (earlier ++ argument ∷ [])

    -- a place whose parameter is not this argument's stays
    stays : (k : ℕ) → k < length given → is_this_number k (name_number argument.0.name parameters.names) ≡ false → slot_given given k ≡ made (now_given k)
    stays k lt other =
        are.each k lt
        ∙ ap made (sym (given_more parameters k earlier argument ∙ (ap (λ (b : Bool). first_or (given_value parameters k earlier) (value_if b argument.1)) other ∙ first_none (given_value parameters k earlier))))

    -- a place with a value stays
    keeps : (k : ℕ) → k < length given → (value : Expr) → slot_given given k ≡ Some value → slot_given given k ≡ made (now_given k)
    keeps k lt value e =
        are.each k lt
        ∙ ap made (sym (given_more parameters k earlier argument ∙ some_first (given_value parameters k earlier) (value_if (is_of parameters k argument) argument.1) value (sym e ∙ are.each k lt)))

    -- a place without a value takes this argument's
    takes : (k : ℕ) → k < length given → is_this_number k (name_number argument.0.name parameters.names) ≡ true → slot_given given k ≡ None → Some (expr_of symbols scope argument.1) ≡ made (now_given k)
    takes k lt this e =
        ap made
        (sym (given_more parameters k earlier argument
        ∙ (λ i. first_or (none_first (given_value parameters k earlier) (sym e ∙ are.each k lt) i) (value_if (this i) argument.1))))

    -- at each place stands what is given, whichever number the argument's parameter has
    in_place : (m : ℕ) → name_number argument.0.name parameters.names ≡ Some m → (m_within : m < length given) →
        (k : ℕ) → k < length given → slot_given (put_given given m (expr_of symbols scope argument.1)) k ≡ made (now_given k)
    in_place m is_m m_within k lt = by_value (slot_given given m) refl
      where
        number_is : (b : Bool) → nat_eq k m ≡ b → is_this_number k (name_number argument.0.name parameters.names) ≡ b
        number_is b t = ap (is_this_number k) is_m ∙ t

        same_place : nat_eq k m ≡ true → k ≡ m
        same_place t = grind (arith, nat_tests)

        other_place : nat_eq k m ≡ false → (k ≡ m → ⊥)
        other_place t = grind (arith, nat_tests)

        kept_at : (value : Expr) → slot_given given m ≡ Some value → (b : Bool) → nat_eq k m ≡ b → slot_given given k ≡ made (now_given k)
        kept_at value v true t = keeps k lt value (ap (slot_given given) (same_place t) ∙ v)
        kept_at value v false t = stays k lt (number_is false t)

        set_at : slot_given given m ≡ None → (b : Bool) → nat_eq k m ≡ b → slot_given (set given m (Some (expr_of symbols scope argument.1))) k ≡ made (now_given k)
        set_at v true t =
            ap (slot_given (set given m (Some (expr_of symbols scope argument.1)))) (same_place t)
            ∙ (get_or-set_same given m (Some (expr_of symbols scope argument.1)) None m_within ∙ takes k lt (number_is true t) (ap (slot_given given) (same_place t) ∙ v))
        set_at v false t = get_or-set_other given m k (Some (expr_of symbols scope argument.1)) None (other_place t) ∙ stays k lt (number_is false t)

        by_value : (v : Option Expr) → slot_given given m ≡ v → slot_given (put_given given m (expr_of symbols scope argument.1)) k ≡ made (now_given k)
        by_value (Some value) v = rw v (kept_at value v (nat_eq k m) refl)
        by_value None v = rw v (set_at v (nat_eq k m) refl)

    -- the places behind one more argument
    given_one_more : AreGiven symbols scope parameters (earlier ++ argument ∷ []) (given_with symbols scope parameters given argument)
    given_one_more = by_number (name_number argument.0.name parameters.names) refl
      where
        unchanged : ((k : ℕ) → k < length given → is_this_number k (name_number argument.0.name parameters.names) ≡ false) →
            AreGiven symbols scope parameters (earlier ++ argument ∷ []) given
        unchanged other = record { count = are.count; each = λ k lt. stays k lt (other k lt) }

        put_count : (m : ℕ) (b : Bool) → length (if b then given else set given m (Some (expr_of symbols scope argument.1))) ≡ length parameters.values
        put_count m true = are.count
        put_count m false = length-set given m (Some (expr_of symbols scope argument.1)) ∙ are.count

        put_length : (m : ℕ) (b : Bool) → length (if b then given else set given m (Some (expr_of symbols scope argument.1))) ≡ length given
        put_length m true = refl
        put_length m false = length-set given m (Some (expr_of symbols scope argument.1))

        past : (m : ℕ) → slice_get parameters.values m ≡ None → (k : ℕ) → k < length given → (b : Bool) → nat_eq k m ≡ b → b ≡ false
        past m none k lt false t = refl
        past m none k lt true t =
            let same : k ≡ m = grind (arith, nat_tests) in
            let there : m < length parameters.values = omega (arith, are.count) in
            let d : ParameterSymbol = record { kind = None; default = None } in
            absurd (not_both (slice_get parameters.values m) (get_or parameters.values m d) none (slice_get-get_or parameters.values m d there))
          where
            not_both : (found : Option ParameterSymbol) (value : ParameterSymbol) → found ≡ None → found ≡ Some value → ⊥
            not_both found value a b = cc

        by_value : (m : ℕ) → name_number argument.0.name parameters.names ≡ Some m → (s : Option ParameterSymbol) → slice_get parameters.values m ≡ s →
            AreGiven symbols scope parameters (earlier ++ argument ∷ []) (put_found given (option_map (λ value. (m, value)) s) (expr_of symbols scope argument.1))
        by_value m is_m None none = unchanged (λ k lt. ap (is_this_number k) is_m ∙ past m none k lt (nat_eq k m) refl)
        by_value m is_m (Some value) there =
            let within : m < length given = omega (arith, slice_get_within parameters.values m value there, are.count) in
            record {
              count = put_count m (is_some (slot_given given m));
              each = λ k lt. in_place m is_m within k (omega (arith, put_length m (is_some (slot_given given m)), lt));
            }

        by_number : (n : Option ℕ) → name_number argument.0.name parameters.names ≡ n →
            AreGiven symbols scope parameters (earlier ++ argument ∷ []) (put_found given (option_and_then (numbered_value parameters.values) n) (expr_of symbols scope argument.1))
        by_number None none = unchanged (λ k lt. ap (is_this_number k) none)
        by_number (Some m) is_m = by_value m is_m (slice_get parameters.values m) refl

    -- what is wrong with an argument behind the earlier ones
    found_is : argument_found symbols scope parameters given argument ≡ argument_diagnostics symbols scope parameters earlier argument
    found_is = ap (λ (ds : List (Diagnostic Cause)). ds ++ expr_diagnostics symbols scope argument.1 ++ mismatch argument.1.at (parameter_kind (entry_in argument.0.name parameters)) (raw_kind symbols scope argument.1.what)) (name_is (entry_in argument.0.name parameters) refl)
      where
        name_is : (entry : Option (ℕ × ParameterSymbol)) → entry_in argument.0.name parameters ≡ entry →
            name_found given argument.0 entry ≡ argument_name_diagnostics parameters earlier argument.0 entry
        name_is None e = refl
        name_is (Some entry) e =
            ap (λ (b : Bool). refused_unless (not b) Duplicate argument.0.at)
            (ap is_some (are.each entry.0 (omega (arith, entry_within parameters argument.0.name entry e, are.count))) ∙ is_some_made (given_value parameters entry.0 earlier))

  module _ (parameters : Parameters) where
    -- the same of all arguments
    pub all_found : (arguments earlier : List NamedArgument) (given : GivenValues) → AreGiven symbols scope parameters earlier given →
        arguments_found symbols scope parameters given arguments ≡ arguments_diagnostics symbols scope parameters earlier arguments
    all_found [] earlier given are = refl
    all_found (argument ∷ rest) earlier given are =
        λ i. found_is parameters earlier argument given are i
        ++ all_found rest (earlier ++ argument ∷ []) (given_with symbols scope parameters given argument) (given_one_more parameters earlier argument given are) i

    pub all_given : (arguments earlier : List NamedArgument) (given : GivenValues) → AreGiven symbols scope parameters earlier given →
        AreGiven symbols scope parameters (earlier ++ arguments) (given_with_all symbols scope parameters given arguments)
    all_given [] earlier given are = subst (λ (xs : List NamedArgument). AreGiven symbols scope parameters xs given) (sym (append-nil earlier)) are
    all_given (argument ∷ rest) earlier given are =
        subst (λ (xs : List NamedArgument). AreGiven symbols scope parameters xs (given_with_all symbols scope parameters (given_with symbols scope parameters given argument) rest))
        (append_assoc earlier (argument ∷ []) rest)
        (all_given rest (earlier ++ argument ∷ []) (given_with symbols scope parameters given argument) (given_one_more parameters earlier argument given are))

    -- in the beginning nothing is given
    pub none_given : AreGiven symbols scope parameters [] (replicate (length parameters.values) None)
    none_given =
        record {
          count = length-replicate (length parameters.values) None;
          each = λ k lt. get_or-replicate (length parameters.values) k None None (omega (arith, length-replicate {A = Option Expr} (length parameters.values) None, lt));
        }

    abbrev AreFrom : List NamedArgument → ℕ → GivenValues → Type 0
    AreFrom arguments number values = (j : ℕ) → j < length values → get_or values j None ≡ option_map (expr_of symbols scope) (given_value parameters (number + j) arguments)

    next_from : (arguments : List NamedArgument) (number : ℕ) (value : Option Expr) (values : GivenValues) → AreFrom arguments number (value ∷ values) → AreFrom arguments (number + 1) values
    next_from arguments number value values h = λ j lt.
        h (suc j) (omega arith)
        ∙ ap (λ (n : ℕ). option_map (expr_of symbols scope) (given_value parameters n arguments)) (omega arith)

    first_from : (arguments : List NamedArgument) (number : ℕ) (value : Option Expr) (values : GivenValues) → AreFrom arguments number (value ∷ values) →
        value ≡ option_map (expr_of symbols scope) (given_value parameters number arguments)
    first_from arguments number value values h =
        h 0 (omega arith) ∙ ap (λ (n : ℕ). option_map (expr_of symbols scope) (given_value parameters n arguments)) (omega arith)

    argument_is : (parameter : ParameterSymbol) (raw : Option RawExpr) → given_or_default parameter (option_map (expr_of symbols scope) raw) ≡ argument_expr symbols scope parameter raw
    argument_is parameter None = refl
    argument_is parameter (Some raw) = refl

    pub filled_is : (arguments : List NamedArgument) (rest : List ParameterSymbol) (values : GivenValues) (number : ℕ) → length values ≡ length rest →
        AreFrom arguments number values → filled_values rest values ≡ filled_arguments symbols scope parameters arguments number rest
    filled_is arguments [] values number same h = refl
    filled_is arguments (parameter ∷ rest) [] number same h = absurd (omega arith)
    filled_is arguments (parameter ∷ rest) (value ∷ values) number same h =
        let tail : length values ≡ length rest = omega arith in
        λ i. (ap (given_or_default parameter) (first_from arguments number value values h) ∙ argument_is parameter (given_value parameters number arguments)) i
        ∷ filled_is arguments rest values (number + 1) tail (next_from arguments number value values h) i

    pub missing_is : (at : Place) (arguments : List NamedArgument) (rest : List ParameterSymbol) (values : GivenValues) (number : ℕ) → length values ≡ length rest →
        AreFrom arguments number values → missing_found at rest values ≡ missing_diagnostics at parameters arguments number rest
    missing_is at arguments [] values number same h = refl
    missing_is at arguments (parameter ∷ rest) [] number same h = absurd (omega arith)
    missing_is at arguments (parameter ∷ rest) (value ∷ values) number same h =
        let tail : length values ≡ length rest = omega arith in
        λ i. refused_unless (is_some parameter.default || (ap is_some (first_from arguments number value values h) ∙ is_some_made (given_value parameters number arguments)) i) WrongType at
        ++ missing_is at arguments rest values (number + 1) tail (next_from arguments number value values h) i

    -- what is given of all arguments, from the first parameter on
    pub from_first : (arguments : List NamedArgument) (given : GivenValues) → AreGiven symbols scope parameters arguments given → AreFrom arguments 0 given
    from_first arguments given are = λ j lt. are.each j lt ∙ ap (λ (n : ℕ). option_map (expr_of symbols scope) (given_value parameters n arguments)) (omega arith)

    -- ---- all together

    pub given_in_all : (arguments : List NamedArgument) (first given : GivenValues) → first ≡ replicate (length parameters.values) None →
        given ≡ given_with_all symbols scope parameters first arguments → AreGiven symbols scope parameters arguments given
    given_in_all arguments first given start whole =
        subst (λ (g : GivenValues). AreGiven symbols scope parameters arguments g)
        (sym (whole ∙ ap (λ (g : GivenValues). given_with_all symbols scope parameters g arguments) start))
        (all_given arguments [] (replicate (length parameters.values) None) none_given)

    pub known_made : (at : Place) (arguments : List NamedArgument) (first given : GivenValues) (found between after : Option (Diagnostic Cause)) (made : List Expr) →
        first ≡ replicate (length parameters.values) None →
        given ≡ given_with_all symbols scope parameters first arguments →
        between ≡ noted found (arguments_found symbols scope parameters first arguments) →
        Makes (filled_values parameters.values given) (missing_found at parameters.values given) between after made →
        Makes (filled_arguments symbols scope parameters arguments 0 parameters.values)
        (arguments_diagnostics symbols scope parameters [] arguments ++ missing_diagnostics at parameters arguments 0 parameters.values) found after made
    known_made at arguments first given found between after made start whole judged filling =
        let are : AreGiven symbols scope parameters arguments given = given_in_all arguments first given start whole in
        let none : AreGiven symbols scope parameters [] first = subst (λ (g : GivenValues). AreGiven symbols scope parameters [] g) (sym start) none_given in (
          filling.0 ∙ filled_is arguments parameters.values given 0 are.count (from_first arguments given are),
          noted_in_turn number_of_cause (arguments_diagnostics symbols scope parameters [] arguments) (missing_diagnostics at parameters arguments 0 parameters.values) found between after
              (judged ∙ ap (noted found) (all_found arguments [] first none))
              (filling.1 ∙ ap (noted between) (missing_is at arguments parameters.values given 0 are.count (from_first arguments given are))),
        )
