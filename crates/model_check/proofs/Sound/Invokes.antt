-- The start of an activity that is not refused is one of the model: a value for each parameter, of its type.
use Rattle.std.proofs.Common.{◌≡◌, ℕ, suc, ◌+◌, Bool, true, false, ◌&&◌, ◌||◌, List, [], ◌∷◌, ◌++◌, Option, Some, None, option_map, option_and_then, is_some, slice_get, if◌then◌else◌, refl, sym, ap, ◌∙◌, subst, arith, add-zero}
use Rattle.std.proofs.lemmas.Bool.Decides.{nat_tests}
use Rattle.aerie_base.specs.declared.expressions.Expr.{Expr}
use Rattle.aerie_base.specs.declared.expressions.Expr as expr
use Rattle.aerie_base.specs.declared.models.EnumType.{EnumType}
use Rattle.aerie_base.specs.declared.operands.CellRead.{CellRead}
use Rattle.aerie_base.specs.declared.places.Place.{Place}
use Rattle.aerie_base.specs.declared.values.Kind.{Kind}
use Rattle.aerie_base.specs.declared.values.Value.{Value}
use Rattle.aerie_base.specs.expressions.Arithmetic.{value_kind}
use Rattle.aerie_base.specs.expressions.Typing.{same_kind, kind_of}
use Rattle.aerie_base.specs.models.Bodies.{Setting, is_in, are_arguments}
use Rattle.aerie_base.specs.models.Expressions.{expr_depth, has_literals, typed, is_kind_of}
use Rattle.aerie_base.specs.models.Scopes.{Scope}
use Rattle.aerie_base.specs.models.Values.{is_value, is_value_of}
use Rattle.model_reader.specs.Limits.{IsLimitedExpr, AreLimitedArguments}
use Rattle.model_reader.specs.declared.raw.expressions.RawExpr.{RawExpr}
use Rattle.model_check.specs.declared.causes.Cause.TheVariants.{WrongType}
use Rattle.model_check.specs.declared.scopes.BodyScope.{BodyScope}
use Rattle.model_check.specs.declared.symbols.ParameterSymbol.{ParameterSymbol}
use Rattle.model_check.specs.declared.symbols.Symbols.{Symbols}
use Rattle.diagnostics.specs.Diagnostics.{refused_unless}
use Rattle.model_check.specs.Expressions.{raw_kind, expr_diagnostics}
use Rattle.model_check.specs.Invokes.{NamedArgument, Parameters, is_this_number, given_value, parameter_kind, argument_name_diagnostics, argument_diagnostics, arguments_diagnostics, missing_diagnostics, default_expr, argument_expr, filled_arguments}
use Rattle.model_check.specs.Literals.{mismatch}
use Rattle.diagnostics.specs.NameLists.{name_number}
use Rattle.model_check.specs.NameTables.{numbered_value, entry_in}
use Rattle.diagnostics.specs.NotedInTurn.{front_empty, back_empty, holds_if_empty}
use Rattle.model_check.proofs.Sound.Empty.{three, same_kind_swapped, kinds_match}
use Rattle.model_check.proofs.Sound.Knows.{Knows}
use Rattle.model_check.proofs.Sound.Expressions.{typed_expr}

-- a parameter of a known type, whose default, where it has one, is a value of the model of that type
abbrev pub IsDefaultOf : List EnumType → Kind → Option Value → Type 0
IsDefaultOf enums kind None = Unit {0}
IsDefaultOf enums kind (Some value) = is_value_of enums kind value ≡ true

abbrev pub IsParameterOf : List EnumType → ParameterSymbol → Kind → Type 0
IsParameterOf enums parameter kind = (parameter.kind ≡ Some kind) × IsDefaultOf enums kind parameter.default

-- two lists of one length, related part by part
abbrev pub AllPairs : {A B : Type 0} → (A → B → Type 0) → List A → List B → Type 0
AllPairs R [] [] = Unit {0}
AllPairs R [] (y ∷ ys) = ⊥
AllPairs R (x ∷ xs) [] = ⊥
AllPairs R (x ∷ xs) (y ∷ ys) = R x y × AllPairs R xs ys

module _ (symbols : Symbols) (scope : BodyScope) (enums : List EnumType) (locals : ℕ → Option Kind) (reads : CellRead → Option Kind) (knows : Knows symbols scope enums locals reads) where
  abbrev typed_here : Expr → Option Kind
  typed_here = typed enums locals reads

  literal_typed : (value : Value) → is_value enums value ≡ true → typed_here (expr.Literal value) ≡ Some (value_kind value)
  unfolding typed has_literals expr_depth kind_of
  literal_typed value is = rw is refl

  default_fits : (kind : Kind) (default : Option Value) → is_some default ≡ true → IsDefaultOf enums kind default → is_kind_of (typed_here (default_expr default)) kind ≡ true
  default_fits kind None some is = cc
  default_fits kind (Some value) some is =
      let parts = both_true (same_kind (value_kind value) kind) (is_value enums value) is in
      ap (λ (k : Option Kind). is_kind_of k kind) (literal_typed value parts.1) ∙ parts.0
    where
      both_true : (a b : Bool) → (a && b) ≡ true → (a ≡ true) × (b ≡ true)
      both_true true b e = (refl, e)
      both_true false b e = cc

  -- a value that a parameter is given is of the parameter's type
  module _ (parameters : Parameters) where
    abbrev pub IsGiven : ℕ → RawExpr → Type 0
    IsGiven number raw = IsLimitedExpr raw × (expr_diagnostics symbols scope raw ≡ [])
        × ((parameter : ParameterSymbol) → slice_get parameters.values number ≡ Some parameter → mismatch raw.at parameter.kind (raw_kind symbols scope raw.what) ≡ [])

    number_is : (number : ℕ) (found : Option ℕ) → is_this_number number found ≡ true → found ≡ Some number
    number_is number None e = cc
    number_is number (Some other) e = ap Some (sym (grind (arith, nat_tests)))

    entry_is : (name : List ℕ) (number : ℕ) (parameter : ParameterSymbol) → name_number name parameters.names ≡ Some number → slice_get parameters.values number ≡ Some parameter
        → entry_in name parameters ≡ Some (number, parameter)
    entry_is name number parameter e f = ap (option_and_then (numbered_value parameters.values)) e ∙ ap (option_map (λ value. (number, value))) f

    first_given : (number : ℕ) (earlier : List NamedArgument) (argument : NamedArgument) → IsLimitedExpr argument.1 → argument_diagnostics symbols scope parameters earlier argument ≡ []
        → is_this_number number (name_number argument.0.name parameters.names) ≡ true → IsGiven number argument.1
    first_given number earlier argument limited none this =
        let rest = back_empty (argument_name_diagnostics parameters earlier argument.0 (entry_in argument.0.name parameters)) _ (three (argument_name_diagnostics parameters earlier argument.0 (entry_in argument.0.name parameters)) (expr_diagnostics symbols scope argument.1) _ none) in (
          limited,
          front_empty (expr_diagnostics symbols scope argument.1) _ rest,
          λ parameter at.
              subst (λ (entry : Option (ℕ × ParameterSymbol)). mismatch argument.1.at (parameter_kind entry) (raw_kind symbols scope argument.1.what) ≡ [])
              (entry_is argument.0.name number parameter (number_is number (name_number argument.0.name parameters.names) this) at)
              (back_empty (expr_diagnostics symbols scope argument.1) _ rest),
        )

    pub given : (number : ℕ) (earlier arguments : List NamedArgument) (raw : RawExpr) → AreLimitedArguments arguments → arguments_diagnostics symbols scope parameters earlier arguments ≡ []
        → given_value parameters number arguments ≡ Some raw → IsGiven number raw
    given number earlier [] raw limited none e = cc
    given number earlier (argument ∷ rest) raw limited none e =
        go (is_this_number number (name_number argument.0.name parameters.names)) refl
        (λ found. given number (earlier ++ argument ∷ []) rest raw limited.1 (back_empty (argument_diagnostics symbols scope parameters earlier argument) _ none) found) e
      where
        some_is : {A : Type 0} {a b : A} → Some a ≡ Some b → a ≡ b
        some_is h = cc

        go : (b : Bool) → is_this_number number (name_number argument.0.name parameters.names) ≡ b → (given_value parameters number rest ≡ Some raw → IsGiven number raw)
            → (if b then Some argument.1 else given_value parameters number rest) ≡ Some raw → IsGiven number raw
        go true this more found =
            subst (IsGiven number) (some_is found) (first_given number earlier argument limited.0 (front_empty (argument_diagnostics symbols scope parameters earlier argument) _ none) this)
        go false other more found = more found

    value_fits : (number : ℕ) (parameter : ParameterSymbol) (kind : Kind) (value : Option RawExpr) → slice_get parameters.values number ≡ Some parameter → IsParameterOf enums parameter kind
        → ((raw : RawExpr) → value ≡ Some raw → IsGiven number raw) → (is_some parameter.default || is_some value) ≡ true
        → is_kind_of (typed_here (argument_expr symbols scope parameter value)) kind ≡ true
    value_fits number parameter kind None at is given_is some = default_fits kind parameter.default (no_other (is_some parameter.default) some) is.1
      where
        no_other : (a : Bool) → (a || false) ≡ true → a ≡ true
        no_other true e = refl
        no_other false e = e
    value_fits number parameter kind (Some raw) at is given_is some =
        let found = given_is raw refl in
        let sound = typed_expr symbols scope enums locals reads knows raw found.0 found.1 in
        let match = found.2 parameter at in
        let same = subst (λ (k : Option Kind). mismatch raw.at k (raw_kind symbols scope raw.what) ≡ []) is.0 match in
        let one = kinds_match raw.at kind sound.of (subst (λ (k : Option Kind). mismatch raw.at (Some kind) k ≡ []) sound.raw_is same) in
        ap (λ (k : Option Kind). is_kind_of k kind) sound.typed_is ∙ same_kind_swapped kind sound.of one

    -- ---- all arguments

    module _ (setting : Setting) (slots : Scope) (arguments : List NamedArgument) (at : Place)
        (same : (its : Expr) (kind : Kind) → is_in setting slots its kind ≡ is_kind_of (typed_here its) kind)
        (all_given : (number : ℕ) (raw : RawExpr) → given_value parameters number arguments ≡ Some raw → IsGiven number raw) where
      filled : (number : ℕ) (rest : List ParameterSymbol) (kinds : List Kind) → ((k : ℕ) → slice_get parameters.values (number + k) ≡ slice_get rest k) → AllPairs (IsParameterOf enums) rest kinds
          → missing_diagnostics at parameters arguments number rest ≡ [] → are_arguments setting slots (filled_arguments symbols scope parameters arguments number rest) kinds ≡ true
      filled number [] [] stand pairs none = refl
      filled number [] (kind ∷ kinds) stand pairs none = absurd pairs
      filled number (parameter ∷ rest) [] stand pairs none = absurd pairs
      filled number (parameter ∷ rest) (kind ∷ kinds) stand pairs none =
          let here = subst (λ (n : ℕ). slice_get parameters.values n ≡ Some parameter) (add-zero number) (stand 0) in
          let some = holds_if_empty (is_some parameter.default || is_some (given_value parameters number arguments)) _ at (front_empty (refused_unless (is_some parameter.default || is_some (given_value parameters number arguments)) WrongType at) _ none) in
          let fits = value_fits number parameter kind (given_value parameters number arguments) here pairs.0 (all_given number) some in
          let more = filled (number + 1) rest kinds (λ k. subst (λ (n : ℕ). slice_get parameters.values n ≡ slice_get rest k) (next number k) (stand (suc k))) pairs.1
          (back_empty (refused_unless (is_some parameter.default || is_some (given_value parameters number arguments)) WrongType at) _ none) in
          rw (same (argument_expr symbols scope parameter (given_value parameters number arguments)) kind, fits) more
        where
          next : (number k : ℕ) → number + suc k ≡ number + 1 + k
          next number k = omega arith

      -- the arguments of an activity type with these parameters
      pub sound_arguments : (kinds : List Kind) → AllPairs (IsParameterOf enums) parameters.values kinds → missing_diagnostics at parameters arguments 0 parameters.values ≡ []
          → are_arguments setting slots (filled_arguments symbols scope parameters arguments 0 parameters.values) kinds ≡ true
      sound_arguments kinds pairs none = filled 0 parameters.values kinds (λ k. ap (slice_get parameters.values) (first k)) pairs none
        where
          first : (k : ℕ) → 0 + k ≡ k
          first k = omega arith
