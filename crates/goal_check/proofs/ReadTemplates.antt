-- A template of which nothing is refused has a value for each parameter of its type.
use Rattle.std.proofs.Common.{◌≡◌, ℕ, zero, suc, Bool, true, false, not, ◌&&◌, ◌||◌, IsTrue, List, [], ◌∷◌, ◌++◌, Option, Some, None, is_some, option_map, length, map, find, slice_get, nat_eq, nat_le, refl, sym, ap, subst, ◌∙◌, true≢false, eqb-true, arith}
use Rattle.std.specs.Prelude.{cond}
use Rattle.std.specs.List.{list_all, list_any}
use Rattle.std.proofs.lemmas.Option.{none-some, same_Some}
use Rattle.aerie_base.specs.declared.models.Activity.{Activity}
use Rattle.aerie_base.specs.declared.models.EnumType.{EnumType}
use Rattle.aerie_base.specs.declared.models.Parameter.{Parameter}
use Rattle.aerie_base.specs.declared.models.model.Parts.{Parts}
use Rattle.aerie_base.specs.declared.values.Kind.{Kind}
use Rattle.aerie_base.specs.declared.values.Kind.TheVariants.{Int, Truth, Enum}
use Rattle.aerie_base.specs.declared.values.Value.{Value}
use Rattle.aerie_base.specs.expressions.Typing.{same_kind}
use Rattle.aerie_base.specs.models.Activities.{is_default, is_parameter, are_parameters, parameter_names, are_requires, is_result, is_activity}
use Rattle.aerie_base.specs.models.Limits.{parameter_limit, type_limit}
use Rattle.aerie_base.specs.models.Names.{same_name, is_name_among, are_distinct}
use Rattle.aerie_base.specs.models.Signatures.{parameter_kinds, signatures_of}
use Rattle.aerie_base.specs.models.ValidModel.{valid_model, has_good_activities, enum_names, cell_names}
use Rattle.aerie_base.specs.models.ValidParts.{are_good}
use Rattle.aerie_base.specs.models.Values.{is_kind, is_value_of}
use Rattle.aerie_base.specs.plans.OfModel.{are_values_of, takes}
use Rattle.model_reader.specs.declared.raw.literals.RawLiteralKind.{RawLiteralKind}
use Rattle.model_reader.specs.declared.raw.literals.RawLiteralKind.TheVariants as literal
use Rattle.rule_grammar.specs.declared.raw.goals.RawTemplate.{RawTemplate}
use Rattle.rule_check.specs.declared.causes.WrongRule.{WrongRule}
use Rattle.rule_check.specs.declared.causes.WrongRule.TheVariants.{Duplicate, WrongType}
use Rattle.aerie_base.specs.declared.places.Place.{Place}
use Rattle.rule_check.specs.ReadParts.{NamedTypesStand, ReadLiteralsAreOf}
use Rattle.rule_check.specs.RefusalLaws.{both_empty, or_empty}
use Rattle.diagnostics.specs.Diagnostics.{refused_unless}
use Rattle.rule_check.specs.RuleLiterals.{activity_named, parameters_if_known, known_parameter, refusals_of_named_variant, refusals_of_literal, literal_kind, literal_value}
use Rattle.diagnostics.specs.ShortNumbers.{short}
use Rattle.rule_check.specs.RuleNames.{position_of_enum}
use Rattle.goal_check.specs.TemplateMeaning.{Argument, default_or_false, written_or_default, template_value, meant_template}
use Rattle.goal_check.specs.TemplateRefusals.{has_argument, is_kind_if_known, refusals_of_value, refusals_of_argument, refusals_of_arguments, is_given_or_default, refusals_of_given}

-- ---- tests

pub both_pass : (a b : Bool) → (a && b) ≡ true → (a ≡ true) × (b ≡ true)
both_pass true b e = (refl, e)
both_pass false b e = cc

pub and_too : (a b : Bool) → a ≡ true → b ≡ true → (a && b) ≡ true
and_too true b e f = f
and_too false b e f = cc

not_true : (a : Bool) → not a ≡ true → a ≡ false
not_true true e = cc
not_true false e = refl

-- what is not refused holds
pub holds_if_empty : (holds : Bool) (wrong : WrongRule) (place : Place) → refused_unless holds wrong place ≡ [] → holds ≡ true
holds_if_empty true wrong place e = refl
holds_if_empty false wrong place e = cc

-- ---- what is found

record IsAt {A : Type 0} (test : A → Bool) (xs : List A) (x : A) : Type 0 where
  at : ℕ
  there : slice_get xs at ≡ Some x
  passes : test x ≡ true

found_at : {A : Type 0} (test : A → Bool) (xs : List A) (x : A) → find test xs ≡ Some x → IsAt test xs x
found_at test [] x e = cc
found_at {A = A} test (first ∷ rest) x e = go (test first) refl (found_at test rest x) e
  where
    go : (v : Bool) → test first ≡ v → (find test rest ≡ Some x → IsAt test rest x) → cond v (Some first) (find test rest) ≡ Some x → IsAt test (first ∷ rest) x
    go true w later e = record { at = 0; there = e; passes = subst (λ (y : A). test y ≡ true) (same_Some first x e) w }
    go false w later e = let found = later e in record { at = suc found.at; there = found.there; passes = found.passes }

none_given : {A : Type 0} (test : A → Bool) (xs : List A) → find test xs ≡ None → list_any test xs ≡ false
none_given test [] e = refl
none_given test (first ∷ rest) e = go (test first) refl e (none_given test rest)
  where
    go : (v : Bool) → test first ≡ v → cond v (Some first) (find test rest) ≡ None → (find test rest ≡ None → list_any test rest ≡ false) → (test first || list_any test rest) ≡ false
    go true w e later = cc
    go false w e later = rw w (later e)

-- ---- names

same_is : (a b : List ℕ) → same_name a b ≡ true → a ≡ b
same_is [] [] e = refl
same_is [] (y ∷ b) e = cc
same_is (x ∷ a) [] e = cc
same_is (x ∷ a) (y ∷ b) e =
    let parts = both_pass (nat_eq x y) (same_name a b) e in
    (λ i. eqb-true x y parts.0 i ∷ same_is a b parts.1 i)

itself : (n : ℕ) → nat_eq n n ≡ true
itself n = grind arith

same_as : (a : List ℕ) → same_name a a ≡ true
same_as [] = refl
same_as (x ∷ a) = and_too (nat_eq x x) (same_name a a) (itself x) (same_as a)

among_at : (rest : List Parameter) (i : ℕ) (one : Parameter) (name : List ℕ) → slice_get rest i ≡ Some one → name ≡ one.name → is_name_among name (map (λ (p : Parameter). p.name) rest) ≡ true
among_at [] i one name here is = absurd (none-some one here)
among_at (first ∷ rest) zero one name here is =
    let same : same_name name first.name ≡ true = subst (λ (other : List ℕ). same_name name other ≡ true) (is ∙ sym (ap (λ (p : Parameter). p.name) (same_Some first one here))) (same_as name) in
    rw same refl
among_at (first ∷ rest) (suc i) one name here is = go (same_name name first.name) (among_at rest i one name here is)
  where
    go : (t : Bool) → is_name_among name (map (λ (p : Parameter). p.name) rest) ≡ true → (t || is_name_among name (map (λ (p : Parameter). p.name) rest)) ≡ true
    go true more = refl
    go false more = more

-- of parameters of different names, those of one name are one
same_one : (xs : List Parameter) (i j : ℕ) (one other : Parameter) → are_distinct (map (λ (p : Parameter). p.name) xs) ≡ true → slice_get xs i ≡ Some one → slice_get xs j ≡ Some other → one.name ≡ other.name → one ≡ other
same_one [] i j one other distinct here there same = absurd (none-some one here)
same_one (first ∷ rest) zero zero one other distinct here there same = same_Some one other (sym here ∙ there)
same_one (first ∷ rest) zero (suc j) one other distinct here there same =
    let apart = not_true (is_name_among first.name (map (λ (p : Parameter). p.name) rest)) (both_pass (not (is_name_among first.name (map (λ (p : Parameter). p.name) rest))) (are_distinct (map (λ (p : Parameter). p.name) rest)) distinct).0 in
    absurd (true≢false (sym (among_at rest j other first.name there (ap (λ (p : Parameter). p.name) (same_Some first one here) ∙ same)) ∙ apart))
same_one (first ∷ rest) (suc i) zero one other distinct here there same =
    let apart = not_true (is_name_among first.name (map (λ (p : Parameter). p.name) rest)) (both_pass (not (is_name_among first.name (map (λ (p : Parameter). p.name) rest))) (are_distinct (map (λ (p : Parameter). p.name) rest)) distinct).0 in
    absurd (true≢false (sym (among_at rest i one first.name here (ap (λ (p : Parameter). p.name) (same_Some first other there) ∙ sym same)) ∙ apart))
same_one (first ∷ rest) (suc i) (suc j) one other distinct here there same =
    same_one rest i j one other (both_pass (not (is_name_among first.name (map (λ (p : Parameter). p.name) rest))) (are_distinct (map (λ (p : Parameter). p.name) rest)) distinct).1 here there same

-- ---- types

each : {A : Type 0} (test : A → Bool) (xs : List A) (at : ℕ) (x : A) → list_all test xs ≡ true → slice_get xs at ≡ Some x → test x ≡ true
each test [] at x all here = absurd (none-some x here)
each test (first ∷ rest) zero x all here = subst (λ y. test y ≡ true) (same_Some first x here) (both_pass (test first) (list_all test rest) all).0
each test (first ∷ rest) (suc at) x all here = each test rest at x (both_pass (test first) (list_all test rest) all).1 here

record IsTypeOf (model : Parts) (activity : Activity) : Type 0 where
  parameters : list_all (is_parameter model.enums) activity.parameters ≡ true
  distinct : are_distinct (parameter_names activity) ≡ true

type_good : (model : Parts) → valid_model model ≡ true → (kind : ℕ) (activity : Activity) → slice_get model.activities kind ≡ Some activity → IsTypeOf model activity
unfolding has_good_activities is_activity
type_good model valid kind activity here =
    let taken = enum_names model ++ cell_names model in
    let all = both_pass (nat_le (length model.activities) type_limit) (list_all (is_activity model.enums model.cells (signatures_of model.activities) taken) model.activities) (are_good model valid).activities in
    let is = each (is_activity model.enums model.cells (signatures_of model.activities) taken) model.activities kind activity all.1 here in
    let first = both_pass (are_parameters model.enums taken activity && are_requires model.enums activity && is_result model.enums activity.result activity.body) _ is in
    let second = both_pass (are_parameters model.enums taken activity && are_requires model.enums activity) (is_result model.enums activity.result activity.body) first.0 in
    let third = both_pass (are_parameters model.enums taken activity) (are_requires model.enums activity) second.0 in
    let names = both_pass (nat_le (length activity.parameters) parameter_limit && list_all (is_parameter model.enums) activity.parameters && are_distinct (parameter_names activity)) _ third.0 in
    let apart = both_pass (nat_le (length activity.parameters) parameter_limit && list_all (is_parameter model.enums) activity.parameters) (are_distinct (parameter_names activity)) names.0 in
    let good = both_pass (nat_le (length activity.parameters) parameter_limit) (list_all (is_parameter model.enums) activity.parameters) apart.0 in
    record { parameters = good.1; distinct = apart.1 }

kinds_agree : (a b : Kind) → same_kind a b ≡ true → a ≡ b
kinds_agree Int Int e = refl
kinds_agree Int Truth e = cc
kinds_agree Int (Enum b) e = cc
kinds_agree Truth Int e = cc
kinds_agree Truth Truth e = refl
kinds_agree Truth (Enum b) e = cc
kinds_agree (Enum a) Int e = cc
kinds_agree (Enum a) Truth e = cc
kinds_agree (Enum a) (Enum b) e = ap Enum (eqb-true a b e)

-- ---- values

-- each value is of its parameter's type
values_each : (enums : List EnumType) (for : Parameter → Value) (parameters : List Parameter)
    → ((place : ℕ) (parameter : Parameter) → slice_get parameters place ≡ Some parameter → is_value_of enums parameter.kind (for parameter) ≡ true)
    → are_values_of enums (map (λ (parameter : Parameter). parameter.kind) parameters) (map for parameters) ≡ true
values_each enums for [] one = refl
values_each enums for (parameter ∷ rest) one =
    and_too (is_value_of enums parameter.kind (for parameter)) (are_values_of enums (map (λ (p : Parameter). p.kind) rest) (map for rest))
    (one zero parameter refl) (values_each enums for rest (λ place p here. one (suc place) p here))

-- what has no type is refused
no_kind : (model : Parts) (what : RawLiteralKind) → refusals_of_literal model what ≡ [] → literal_kind model what ≡ None → ⊥
no_kind model (literal.Number number) e none = cc
no_kind model (literal.Truth truth) e none = cc
no_kind model (literal.Variant kind variant) e none = go (position_of_enum model.enums kind.name) e none
  where
    go : (place : Option ℕ) → refusals_of_named_variant model place kind variant ≡ [] → option_map (λ (at : ℕ). Enum (short at)) place ≡ None → ⊥
    go None e none = cc
    go (Some at) e none = cc

module _ (model : Parts) (valid : valid_model model ≡ true) (literals : ReadLiteralsAreOf) (activity : Activity) (good : IsTypeOf model activity) where
  literal_is : (what : RawLiteralKind) (kind : Kind) → refusals_of_literal model what ≡ [] → is_kind_if_known (literal_kind model what) kind ≡ true → is_value_of model.enums kind (literal_value model what) ≡ true
  literal_is what kind e fits = go (literal_kind model what) refl fits
    where
      go : (found : Option Kind) → literal_kind model what ≡ found → is_kind_if_known found kind ≡ true → is_value_of model.enums kind (literal_value model what) ≡ true
      go None h fits = absurd (no_kind model what e h)
      go (Some found) h fits = literals model what kind valid e (h ∙ ap Some (kinds_agree found kind fits))

  -- an argument of which nothing is refused
  abbrev IsGood : Argument → Type 0
  IsGood argument = (refusals_of_value model argument.0 argument.1 (known_parameter activity.parameters argument.0.name) ≡ []) × (refusals_of_literal model argument.1.what ≡ [])

  argument_good : (others : List Argument) (argument : Argument) → refusals_of_argument model activity.parameters others argument ≡ [] → IsGood argument
  argument_good others argument e =
      let fresh = refused_unless (not (has_argument others argument.0.name)) Duplicate argument.0.at in
      let value = refusals_of_value model argument.0 argument.1 (known_parameter activity.parameters argument.0.name) in
      let first = both_empty (fresh ++ value) (refusals_of_literal model argument.1.what) e in
      let second = both_empty fresh value first.0 in
      (second.1, first.1)

  -- the first of some that passes is the one in front or one behind it
  picked : (test : Argument → Bool) (first argument : Argument) (rest : List Argument) (v : Bool) → IsGood first → (find test rest ≡ Some argument → IsGood argument) → cond v (Some first) (find test rest) ≡ Some argument → IsGood argument
  picked test first argument rest true here later f = subst IsGood (same_Some first argument f) here
  picked test first argument rest false here later f = later f

  found_good : (test : Argument → Bool) (others rest : List Argument) (argument : Argument) → refusals_of_arguments model activity.parameters others rest ≡ [] → find test rest ≡ Some argument → IsGood argument
  found_good test others [] argument e f = cc
  found_good test others (first ∷ rest) argument e f =
      let two = or_empty (refusals_of_argument model activity.parameters others first) (refusals_of_arguments model activity.parameters (others ++ first ∷ []) rest) e in
      picked test first argument rest (test first) (argument_good others first two.0) (found_good test (others ++ first ∷ []) rest argument two.1) f

  default_is : (parameter : Parameter) → is_parameter model.enums parameter ≡ true → is_some parameter.default ≡ true → is_value_of model.enums parameter.kind (default_or_false parameter.default) ≡ true
  default_is parameter is some = go parameter.default (both_pass (is_kind model.enums parameter.kind) (is_default model.enums parameter.kind parameter.default) is).1 some
    where
      go : (default : Option Value) → is_default model.enums parameter.kind default ≡ true → is_some default ≡ true → is_value_of model.enums parameter.kind (default_or_false default) ≡ true
      go None is some = cc
      go (Some value) is some = is

  -- an argument for a parameter is of its type
  argument_is : (place : ℕ) (parameter : Parameter) (argument : Argument) → slice_get activity.parameters place ≡ Some parameter → IsGood argument → same_name argument.0.name parameter.name ≡ true
      → is_value_of model.enums parameter.kind (literal_value model argument.1.what) ≡ true
  argument_is place parameter argument here is same = go (known_parameter activity.parameters argument.0.name) refl is.0
    where
      go : (found : Option Parameter) → known_parameter activity.parameters argument.0.name ≡ found → refusals_of_value model argument.0 argument.1 found ≡ [] → is_value_of model.enums parameter.kind (literal_value model argument.1.what) ≡ true
      go None h e = cc
      go (Some other) h e =
          let at = found_at (λ (p : Parameter). same_name p.name argument.0.name) activity.parameters other h in
          let names : parameter.name ≡ other.name = sym (same_is other.name argument.0.name at.passes ∙ same_is argument.0.name parameter.name same) in
          let one = same_one activity.parameters place at.at parameter other good.distinct here at.there names in
          let fits = holds_if_empty (is_kind_if_known (literal_kind model argument.1.what) other.kind) _ argument.0.at e in
          literal_is argument.1.what parameter.kind is.1 (subst (λ (p : Parameter). is_kind_if_known (literal_kind model argument.1.what) p.kind ≡ true) (sym one) fits)

  module _ (arguments : List Argument) (none : refusals_of_arguments model activity.parameters [] arguments ≡ []) where
    one_value : (place : ℕ) (parameter : Parameter) → slice_get activity.parameters place ≡ Some parameter → is_given_or_default arguments parameter ≡ true
        → is_value_of model.enums parameter.kind (template_value model arguments parameter) ≡ true
    one_value place parameter here gets = go (find test arguments) refl
      where
        test : Argument → Bool
        test argument = same_name argument.0.name parameter.name

        has_default : (d any : Bool) → any ≡ false → (d || any) ≡ true → d ≡ true
        has_default true any e h = refl
        has_default false any e h = sym e ∙ h

        go : (found : Option Argument) → find test arguments ≡ found → is_value_of model.enums parameter.kind (written_or_default model parameter found) ≡ true
        go None h = default_is parameter (each (is_parameter model.enums) activity.parameters place parameter good.parameters here)
            (has_default (is_some parameter.default) (has_argument arguments parameter.name) (none_given test arguments h) gets)
        go (Some argument) h = argument_is place parameter argument here (found_good test [] arguments argument none h) (found_at test arguments argument h).passes

-- a template of which nothing is refused
pub given_takes : (model : Parts) (activity : Activity) (template : RawTemplate) → valid_model model ≡ true → NamedTypesStand → ReadLiteralsAreOf → activity_named model template.kind.name ≡ Some activity
    → refusals_of_given model activity template ≡ [] → IsTrue (takes model.enums (slice_get model.activities (meant_template model template).kind) (meant_template model template).arguments)
given_takes model activity template valid named literals here e =
    let stands = named model template.kind activity valid here in
    let good = type_good model valid _ activity stands in
    let two = both_empty (refused_unless (list_all (is_given_or_default template.arguments) activity.parameters) WrongType template.kind.at) (refusals_of_arguments model activity.parameters [] template.arguments) e in
    let gets = holds_if_empty (list_all (is_given_or_default template.arguments) activity.parameters) _ template.kind.at two.0 in
    let values = values_each model.enums (template_value model template.arguments) activity.parameters
    (λ place parameter at. one_value model valid literals activity good template.arguments two.1 place parameter at (each (is_given_or_default template.arguments) activity.parameters place parameter gets at)) in
    subst (λ (found : Option Activity). IsTrue (takes model.enums found (map (template_value model template.arguments) (parameters_if_known (activity_named model template.kind.name))))) (sym stands)
    (subst (λ (found : Option Activity). are_values_of model.enums (parameter_kinds activity) (map (template_value model template.arguments) (parameters_if_known found)) ≡ true) (sym here) values)
