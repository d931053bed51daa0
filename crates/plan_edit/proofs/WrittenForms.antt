-- Lists and objects of JSON against the vectors and maps that they are made of, and what is read one behind another.
use Rattle.std.proofs.Common.{◌≡◌, ℕ, ◌+◌, ◌<◌, List, [], ◌∷◌, ◌++◌, append_assoc, length, map, drop, get_or, Option, Some, None, Ok, Err, refl, sym, ap, ◌∙◌, option_map, arith, String, Global, string_bytes}
use Rattle.std.proofs.lemmas.List.{append-nil}
use Rattle.serde_json.specs.Data.{Data}
use Rattle.serde_json.specs.View.{view, items_of, members_view}
use Rattle.serde_json.specs.declared.value.Value.{Value}
use Rattle.aerie_base.specs.declared.arguments.RawArgument.{RawArgument}
use Rattle.aerie_base.specs.declared.arguments.RawValue.{RawValue}
use Rattle.plan_edit.specs.declared.errors.EditError.{EditError}
use Rattle.plan_edit.specs.declared.errors.EditError.TheVariants.{NotAPlan}
use Rattle.plan_edit.specs.declared.forms.WrittenDirective.{WrittenDirective}
use Rattle.plan_edit.specs.Answers.{IsRefusal}
use Rattle.plan_edit.specs.PlanForm.{if_formed, members_in, values_of_items, put_argument, put_directive, arguments_of_members, one_argument, value_of_json, free_name, directives_of_json, directive_of_json, directive_of_parts, Timing}
use Rattle.plan_edit.proofs.Fillings.{cut}
use Rattle.plan_edit.proofs.Given.{refused_too}

pub as_many_members : (members : List (String Global × Value)) → members_in (members_view members) ≡ length members
as_many_members [] = refl
as_many_members (member ∷ rest) = grind (arith, as_many_members rest)

pub values_are_items : (values : List Data) → values_of_items (items_of values) ≡ values
values_are_items [] = refl
values_are_items (value ∷ rest) = ap (λ vs. value ∷ vs) (values_are_items rest)

-- ---- one behind another

abbrev pub joined_forms : {A : Type 0} → List A → Option (List A) → Option (List A)
joined_forms all None = None
joined_forms all (Some rest) = Some (all ++ rest)

pub joined_no_forms : {A : Type 0} (rest : Option (List A)) → rest ≡ joined_forms [] rest
joined_no_forms None = refl
joined_no_forms (Some rest) = refl

-- a part that is not of the form: nor is the whole
pub not_formed : {A B : Type 0} (part : Option A) (whole : Option B) (refusal : EditError) → (part ≡ None → whole ≡ None) → IsRefusal (if_formed part) refusal → IsRefusal (if_formed whole) refusal
not_formed None whole refusal none h =
    refused_too (if_formed None) (if_formed whole) refusal (λ r e. let same : NotAPlan ≡ r = cc in ap if_formed (none refl) ∙ ap Err same) h
not_formed (Some part) whole refusal none h = refused_too (if_formed (Some part)) (if_formed whole) refusal (λ r e. absurd (cc)) h

pub formed_so : {A : Type 0} (part : Option A) (made : A) → if_formed part ≡ Ok made → part ≡ Some made
formed_so None made h = absurd (cc)
formed_so (Some part) made h = cc

joined_put : (all : List RawArgument) (one : RawArgument) (rest : Option (List RawArgument)) → joined_forms all (put_argument (Some one) rest) ≡ joined_forms (all ++ one ∷ []) rest
joined_put all one None = refl
joined_put all one (Some rest) = ap Some (sym (append_assoc all (one ∷ []) rest))

joined_put_directive : (all : List WrittenDirective) (one : WrittenDirective) (rest : Option (List WrittenDirective)) → joined_forms all (put_directive (Some one) rest) ≡ joined_forms (all ++ one ∷ []) rest
joined_put_directive all one None = refl
joined_put_directive all one (Some rest) = ap Some (sym (append_assoc all (one ∷ []) rest))

-- ---- arguments

module _ (all : List RawArgument) (left : List (String Global × Value)) (key : String Global) (given : Value) (rest : List (String Global × Value)) (is : left ≡ (key, given) ∷ rest) where
  opened : joined_forms all (arguments_of_members (members_view left)) ≡ joined_forms all (put_argument (one_argument (value_of_json (view given)) (string_bytes key)) (arguments_of_members (members_view rest)))
  opened = ap (λ (ms : List (String Global × Value)). joined_forms all (arguments_of_members (members_view ms))) is

  pub one_more_argument : (one : RawArgument) → one_argument (value_of_json (view given)) (string_bytes key) ≡ Some one →
      joined_forms all (arguments_of_members (members_view left)) ≡ joined_forms (all ++ one ∷ []) (arguments_of_members (members_view rest))
  one_more_argument one e =
      opened ∙ ap (λ (o : Option RawArgument). joined_forms all (put_argument o (arguments_of_members (members_view rest)))) e
      ∙ joined_put all one (arguments_of_members (members_view rest))

  pub no_argument : one_argument (value_of_json (view given)) (string_bytes key) ≡ None → joined_forms all (arguments_of_members (members_view left)) ≡ None
  no_argument e =
      opened ∙ ap (λ (o : Option RawArgument). joined_forms all (put_argument o (arguments_of_members (members_view rest)))) e

-- what is made of the members from the front on
pub begun_arguments : (entries iterator : List (String Global × Value)) (all : List RawArgument) → iterator ≡ entries → all ≡ [] →
    arguments_of_members (members_view entries) ≡ joined_forms all (arguments_of_members (members_view iterator))
begun_arguments entries iterator all same none =
    joined_no_forms (arguments_of_members (members_view entries)) ∙ ap (λ (es : List (String Global × Value)). joined_forms [] (arguments_of_members (members_view es))) (sym same)
    ∙ ap (λ (rs : List RawArgument). joined_forms rs (arguments_of_members (members_view iterator))) (sym none)

joined_end : {A : Type 0} (all : List A) → joined_forms all (Some []) ≡ Some all
joined_end all = ap Some (append-nil all)

pub ended_arguments : (iterator : List (String Global × Value)) (all : List RawArgument) (whole : Option (List RawArgument)) →
    whole ≡ joined_forms all (arguments_of_members (members_view iterator)) → iterator ≡ [] → if_formed whole ≡ Ok all
ended_arguments iterator all whole is none =
    ap if_formed (is ∙ ap (λ (es : List (String Global × Value)). joined_forms all (arguments_of_members (members_view es))) none ∙ joined_end all)

-- one argument
pub argument_made : (given : Option RawValue) (text : List ℕ) (value : RawValue) (name : List ℕ) → given ≡ Some value → free_name text ≡ Some name →
    one_argument given text ≡ Some (record { name = name; value = value })
argument_made given text value name e f =
    ap (λ (o : Option RawValue). one_argument o text) e ∙ ap (option_map (λ (n : List ℕ). record { name = n; value = value })) f

pub argument_unnamed : (given : Option RawValue) (text : List ℕ) (value : RawValue) → given ≡ Some value → free_name text ≡ None → one_argument given text ≡ None
argument_unnamed given text value e f =
    ap (λ (o : Option RawValue). one_argument o text) e ∙ ap (option_map (λ (n : List ℕ). record { name = n; value = value })) f

-- one directive
module _ (timing : Option Timing) (kind : Option (List ℕ)) (arguments : Option (List RawArgument)) (at : Timing) (is : timing ≡ Some at) where
  pub directive_untyped : kind ≡ None → directive_of_parts timing kind arguments ≡ None
  directive_untyped e =
      ap (λ (o : Option Timing). directive_of_parts o kind arguments) is ∙ ap (λ (o : Option (List ℕ)). directive_of_parts (Some at) o arguments) e

  pub directive_ungiven : (name : List ℕ) → kind ≡ Some name → arguments ≡ None → directive_of_parts timing kind arguments ≡ None
  directive_ungiven name e f =
      ap (λ (o : Option Timing). directive_of_parts o kind arguments) is ∙ ap (λ (o : Option (List ℕ)). directive_of_parts (Some at) o arguments) e
      ∙ ap (directive_of_parts (Some at) (Some name)) f

  pub directive_made : (name : List ℕ) (given : List RawArgument) → kind ≡ Some name → arguments ≡ Some given →
      directive_of_parts timing kind arguments ≡ Some (record { id = at.0; anchor = at.1.0; start = at.1.1; kind = name; arguments = given })
  directive_made name given e f =
      ap (λ (o : Option Timing). directive_of_parts o kind arguments) is ∙ ap (λ (o : Option (List ℕ)). directive_of_parts (Some at) o arguments) e
      ∙ ap (directive_of_parts (Some at) (Some name)) f

-- ---- directives

module _ (all : List WrittenDirective) (values : List Value) (at : ℕ) (value : Value) (within : at < length values) (is : value ≡ get_or values at value) where
  opened_directives : joined_forms all (directives_of_json (map view (drop at values))) ≡ joined_forms all (put_directive (directive_of_json (view value)) (directives_of_json (map view (drop (at + 1) values))))
  opened_directives = ap (λ (vs : List Value). joined_forms all (directives_of_json (map view vs))) (cut values at value within is)

  pub one_more_directive : (one : WrittenDirective) → directive_of_json (view value) ≡ Some one →
      joined_forms all (directives_of_json (map view (drop at values))) ≡ joined_forms (all ++ one ∷ []) (directives_of_json (map view (drop (at + 1) values)))
  one_more_directive one e =
      opened_directives ∙ ap (λ (o : Option WrittenDirective). joined_forms all (put_directive o (directives_of_json (map view (drop (at + 1) values))))) e
      ∙ joined_put_directive all one (directives_of_json (map view (drop (at + 1) values)))

  pub no_directive : directive_of_json (view value) ≡ None → joined_forms all (directives_of_json (map view (drop at values))) ≡ None
  no_directive e =
      opened_directives ∙ ap (λ (o : Option WrittenDirective). joined_forms all (put_directive o (directives_of_json (map view (drop (at + 1) values))))) e
