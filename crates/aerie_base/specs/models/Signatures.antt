-- What a body has to know of an activity type in order to start it.
use Rattle.std.specs.Prelude.{List, Option, Some, None, map}
use Rattle.aerie_base.specs.declared.values.Kind.{Kind}
use Rattle.aerie_base.specs.declared.models.Activity.{Activity}

pub record Signature : Type 0 where
  -- the types of the parameters, in their order
  pub parameters : List Kind
  -- the type of the result, where there is one
  pub result : Option Kind

-- the types of an activity type's parameters, in their order
abbrev pub parameter_kinds : Activity → List Kind
parameter_kinds activity = map (λ parameter. parameter.kind) activity.parameters

abbrev pub signature_of : Activity → Signature
signature_of activity = record { parameters = parameter_kinds activity; result = activity.result }

-- the signatures of activity types, in their order
abbrev pub signatures_of : List Activity → List Signature
signatures_of activities = map signature_of activities

-- the type of a result, where there is such a signature and it has one
abbrev pub signature_result : Option Signature → Option Kind
signature_result None = None
signature_result (Some signature) = signature.result

-- the same of an activity type
abbrev pub activity_result : Option Activity → Option Kind
activity_result None = None
activity_result (Some activity) = activity.result
