-- What a condition at each form means, and what of it is not of the form, by its parts.
use Rattle.std.proofs.Common.{◌≡◌, Bool, false, List, [], Option, Some, None, subst, sym, ap, ◌∙◌}
use Rattle.aerie_base.specs.declared.conditions.Cond.{Cond}
use Rattle.aerie_base.specs.declared.conditions.Cond as cond
use Rattle.aerie_base.specs.declared.expressions.Operator.{Operator}
use Rattle.model_reader.specs.declared.raw.expressions.RawExpr.{RawExpr}
use Rattle.model_reader.specs.declared.raw.expressions.RawExprKind.{RawExprKind, Literal, Read, Not, Negate, Binary}
use Rattle.model_reader.specs.declared.raw.literals.RawLiteralKind.{RawLiteralKind}
use Rattle.model_reader.specs.declared.raw.reads.RawRead.{RawRead}
use Rattle.model_check.specs.declared.causes.Cause.TheVariants.{NotLinear}
use Rattle.diagnostics.specs.declared.diagnostic.Diagnostic.{Diagnostic}
use Rattle.model_check.specs.declared.causes.Cause.{Cause}
use Rattle.model_check.specs.declared.scopes.BodyScope.{BodyScope}
use Rattle.model_check.specs.declared.symbols.Symbols.{Symbols}
use Rattle.model_check.specs.CellReads.{raw_read_kind, read_operand}
use Rattle.diagnostics.specs.Diagnostics.{at_place, refused_unless}
use Rattle.model_check.specs.Diagnostics.{number_of_cause, noted, Makes}
use Rattle.model_check.specs.Literals.{literal_kind}
use Rattle.model_check.specs.RawExpressions.{raw_gives}
use Rattle.model_check.proofs.RawExpressionForms.{gives_Not, gives_Negate, gives_Binary}
use Rattle.model_check.specs.Waits.{cond_of, cond_step, junction, joint_of, plain_operator_of, plain_operator_diagnostics, cond_operator_of, cond_diagnostics, cond_diagnostics_step, cond_operator_diagnostics, is_truth, literal_truth}
use Rattle.diagnostics.specs.NotedInTurn.{noted_in_turn}

module _ (symbols : Symbols) (scope : BodyScope) where
  abbrev pub IsCondition : RawExpr → Option (Diagnostic Cause) → Option (Diagnostic Cause) → Cond → Type 0
  IsCondition raw before after made = Makes (cond_of symbols scope raw) (cond_diagnostics symbols scope raw) before after made

  abbrev wrong : RawExpr → RawExprKind → List (Diagnostic Cause)
  wrong raw what = raw_gives (List (Diagnostic Cause)) [] (cond_diagnostics_step symbols scope) raw.at what

  abbrev meant : RawExpr → RawExprKind → Cond
  meant raw what = raw_gives Cond (cond.Literal false) (cond_step symbols scope) raw.at what

  -- a part was made by itself, as the forms say
  by_form : (raw : RawExpr) (means : Cond) (ds : List (Diagnostic Cause)) → cond_of symbols scope raw ≡ means → cond_diagnostics symbols scope raw ≡ ds →
      (before after : Option (Diagnostic Cause)) (made : Cond) → Makes means ds before after made → IsCondition raw before after made
  by_form raw means ds m w before after made h =
      (h.0 ∙ sym m, h.1 ∙ ap (λ (xs : List (Diagnostic Cause)). noted before xs) (sym w))

  pub made_literal : (raw : RawExpr) (literal : RawLiteralKind) → raw.what ≡ Literal literal → (before after : Option (Diagnostic Cause)) (truth : _) →
      truth ≡ literal_truth literal → after ≡ noted before (refused_unless (is_truth (literal_kind symbols.enums literal)) NotLinear raw.at) →
      IsCondition raw before after (cond.Literal truth)
  unfolding cond_of cond_diagnostics
  made_literal raw literal e before after truth is judged =
      (ap (λ b. cond.Literal b) is ∙ sym (ap (meant raw) e), judged ∙ ap (λ (xs : List (Diagnostic Cause)). noted before xs) (sym (ap (wrong raw) e)))

  pub made_read : (raw : RawExpr) (read : RawRead) → raw.what ≡ Read read → (before after : Option (Diagnostic Cause)) (made : _) →
      made ≡ read_operand symbols scope read → after ≡ noted before (refused_unless (is_truth (raw_read_kind symbols scope read)) NotLinear raw.at) →
      IsCondition raw before after (cond.Flag made)
  unfolding cond_of cond_diagnostics
  made_read raw read e before after made is judged =
      (ap (λ x. cond.Flag x) is ∙ sym (ap (meant raw) e), judged ∙ ap (λ (xs : List (Diagnostic Cause)). noted before xs) (sym (ap (wrong raw) e)))

  pub made_not : (raw inner : RawExpr) → raw.what ≡ Not inner → (before after : Option (Diagnostic Cause)) (made boxed : Cond) →
      IsCondition inner before after made → boxed ≡ made → IsCondition raw before after (cond.Not boxed)
  unfolding cond_of cond_diagnostics
  made_not raw inner e before after made boxed h is = (
    ap (λ x. cond.Not x) (is ∙ h.0) ∙ sym (ap (meant raw) e ∙ gives_Not Cond (cond.Literal false) (cond_step symbols scope) raw.at inner),
    h.1 ∙ ap (λ (xs : List (Diagnostic Cause)). noted before xs) (sym (ap (wrong raw) e ∙ gives_Not (List (Diagnostic Cause)) [] (cond_diagnostics_step symbols scope) raw.at inner)),
  )

  pub made_negate : (raw inner : RawExpr) → raw.what ≡ Negate inner → (before after : Option (Diagnostic Cause)) (made : Cond) →
      Makes (cond.Literal false) (at_place NotLinear raw.at) before after made → IsCondition raw before after made
  unfolding cond_of cond_diagnostics
  made_negate raw inner e =
      by_form raw (cond.Literal false) (at_place NotLinear raw.at)
      (ap (meant raw) e ∙ gives_Negate Cond (cond.Literal false) (cond_step symbols scope) raw.at inner)
      (ap (wrong raw) e ∙ gives_Negate (List (Diagnostic Cause)) [] (cond_diagnostics_step symbols scope) raw.at inner)

  made_operator : (raw : RawExpr) (operator : Operator) (left right : RawExpr) → raw.what ≡ Binary operator left right →
      (before after : Option (Diagnostic Cause)) (made : Cond) →
      Makes (cond_operator_of symbols scope operator (junction operator) (left, cond_of symbols scope left) (right, cond_of symbols scope right))
      (cond_operator_diagnostics symbols scope raw.at operator (junction operator) (left, cond_diagnostics symbols scope left) (right, cond_diagnostics symbols scope right)) before after made →
      IsCondition raw before after made
  unfolding cond_of cond_diagnostics
  made_operator raw operator left right e =
      by_form raw
      (cond_operator_of symbols scope operator (junction operator) (left, cond_of symbols scope left) (right, cond_of symbols scope right))
      (cond_operator_diagnostics symbols scope raw.at operator (junction operator) (left, cond_diagnostics symbols scope left) (right, cond_diagnostics symbols scope right))
      (ap (meant raw) e ∙ gives_Binary Cond (cond.Literal false) (cond_step symbols scope) raw.at operator left right)
      (ap (wrong raw) e ∙ gives_Binary (List (Diagnostic Cause)) [] (cond_diagnostics_step symbols scope) raw.at operator left right)

  -- by what the operator is to conditions
  by_junction : (raw : RawExpr) (operator : Operator) (left right : RawExpr) → raw.what ≡ Binary operator left right →
      (joins : Option Bool) → joins ≡ junction operator → (before after : Option (Diagnostic Cause)) (made : Cond) →
      Makes (cond_operator_of symbols scope operator joins (left, cond_of symbols scope left) (right, cond_of symbols scope right))
      (cond_operator_diagnostics symbols scope raw.at operator joins (left, cond_diagnostics symbols scope left) (right, cond_diagnostics symbols scope right)) before after made →
      IsCondition raw before after made
  by_junction raw operator left right e joins is before after made h =
      made_operator raw operator left right e before after made
      (subst
      (λ (j : Option Bool). Makes (cond_operator_of symbols scope operator j (left, cond_of symbols scope left) (right, cond_of symbols scope right))
      (cond_operator_diagnostics symbols scope raw.at operator j (left, cond_diagnostics symbols scope left) (right, cond_diagnostics symbols scope right)) before after made)
      is h)

  pub made_plain : (raw : RawExpr) (operator : Operator) (left right : RawExpr) → raw.what ≡ Binary operator left right → None ≡ junction operator →
      (before after : Option (Diagnostic Cause)) (made : Cond) →
      Makes (plain_operator_of symbols scope operator left right) (plain_operator_diagnostics symbols scope raw.at operator left right) before after made →
      IsCondition raw before after made
  made_plain raw operator left right e none before after made h = by_junction raw operator left right e None none before after made h

  pub made_joint : (raw : RawExpr) (operator : Operator) (left right : RawExpr) → raw.what ≡ Binary operator left right → (is_or : Bool) → Some is_or ≡ junction operator →
      (before between after : Option (Diagnostic Cause)) (made_left made_right made : Cond) →
      IsCondition left before between made_left → IsCondition right between after made_right → made ≡ joint_of is_or made_left made_right →
      IsCondition raw before after made
  made_joint raw operator left right e is_or some before between after made_left made_right made first second is =
      by_junction raw operator left right e (Some is_or) some before after made (
        is ∙ (λ i. joint_of is_or (first.0 i) (second.0 i)),
        noted_in_turn number_of_cause (cond_diagnostics symbols scope left) (cond_diagnostics symbols scope right) before between after first.1 second.1,
      )
