-- Rules may be sent to threads.
use denote.Param.Send.{IsSend, IsSync}
use denote.Param.SendFields.{as_row_send, as_row_sync, declared_send, declared_sync, variants_send, variants_sync}
use denote.Struct.Field
use Rattle.aerie_base.proofs.containers.boxed.Boxed.TheSendSync as BoxedSent
use Rattle.aerie_base.proofs.containers.list.List.TheSendSync as ListSent
use Rattle.aerie_base.proofs.names.Name.TheSendSync as NameSent
use Rattle.aerie_base.proofs.numbers.time.Time.TheSendSync as TimeSent
use Rattle.aerie_base.proofs.expressions.Comparison.TheSendSync as ComparisonSent
use Rattle.aerie_base.proofs.values.Value.TheSendSync as ValueSent
use Rattle.constraints.specs.contracts.types.Constraint as ConstraintRow
use Rattle.constraints.specs.contracts.types.Rule as RuleRow
use Rattle.constraints.specs.contracts.types.Window as WindowRow
use Rattle.constraints.proofs.types.Reading.TheSendSync as ReadingSent
use Rattle.constraints.proofs.types.RuleSum.TheSendSync as RuleSumSent
use Rattle.constraints.proofs.types.Window.TheLaws.TheKnot as WindowSent
use Rattle.goals.specs.contracts.types.Goal as GoalRow
use Rattle.goals.specs.contracts.types.GoalAnchor as GoalAnchorRow
use Rattle.goals.specs.contracts.types.GoalKind as GoalKindRow
use Rattle.goals.proofs.types.Template.TheSendSync as TemplateSent
use Rattle.sharing.specs.Tuples.{bool_send, bool_sync, i64_send, i64_sync, u16_send, u16_sync, u32_send, u32_sync}

pub window_part_send : IsSend WindowRow.the_field.row
window_part_send = WindowSent.send-Window bool_send BoxedSent.the_send u16_send i64_send TimeSent.the_send ReadingSent.the_field_send ValueSent.the_field_send RuleSumSent.the_field_send ComparisonSent.the_field_send

pub window_send : IsSend WindowRow.the_row
window_send = as_row_send WindowRow.the_field window_part_send

pub rule_send : IsSend RuleRow.the_row
rule_send = variants_send RuleRow.enum (
  (window_send, tt),
  (
    (as_row_send denote.Struct.Field.u16-field u16_send, (window_send, tt)),
    (
      (as_row_send denote.Struct.Field.u16-field u16_send, (as_row_send denote.Struct.Field.u16-field u16_send, tt)),
      tt,
    ),
  ),
)

pub constraint_send : IsSend ConstraintRow.the_row
constraint_send = declared_send ConstraintRow.the_type (NameSent.the_send, (rule_send, tt))

pub anchor_send : IsSend GoalAnchorRow.the_row
anchor_send = variants_send GoalAnchorRow.enum (
  (as_row_send denote.Struct.Field.u16-field u16_send, tt),
  (
    (as_row_send denote.Struct.Field.u16-field u16_send, tt),
    (
      (window_send, tt),
      tt,
    ),
  ),
)

pub goal_kind_send : IsSend GoalKindRow.the_row
goal_kind_send = variants_send GoalKindRow.enum (
  (TimeSent.the_send, (TimeSent.the_send, (TimeSent.the_send, tt))),
  (
    (anchor_send, (as_row_send denote.Struct.Field.i64-field i64_send, (as_row_send denote.Struct.Field.i64-field i64_send, tt))),
    (
      (as_row_send denote.Struct.Field.u32-field u32_send, (TimeSent.the_send, (TimeSent.the_send, tt))),
      tt,
    ),
  ),
)

pub goal_send : IsSend GoalRow.the_row
goal_send = declared_send GoalRow.the_type (NameSent.the_send, (TemplateSent.the_send, (goal_kind_send, (ListSent.the_send _ NameSent.the_send, (as_row_send denote.Struct.Field.bool-field bool_send, tt)))))

-- ---- and shared by threads

pub window_part_sync : IsSync WindowRow.the_field.row
window_part_sync = WindowSent.sync-Window bool_sync BoxedSent.the_sync u16_sync i64_sync TimeSent.the_sync ReadingSent.the_field_sync ValueSent.the_field_sync RuleSumSent.the_field_sync ComparisonSent.the_field_sync

pub window_sync : IsSync WindowRow.the_row
window_sync = as_row_sync WindowRow.the_field window_part_sync

pub rule_sync : IsSync RuleRow.the_row
rule_sync = variants_sync RuleRow.enum (
  (window_sync, tt),
  (
    (as_row_sync denote.Struct.Field.u16-field u16_sync, (window_sync, tt)),
    (
      (as_row_sync denote.Struct.Field.u16-field u16_sync, (as_row_sync denote.Struct.Field.u16-field u16_sync, tt)),
      tt,
    ),
  ),
)

pub constraint_sync : IsSync ConstraintRow.the_row
constraint_sync = declared_sync ConstraintRow.the_type (NameSent.the_sync, (rule_sync, tt))

pub anchor_sync : IsSync GoalAnchorRow.the_row
anchor_sync = variants_sync GoalAnchorRow.enum (
  (as_row_sync denote.Struct.Field.u16-field u16_sync, tt),
  (
    (as_row_sync denote.Struct.Field.u16-field u16_sync, tt),
    (
      (window_sync, tt),
      tt,
    ),
  ),
)

pub goal_kind_sync : IsSync GoalKindRow.the_row
goal_kind_sync = variants_sync GoalKindRow.enum (
  (TimeSent.the_sync, (TimeSent.the_sync, (TimeSent.the_sync, tt))),
  (
    (anchor_sync, (as_row_sync denote.Struct.Field.i64-field i64_sync, (as_row_sync denote.Struct.Field.i64-field i64_sync, tt))),
    (
      (as_row_sync denote.Struct.Field.u32-field u32_sync, (TimeSent.the_sync, (TimeSent.the_sync, tt))),
      tt,
    ),
  ),
)

pub goal_sync : IsSync GoalRow.the_row
goal_sync = declared_sync GoalRow.the_type (NameSent.the_sync, (TemplateSent.the_sync, (goal_kind_sync, (ListSent.the_sync _ NameSent.the_sync, (as_row_sync denote.Struct.Field.bool-field bool_sync, tt)))))
