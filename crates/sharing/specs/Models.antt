-- A file of lemmas: what it proves need not be read to trust a clause.
--
-- Models may be shared by threads.
use denote.Enum.Declared
use denote.Param.Send.{IsSend, IsSync, enum_send, enum_sync, view_send, view_sync}
use denote.Param.SendFields.{as_row_send, as_row_sync, declared_send, declared_sync}
use denote.Struct.Field
use Rattle.aerie_base.specs.contracts.expressions.Expr as ExprRow
use Rattle.aerie_base.specs.contracts.conditions.Cond as CondRow
use Rattle.aerie_base.specs.contracts.statements.Stmt as StmtRow
use Rattle.aerie_base.specs.contracts.statements.Emission as EmissionRow
use Rattle.aerie_base.specs.contracts.models.Activity as ActivityRow
use Rattle.aerie_base.specs.contracts.models.Daemon as DaemonRow
use Rattle.aerie_base.specs.contracts.models.model.Parts as PartsRow
use Rattle.aerie_base.specs.contracts.models.model.Model as ModelRow
use Rattle.aerie_base.specs.contracts.models.model.Model.TheInside as InsideRow
use Rattle.aerie_base.proofs.models.CellStart.TheSendSync as CellStartSent
use Rattle.aerie_base.proofs.models.Resource.TheSendSync as ResourceSent
use Rattle.aerie_base.proofs.models.EnumType.TheSendSync as EnumTypeSent
use Rattle.aerie_base.proofs.values.Value.TheSendSync as ValueSent
use Rattle.aerie_base.proofs.operands.Operand.TheSendSync as OperandSent
use Rattle.aerie_base.proofs.expressions.Operator.TheSendSync as OperatorSent
use Rattle.aerie_base.proofs.expressions.Comparison.TheSendSync as ComparisonSent
use Rattle.aerie_base.proofs.containers.boxed.Boxed.TheSendSync as BoxedSent
use Rattle.aerie_base.proofs.containers.list.List.TheSendSync as ListSent
use Rattle.aerie_base.proofs.conditions.Simple.TheSendSync as SimpleSent
use Rattle.aerie_base.proofs.linear.Linear.TheSendSync as LinearSent
use Rattle.aerie_base.proofs.models.Parameter.TheSendSync as ParameterSent
use Rattle.aerie_base.proofs.values.Kind.TheSendSync as KindSent
use Rattle.std.proofs.option.Option.TheSendSync as OptionSent
use Rattle.aerie_base.specs.contracts.names.Name as NameRow
use Rattle.aerie_base.specs.contracts.models.CellStart as CellStartRow
use Rattle.aerie_base.specs.contracts.models.Resource as ResourceRow
use Rattle.aerie_base.proofs.names.Name.TheSendSync as NameSent
use Rattle.aerie_base.proofs.expressions.Expr.TheLaws.TheKnot as ExprSent
use Rattle.aerie_base.proofs.conditions.Cond.TheLaws.TheKnot as CondSent
use Rattle.aerie_base.proofs.statements.Stmt.TheLaws.TheKnot as StmtSent
use Rattle.sharing.specs.Tuples.{bool_send, bool_sync, pair_send, pair_sync, u16_send, u16_sync}

pub expr_part : IsSync ExprRow.the_field.row
expr_part = ExprSent.sync-Expr ValueSent.the_field_sync OperandSent.the_field_sync BoxedSent.the_sync OperatorSent.the_field_sync

pub expr_sync : IsSync ExprRow.the_row
expr_sync = as_row_sync ExprRow.the_field expr_part

pub cond_part : IsSync CondRow.the_field.row
cond_part = CondSent.sync-Cond bool_sync OperandSent.the_field_sync SimpleSent.the_field_sync LinearSent.the_field_sync ComparisonSent.the_field_sync BoxedSent.the_sync

pub cond_sync : IsSync CondRow.the_row
cond_sync = as_row_sync CondRow.the_field cond_part

pub emission_part : IsSync EmissionRow.the_field.row
emission_part = enum_sync (denote.Enum.Declared.shape EmissionRow.the_type) ((expr_part, tt), ((expr_part, tt), ((expr_part, tt), ((expr_part, tt), tt))))

pub stmt_part : IsSync StmtRow.the_field.row
stmt_part = StmtSent.sync-Stmt u16_sync expr_part emission_part cond_part (ListSent.the_sync _ expr_sync) (OptionSent.the_field_sync _ u16_sync) ListSent.the_sync (OptionSent.the_field_sync _ expr_sync)

pub stmt_sync : IsSync StmtRow.the_row
stmt_sync = as_row_sync StmtRow.the_field stmt_part

pub activity_sync : IsSync ActivityRow.the_row
activity_sync = declared_sync ActivityRow.the_type (NameSent.the_sync, (ListSent.the_sync _ ParameterSent.the_sync, (OptionSent.the_sync _ KindSent.the_sync, (ListSent.the_sync _ expr_sync, (as_row_sync denote.Struct.Field.u16-field u16_sync, (ListSent.the_sync _ stmt_sync, tt))))))

pub daemon_sync : IsSync DaemonRow.the_row
daemon_sync = declared_sync DaemonRow.the_type (as_row_sync denote.Struct.Field.u16-field u16_sync, (ListSent.the_sync _ stmt_sync, tt))

pub parts_sync : IsSync PartsRow.the_row
parts_sync = declared_sync PartsRow.the_type (NameSent.the_sync, (ListSent.the_sync _ EnumTypeSent.the_sync, (ListSent.the_sync _ (pair_sync NameRow.the_row CellStartRow.the_row NameSent.the_sync CellStartSent.the_sync), (ListSent.the_sync _ (pair_sync NameRow.the_row ResourceRow.the_row NameSent.the_sync ResourceSent.the_sync), (ListSent.the_sync _ activity_sync, (ListSent.the_sync _ daemon_sync, tt))))))

inside_sync : IsSync InsideRow.the_row
inside_sync = declared_sync InsideRow.the_type (parts_sync, tt)

pub model_sync : IsSync ModelRow.the_row
model_sync = view_sync InsideRow.the_row _ _ _ _ inside_sync

pub expr_part_send : IsSend ExprRow.the_field.row
expr_part_send = ExprSent.send-Expr ValueSent.the_field_send OperandSent.the_field_send BoxedSent.the_send OperatorSent.the_field_send

pub expr_send : IsSend ExprRow.the_row
expr_send = as_row_send ExprRow.the_field expr_part_send

pub cond_part_send : IsSend CondRow.the_field.row
cond_part_send = CondSent.send-Cond bool_send OperandSent.the_field_send SimpleSent.the_field_send LinearSent.the_field_send ComparisonSent.the_field_send BoxedSent.the_send

pub cond_send : IsSend CondRow.the_row
cond_send = as_row_send CondRow.the_field cond_part_send

pub emission_part_send : IsSend EmissionRow.the_field.row
emission_part_send = enum_send (denote.Enum.Declared.shape EmissionRow.the_type) ((expr_part_send, tt), ((expr_part_send, tt), ((expr_part_send, tt), ((expr_part_send, tt), tt))))

pub stmt_part_send : IsSend StmtRow.the_field.row
stmt_part_send = StmtSent.send-Stmt u16_send expr_part_send emission_part_send cond_part_send (ListSent.the_send _ expr_send) (OptionSent.the_field_send _ u16_send) ListSent.the_send (OptionSent.the_field_send _ expr_send)

pub stmt_send : IsSend StmtRow.the_row
stmt_send = as_row_send StmtRow.the_field stmt_part_send

pub activity_send : IsSend ActivityRow.the_row
activity_send = declared_send ActivityRow.the_type (NameSent.the_send, (ListSent.the_send _ ParameterSent.the_send, (OptionSent.the_send _ KindSent.the_send, (ListSent.the_send _ expr_send, (as_row_send denote.Struct.Field.u16-field u16_send, (ListSent.the_send _ stmt_send, tt))))))

pub daemon_send : IsSend DaemonRow.the_row
daemon_send = declared_send DaemonRow.the_type (as_row_send denote.Struct.Field.u16-field u16_send, (ListSent.the_send _ stmt_send, tt))

pub parts_send : IsSend PartsRow.the_row
parts_send = declared_send PartsRow.the_type (NameSent.the_send, (ListSent.the_send _ EnumTypeSent.the_send, (ListSent.the_send _ (pair_send NameRow.the_row CellStartRow.the_row NameSent.the_send CellStartSent.the_send), (ListSent.the_send _ (pair_send NameRow.the_row ResourceRow.the_row NameSent.the_send ResourceSent.the_send), (ListSent.the_send _ activity_send, (ListSent.the_send _ daemon_send, tt))))))

inside_send : IsSend InsideRow.the_row
inside_send = declared_send InsideRow.the_type (parts_send, tt)

pub model_send : IsSend ModelRow.the_row
model_send = view_send InsideRow.the_row _ _ _ _ inside_send
