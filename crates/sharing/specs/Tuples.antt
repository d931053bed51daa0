-- A file of lemmas: what it proves need not be read to trust a clause.
--
-- Small parts of what threads share: numbers, tuples, what closures capture.
use denote.Builtin
use denote.Param.Send.{IsSend, IsSync, sendable}
use denote.Param.SendFields.{as_row_send, as_row_sync, declared_send, declared_sync}
use denote.Plain
use denote.RattleType.{RattleType}
use denote.Struct.Field.{row_field}
use denote.Struct.Tuple.{Tuple, TupleAt, tuple_type, type_at}
use mathlib.Core.List.{[], ◌∷◌}
use mir.Syntax.{Sym}
use mir.Syntax

pub bool_send : IsSend denote.Builtin.bool
bool_send = search sendable

pub bool_sync : IsSync denote.Builtin.bool
bool_sync = search sendable

pub u16_send : IsSend (denote.Plain.UInt mir.Syntax.w16)
u16_send = search sendable

pub u16_sync : IsSync (denote.Plain.UInt mir.Syntax.w16)
u16_sync = search sendable

pub u32_send : IsSend (denote.Plain.UInt mir.Syntax.w32)
u32_send = search sendable

pub u32_sync : IsSync (denote.Plain.UInt mir.Syntax.w32)
u32_sync = search sendable

pub u64_send : IsSend (denote.Plain.UInt mir.Syntax.w64)
u64_send = search sendable

pub u64_sync : IsSync (denote.Plain.UInt mir.Syntax.w64)
u64_sync = search sendable

pub i64_send : IsSend denote.Builtin.i64
i64_send = search sendable

pub i64_sync : IsSync denote.Builtin.i64
i64_sync = search sendable

pub usize_send : IsSend denote.Builtin.usize
usize_send = search sendable

pub pair_send : (A B : RattleType) → IsSend A → IsSend B → IsSend (Tuple (A ∷ B ∷ []))
pair_send A B a b = declared_send (tuple_type (A ∷ B ∷ [])) (as_row_send (row_field A) a, (as_row_send (row_field B) b, tt))

pub pair_sync : (A B : RattleType) → IsSync A → IsSync B → IsSync (Tuple (A ∷ B ∷ []))
pair_sync A B a b = declared_sync (tuple_type (A ∷ B ∷ [])) (as_row_sync (row_field A) a, (as_row_sync (row_field B) b, tt))

-- the type of a closure that captures one value
pub captured_sync : (ν : Sym) (A : RattleType) → IsSync A → IsSync (TupleAt ν (A ∷ []))
captured_sync ν A a = declared_sync (type_at ν (A ∷ [])) (as_row_sync (row_field A) a, tt)

-- the type of a closure that captures three values
pub three_captured_sync : (ν : Sym) (A B C : RattleType) → IsSync A → IsSync B → IsSync C → IsSync (TupleAt ν (A ∷ B ∷ C ∷ []))
three_captured_sync ν A B C a b c = declared_sync (type_at ν (A ∷ B ∷ C ∷ [])) (as_row_sync (row_field A) a, (as_row_sync (row_field B) b, (as_row_sync (row_field C) c, tt)))
