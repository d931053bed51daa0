-- A file of lemmas: what it proves need not be read to trust a clause.
--
-- How a `Boxed` stores its one value: behind an address that its own value leaves out. With this a type can reach
-- itself through a `Boxed`, as an expression does through its operands.
use mathlib.Core.Path.{refl}
use mathlib.Core.Former.{Former, this, const, pair, via}
use base.Stored.{gnil}
use base.Fml.{ftrue}
use denote.RattleType.{RattleType}
use denote.Memory.{part_of}
use denote.RawPtr.{Ptr}
use denote.Sharing.{nothing}
use denote.HoleLaws.{Alike}
use denote.HolePlaces.{Recodes, struct_places, laid, one_value}
use denote.Hole.Fix.{over}
use denote.Param.Weighed.{Weighed}
use denote.Model.Placed.{view_places}
use Rattle.std.specs.declared.boxed.Box.{Box}
use Rattle.std.specs.contracts.boxed.Box as owner
use Rattle.std.specs.declared.alloc.Global.{Global}
use Rattle.std.specs.contracts.alloc.Global as global
use Rattle.std.specs.contracts.impls.GlobalAllocator.TheImpl.{ghosts}
use Rattle.aerie_base.specs.declared.containers.boxed.Boxed.TheInside.{Inside}
use Rattle.aerie_base.specs.declared.containers.boxed.Boxed.TheView.{view, invariant}
use Rattle.aerie_base.specs.contracts.containers.boxed.Boxed as outer
use Rattle.aerie_base.specs.contracts.containers.boxed.Boxed.TheInside as inner

-- what it holds: one value, of whatever kind the inner former holds
abbrev pub the_former : Former {0} → Former {0}
the_former value = value

-- the measure of that value
abbrev pub the_weighed : {value : Former {0}} → Weighed value → Weighed (the_former value)
the_weighed weight = weight

-- the struct as the parts of its one field, a box in the global allocator
abbrev stored : Former {0}
stored =
    via (pair (const (Ptr × Global)) this) Inside
    (λ X fields. ((fields.content.ptr, fields.content.alloc), fields.content.value))
    (λ X parts. record { content = record { ptr = parts.0.0; alloc = parts.0.1; value = parts.1 } })
    (λ X fields. refl) (λ X parts. refl)

-- the box with another value at the same address
abbrev refilled : {X Y : Type 0} → Box X Global → Y → Box Y Global
refilled from y = record { ptr = from.ptr; alloc = from.alloc; value = y }

-- a box in the global allocator, as the logic describes it
abbrev global_box : RattleType → RattleType
global_box R = owner.the_row R global.the_row ghosts

module _ (R S : RattleType) (h : R.Denot → S.Denot) where
  box_places : Alike R S h → Alike (global_box R) (global_box S) (λ from. refilled from (h from.value))
  unfolding part_of
  box_places alike = record {
    mir_same = λ i. (global_box (one_value R (alike.mir_same i) (λ _. ftrue) (λ _ _. nothing) gnil)).mir;
    own_same = λ from i. (global_box (one_value R (alike.mir_same i) (alike.own_same from.value i) (alike.shr_same from.value i) gnil)).own_val (refilled from tt);
    shr_same = λ from i. (global_box (one_value R (alike.mir_same i) (alike.own_same from.value i) (alike.shr_same from.value i) gnil)).shr_at (refilled from tt);
  }

  -- two kinds of value that are laid out alike give two owners that are
  pub the_places : Alike R S h → Alike (outer.the_row R) (outer.the_row S) ((the_former this).map R.Denot S.Denot h)
  the_places alike =
      view_places stored this view (λ X Y k fields. refl) (λ X fields. refl) R.Denot S.Denot h
      (outer.the_row R).coded (outer.the_row S).coded (invariant R.Denot) (invariant S.Denot)
      (λ fields p q. refl) (λ fields p q. refl) (λ fields same. tt) (λ fields same. tt)
      (over (inner.the_row R)) (over (inner.the_row S))
      (struct_places (inner.the_type R) (inner.the_type S) ((λ from. refilled from (h from.value)), tt) _
      (λ fields. refl) refl (laid _ _ _ (box_places alike), tt))

  -- and the same code
  pub the_codes_placed : Recodes R S h → Recodes (outer.the_row R) (outer.the_row S) ((the_former this).map R.Denot S.Denot h)
  the_codes_placed recodes value = recodes value
